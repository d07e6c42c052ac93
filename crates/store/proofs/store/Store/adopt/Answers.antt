use Rattle.store.proofs.Names.{inl, inr, refl, rules, sym, ap, subst, ◌∙◌, IsAtRest, AreOf}
use Rattle.std.specs.FinSet as set
use Rattle.sqlite.specs.Held.{state}
use Rattle.store.specs.Changes.{adopted}
use Rattle.store.specs.Store.{Holds}
use Rattle.store.proofs.BesideStays.{beside_unchanged}
use Rattle.store.proofs.ExecutedInMemory.{rest_same, stays, spares_either, rest_kept}
use Rattle.store.proofs.ExecutedSets.{nothing_new, adopted_is}
use Rattle.store.proofs.store.Store.adopt.Goals as goal

pub returns-then-is_subset-clause-adopts : goal.returns-then-is_subset-clause-adopts
returns-then-is_subset-clause-adopts g c clean content was =
    subst (Holds g.S.Store c.args.self.now) (nothing_new content c.args.self.now.executed c.args.gtids.now was.executed (sym c.is_subset.ensures ∙ c.if-is_subset.true)) was

pub returns-then-is_subset-clause-crash : goal.returns-then-is_subset-clause-crash
returns-then-is_subset-clause-crash g c clean content was trees left =
    let names = c.args.self.now.following in
    subst (λ after. AreOf c.args.self.now.conn.schema names after trees) (nothing_new content c.args.self.now.executed c.args.gtids.now was.executed (sym c.is_subset.ensures ∙ c.if-is_subset.true))
    (stays g.S.Store names content (λ h db is_open may. g.met.S.Store.settled h.store db is_open may) c.args.self.now.conn trees was.rest left)

pub returns-in-Ok-replace-clause-adopts : goal.returns-in-Ok-replace-clause-adopts
returns-in-Ok-replace-clause-adopts g c clean content was =
    let names = c.args.self.now.following in
    let is = adopted_is content c.args.self.now.executed c.in-Ok.after c.args.gtids.now was.executed c.in-Ok.ensures.ok in
    record {
      whole = was.whole;
      executed = c.in-Ok.ensures.ok ∙ ap (λ all. set.union all c.args.gtids.now) was.executed;
      rest = subst (IsAtRest (state g.S.Store c.replace.new.conn) names) is (c.in-Ok-replace.ensures.replaces clean names content was.rest was.executed).0;
    }

pub returns-in-Ok-replace-clause-crash : goal.returns-in-Ok-replace-clause-crash
returns-in-Ok-replace-clause-crash g c clean content was trees left =
    let names = c.args.self.now.following in
    let is = adopted_is content c.args.self.now.executed c.in-Ok.after c.args.gtids.now was.executed c.in-Ok.ensures.ok in
    let now = c.in-Ok-replace.ensures.replaces clean names content was.rest was.executed in
    let after = adopted content c.args.gtids.now in
    subst (λ schema. AreOf schema names after trees) now.1
    (stays g.S.Store names after (λ h db is_open may. g.met.S.Store.settled h.store db is_open may) c.replace.new.conn trees (subst (IsAtRest (state g.S.Store c.replace.new.conn) names) is now.0) left)

pub returns-in-Err-replace-clause-adopts : goal.returns-in-Err-replace-clause-adopts
returns-in-Err-replace-clause-adopts g c clean content was =
    let names = c.args.self.now.following in
    record {
      broken = refl;
      executed = was.executed;
      rest = λ is_open.
          let r = c.in-Err-replace.ensures.replaces clean names content was.rest was.executed is_open in
          rest_same (state g.S.Store c.args.self.now.conn) (state g.S.Store c.replace.new.conn) names content is_open r.0 r.1 was.rest;
    }

pub returns-in-Err-replace-clause-crash : goal.returns-in-Err-replace-clause-crash
returns-in-Err-replace-clause-crash g c clean content was trees left =
    let names = c.args.self.now.following in
    let is = adopted_is content c.args.self.now.executed c.in-Ok.after c.args.gtids.now was.executed c.in-Ok.ensures.ok in
    elim ((c.in-Err-replace.ensures.crash names content was.rest was.executed).crash clean trees left) [
      | inl before ↦ inl (stays g.S.Store names content (λ h db is_open may. g.met.S.Store.settled h.store db is_open may) c.args.self.now.conn trees was.rest before)
      | inr may ↦ inr (subst (λ after. AreOf c.args.self.now.conn.schema names after trees) is may.0)
    ]

pub returns-then-is_subset-clause-rest : goal.returns-then-is_subset-clause-rest
returns-then-is_subset-clause-rest g c = rest_kept g.S.Store (λ h db is_open may. g.met.S.Store.settled h.store db is_open may) c.args.self.now _ _ refl refl

pub returns-in-Err-clause-rest : goal.returns-in-Err-clause-rest
returns-in-Err-clause-rest g c = rest_kept g.S.Store (λ h db is_open may. g.met.S.Store.settled h.store db is_open may) c.args.self.now _ _ refl refl

pub returns-in-Ok-replace-clause-rest : goal.returns-in-Ok-replace-clause-rest
returns-in-Ok-replace-clause-rest g c =
    let names = c.args.self.now.following in
    record {
      following = refl;
      clean = search rules;
      schema = λ clean content was whole. (c.in-Ok-replace.ensures.replaces clean names content was.rest was.executed).1;
      beside = λ clean content was is_open. (c.in-Ok-replace.ensures.replaces clean names content was.rest was.executed).2;
      crash_beside = λ clean content was trees left.
          spares_either g.S.Store names content (λ h db is_open may. g.met.S.Store.settled h.store db is_open may) c.args.self.now.conn trees was.rest ((c.in-Ok-replace.ensures.crash names content was.rest was.executed).crash clean trees left);
      unchanged = search rules;
    }

pub returns-in-Err-replace-clause-rest : goal.returns-in-Err-replace-clause-rest
returns-in-Err-replace-clause-rest g c =
    let names = c.args.self.now.following in
    record {
      following = refl;
      clean = search rules;
      schema = search rules;
      beside = λ clean content was is_open.
          beside_unchanged (state g.S.Store c.args.self.now.conn).now (state g.S.Store c.replace.new.conn).now (c.in-Err-replace.ensures.replaces clean names content was.rest was.executed is_open).0;
      crash_beside = λ clean content was trees left.
          spares_either g.S.Store names content (λ h db is_open may. g.met.S.Store.settled h.store db is_open may) c.args.self.now.conn trees was.rest ((c.in-Err-replace.ensures.crash names content was.rest was.executed).crash clean trees left);
      unchanged = λ clean content was failed is_open. (c.in-Err-replace.ensures.replaces clean names content was.rest was.executed is_open).0;
    }
