use Rattle.store.proofs.Names.{inl, inr, refl, rules, sym, ap, subst, subst₂, ◌∙◌, IsAtRest, AreOf}
use Rattle.std.specs.FinSet as set
use Rattle.sqlite.specs.Held.{state}
use Rattle.store.specs.Changes.{adopted, widened}
use Rattle.store.proofs.BesideStays.{beside_unchanged}
use Rattle.store.proofs.ExecutedInMemory.{rest_same, stays, spares_either, rest_kept}
use Rattle.store.proofs.ExecutedSets.{adopted_is}
use Rattle.store.proofs.store.Store.admit.Goals as goal

pub returns-in-Ok-widen-clause-admits : goal.returns-in-Ok-widen-clause-admits
returns-in-Ok-widen-clause-admits g c clean content was =
    let is = adopted_is content c.args.self.now.executed c.in-Ok.grown.1 c.args.gtids.now was.executed c.in-Ok.ensures.executed in
    record {
      whole = was.whole;
      executed = c.in-Ok.ensures.executed ∙ ap (λ all. set.union all c.args.gtids.now) was.executed;
      rest = subst₂ (IsAtRest (state g.S.Store c.widen.new.conn)) (sym c.in-Ok.ensures.names) is (c.in-Ok-widen.ensures.widens clean content was.rest was.executed).0;
    }

pub returns-in-Ok-widen-clause-crash : goal.returns-in-Ok-widen-clause-crash
returns-in-Ok-widen-clause-crash g c clean content was trees left =
    let names = widened c.args.self.now.following c.args.names.now in
    let is = adopted_is content c.args.self.now.executed c.in-Ok.grown.1 c.args.gtids.now was.executed c.in-Ok.ensures.executed in
    let now = c.in-Ok-widen.ensures.widens clean content was.rest was.executed in
    let after = adopted content c.args.gtids.now in
    subst (λ schema. AreOf schema names after trees) now.1
    (stays g.S.Store names after (λ h db is_open may. g.met.S.Store.settled h.store db is_open may) c.widen.new.conn trees (subst (IsAtRest (state g.S.Store c.widen.new.conn) names) is now.0) left)

pub returns-in-Err-widen-clause-admits : goal.returns-in-Err-widen-clause-admits
returns-in-Err-widen-clause-admits g c clean content was =
    let names = c.args.self.now.following in
    record {
      broken = refl;
      executed = was.executed;
      rest = λ is_open.
          let r = c.in-Err-widen.ensures.widens clean content was.rest was.executed is_open in
          rest_same (state g.S.Store c.args.self.now.conn) (state g.S.Store c.widen.new.conn) names content is_open r.0 r.1 was.rest;
    }

pub returns-in-Err-widen-clause-crash : goal.returns-in-Err-widen-clause-crash
returns-in-Err-widen-clause-crash g c clean content was trees left =
    let names = c.args.self.now.following in
    let is = adopted_is content c.args.self.now.executed c.in-Ok.grown.1 c.args.gtids.now was.executed c.in-Ok.ensures.executed in
    elim ((c.in-Err-widen.ensures.crash content was.rest was.executed).crash clean trees left) [
      | inl before ↦ inl (stays g.S.Store names content (λ h db is_open may. g.met.S.Store.settled h.store db is_open may) c.args.self.now.conn trees was.rest before)
      | inr may ↦ inr (subst (λ after. AreOf c.args.self.now.conn.schema (widened names c.args.names.now) after trees) is may.0)
    ]

pub returns-in-Err-clause-rest : goal.returns-in-Err-clause-rest
returns-in-Err-clause-rest g c = rest_kept g.S.Store (λ h db is_open may. g.met.S.Store.settled h.store db is_open may) c.args.self.now _ _ refl refl

pub returns-in-Ok-widen-clause-rest : goal.returns-in-Ok-widen-clause-rest
returns-in-Ok-widen-clause-rest g c =
    let names = c.args.self.now.following in
    record {
      following = c.in-Ok.ensures.names;
      clean = search rules;
      schema = λ clean content was whole. (c.in-Ok-widen.ensures.widens clean content was.rest was.executed).1;
      beside = λ clean content was is_open. (c.in-Ok-widen.ensures.widens clean content was.rest was.executed).2;
      crash_beside = λ clean content was trees left.
          spares_either g.S.Store names content (λ h db is_open may. g.met.S.Store.settled h.store db is_open may) c.args.self.now.conn trees was.rest ((c.in-Ok-widen.ensures.crash content was.rest was.executed).crash clean trees left);
      unchanged = search rules;
    }

pub returns-in-Err-widen-clause-rest : goal.returns-in-Err-widen-clause-rest
returns-in-Err-widen-clause-rest g c =
    let names = c.args.self.now.following in
    record {
      following = refl;
      clean = search rules;
      schema = search rules;
      beside = λ clean content was is_open.
          beside_unchanged (state g.S.Store c.args.self.now.conn).now (state g.S.Store c.widen.new.conn).now (c.in-Err-widen.ensures.widens clean content was.rest was.executed is_open).0;
      crash_beside = λ clean content was trees left.
          spares_either g.S.Store names content (λ h db is_open may. g.met.S.Store.settled h.store db is_open may) c.args.self.now.conn trees was.rest ((c.in-Err-widen.ensures.crash content was.rest was.executed).crash clean trees left);
      unchanged = λ clean content was failed is_open. (c.in-Err-widen.ensures.widens clean content was.rest was.executed is_open).0;
    }
