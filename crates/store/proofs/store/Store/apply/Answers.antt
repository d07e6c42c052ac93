use Rattle.store.proofs.Names.{◌≡◌, true, false, ap, refl, sym, subst, ◌∙◌, rules, delivery_value, is_executed, Content}
use Rattle.std.specs.FinSet as set
use Rattle.gtid.specs.Identifier.{id}
use Rattle.store.proofs.ExecutedInMemory.{applied, applied_shut, left_whole, same_schema, same_store, lies_beside, stays_now, spares_moved, rest_kept}
use Rattle.store.specs.Store.{Holds}
use Rattle.store.proofs.store.Store.apply.Goals as goal

pub returns-clause-applies : goal.returns-clause-applies
returns-clause-applies g c clean content was =
    let d = delivery_value c.args.delivery.now in
    let out : is_executed content d ≡ false = subst (λ ids. set.contains ids (id c.args.delivery.now.gtid) ≡ false) (c.replace-executed.ensures.value ∙ was.executed) c.in-New.ensures.1 in
    let same = ap (λ p. p.0) c.in-New.ensures.0 ∙ c.replace-executed.ensures.value ∙ was.executed in
    applied g.S.Store content d c.args.self.now (record c.args.self.now { conn = c.apply_new-executed.new.conn; executed = c.apply_new-executed.result.0; broken = c.breaks-self.result; autocommit = c.self-2-1.given.0 }) c.apply_new-executed.result.1 was out refl c.breaks-self.ensures
    (λ is. absurd (c.apply_new-executed.ensures.other is)) (c.apply_new-executed.ensures.comes clean content was.rest same)

pub returns-clause-crash : goal.returns-clause-crash
returns-clause-crash g c clean content was trees left =
    let d = delivery_value c.args.delivery.now in
    let same = ap (λ p. p.0) c.in-New.ensures.0 ∙ c.replace-executed.ensures.value ∙ was.executed in
    left_whole g.S.Store c.args.self.now.following content (λ h db is_open may. g.met.S.Store.settled h.store db is_open may) d c.args.self.now.conn c.apply_new-executed.new.conn c.apply_new-executed.result.1 c.apply_new-executed.result.0 trees was.rest
    (c.apply_new-executed.ensures.comes clean content was.rest same) ((c.apply_new-executed.ensures.crash content was.rest same).crash clean trees left) left

pub returns-clause-shut : goal.returns-clause-shut
returns-clause-shut g c clean content was shut =
    let d = delivery_value c.args.delivery.now in
    let out : is_executed content d ≡ false = subst (λ ids. set.contains ids (id c.args.delivery.now.gtid) ≡ false) (c.replace-executed.ensures.value ∙ was.executed) c.in-New.ensures.1 in
    applied_shut g.S.Store content d c.args.self.now (record c.args.self.now { conn = c.apply_new-executed.new.conn; executed = c.apply_new-executed.result.0; broken = c.breaks-self.result; autocommit = c.self-2-1.given.0 }) c.apply_new-executed.result.1
    c.in-New.reserved.0 (ap (λ p. p.0) c.in-New.ensures.0 ∙ c.replace-executed.ensures.value ∙ was.executed) out c.breaks-self.ensures (c.apply_new-executed.ensures.shut clean shut)

pub returns-in-Known-clause-known : goal.returns-in-Known-clause-known
returns-in-Known-clause-known g c content was is =
    (refl, same_store g.S.Store c.args.self.now c.in-Known.executed c.self-1.given.0 (c.in-Known.ensures.0 ∙ c.replace-executed.ensures.value))

pub returns-in-Known-clause-applies : goal.returns-in-Known-clause-applies
returns-in-Known-clause-applies g c clean content was = (
  subst (λ ids. set.contains ids (id c.args.delivery.now.gtid) ≡ true) (c.replace-executed.ensures.value ∙ was.executed) c.in-Known.ensures.1,
  same_store g.S.Store c.args.self.now c.in-Known.executed c.self-1.given.0 (c.in-Known.ensures.0 ∙ c.replace-executed.ensures.value),
)

pub returns-in-Known-clause-shut : goal.returns-in-Known-clause-shut
returns-in-Known-clause-shut g c clean content was shut = (
  subst (λ ids. set.contains ids (id c.args.delivery.now.gtid) ≡ true) (c.replace-executed.ensures.value ∙ was.executed) c.in-Known.ensures.1,
  same_store g.S.Store c.args.self.now c.in-Known.executed c.self-1.given.0 (c.in-Known.ensures.0 ∙ c.replace-executed.ensures.value),
)

pub returns-clause-rest : goal.returns-clause-rest
returns-clause-rest g c =
    let d = delivery_value c.args.delivery.now in
    let old = c.args.self.now in
    let new = record c.args.self.now { conn = c.apply_new-executed.new.conn; executed = c.apply_new-executed.result.0; broken = c.breaks-self.result; autocommit = c.self-2-1.given.0 } in
    let answer = c.apply_new-executed.result.1 in
    let same : (content : Content) → Holds g.S.Store old content → c.in-New.reserved.0 ≡ content.executed = λ content was. ap (λ p. p.0) c.in-New.ensures.0 ∙ c.replace-executed.ensures.value ∙ was.executed in
    record {
      following = refl;
      clean = search rules;
      schema = λ clean content was whole. same_schema g.S.Store content d old new answer whole c.breaks-self.ensures (c.apply_new-executed.ensures.comes clean content was.rest (same content was));
      beside = λ clean content was is_open. lies_beside g.S.Store content d old new answer is_open (c.apply_new-executed.ensures.comes clean content was.rest (same content was));
      crash_beside = λ clean content was trees left.
          spares_moved g.S.Store old.following content (λ h db is_open may. g.met.S.Store.settled h.store db is_open may) d old.conn answer trees was.rest
          ((c.apply_new-executed.ensures.crash content was.rest (same content was)).crash clean trees left);
      unchanged = λ clean content was failed is_open. stays_now g.S.Store content d old new answer failed is_open (c.apply_new-executed.ensures.comes clean content was.rest (same content was));
    }

pub returns-in-Known-clause-rest : goal.returns-in-Known-clause-rest
returns-in-Known-clause-rest g c = rest_kept g.S.Store (λ h db is_open may. g.met.S.Store.settled h.store db is_open may) c.args.self.now _ _ refl refl

pub returns-in-NoRoom-clause-rest : goal.returns-in-NoRoom-clause-rest
returns-in-NoRoom-clause-rest g c = rest_kept g.S.Store (λ h db is_open may. g.met.S.Store.settled h.store db is_open may) c.args.self.now _ _ refl refl
