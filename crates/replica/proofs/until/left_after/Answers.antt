use Rattle.replica.proofs.Names.{◌≡◌, ◌∷◌, [], Bool, true, false, Option, Some, Result, Ok, ap, sym, subst, subst₂, ◌∙◌, rules, Ids, delivery_value, Reason, StillWaits, waits_for_none}
use Rattle.std.specs.FinSet as set
use Rattle.replica.specs.Noted.{after}
use Rattle.replica.proofs.WaitSets.{left_one, left_absent}
use Rattle.replica.proofs.MissingSets.{some_with}
use Rattle.replica.proofs.until.left_after.Goals as goal

pub returns-then-not-contains : goal.returns-then-not-contains
returns-then-not-contains c =
    let left = c.in_ok-left.left in
    let d = delivery_value c.args.delivery.now in
    let applied : c.in-Ok-true.field-0 ≡ true = search rules in
    let out : set.contains left (d.source, d.number) ≡ false = sym c.contains.ensures ∙ c.if-not-contains.true in
    subst₂ (λ (m : Option Ids) (o : Result Bool Reason). StillWaits m (after d o ∷ []) (Some left)) (sym c.in_ok-left.was) (sym (c.in-Ok-true.is ∙ ap Ok applied)) (left_absent left d out)

pub returns-in-Ok : goal.returns-in-Ok
returns-in-Ok c =
    let left = c.in_ok-left.left in
    let d = delivery_value c.args.delivery.now in
    let applied : c.in-Ok-true.field-0 ≡ true = search rules in
    let one : c.insert.new.self ≡ set.insert set.empty (d.source, d.number) = search rules in
    subst₂ (λ (m : Option Ids) (o : Result Bool Reason). StillWaits m (after d o ∷ []) c.without.result) (sym c.in_ok-left.was) (sym (c.in-Ok-true.is ∙ ap Ok applied)) (left_one left d c.insert.new.self c.without.result one c.without.ensures)

pub returns-in-Err : goal.returns-in-Err
returns-in-Err c =
    let left = c.in_ok-left.left in
    let d = delivery_value c.args.delivery.now in
    let there : set.contains left (d.source, d.number) ≡ true = sym c.contains.ensures ∙ c.if-not-contains.false in
    subst (λ (m : Option Ids). waits_for_none m ≡ false) (sym c.in_ok-left.was) (some_with left (d.source, d.number) there)
