use Rattle.std.proofs.Common.{ℕ, ◌-◌, get_or, set, ap, ◌∙◌, arith}
use Rattle.std.proofs.lemmas.List.{get_or_default}
use Rattle.std.proofs.lemmas.List.Edits.{map_over_more}
use Rattle.columns.proofs.value.field_decimals.set_digits.Goals as goal

pub loop-digit-preserved : goal.loop-digit-preserved
loop-digit-preserved c =
    let digits = c.loop-digit.digits in
    let place = c.loop-digit.digit-index in
    let byte = get_or digits place 0 in
    ap (λ (n : ℕ). set digits place n) c.saturating_sub.ensures
    ∙ map_over_more (λ b. b - 48) c.copy_from_slice.new.self digits place byte (omega (arith, c.loop-digit-test.true)) c.loop-digit.invariant
    (get_or_default digits place 0 byte (omega (arith, c.loop-digit-test.true, c.loop-digit.auto.digits)))
