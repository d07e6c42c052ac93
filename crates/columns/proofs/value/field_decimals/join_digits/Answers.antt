use Rattle.std.proofs.Common.{◌≡◌, ℕ, ◌+◌, ◌-◌, ◌++◌, length, drop, replicate, ap, ◌∙◌, arith}
use Rattle.columns.proofs.DecimalFields.{zeros_taken, zeros_left}
use Rattle.columns.proofs.value.field_decimals.join_digits.Goals as goal

pub returns : goal.returns
returns c =
    let zeros = c.args.zeros in
    let whole = length c.args.whole.now in
    let fraction = length c.args.fraction.now in
    let first : c.split_at_mut-rest.result.0.now ≡ replicate zeros 0 = c.split_at_mut-rest.ensures.front ∙ zeros_taken zeros 65 (omega (arith, c.requires)) in
    let left : 65 - zeros - whole - fraction ≡ 65 - (zeros + (whole + fraction)) = omega arith in
    let last : c.split_at_mut-back.result.1.now ≡ replicate (65 - (zeros + (whole + fraction))) 0 =
    c.split_at_mut-back.ensures.back
    ∙ ap (drop fraction) (c.split_at_mut-front.ensures.back ∙ ap (drop whole) (c.split_at_mut-rest.ensures.back ∙ zeros_left zeros 65) ∙ zeros_left whole (65 - zeros))
    ∙ zeros_left fraction (65 - zeros - whole) ∙ ap (λ (n : ℕ). replicate n 0) left in
    λ i. first i ++ (c.set_digits.ensures i ++ (c.set_digits-2.ensures i ++ last i))
