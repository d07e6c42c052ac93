use Rattle.std.proofs.Common.{◌≡◌, ℕ, ◌<◌, length, take, drop, ap, ◌∙◌, arith}
use Rattle.columns.specs.Decimals.{sign_part, significant}
use Rattle.columns.proofs.DecimalTexts.{whole_long, all_long}
use Rattle.columns.proofs.value.decimal.text_length.Goals as goal

pub returns-then-is_empty : goal.returns-then-is_empty
returns-then-is_empty c =
    let none : length c.split_at.result.1.now ≡ 0 = grind (arith, c.if-is_empty.true, c.is_empty.ensures) in
    let d = c.args.decimal in
    whole_long d.negative d.precision d.scale d.digits c.sign_text-sign.result.now c.significant-whole.result.now c.split_at.result.1.now d.lawful
    (c.sign_text-sign.ensures ∙ ap (λ (n : ℕ). sign_part d.negative (take n d.digits)) c.from.ensures)
    (c.significant-whole.ensures ∙ ap significant c.split_at.ensures.front ∙ (λ i. significant (take (c.from-2.ensures i) (take (c.from.ensures i) d.digits))))
    (c.split_at.ensures.back ∙ (λ i. drop (c.from-2.ensures i) (take (c.from.ensures i) d.digits))) none

pub returns : goal.returns
returns c =
    let some : 0 < length c.split_at.result.1.now = grind (arith, c.if-is_empty.false, c.is_empty.ensures) in
    let d = c.args.decimal in
    all_long d.negative d.precision d.scale d.digits c.sign_text-sign.result.now c.significant-whole.result.now c.split_at.result.1.now d.lawful
    (c.sign_text-sign.ensures ∙ ap (λ (n : ℕ). sign_part d.negative (take n d.digits)) c.from.ensures)
    (c.significant-whole.ensures ∙ ap significant c.split_at.ensures.front ∙ (λ i. significant (take (c.from-2.ensures i) (take (c.from.ensures i) d.digits))))
    (c.split_at.ensures.back ∙ (λ i. drop (c.from-2.ensures i) (take (c.from.ensures i) d.digits))) some
