use Rattle.columns.proofs.Names.{◌≡◌, ◌+◌, ◌*◌, ◌/◌, ◌^◌, ◌<◌, ◌++◌, ◌∷◌, List, ℕ, length, set, ap, sym, subst, ◌∙◌, arith, IsTrue, are_digits, digits_number}
use Rattle.std.proofs.Common.{div-add-mod'}
use Rattle.columns.proofs.DigitNumbers.{digits_more, one_in_front, quotient_small}
use Rattle.columns.proofs.value.decimal.+put_digits.Goals as goal

pub returns-clause-lawful : goal.returns-clause-lawful
returns-clause-lawful t c =
    let first = c.args.number / c.pow-unit.result in
    let others = c.put_digits.new.digits in
    let is : set c.split_at_mut-first.result.0.now 0 first ++ others ≡ first ∷ others =
    ap (λ (xs : List ℕ). set xs 0 first ++ others) c.split_at_mut-first.ensures.front ∙ one_in_front c.args.digits.now first others (omega (arith, c.split_at_mut-first.ensures.back_len)) in
    let small : first < 10 = subst (λ (u : ℕ). c.args.number / u < 10) (sym c.pow-unit.ensures)
    (quotient_small c.args.number (length c.split_at_mut-first.result.1.now) (length c.args.digits.now) c.requires.small (sym c.split_at_mut-first.ensures.back_len)) in
    subst (λ (xs : List ℕ). IsTrue (are_digits xs)) (sym is) (digits_more first others small c.put_digits.ensures.lawful)

pub returns-clause-number : goal.returns-clause-number
returns-clause-number t c =
    let first = c.args.number / c.pow-unit.result in
    let others = c.put_digits.new.digits in
    let is : set c.split_at_mut-first.result.0.now 0 first ++ others ≡ first ∷ others =
    ap (λ (xs : List ℕ). set xs 0 first ++ others) c.split_at_mut-first.ensures.front ∙ one_in_front c.args.digits.now first others (omega (arith, c.split_at_mut-first.ensures.back_len)) in
    let unit : 10 ^ length others ≡ c.pow-unit.result = ap (λ (k : ℕ). 10 ^ k) c.put_digits.auto.digits ∙ sym c.pow-unit.ensures in
    ap digits_number is ∙ ap (λ (u : ℕ). first * u + digits_number others) unit ∙ ap (λ (n : ℕ). first * c.pow-unit.result + n) c.put_digits.ensures.number
    ∙ div-add-mod' c.args.number c.pow-unit.result
