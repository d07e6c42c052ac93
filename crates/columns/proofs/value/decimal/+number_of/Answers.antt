use Rattle.columns.proofs.Names.{◌-◌, List, ℕ, length, get_or, take, ap, subst, arith, IsTrue, are_digits}
use Rattle.std.proofs.Common.{drop}
use Rattle.columns.proofs.DigitNumbers.{digit_small, number_below}
use Rattle.columns.proofs.DigitGroups.{whole_of}
use Rattle.columns.proofs.value.decimal.+number_of.Goals as goal

pub returns-in-len1-up-clause-small : goal.returns-in-len1-up-clause-small
returns-in-len1-up-clause-small t c =
    let digits = c.args.digits.now in
    let others = take (length digits - 1) (drop 1 digits) in
    let whole = whole_of digits c.in-len1-up.len_at_least in
    let first = digit_small (get_or digits 0 0) others (subst (λ (xs : List ℕ). IsTrue (are_digits xs)) whole c.requires.lawful) in
    number_below c.from.result c.pow.result c.number_of.result (length others) (length digits) (omega (arith, first, c.from.ensures)) c.pow.ensures c.number_of.ensures.small
    (omega (arith, ap length whole))
