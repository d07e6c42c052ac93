use Rattle.columns.proofs.Names.{rules, ◌≤◌, ◌<◌, ◌-◌, ℕ, suc, List, length, take, get_or, sum, sym, ap, subst, arith, IsTrue, sum_by-cons, are_digits, groups_size}
use Rattle.std.proofs.Common.{drop}
use Rattle.columns.proofs.DigitNumbers.{digits_take, digits_drop}
use Rattle.columns.proofs.DigitGroups.{whole_of}
use Rattle.columns.proofs.value.decimal.+write_groups.Goals as goal

pub write_group-requires-clause-lawful : goal.write_group-requires-clause-lawful
write_group-requires-clause-lawful t c =
    subst (λ (xs : List ℕ). IsTrue (are_digits xs)) (sym c.split_at.ensures.front) (digits_take c.from.result c.args.digits.now c.requires.lawful)

pub write_groups-requires : goal.write_groups-requires
write_groups-requires t c =
    let sizes = c.args.sizes.now in
    let others = take (length sizes - 1) (drop 1 sizes) in
    let whole = whole_of sizes c.in-len1-up.len_at_least in
    let all = subst (λ (xs : List ℕ). (k d : ℕ) → k < length xs → get_or xs k d ≤ 9) whole c.requires.sizes in (
      search rules,
      (
        λ k d below. all (suc k) d (omega (arith, below)),
        (
          omega (arith, c.split_at_mut-group.ensures.back_len, c.group_size.ensures, c.requires.bytes, ap groups_size whole),
          (
            omega (arith, c.split_at.ensures.back_len, c.from.ensures, c.requires.digits, ap sum whole, sum_by-cons (λ x. x) (get_or sizes 0 0) others),
            subst (λ (xs : List ℕ). IsTrue (are_digits xs)) (sym c.split_at.ensures.back) (digits_drop c.from.result c.args.digits.now c.requires.lawful),
          ),
        ),
      ),
    )
