use Rattle.columns.proofs.Names.{rules, ◌≡◌, ◌≤◌, ◌<◌, ◌+◌, ◌-◌, ◌++◌, ℕ, suc, List, length, take, get_or, sum, sym, ap, subst, ◌∙◌, arith, IsTrue, take-append-drop, sum_by-cons, are_digits, group_size, groups_size}
use Rattle.std.proofs.Common.{drop}
use Rattle.columns.specs.Decimals.{groups_bytes}
use Rattle.columns.proofs.Types.{never}
use Rattle.columns.proofs.DigitNumbers.{digits_append, digits_take, digits_drop}
use Rattle.columns.proofs.DigitGroups.{whole_of, end_stays, group_only, same_end}
use Rattle.columns.proofs.value.decimal.+read_groups.Goals as goal

pub read_group-requires-clause-lawful : goal.read_group-requires-clause-lawful
read_group-requires-clause-lawful t c =
    subst (λ (xs : List ℕ). IsTrue (are_digits xs)) (sym c.split_at_mut-front.ensures.front) (digits_take c.from.result c.args.digits.now c.requires.lawful)

pub read_groups-requires : goal.read_groups-requires
read_groups-requires t c =
    let sizes = c.args.sizes.now in
    let others = take (length sizes - 1) (drop 1 sizes) in
    let whole = whole_of sizes c.in-len1-up.len_at_least in
    let all = subst (λ (xs : List ℕ). (k d : ℕ) → k < length xs → get_or xs k d ≤ 9) whole c.requires.sizes in (
      search rules,
      (
        λ k d below. all (suc k) d (omega (arith, below)),
        (
          omega (arith, c.split_at.ensures.back_len, c.group_size.ensures, c.requires.bytes, ap groups_size whole),
          (
            omega (arith, c.split_at_mut-front.ensures.back_len, c.from.ensures, c.requires.digits, ap sum whole, sum_by-cons (λ x. x) (get_or sizes 0 0) others),
            subst (λ (xs : List ℕ). IsTrue (are_digits xs)) (sym c.split_at_mut-front.ensures.back) (digits_drop c.from.result c.args.digits.now c.requires.lawful),
          ),
        ),
      ),
    )

pub returns-then-read_group-clause-lawful : goal.returns-then-read_group-clause-lawful
returns-then-read_group-clause-lawful t c = digits_append c.read_group.new.digits c.read_groups.new.digits c.read_group.ensures.lawful c.read_groups.ensures.lawful

pub returns-then-read_group-clause-rest : goal.returns-then-read_group-clause-rest
returns-then-read_group-clause-rest t c =
    let sizes = c.args.sizes.now in
    let others = take (length sizes - 1) (drop 1 sizes) in
    let whole = whole_of sizes c.in-len1-up.len_at_least in
    let first = get_or sizes 0 0 in
    let size : c.from.result ≡ first = c.from.ensures in
    let behind : c.split_at_mut-front.result.1.now ≡ drop first c.args.digits.now = c.split_at_mut-front.ensures.back ∙ ap (λ (n : ℕ). drop n c.args.digits.now) size in
    let count : first + sum others ≡ sum sizes = sym (ap sum whole ∙ sum_by-cons (λ x. x) first others) in
    subst (λ (n : ℕ). drop n (c.read_group.new.digits ++ c.read_groups.new.digits) ≡ drop n c.args.digits.now) count
    (end_stays first (sum others) c.read_group.new.digits c.read_groups.new.digits c.args.digits.now (c.read_group.auto.digits ∙ c.split_at_mut-front.ensures.front_len ∙ size)
    (c.read_groups.ensures.rest ∙ ap (drop (sum others)) behind))

pub returns-then-read_group-clause-only : goal.returns-then-read_group-clause-only
returns-then-read_group-clause-only t c other long lawful same is =
    let sizes = c.args.sizes.now in
    let others = take (length sizes - 1) (drop 1 sizes) in
    let whole = whole_of sizes c.in-len1-up.len_at_least in
    let first = get_or sizes 0 0 in
    let size : c.from.result ≡ first = c.from.ensures in
    let bytes_size : c.group_size.result ≡ group_size first = c.group_size.ensures in
    let behind : c.split_at_mut-front.result.1.now ≡ drop first c.args.digits.now = c.split_at_mut-front.ensures.back ∙ ap (λ (n : ℕ). drop n c.args.digits.now) size in
    let count : sum sizes ≡ first + sum others = ap sum whole ∙ sum_by-cons (λ x. x) first others in
    let known = group_only first others c.args.bytes.now c.split_at.result.0.now c.split_at.result.1.now c.args.digits.now c.split_at_mut-front.result.0.now c.split_at_mut-front.result.1.now other
    (c.requires.sizes 0 0 c.in-len1-up.len_at_least) (c.split_at.ensures.front ∙ ap (λ (n : ℕ). take n c.args.bytes.now) bytes_size) (c.split_at.ensures.front_len ∙ bytes_size)
    (c.split_at.ensures.back ∙ ap (λ (n : ℕ). drop n c.args.bytes.now) bytes_size) (c.split_at_mut-front.ensures.front_len ∙ size)
    (ap (λ (n : ℕ). length c.split_at_mut-front.result.1.now + n) (sym size) ∙ c.split_at_mut-front.ensures.back_len) long lawful (is ∙ ap (λ (xs : List ℕ). groups_bytes xs other) whole) in
    let front = c.read_group.ensures.only (take first other) known.0 known.1 known.2 known.3 in
    let end = same_end first (sum others) other c.args.digits.now c.split_at_mut-front.result.1.now behind (subst (λ (n : ℕ). drop n other ≡ drop n c.args.digits.now) count same) in
    let back = c.read_groups.ensures.only (drop first other) known.4 known.5 end known.6 in
    (back.0, (λ i. front.1 i ++ back.1 i) ∙ take-append-drop first other)

pub returns-else-read_group-clause-lawful : goal.returns-else-read_group-clause-lawful
returns-else-read_group-clause-lawful t c =
    digits_append c.read_group.new.digits c.split_at_mut-front.result.1.now c.read_group.ensures.lawful
    (subst (λ (xs : List ℕ). IsTrue (are_digits xs)) (sym c.split_at_mut-front.ensures.back) (digits_drop c.from.result c.args.digits.now c.requires.lawful))

pub returns-else-read_group-clause-rest : goal.returns-else-read_group-clause-rest
returns-else-read_group-clause-rest t c =
    let sizes = c.args.sizes.now in
    let others = take (length sizes - 1) (drop 1 sizes) in
    let whole = whole_of sizes c.in-len1-up.len_at_least in
    let first = get_or sizes 0 0 in
    let size : c.from.result ≡ first = c.from.ensures in
    let behind : c.split_at_mut-front.result.1.now ≡ drop first c.args.digits.now = c.split_at_mut-front.ensures.back ∙ ap (λ (n : ℕ). drop n c.args.digits.now) size in
    let count : first + sum others ≡ sum sizes = sym (ap sum whole ∙ sum_by-cons (λ x. x) first others) in
    subst (λ (n : ℕ). drop n (c.read_group.new.digits ++ c.split_at_mut-front.result.1.now) ≡ drop n c.args.digits.now) count
    (end_stays first (sum others) c.read_group.new.digits c.split_at_mut-front.result.1.now c.args.digits.now (c.read_group.auto.digits ∙ c.split_at_mut-front.ensures.front_len ∙ size)
    (ap (drop (sum others)) behind))

pub returns-else-read_group-clause-only : goal.returns-else-read_group-clause-only
returns-else-read_group-clause-only t c other long lawful same is =
    let sizes = c.args.sizes.now in
    let others = take (length sizes - 1) (drop 1 sizes) in
    let whole = whole_of sizes c.in-len1-up.len_at_least in
    let first = get_or sizes 0 0 in
    let size : c.from.result ≡ first = c.from.ensures in
    let bytes_size : c.group_size.result ≡ group_size first = c.group_size.ensures in
    let known = group_only first others c.args.bytes.now c.split_at.result.0.now c.split_at.result.1.now c.args.digits.now c.split_at_mut-front.result.0.now c.split_at_mut-front.result.1.now other
    (c.requires.sizes 0 0 c.in-len1-up.len_at_least) (c.split_at.ensures.front ∙ ap (λ (n : ℕ). take n c.args.bytes.now) bytes_size) (c.split_at.ensures.front_len ∙ bytes_size)
    (c.split_at.ensures.back ∙ ap (λ (n : ℕ). drop n c.args.bytes.now) bytes_size) (c.split_at_mut-front.ensures.front_len ∙ size)
    (ap (λ (n : ℕ). length c.split_at_mut-front.result.1.now + n) (sym size) ∙ c.split_at_mut-front.ensures.back_len) long lawful (is ∙ ap (λ (xs : List ℕ). groups_bytes xs other) whole) in
    let front = c.read_group.ensures.only (take first other) known.0 known.1 known.2 known.3 in
    absurd (never (sym c.if-read_group.false ∙ front.0))
