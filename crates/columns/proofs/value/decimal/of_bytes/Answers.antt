use Rattle.std.proofs.Common.{◌≡◌, ℕ, List, length, get_or, take, drop, sum, replicate, nat_lt, ap, sym, subst, ◌∙◌, arith}
use Rattle.std.specs.Prelude.{IsTrue}
use Rattle.columns.specs.Decimals.{are_zeros, groups_size, groups_bytes, group_digits, inverted, top_flipped}
use Rattle.columns.proofs.Types.{never}
use Rattle.columns.proofs.DigitGroups.{size_is, sum_is}
use Rattle.columns.proofs.DecimalSigns.{bytes_long, plain_is, plain_back, same_rest, zeros_behind}
use Rattle.columns.proofs.value.decimal.of_bytes.Goals as goal

pub returns-then-bytes-size-clause-only : goal.returns-then-bytes-size-clause-only
returns-then-bytes-size-clause-only c other precision scale is =
    absurd (c.if-bytes-size.true (ap length is ∙ bytes_long other.negative c.args.precision c.args.scale other.digits ∙ sym c.size-size.ensures.size))

pub read_groups-requires-clause-bytes : goal.read_groups-requires-clause-bytes
read_groups-requires-clause-bytes c =
    c.invert.auto.bytes ∙ c.flip_top.auto.bytes ∙ ap length c.copy_from_slice.ensures.after ∙ c.if-bytes-size.false ∙ c.size-size.ensures.size ∙ sym (size_is c.args.precision c.args.scale)
    ∙ ap groups_size (sym c.groups-count.ensures.sizes)

pub returns-then-not-read_groups-clause-only : goal.returns-then-not-read_groups-clause-only
returns-then-not-read_groups-clause-only c other precision scale is =
    let bytes = c.args.bytes.now in
    let sizes = group_digits c.args.precision c.args.scale in
    let after = c.copy_from_slice.ensures.after in
    let made = c.groups-count.ensures.sizes in
    let count : sum (take c.groups-count.result.1 c.groups-count.result.0) ≡ c.args.precision = ap sum made ∙ sum_is c.args.precision c.args.scale c.requires.within in
    let long = other.all in
    let plain = plain_is other.negative c.args.precision c.args.scale other.digits bytes c.requires.some c.requires.within (omega (arith, long, c.requires.few)) other.lawful is in
    let groups = c.invert.ensures ∙ ap (inverted (nat_lt (get_or c.copy_from_slice.new.self 0 0) 128)) (c.flip_top.ensures ∙ ap top_flipped after)
    ∙ ap (λ (xs : List ℕ). inverted (nat_lt (get_or xs 0 0) 128) (top_flipped bytes)) after ∙ plain.1 ∙ ap (λ (xs : List ℕ). groups_bytes xs other.digits) (sym made) in
    let rest = subst (λ (n : ℕ). drop n other.digits ≡ drop n (replicate 65 0)) (sym count)
    (same_rest c.args.precision 65 other.digits long (subst (λ (n : ℕ). IsTrue (are_zeros (drop n other.digits))) precision other.rest)) in
    absurd (never (sym c.if-not-read_groups.true ∙ (c.read_groups.ensures.only other.digits long other.lawful rest groups).0))

pub invariant_of-result : goal.invariant_of-result
invariant_of-result c =
    let count : sum (take c.groups-count.result.1 c.groups-count.result.0) ≡ c.args.precision =
    ap sum c.groups-count.ensures.sizes ∙ sum_is c.args.precision c.args.scale c.requires.within in
    let rest = subst (λ (n : ℕ). drop n c.read_groups.new.digits ≡ drop n (replicate 65 0)) count c.read_groups.ensures.rest in
    record {
      some = c.requires.some;
      few = c.requires.few;
      within = c.requires.within;
      short = c.requires.short;
      all = c.read_groups.auto.digits;
      lawful = c.read_groups.ensures.lawful;
      rest = subst (λ (xs : List ℕ). IsTrue (are_zeros xs)) (sym rest) (zeros_behind c.args.precision 65);
    }

pub returns-clause-found : goal.returns-clause-found
returns-clause-found c =
    let bytes = c.args.bytes.now in
    let after = c.copy_from_slice.ensures.after in
    let negative = nat_lt (get_or c.copy_from_slice.new.self 0 0) 128 in
    let plain = c.invert.ensures ∙ ap (inverted negative) (c.flip_top.ensures ∙ ap top_flipped after) in
    let groups = c.read_groups.ensures.found c.if-not-read_groups.false ∙ ap (λ (xs : List ℕ). groups_bytes xs c.read_groups.new.digits) c.groups-count.ensures.sizes in
    plain_back negative bytes c.invert.new.bytes (λ i. omega (arith, c.type_inv.bytes i)) plain ∙ ap (λ (xs : List ℕ). top_flipped (inverted negative xs)) groups

pub returns-clause-only : goal.returns-clause-only
returns-clause-only c other precision scale is =
    let bytes = c.args.bytes.now in
    let after = c.copy_from_slice.ensures.after in
    let made = c.groups-count.ensures.sizes in
    let count : sum (take c.groups-count.result.1 c.groups-count.result.0) ≡ c.args.precision = ap sum made ∙ sum_is c.args.precision c.args.scale c.requires.within in
    let long = other.all in
    let plain = plain_is other.negative c.args.precision c.args.scale other.digits bytes c.requires.some c.requires.within (omega (arith, long, c.requires.few)) other.lawful is in
    let groups = c.invert.ensures ∙ ap (inverted (nat_lt (get_or c.copy_from_slice.new.self 0 0) 128)) (c.flip_top.ensures ∙ ap top_flipped after)
    ∙ ap (λ (xs : List ℕ). inverted (nat_lt (get_or xs 0 0) 128) (top_flipped bytes)) after ∙ plain.1 ∙ ap (λ (xs : List ℕ). groups_bytes xs other.digits) (sym made) in
    let rest = subst (λ (n : ℕ). drop n other.digits ≡ drop n (replicate 65 0)) (sym count)
    (same_rest c.args.precision 65 other.digits long (subst (λ (n : ℕ). IsTrue (are_zeros (drop n other.digits))) precision other.rest)) in
    (ap (λ (xs : List ℕ). nat_lt (get_or xs 0 0) 128) after ∙ plain.0, (c.read_groups.ensures.only other.digits long other.lawful rest groups).1)
