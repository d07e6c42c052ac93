-- Groups of digits, and their bytes.
use Rattle.columns.proofs.Names.{◌≡◌, ℕ, zero, suc, ◌+◌, ◌-◌, ◌*◌, ◌/◌, ◌%◌, ◌^◌, ◌<◌, ◌≤◌, List, [], ◌∷◌, ◌++◌, length, get_or, take, set, replicate, sum, refl, sym, ap, subst, ◌∙◌, arith, append_assoc, take_all, IsTrue, take-append_seam, length-take-le, length-drop, length-replicate, sum_by-cons, big_bytes, are_digits, digits_number, group_size, groups_size, group_digits}
use Rattle.std.proofs.Common.{drop, lt_of_lt_of_le}
use Rattle.std.proofs.Math.Seq.{drop-append_seam}
use Rattle.std.proofs.lemmas.List.{length-append, replicate-append-replicate, drop-drop, take_more_set}
use Rattle.byteorder.specs.Numbers.{length-bytes_high_first}
use Rattle.columns.specs.Decimals.{decimal_size, groups_bytes}
use Rattle.columns.proofs.DigitNumbers.{number_small, group_fits, digits_take, digits_drop}

-- a list of one at least, as a first one and the others
pub whole_of : (xs : List ℕ) → 1 ≤ length xs → xs ≡ get_or xs 0 0 ∷ take (length xs - 1) (drop 1 xs)
whole_of [] some = absurd (omega (arith, some))
whole_of (x ∷ xs) some =
    let one : length (x ∷ xs) - 1 ≡ length xs = omega arith in
    ap (λ (ys : List ℕ). x ∷ ys) (sym (ap (λ (n : ℕ). take n xs) one ∙ take_all (length xs) xs (omega arith)))

-- what is after the end stays
pub end_stays : (s n : ℕ) (front back digits : List ℕ) → length front ≡ s → drop n back ≡ drop n (drop s digits) → drop (s + n) (front ++ back) ≡ drop (s + n) digits
end_stays s n front back digits long same =
    let behind : drop s (front ++ back) ≡ back = ap (λ (k : ℕ). drop k (front ++ back)) (sym long) ∙ drop-append_seam front back in
    sym (drop-drop n s (front ++ back)) ∙ ap (drop n) behind ∙ same ∙ drop-drop n s digits

-- the bytes of a number and those after it
pub front_is : (k n : ℕ) (rest bytes : List ℕ) → bytes ≡ big_bytes k n ++ rest → (take k bytes ≡ big_bytes k n) × (drop k bytes ≡ rest)
front_is k n rest bytes is =
    let long : k ≡ length (big_bytes k n) = sym (length-bytes_high_first k n) in (
      ap (take k) is ∙ ap (λ (m : ℕ). take m (big_bytes k n ++ rest)) long ∙ take-append_seam (big_bytes k n) rest,
      ap (drop k) is ∙ ap (λ (m : ℕ). drop m (big_bytes k n ++ rest)) long ∙ drop-append_seam (big_bytes k n) rest,
    )

pub groups_long : (sizes digits : List ℕ) → length (groups_bytes sizes digits) ≡ groups_size sizes
groups_long [] digits = refl
groups_long (size ∷ sizes) digits =
    let h = groups_long sizes (drop size digits) in
    omega (
      arith,
      h,
      length-append (big_bytes (group_size size) (digits_number (take size digits))) (groups_bytes sizes (drop size digits)),
      length-bytes_high_first (group_size size) (digits_number (take size digits)),
    )

-- a group's number fits its bytes
pub number_fits : (size : ℕ) (digits : List ℕ) → size ≤ 9 → size ≤ length digits → IsTrue (are_digits digits) → digits_number (take size digits) < 256 ^ group_size size
number_fits size digits few long lawful =
    let here : length (take size digits) ≡ size = length-take-le size digits long in
    let small : digits_number (take size digits) < 10 ^ size = subst (λ (k : ℕ). digits_number (take size digits) < 10 ^ k) here (number_small (take size digits) (digits_take size digits lawful)) in
    lt_of_lt_of_le small (group_fits size few)

nines_size : (n : ℕ) (sizes : List ℕ) → groups_size (replicate n 9 ++ sizes) ≡ n * 4 + groups_size sizes
nines_size zero sizes = omega arith
nines_size (suc n) sizes = let h = nines_size n sizes in omega (arith, h)

pub size_is : (precision scale : ℕ) → groups_size (group_digits precision scale) ≡ decimal_size precision scale
size_is precision scale =
    let whole = precision - scale in
    let inner = nines_size (scale / 9) (scale % 9 ∷ []) in
    let outer = nines_size (whole / 9) (replicate (scale / 9) 9 ++ (scale % 9 ∷ [])) in
    omega (arith, inner, outer)

nines_sum : (n : ℕ) (sizes : List ℕ) → sum (replicate n 9 ++ sizes) ≡ n * 9 + sum sizes
nines_sum zero sizes = omega arith
nines_sum (suc n) sizes = let h = nines_sum n sizes in sum_by-cons (λ x. x) 9 (replicate n 9 ++ sizes) ∙ omega (arith, h)

pub sum_is : (precision scale : ℕ) → scale ≤ precision → sum (group_digits precision scale) ≡ precision
sum_is precision scale within =
    let whole = precision - scale in
    let inner = nines_sum (scale / 9) (scale % 9 ∷ []) in
    let outer = nines_sum (whole / 9) (replicate (scale / 9) 9 ++ (scale % 9 ∷ [])) in
    let one : sum (scale % 9 ∷ []) ≡ scale % 9 = sum_by-cons (λ x. x) (scale % 9) [] ∙ omega arith in
    sum_by-cons (λ x. x) (whole % 9) (replicate (whole / 9) 9 ++ (replicate (scale / 9) 9 ++ (scale % 9 ∷ []))) ∙ omega (arith, inner, outer, one, within)

nines_small : (n : ℕ) (sizes : List ℕ) → ((k d : ℕ) → k < length sizes → get_or sizes k d ≤ 9) → (k d : ℕ) → k < length (replicate n 9 ++ sizes) → get_or (replicate n 9 ++ sizes) k d ≤ 9
nines_small zero sizes all k d below = all k d below
nines_small (suc n) sizes all zero d below = omega arith
nines_small (suc n) sizes all (suc k) d below = nines_small n sizes all k d (omega (arith, below))

pub sizes_small : (precision scale : ℕ) → (k d : ℕ) → k < length (group_digits precision scale) → get_or (group_digits precision scale) k d ≤ 9
sizes_small precision scale zero d below = omega arith
sizes_small precision scale (suc k) d below =
    nines_small ((precision - scale) / 9) (replicate (scale / 9) 9 ++ (scale % 9 ∷ []))
    (nines_small (scale / 9) (scale % 9 ∷ []) last) k d (omega (arith, below))
  where
    last : (k d : ℕ) → k < length (scale % 9 ∷ []) → get_or (scale % 9 ∷ []) k d ≤ 9
    last zero d below = omega arith
    last (suc k) d below = absurd (omega (arith, below))

-- the sizes as they are made: nines, and one at each end
nines_cut : (n more l : ℕ) → take (n + 1) (set (replicate (n + suc more) 9) n l) ≡ replicate n 9 ++ l ∷ []
nines_cut n more l =
    let long : n < length (replicate (n + suc more) 9) = omega (arith, length-replicate {A = ℕ} (n + suc more) 9) in
    let parts : replicate n 9 ++ replicate (suc more) 9 ≡ replicate (n + suc more) 9 = replicate-append-replicate {A = ℕ} n (suc more) 9 in
    let front : take n (replicate (n + suc more) 9) ≡ replicate n 9 =
    ap (take n) (sym parts) ∙ ap (λ (m : ℕ). take m (replicate n 9 ++ replicate (suc more) 9)) (sym (length-replicate {A = ℕ} n 9)) ∙ take-append_seam (replicate n 9) (replicate (suc more) 9) in
    take_more_set (replicate (n + suc more) 9) n l long ∙ ap (λ (xs : List ℕ). xs ++ l ∷ []) front

pub sizes_made : (first last a b n : ℕ) → n ≡ a + b → n ≤ 8 →
    take (n + 2) (set (first ∷ replicate 9 9) (n + 1) last) ≡ first ∷ (replicate a 9 ++ (replicate b 9 ++ (last ∷ [])))
sizes_made first last a b n is few =
    let taken : n + 2 ≡ suc (n + 1) = omega arith in
    let place : n + 1 ≡ suc n = omega arith in
    let more : 9 ≡ n + suc (8 - n) = omega (arith, few) in
    let joined : replicate n 9 ++ (last ∷ []) ≡ replicate a 9 ++ (replicate b 9 ++ (last ∷ [])) =
    ap (λ (m : ℕ). replicate m 9 ++ (last ∷ [])) is ∙ ap (λ (xs : List ℕ). xs ++ (last ∷ [])) (sym (replicate-append-replicate {A = ℕ} a b 9)) ∙ append_assoc (replicate a 9) (replicate b 9) (last ∷ []) in
    let inner : take (n + 1) (set (replicate 9 9) n last) ≡ replicate n 9 ++ (last ∷ []) =
    ap (λ (m : ℕ). take (n + 1) (set (replicate m 9) n last)) more ∙ nines_cut n (8 - n) last in
    (λ i. take (taken i) (set (first ∷ replicate 9 9) (place i) last)) ∙ ap (λ (xs : List ℕ). first ∷ xs) (inner ∙ joined)

-- what is known of other digits that the bytes have
pub group_only : (s : ℕ) (sizes bytes group more digits front back other : List ℕ) → s ≤ 9 → group ≡ take (group_size s) bytes → length group ≡ group_size s →
    more ≡ drop (group_size s) bytes → length front ≡ s → length back + s ≡ length digits → length other ≡ length digits → IsTrue (are_digits other) →
    bytes ≡ groups_bytes (s ∷ sizes) other →
    (length (take s other) ≡ length front) × IsTrue (are_digits (take s other)) × (digits_number (take s other) < 256 ^ length group) ×
    (group ≡ big_bytes (length group) (digits_number (take s other))) × (length (drop s other) ≡ length back) × IsTrue (are_digits (drop s other)) ×
    (more ≡ groups_bytes sizes (drop s other))
group_only s sizes bytes group more digits front back other few group_is size more_is front_long back_long long lawful is =
    let cut = front_is (group_size s) (digits_number (take s other)) (groups_bytes sizes (drop s other)) bytes is in
    let enough : s ≤ length other = omega (arith, back_long, long) in (
      length-take-le s other enough ∙ sym front_long,
      digits_take s other lawful,
      rw size (number_fits s other few enough lawful),
      rw size (group_is ∙ cut.0),
      omega (arith, length-drop s other, back_long, long),
      digits_drop s other lawful,
      more_is ∙ cut.1,
    )

pub same_end : (s n : ℕ) (other digits back : List ℕ) → back ≡ drop s digits → drop (s + n) other ≡ drop (s + n) digits → drop n (drop s other) ≡ drop n back
same_end s n other digits back is same = drop-drop n s other ∙ same ∙ sym (drop-drop n s digits) ∙ ap (drop n) (sym is)
