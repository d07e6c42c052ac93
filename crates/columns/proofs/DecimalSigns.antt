-- The sign of a decimal number in its bytes.
use Rattle.columns.proofs.Names.{◌≡◌, ℕ, zero, suc, ◌+◌, ◌-◌, ◌%◌, ◌^◌, ◌<◌, ◌≤◌, Bool, true, false, nat_lt, List, [], ◌∷◌, ◌++◌, length, get_or, take, map, replicate, sum, refl, sym, ap, ◌∙◌, arith, subst, IsTrue, lt-ltb, sum_by-cons, length-map, length-drop, length-take-le, length-replicate, big_bytes, are_digits, are_zeros, digits_number, group_size, group_digits, decimal_bytes}
use Rattle.std.proofs.Common.{drop}
use Rattle.std.proofs.lemmas.Bool.{le-ltb}
use Rattle.byteorder.specs.Numbers.{length-bytes_high_first}
use Rattle.wire.proofs.Cuts.{IsBytes, IsBytes-rest}
use Rattle.columns.specs.Decimals.{groups_bytes, part_size, decimal_size, inverted, top_flipped}
use Rattle.columns.proofs.Bytes.{byte_at-pow}
use Rattle.columns.proofs.DigitNumbers.{number_small, digits_take, same_zeros}
use Rattle.columns.proofs.DigitGroups.{groups_long, size_is, sum_is, sizes_small}

big_fits : (k n : ℕ) → IsBytes (big_bytes k n)
big_fits zero n i = omega arith
big_fits (suc k) n zero = rw (byte_at-pow k n) (omega arith)
big_fits (suc k) n (suc i) = big_fits k n i

fits_append : (a b : List ℕ) → IsBytes a → IsBytes b → IsBytes (a ++ b)
fits_append [] b first second i = second i
fits_append (x ∷ a) b first second zero = first 0
fits_append (x ∷ a) b first second (suc i) = fits_append a b (IsBytes-rest x a first) second i

pub groups_fit : (sizes digits : List ℕ) → IsBytes (groups_bytes sizes digits)
groups_fit [] digits i = omega arith
groups_fit (size ∷ sizes) digits i =
    fits_append (big_bytes (group_size size) (digits_number (take size digits))) (groups_bytes sizes (drop size digits))
    (big_fits (group_size size) (digits_number (take size digits))) (groups_fit sizes (drop size digits)) i

invert_twice : (bytes : List ℕ) → IsBytes bytes → map (λ b. 255 - b) (map (λ b. 255 - b) bytes) ≡ bytes
invert_twice [] fits = refl
invert_twice (b ∷ bytes) fits =
    let byte : b < 256 = fits 0 in
    let first : 255 - (255 - b) ≡ b = omega (arith, byte) in
    λ i. first i ∷ invert_twice bytes (IsBytes-rest b bytes fits) i

pub invert_back : (negative : Bool) (bytes : List ℕ) → IsBytes bytes → inverted negative (inverted negative bytes) ≡ bytes
invert_back true bytes fits = invert_twice bytes fits
invert_back false bytes fits = refl

pub flip_back : (bytes : List ℕ) → IsBytes bytes → top_flipped (top_flipped bytes) ≡ bytes
flip_back [] fits = refl
flip_back (b ∷ bytes) fits =
    let byte : b < 256 = fits 0 in
    let first : ((b + 128) % 256 + 128) % 256 ≡ b = omega (arith, byte) in
    λ i. first i ∷ bytes

pub flipped_fits : (bytes : List ℕ) → IsBytes bytes → IsBytes (top_flipped bytes)
flipped_fits [] fits i = omega arith
flipped_fits (b ∷ bytes) fits zero = omega arith
flipped_fits (b ∷ bytes) fits (suc i) = fits (suc i)

inverted_all : (bytes : List ℕ) → IsBytes (map (λ b. 255 - b) bytes)
inverted_all [] i = omega arith
inverted_all (b ∷ bytes) zero = omega arith
inverted_all (b ∷ bytes) (suc i) = inverted_all bytes i

pub inverted_fits : (negative : Bool) (bytes : List ℕ) → IsBytes bytes → IsBytes (inverted negative bytes)
inverted_fits true bytes fits = inverted_all bytes
inverted_fits false bytes fits = fits

pub sign_is : (negative : Bool) (bytes : List ℕ) → 0 < length bytes → get_or bytes 0 0 < 128 → nat_lt (get_or (top_flipped (inverted negative bytes)) 0 0) 128 ≡ negative
sign_is negative [] some small = absurd (omega (arith, some))
sign_is true (b ∷ bytes) some small = lt-ltb ((255 - b + 128) % 256) 128 (omega (arith, small))
sign_is false (b ∷ bytes) some small = le-ltb ((b + 128) % 256) 128 (omega (arith, small))

-- the top bit of a group's number is 0
head_small : (s n : ℕ) → s ≤ 9 → n < 10 ^ s → get_or (big_bytes (group_size s) n) 0 0 < 128
head_small zero n few small = omega arith
head_small (suc zero) n few small = omega (arith, small)
head_small (suc (suc zero)) n few small = omega (arith, small)
head_small (suc (suc (suc zero))) n few small = omega (arith, small)
head_small (suc (suc (suc (suc zero)))) n few small = omega (arith, small)
head_small (suc (suc (suc (suc (suc zero))))) n few small = omega (arith, small)
head_small (suc (suc (suc (suc (suc (suc zero)))))) n few small = omega (arith, small)
head_small (suc (suc (suc (suc (suc (suc (suc zero))))))) n few small = omega (arith, small)
head_small (suc (suc (suc (suc (suc (suc (suc (suc zero)))))))) n few small = omega (arith, small)
head_small (suc (suc (suc (suc (suc (suc (suc (suc (suc zero))))))))) n few small = omega (arith, small)
head_small (suc (suc (suc (suc (suc (suc (suc (suc (suc (suc s)))))))))) n few small = absurd (omega (arith, few))

some_bytes : (s : ℕ) → s ≤ 9 → 0 < s → 0 < group_size s
some_bytes zero few some = absurd (omega (arith, some))
some_bytes (suc zero) few some = omega arith
some_bytes (suc (suc zero)) few some = omega arith
some_bytes (suc (suc (suc zero))) few some = omega arith
some_bytes (suc (suc (suc (suc zero)))) few some = omega arith
some_bytes (suc (suc (suc (suc (suc zero))))) few some = omega arith
some_bytes (suc (suc (suc (suc (suc (suc zero)))))) few some = omega arith
some_bytes (suc (suc (suc (suc (suc (suc (suc zero))))))) few some = omega arith
some_bytes (suc (suc (suc (suc (suc (suc (suc (suc zero)))))))) few some = omega arith
some_bytes (suc (suc (suc (suc (suc (suc (suc (suc (suc zero))))))))) few some = omega arith
some_bytes (suc (suc (suc (suc (suc (suc (suc (suc (suc (suc s)))))))))) few some = absurd (omega (arith, few))

head_of : (a b : List ℕ) → 0 < length a → get_or (a ++ b) 0 0 ≡ get_or a 0 0
head_of [] b some = absurd (omega (arith, some))
head_of (x ∷ a) b some = refl

pub top_small : (sizes digits : List ℕ) → ((k d : ℕ) → k < length sizes → get_or sizes k d ≤ 9) → sum sizes ≤ length digits → IsTrue (are_digits digits) →
    get_or (groups_bytes sizes digits) 0 0 < 128
top_small [] digits all long lawful = omega arith
top_small (zero ∷ sizes) digits all long lawful =
    top_small sizes digits (λ k d below. all (suc k) d (omega (arith, below))) (omega (arith, long, sum_by-cons (λ x. x) 0 sizes)) lawful
top_small (suc s ∷ sizes) digits all long lawful =
    let few : suc s ≤ 9 = all 0 0 (omega arith) in
    let enough : suc s ≤ length digits = omega (arith, long, sum_by-cons (λ x. x) (suc s) sizes) in
    let here : length (take (suc s) digits) ≡ suc s = length-take-le (suc s) digits enough in
    let n = digits_number (take (suc s) digits) in
    let small : n < 10 ^ suc s = subst (λ (k : ℕ). n < 10 ^ k) here (number_small (take (suc s) digits) (digits_take (suc s) digits lawful)) in
    let long_group : 0 < length (big_bytes (group_size (suc s)) n) = omega (arith, length-bytes_high_first (group_size (suc s)) n, some_bytes (suc s) few (omega arith)) in
    rw (head_of (big_bytes (group_size (suc s)) n) (groups_bytes sizes (drop (suc s) digits)) long_group) (head_small (suc s) n few small)

flipped_long : (bytes : List ℕ) → length (top_flipped bytes) ≡ length bytes
flipped_long [] = refl
flipped_long (b ∷ bytes) = refl

inverted_long : (negative : Bool) (bytes : List ℕ) → length (inverted negative bytes) ≡ length bytes
inverted_long true bytes = length-map bytes (λ b. 255 - b)
inverted_long false bytes = refl

pub bytes_long : (negative : Bool) (precision scale : ℕ) (digits : List ℕ) → length (decimal_bytes negative precision scale digits) ≡ decimal_size precision scale
bytes_long negative precision scale digits =
    let groups = groups_bytes (group_digits precision scale) digits in
    flipped_long (inverted negative groups) ∙ inverted_long negative groups ∙ groups_long (group_digits precision scale) digits ∙ size_is precision scale

pub zeros_behind : (n m : ℕ) → IsTrue (are_zeros (drop n (replicate m 0)))
zeros_behind zero zero = refl
zeros_behind zero (suc m) = zeros_behind zero m
zeros_behind (suc n) zero = refl
zeros_behind (suc n) (suc m) = zeros_behind n m

part_some : (n : ℕ) → 0 < n → 0 < part_size n
part_some n some = grind arith

size_some : (precision scale : ℕ) → 1 ≤ precision → scale ≤ precision → 0 < decimal_size precision scale
size_some precision zero some within =
    let same : precision - 0 ≡ precision = omega arith in
    omega (arith, part_some precision (omega (arith, some)), ap part_size same)
size_some precision (suc scale) some within = omega (arith, part_some (suc scale) (omega arith))

-- the sign and the groups of the value that bytes are
pub plain_is : (negative : Bool) (precision scale : ℕ) (digits bytes : List ℕ) → 1 ≤ precision → scale ≤ precision → precision ≤ length digits → IsTrue (are_digits digits) →
    bytes ≡ decimal_bytes negative precision scale digits →
    (nat_lt (get_or bytes 0 0) 128 ≡ negative) × (inverted (nat_lt (get_or bytes 0 0) 128) (top_flipped bytes) ≡ groups_bytes (group_digits precision scale) digits)
plain_is negative precision scale digits bytes some within long lawful is =
    let sizes = group_digits precision scale in
    let groups = groups_bytes sizes digits in
    let fit = groups_fit sizes digits in
    let size : length groups ≡ decimal_size precision scale = groups_long sizes digits ∙ size_is precision scale in
    let enough : sum sizes ≤ length digits = omega (arith, sum_is precision scale within, long) in
    let small = top_small sizes digits (sizes_small precision scale) enough lawful in
    let sign : nat_lt (get_or bytes 0 0) 128 ≡ negative =
    ap (λ (xs : List ℕ). nat_lt (get_or xs 0 0) 128) is ∙ sign_is negative groups (omega (arith, size, size_some precision scale some within)) small in (
      sign,
      (λ i. inverted (sign i) (top_flipped (is i))) ∙ ap (inverted negative) (flip_back (inverted negative groups) (inverted_fits negative groups fit)) ∙ invert_back negative groups fit,
    )

pub plain_back : (negative : Bool) (bytes plain : List ℕ) → IsBytes bytes → plain ≡ inverted negative (top_flipped bytes) → bytes ≡ top_flipped (inverted negative plain)
plain_back negative bytes plain fits is =
    sym (ap (λ (xs : List ℕ). top_flipped (inverted negative xs)) is ∙ ap top_flipped (invert_back negative (top_flipped bytes) (flipped_fits bytes fits)) ∙ flip_back bytes fits)

-- zeros after the digits
pub same_rest : (n count : ℕ) (digits : List ℕ) → length digits ≡ count → IsTrue (are_zeros (drop n digits)) → drop n digits ≡ drop n (replicate count 0)
same_rest n count digits long zeros =
    same_zeros (drop n digits) (drop n (replicate count 0))
    (length-drop n digits ∙ ap (λ (k : ℕ). k - n) (long ∙ sym (length-replicate {A = ℕ} count 0)) ∙ sym (length-drop n (replicate count 0))) zeros (zeros_behind n count)
