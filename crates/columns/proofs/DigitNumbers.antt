-- Decimal digits, and the numbers that they are.
use Rattle.columns.proofs.Names.{◌≡◌, ℕ, zero, suc, ◌+◌, ◌*◌, ◌/◌, ◌^◌, ◌<◌, ◌≤◌, nat_lt, set, List, [], ◌∷◌, ◌++◌, length, take, refl, sym, ap, ◌∙◌, arith, subst, length-append, IsTrue, one-le-pow, div-mul-add, lt-ltb, ne_eqb, decimal_digit, are_digits, are_zeros, digits_number, group_size, digits_text}
use Rattle.std.proofs.Common.{nat_eq, drop, mul-le-mul_right, decimal}
use Rattle.std.proofs.Math.Nat.{pow-suc, div-lt_iff_lt-mul}
use Rattle.columns.specs.Decimals.{significant}
use Rattle.columns.proofs.Types.{and_parts, le_of}

pub digit_small : (d : ℕ) (digits : List ℕ) → IsTrue (are_digits (d ∷ digits)) → d < 10
digit_small d digits h = le_of (suc d) 10 (and_parts (nat_lt d 10) (are_digits digits) h).0

pub digits_rest : (d : ℕ) (digits : List ℕ) → IsTrue (are_digits (d ∷ digits)) → IsTrue (are_digits digits)
digits_rest d digits h = (and_parts (nat_lt d 10) (are_digits digits) h).1

pub digits_more : (d : ℕ) (digits : List ℕ) → d < 10 → IsTrue (are_digits digits) → IsTrue (are_digits (d ∷ digits))
digits_more d digits small h = rw (lt-ltb d 10 small) h

pub digits_append : (a b : List ℕ) → IsTrue (are_digits a) → IsTrue (are_digits b) → IsTrue (are_digits (a ++ b))
digits_append [] b first second = second
digits_append (d ∷ a) b first second = digits_more d (a ++ b) (digit_small d a first) (digits_append a b (digits_rest d a first) second)

pub digits_take : (n : ℕ) (a : List ℕ) → IsTrue (are_digits a) → IsTrue (are_digits (take n a))
digits_take zero a h = refl
digits_take (suc n) [] h = refl
digits_take (suc n) (d ∷ a) h = digits_more d (take n a) (digit_small d a h) (digits_take n a (digits_rest d a h))

pub digits_drop : (n : ℕ) (a : List ℕ) → IsTrue (are_digits a) → IsTrue (are_digits (drop n a))
digits_drop zero a h = h
digits_drop (suc n) [] h = refl
digits_drop (suc n) (d ∷ a) h = digits_drop n a (digits_rest d a h)

-- zeros of one length are the same
pub same_zeros : (a b : List ℕ) → length a ≡ length b → IsTrue (are_zeros a) → IsTrue (are_zeros b) → a ≡ b
same_zeros [] [] long first second = refl
same_zeros [] (e ∷ b) long first second = absurd (omega (arith, long))
same_zeros (d ∷ a) [] long first second = absurd (omega (arith, long))
same_zeros (d ∷ a) (e ∷ b) long first second =
    let p = and_parts (nat_eq d 0) (are_zeros a) first in
    let q = and_parts (nat_eq e 0) (are_zeros b) second in
    let same : d ≡ e = grind (arith, p.0, q.0) in
    λ i. same i ∷ same_zeros a b (omega (arith, long)) p.1 q.1 i

-- the number has no more digits
pub number_small : (digits : List ℕ) → IsTrue (are_digits digits) → digits_number digits < 10 ^ length digits
number_small [] h = omega arith
number_small (d ∷ digits) h =
    let first : d ≤ 9 = omega (arith, digit_small d digits h) in
    let others = number_small digits (digits_rest d digits h) in
    let product = mul-le-mul_right (10 ^ length digits) first in
    omega (arith, others, product, pow-suc 10 (length digits))

-- one number has its digits in one way, if their count is known
pub same_digits : (a b : List ℕ) → length a ≡ length b → IsTrue (are_digits a) → IsTrue (are_digits b) → digits_number a ≡ digits_number b → a ≡ b
same_digits [] [] long first second same = refl
same_digits [] (e ∷ b) long first second same = absurd (omega (arith, long))
same_digits (d ∷ a) [] long first second same = absurd (omega (arith, long))
same_digits (d ∷ a) (e ∷ b) long first second same =
    let size : length a ≡ length b = omega (arith, long) in
    let small_a = number_small a (digits_rest d a first) in
    let small_b : digits_number b < 10 ^ length a = rw size (number_small b (digits_rest e b second)) in
    let unit : e * 10 ^ length b + digits_number b ≡ e * 10 ^ length a + digits_number b = ap (λ (k : ℕ). e * 10 ^ k + digits_number b) (sym size) in
    let both : d * 10 ^ length a + digits_number a ≡ e * 10 ^ length a + digits_number b = same ∙ unit in
    let head : d ≡ e = sym (div-mul-add d (10 ^ length a) (digits_number a) small_a) ∙ ap (λ (n : ℕ). n / 10 ^ length a) both ∙ div-mul-add e (10 ^ length a) (digits_number b) small_b in
    let tail : digits_number a ≡ digits_number b = omega (arith, both, ap (λ (k : ℕ). k * 10 ^ length a) head) in
    λ i. head i ∷ same_digits a b size (digits_rest d a first) (digits_rest e b second) tail i

-- a group of so many digits fits its bytes
pub group_fits : (k : ℕ) → k ≤ 9 → 10 ^ k ≤ 256 ^ group_size k
group_fits zero few = omega arith
group_fits (suc zero) few = omega arith
group_fits (suc (suc zero)) few = omega arith
group_fits (suc (suc (suc zero))) few = omega arith
group_fits (suc (suc (suc (suc zero)))) few = omega arith
group_fits (suc (suc (suc (suc (suc zero))))) few = omega arith
group_fits (suc (suc (suc (suc (suc (suc zero)))))) few = omega arith
group_fits (suc (suc (suc (suc (suc (suc (suc zero))))))) few = omega arith
group_fits (suc (suc (suc (suc (suc (suc (suc (suc zero)))))))) few = omega arith
group_fits (suc (suc (suc (suc (suc (suc (suc (suc (suc zero))))))))) few = omega arith
group_fits (suc (suc (suc (suc (suc (suc (suc (suc (suc (suc k)))))))))) few = absurd (omega (arith, few))

-- a digit in front of others
pub one_in_front : (digits : List ℕ) (d : ℕ) (others : List ℕ) → 1 ≤ length digits → set (take 1 digits) 0 d ++ others ≡ d ∷ others
one_in_front [] d others some = absurd (omega (arith, some))
one_in_front (x ∷ digits) d others some = refl

pub number_below : (d u n k len : ℕ) → d < 10 → u ≡ 10 ^ k → n < 10 ^ k → len ≡ k + 1 → d * u + n < 10 ^ len
number_below d u n k len small unit below long =
    let first : d ≤ 9 = omega (arith, small) in
    let product = mul-le-mul_right (10 ^ k) first in
    let same : d * u ≡ d * 10 ^ k = ap (λ (x : ℕ). d * x) unit in
    let more : len ≡ suc k = omega (arith, long) in
    rw more (omega (arith, product, same, below, pow-suc 10 k))

pub quotient_small : (n k len : ℕ) → n < 10 ^ len → len ≡ k + 1 → n / 10 ^ k < 10
quotient_small n k len small long =
    let some : 0 < 10 ^ k = omega (arith, one-le-pow k 10 (omega arith)) in
    let more : len ≡ suc k = omega (arith, long) in
    let below : n < 10 ^ suc k = subst (λ (x : ℕ). n < 10 ^ x) more small in
    (div-lt_iff_lt-mul some).1 (omega (arith, below, pow-suc 10 k))

-- a digit is one byte
pub text_long : (digits : List ℕ) → IsTrue (are_digits digits) → length (digits_text digits) ≡ length digits
text_long [] h = refl
text_long (d ∷ digits) h =
    let one : length (decimal d) ≡ 1 = ap length (decimal_digit d (digit_small d digits h)) in
    length-append (decimal d) (digits_text digits) ∙ omega (arith, one, text_long digits (digits_rest d digits h))

pub significant_digits : (digits : List ℕ) → IsTrue (are_digits digits) → IsTrue (are_digits (significant digits))
significant_digits [] h = refl
significant_digits (zero ∷ digits) h = significant_digits digits h
significant_digits (suc d ∷ digits) h = rw (ne_eqb (suc d) 0 (λ none. omega (arith, none))) h
