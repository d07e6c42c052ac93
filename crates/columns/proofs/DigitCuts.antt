-- So many digits at the front of a text.
use Rattle.columns.proofs.Names.{◌≡◌, ℕ, zero, suc, ◌^◌, ◌<◌, ◌≤◌, List, [], ◌++◌, length, take, sym, ap, subst, ◌∙◌, arith, take_all, zero_padded, IsDigitsOf}
use Rattle.std.proofs.Common.{drop, take-append-drop}
use Rattle.std.proofs.lemmas.List.{drop_all, take-append-le, drop-append-le}
use Rattle.columns.proofs.FieldDigits.{padded_is, padded_long, whole_small, is_padded}

pub tens_small : (k : ℕ) → k ≤ 6 → 10 ^ k ≤ 1000000
tens_small zero few = omega arith
tens_small (suc zero) few = omega arith
tens_small (suc (suc zero)) few = omega arith
tens_small (suc (suc (suc zero))) few = omega arith
tens_small (suc (suc (suc (suc zero)))) few = omega arith
tens_small (suc (suc (suc (suc (suc zero))))) few = omega arith
tens_small (suc (suc (suc (suc (suc (suc zero)))))) few = omega arith
tens_small (suc (suc (suc (suc (suc (suc (suc k))))))) few = absurd (omega (arith, few))

pub number_small : (width n : ℕ) → width ≤ 6 → n < 10 ^ width → n < 1000000
number_small width n few small = omega (arith, small, tens_small width few)

-- digits that the text has at its front are those that are cut off
pub digits_cut : (width n : ℕ) (rest text front end : List ℕ) → 1 ≤ width → width ≤ 6 → n < 10 ^ width → text ≡ zero_padded width n ++ rest →
    front ≡ take width text → end ≡ drop width text → IsDigitsOf n front × (end ≡ rest)
digits_cut width n rest text front end some few small e cut left =
    let less : n < 2 ^ 64 = omega (arith, number_small width n few small) in
    let long = padded_long width n (omega arith) small less in
    let digits : front ≡ zero_padded width n =
    cut ∙ ap (take width) e ∙ take-append-le width (zero_padded width n) rest (omega (arith, long)) ∙ take_all width (zero_padded width n) (omega (arith, long)) in
    let none : drop width (zero_padded width n) ≡ [] = drop_all width (zero_padded width n) (omega (arith, long)) in
    (subst (IsDigitsOf n) (sym digits) (padded_is width n less), left ∙ ap (drop width) e ∙ drop-append-le width (zero_padded width n) rest (omega (arith, long)) ∙ ap (λ (xs : List ℕ). xs ++ rest) none)

-- and what is cut off is the number with zeros in front
pub cut_digits : (width n : ℕ) (text front end : List ℕ) → width ≤ 6 → length front ≡ width → front ≡ take width text → end ≡ drop width text → IsDigitsOf n front →
    (n < 10 ^ width) × (text ≡ zero_padded width n ++ end)
cut_digits width n text front end few long cut left is =
    let small : n < 10 ^ width = subst (λ (k : ℕ). n < 10 ^ k) long (whole_small n front is) in
    let digits = is_padded width n front long (omega (arith, number_small width n few small)) is in
    (small, sym (take-append-drop width text) ∙ (λ i. (sym cut ∙ digits) i ++ sym left i))
