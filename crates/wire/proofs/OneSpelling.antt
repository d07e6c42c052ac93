-- A length-encoded integer is read in only one way.
use Rattle.wire.proofs.Names.{◌≡◌, ℕ, suc, ◌<◌, ◌≤◌, ◌^◌, List, [], ◌∷◌, ◌++◌, length, refl, ap, sym, ◌∙◌, arith, inl, inr, take, take-append_seam, little_bytes, little_number}
use Rattle.std.proofs.lemmas.Bool.{le-leb, lt-leb, cases_lt}
use Rattle.std.specs.Prelude.{nat_le, if◌then◌else◌}
use Rattle.byteorder.specs.Numbers.{little_number-reads_back}
use Rattle.wire.specs.Integer.{IsLengthEncoded, length_encoded}

-- the value at the front, and how many bytes it takes
abbrev pub front_of : List ℕ → ℕ × ℕ
front_of [] = (0, 0)
front_of (b ∷ bytes) =
    if nat_le b 250 then (b, 1)
    else if nat_le b 252 then (little_number 2 bytes, 3)
    else if nat_le b 253 then (little_number 3 bytes, 4)
    else (little_number 8 bytes, 9)

front_of-spelling : (n : ℕ) (a x : List ℕ) → IsLengthEncoded n a → front_of (a ++ x) ≡ (n, length a)
front_of-spelling n a x (inl (fits, is)) =
    (λ i. front_of (is i ++ x)) ∙ rw (le-leb n 250 fits) refl ∙ ap (λ k. (n, k)) (sym (ap length is))
front_of-spelling n a x (inr (inl (fits, is))) =
    (λ i. front_of (is i ++ x)) ∙ ap (λ v. (v, 3)) (little_number-reads_back 2 n x fits) ∙ ap (λ k. (n, k)) (sym (ap length is))
front_of-spelling n a x (inr (inr (inl (fits, is)))) =
    (λ i. front_of (is i ++ x)) ∙ ap (λ v. (v, 4)) (little_number-reads_back 3 n x fits) ∙ ap (λ k. (n, k)) (sym (ap length is))
front_of-spelling n a x (inr (inr (inr (fits, is)))) =
    (λ i. front_of (is i ++ x)) ∙ ap (λ v. (v, 9)) (little_number-reads_back 8 n x fits) ∙ ap (λ k. (n, k)) (sym (ap length is))

-- prefixes of equal length of equal lists are equal
pub same_front : (a b x y : List ℕ) → length a ≡ length b → a ++ x ≡ b ++ y → a ≡ b
same_front a b x y long same = sym (take-append_seam a x) ∙ (λ i. take (long i) (same i)) ∙ take-append_seam b y

pub one_spelling : (m n : ℕ) (a b x y : List ℕ) → IsLengthEncoded m a → IsLengthEncoded n b → a ++ x ≡ b ++ y → (m ≡ n) × (a ≡ b)
one_spelling m n a b x y p q same =
    let e : (m, length a) ≡ (n, length b) = sym (front_of-spelling m a x p) ∙ ap front_of same ∙ front_of-spelling n b y q in
    (ap (λ r. r.0) e, same_front a b x y (ap (λ r. r.1) e) same)

-- the shortest encoding, by the size of the number
one_byte : (n : ℕ) → n ≤ 250 → length_encoded n ≡ n ∷ []
one_byte n h = rw (le-leb n 250 h) refl

two_bytes : (n : ℕ) → 250 < n → n < 2 ^ 16 → length_encoded n ≡ 0xFC ∷ little_bytes 2 n
two_bytes n above h = rw (lt-leb n 250 above, le-leb (suc n) (2 ^ 16) h) refl

three_bytes : (n : ℕ) → 2 ^ 16 ≤ n → n < 2 ^ 24 → length_encoded n ≡ 0xFD ∷ little_bytes 3 n
three_bytes n above h = rw (lt-leb n 250 (omega arith), lt-leb (suc n) (2 ^ 16) (omega arith), le-leb (suc n) (2 ^ 24) h) refl

eight_bytes : (n : ℕ) → 2 ^ 24 ≤ n → length_encoded n ≡ 0xFE ∷ little_bytes 8 n
eight_bytes n above = rw (lt-leb n 250 (omega arith), lt-leb (suc n) (2 ^ 16) (omega arith), lt-leb (suc n) (2 ^ 24) (omega arith)) refl

pub spells : (n : ℕ) → n < 2 ^ 64 → IsLengthEncoded n (length_encoded n)
spells n fits = elim (cases_lt 250 n) [
  | inr small ↦ inl (small, one_byte n small)
  | inl above ↦ elim (cases_lt n (2 ^ 16)) [
    | inl short ↦ inr (inl (short, two_bytes n above short))
    | inr long ↦ elim (cases_lt n (2 ^ 24)) [
      | inl short ↦ inr (inr (inl (short, three_bytes n long short)))
      | inr longer ↦ inr (inr (inr (fits, eight_bytes n longer)))
    ]
  ]
]

at_most_3 : (n : ℕ) → n < 2 ^ 16 → length (length_encoded n) ≤ 3
at_most_3 n h = elim (cases_lt 250 n) [
  | inl above ↦ omega (arith, ap length (two_bytes n above h))
  | inr small ↦ omega (arith, ap length (one_byte n small))
]

at_most_4 : (n : ℕ) → n < 2 ^ 24 → length (length_encoded n) ≤ 4
at_most_4 n h = elim (cases_lt n (2 ^ 16)) [
  | inl short ↦ omega (arith, at_most_3 n short)
  | inr long ↦ omega (arith, ap length (three_bytes n long h))
]

at_most_9 : (n : ℕ) → length (length_encoded n) ≤ 9
at_most_9 n = elim (cases_lt n (2 ^ 24)) [
  | inl short ↦ omega (arith, at_most_4 n short)
  | inr long ↦ omega (arith, ap length (eight_bytes n long))
]

pub shortest : (n : ℕ) (a : List ℕ) → IsLengthEncoded n a → length (length_encoded n) ≤ length a
shortest n a (inl (fits, is)) = omega (arith, ap length (one_byte n fits), ap length is)
shortest n a (inr (inl (fits, is))) = omega (arith, at_most_3 n fits, ap length is)
shortest n a (inr (inr (inl (fits, is)))) = omega (arith, at_most_4 n fits, ap length is)
shortest n a (inr (inr (inr (fits, is)))) = omega (arith, at_most_9 n, ap length is)
