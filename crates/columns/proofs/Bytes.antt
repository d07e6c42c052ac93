-- Bytes of one length, and the numbers that they are.
use Rattle.std.proofs.Common.{◌≡◌, ℕ, zero, suc, ◌+◌, ◌*◌, ◌/◌, ◌%◌, ◌^◌, ◌<◌, List, [], ◌∷◌, length, take, drop, refl, sym, ap, ◌∙◌, arith, take_all, append-nil}
use Rattle.std.proofs.Math.Nat.{div-one, mul-add-div_right, one-le-pow, pow-succ', mul_assoc}
use Rattle.std.proofs.lemmas.Nat.{div-mul-add}
use Rattle.std.specs.Int.{byte_at, bytes_high_first}
use Rattle.byteorder.specs.Endian.{big_bytes, big_number, little_bytes, little_number}
use Rattle.byteorder.specs.Numbers.{big_from-cons, big_from-lt, big_number-reads_back}
use Rattle.wire.proofs.Cuts.{IsBytes, IsBytes-rest, take_is_number}

-- bytes of a known length are those of their number, the lowest first
pub little_all : (k : ℕ) (xs : List ℕ) → length xs ≡ k → IsBytes xs → xs ≡ little_bytes k (little_number k xs)
little_all k xs long fits =
    let all : take k xs ≡ xs = take_all k xs (omega arith) in
    sym all ∙ take_is_number k xs (omega arith) fits

pub byte_at-pow : (j n : ℕ) → byte_at j n ≡ n / 256 ^ j % 256
byte_at-pow zero n = ap (λ (y : ℕ). y % 256) (sym (div-one n))
byte_at-pow (suc j) n = refl

some_power : (k : ℕ) → 0 < 256 ^ k
some_power k = let h = one-le-pow k 256 (omega arith) in omega arith

-- what is above the lowest bytes does not matter
low_same : (k a n : ℕ) → bytes_high_first k (a * 256 ^ k + n) ≡ bytes_high_first k n
low_same zero a n = refl
low_same (suc k) a n =
    let same : a * 256 ^ suc k + n ≡ (a * 256) * 256 ^ k + n = ap (λ (x : ℕ). a * x + n) (pow-succ' 256 k) ∙ ap (λ (x : ℕ). x + n) (sym (mul_assoc a 256 (256 ^ k))) in
    let quotient : ((a * 256) * 256 ^ k + n) / 256 ^ k ≡ a * 256 + n / 256 ^ k = mul-add-div_right (some_power k) (a * 256) n in
    let first : byte_at k (a * 256 ^ suc k + n) ≡ byte_at k n =
    byte_at-pow k (a * 256 ^ suc k + n) ∙ ap (λ (x : ℕ). x / 256 ^ k % 256) same ∙ ap (λ (x : ℕ). x % 256) quotient ∙ omega arith ∙ sym (byte_at-pow k n) in
    λ i. first i ∷ (ap (bytes_high_first k) same ∙ low_same k (a * 256) n) i

-- bytes of a known length are those of their number, the highest first
pub big_all : (k : ℕ) (xs : List ℕ) → length xs ≡ k → IsBytes xs → xs ≡ big_bytes k (big_number k xs)
big_all zero [] long fits = refl
big_all zero (x ∷ xs) long fits = absurd (omega arith)
big_all (suc k) [] long fits = absurd (omega arith)
big_all (suc k) (x ∷ xs) long fits =
    let byte : x < 256 = fits 0 in
    let moved : big_number (suc k) (x ∷ xs) ≡ x * 256 ^ k + big_number k xs = ap (λ (r : ℕ). x * 256 ^ k + r) (big_from-cons 0 k x xs) in
    let first : byte_at k (x * 256 ^ k + big_number k xs) ≡ x =
    byte_at-pow k (x * 256 ^ k + big_number k xs) ∙ ap (λ (y : ℕ). y % 256) (div-mul-add x (256 ^ k) (big_number k xs) (big_from-lt 0 k xs (IsBytes-rest x xs fits))) ∙ omega arith in
    let others : bytes_high_first k (x * 256 ^ k + big_number k xs) ≡ xs =
    low_same k x (big_number k xs) ∙ sym (big_all k xs (omega arith) (IsBytes-rest x xs fits)) in
    sym (ap (bytes_high_first (suc k)) moved ∙ (λ i. first i ∷ others i))

-- the number of these bytes is the one that they were made of
pub big_back : (k n : ℕ) (xs : List ℕ) → n < 256 ^ k → xs ≡ big_bytes k n → big_number k xs ≡ n
big_back k n xs small is = ap (big_number k) (is ∙ sym (append-nil (big_bytes k n))) ∙ big_number-reads_back k n [] small

-- the lowest bytes stand at the end
pub last_bytes : (j k n : ℕ) → drop j (big_bytes (j + k) n) ≡ big_bytes k n
last_bytes zero k n = let same : 0 + k ≡ k = omega arith in ap (λ (m : ℕ). big_bytes m n) same
last_bytes (suc j) k n = let same : suc j + k ≡ suc (j + k) = omega arith in ap (λ (m : ℕ). drop (suc j) (big_bytes m n)) same ∙ last_bytes j k n
