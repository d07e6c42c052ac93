-- Bytes cut into parts.
use Rattle.wire.proofs.Names.{◌≡◌, ℕ, zero, suc, ◌+◌, ◌-◌, ◌<◌, ◌≤◌, ◌^◌, ◌%◌, ◌/◌, List, [], ◌∷◌, ◌++◌, length, get_or, take, refl, sym, ap, ◌∙◌, append_assoc, arith, take-append-drop, AllByRecursion, little_bytes, little_number}
use Rattle.std.proofs.Common.{drop}
use Rattle.std.proofs.Math.Seq.{drop-cons, drop-append-add}
use Rattle.std.proofs.lemmas.List.{drop-drop, get_or-drop, take_rest}
use Rattle.std.proofs.Math.Nat.{div-div-eq-div-mul, div-one, pow-suc}
use Rattle.std.specs.Int.{bytes_low_first, byte_at}
use Rattle.byteorder.specs.Numbers.{little_from-cons, little_number-reads_back}

abbrev pub IsBytes : List ℕ → Type 0
IsBytes bytes = (i : ℕ) → get_or bytes i 0 < 256

pub IsBytes-all : (bytes : List ℕ) → AllByRecursion (λ b. b < 256) bytes → IsBytes bytes
IsBytes-all [] all i = omega arith
IsBytes-all (b ∷ bytes) all zero = all.0
IsBytes-all (b ∷ bytes) all (suc i) = IsBytes-all bytes all.1 i

pub IsBytes-rest : (b : ℕ) (bytes : List ℕ) → IsBytes (b ∷ bytes) → IsBytes bytes
IsBytes-rest b bytes h i = h (suc i)

pub IsBytes-drop : (n : ℕ) (bytes : List ℕ) → IsBytes bytes → IsBytes (drop n bytes)
IsBytes-drop n bytes fits i = rw get_or-drop (fits (n + i))

pub IsBytes-after : (front rest : List ℕ) → IsBytes (front ++ rest) → IsBytes rest
IsBytes-after [] rest h = h
IsBytes-after (b ∷ front) rest h = IsBytes-after front rest (IsBytes-rest b (front ++ rest) h)

-- ---- Numbers.

byte_at-pow : (j n : ℕ) → byte_at j n ≡ n / 256 ^ j % 256
byte_at-pow zero n = ap (λ (y : ℕ). y % 256) (sym (div-one n))
byte_at-pow (suc j) n = refl

-- the bytes of the number that bytes encode, from one of its bytes on
low_bytes : (k j n : ℕ) (xs : List ℕ) → k ≤ length xs → IsBytes xs → n / 256 ^ j ≡ little_number k xs → bytes_low_first j k n ≡ take k xs
low_bytes zero j n xs long fits is = refl
low_bytes (suc k) j n [] long fits is = absurd (omega (arith, long))
low_bytes (suc k) j n (x ∷ xs) long fits is =
    let small : x < 256 = fits 0 in
    let moved = little_from-cons 0 k x xs in
    let first : byte_at j n ≡ x = byte_at-pow j n ∙ (omega (arith, is, moved)) in
    let shift : n / 256 ^ suc j ≡ n / 256 ^ j / 256 = ap (λ (p : ℕ). n / p) (pow-suc 256 j) ∙ sym (div-div-eq-div-mul n (256 ^ j) 256) in
    let others : n / 256 ^ suc j ≡ little_number k xs = shift ∙ (omega (arith, is, moved)) in
    λ i. first i ∷ low_bytes k (suc j) n xs (omega (arith, long)) (IsBytes-rest x xs fits) others i

-- the first bytes are those of the number that they encode
pub take_is_number : (k : ℕ) (xs : List ℕ) → k ≤ length xs → IsBytes xs → take k xs ≡ little_bytes k (little_number k xs)
take_is_number k xs long fits =
    let whole : little_number k xs / 256 ^ 0 ≡ little_number k xs = omega arith in
    sym (low_bytes k 0 (little_number k xs) xs long fits whole)

-- bytes begin with those of the number that they encode
pub number_at_front : (k : ℕ) (xs : List ℕ) → k ≤ length xs → IsBytes xs → xs ≡ little_bytes k (little_number k xs) ++ drop k xs
number_at_front k xs long fits = sym (take-append-drop k xs) ∙ ap (λ front. front ++ drop k xs) (take_is_number k xs long fits)

-- a number at the front
pub number_is : (k n : ℕ) (xs rest : List ℕ) → n < 256 ^ k → xs ≡ little_bytes k n ++ rest → little_number k xs ≡ n
number_is k n xs rest fits is = ap (little_number k) is ∙ little_number-reads_back k n rest fits

-- ---- Cuts at a place.

-- the first byte of what is left
pub first_left : (n b : ℕ) (xs rest : List ℕ) → drop n xs ≡ b ∷ rest → get_or xs n 0 ≡ b
first_left n b xs rest is = let e : n ≡ n + 0 = omega arith in ap (λ k. get_or xs k 0) e ∙ sym (get_or-drop n xs 0 0) ∙ ap (λ l. get_or l 0 0) is

pub drop_drop : (n m : ℕ) (xs : List ℕ) → drop m (drop n xs) ≡ drop (n + m) xs
drop_drop n m xs = drop-drop m n xs

pub cut : (n m : ℕ) (xs : List ℕ) → drop n xs ≡ take m (drop n xs) ++ drop (n + m) xs
cut n m xs = sym (take-append-drop m (drop n xs)) ∙ ap (λ rest. take m (drop n xs) ++ rest) (drop_drop n m xs)

pub one : (n : ℕ) (xs : List ℕ) → n < length xs → drop n xs ≡ get_or xs n 0 ∷ drop (suc n) xs
one n xs short = drop-cons xs n 0 short

-- what follows a front
pub after : (n m : ℕ) (front rest : List ℕ) → length front ≡ n → drop (n + m) (front ++ rest) ≡ drop m rest
after n m front rest long = ap (λ k. drop (k + m) (front ++ rest)) (sym long) ∙ drop-append-add front rest m

pub drop_front : (front rest : List ℕ) → drop (length front) (front ++ rest) ≡ rest
drop_front front rest = let e : length front ≡ length front + 0 = omega arith in ap (λ k. drop k (front ++ rest)) e ∙ after (length front) 0 front rest refl

-- ---- One byte or two, and the rest.

pub first_and_rest : (xs : List ℕ) → 1 ≤ length xs → xs ≡ get_or xs 0 0 ∷ take (length xs - 1) (drop 1 xs)
first_and_rest xs long = drop-cons xs 0 0 (omega (arith, long)) ∙ ap (λ rest. get_or xs 0 0 ∷ rest) (sym (take_rest xs 1))

pub begun_by : (first : ℕ) (xs : List ℕ) → 1 ≤ length xs → get_or xs 0 0 ≡ first → xs ≡ first ∷ take (length xs - 1) (drop 1 xs)
begun_by first xs some is = first_and_rest xs some ∙ ap (λ b. b ∷ take (length xs - 1) (drop 1 xs)) is

pub two_and_rest : (xs : List ℕ) → 2 ≤ length xs → xs ≡ get_or xs 0 0 ∷ get_or xs 1 0 ∷ take (length xs - 2) (drop 2 xs)
two_and_rest xs long = drop-cons xs 0 0 (omega (arith, long)) ∙ ap (λ rest. get_or xs 0 0 ∷ rest) (drop-cons xs 1 0 (omega (arith, long)) ∙ ap (λ rest. get_or xs 1 0 ∷ rest) (sym (take_rest xs 2)))

pub drop_at : (front rest : List ℕ) (n : ℕ) → length front ≡ n → drop n (front ++ rest) ≡ rest
drop_at front rest n long = ap (λ k. drop k (front ++ rest)) (sym long) ∙ drop_front front rest

-- ---- Parts joined from the left and from the right.

pub right_4 : (a b c d : List ℕ) → a ++ b ++ c ++ d ≡ a ++ (b ++ (c ++ d))
right_4 a b c d = append_assoc (a ++ b) c d ∙ append_assoc a b (c ++ d)

pub right_5 : (a b c d e : List ℕ) → a ++ b ++ c ++ d ++ e ≡ a ++ (b ++ (c ++ (d ++ e)))
right_5 a b c d e = append_assoc (a ++ b ++ c) d e ∙ right_4 a b c (d ++ e)

pub right_6 : (a b c d e f : List ℕ) → a ++ b ++ c ++ d ++ e ++ f ≡ a ++ (b ++ (c ++ (d ++ (e ++ f))))
right_6 a b c d e f = append_assoc (a ++ b ++ c ++ d) e f ∙ right_5 a b c d (e ++ f)

pub right_7 : (a b c d e f g : List ℕ) → a ++ b ++ c ++ d ++ e ++ f ++ g ≡ a ++ (b ++ (c ++ (d ++ (e ++ (f ++ g)))))
right_7 a b c d e f g = append_assoc (a ++ b ++ c ++ d ++ e) f g ∙ append_assoc (a ++ b ++ c ++ d) e (f ++ g) ∙ right_5 a b c d (e ++ (f ++ g))
