-- Bitmaps of bits that are all set.
use Rattle.binlog.proofs.Names.{◌≡◌, ℕ, suc, ◌+◌, ◌-◌, ◌*◌, ◌<◌, ◌≤◌, Bool, true, false, List, [], ◌∷◌, length, get_or, map, replicate, sym, ap, ◌∙◌, arith, inl, inr, nat_lt, range_with_len, cases_lt, lt-ltb, le-ltb, length-replicate, length-map-range_with_len, bitmap_size, bitmap_byte, full_bitmap}
use Rattle.std.proofs.lemmas.List.{get_or-replicate, get_or_past}
use Rattle.binlog.specs.Rows.{AllPresent}
use Rattle.binlog.specs.RowsWritten.{bits_number, bitmap_bytes}
use Rattle.binlog.proofs.RowBytes.{set_bit}

pub full_long : (n : ℕ) → length (full_bitmap n) ≡ bitmap_size n
full_long n = length-map-range_with_len (bitmap_byte (replicate n true)) 0 (bitmap_size (length (replicate n true))) ∙ ap bitmap_size (length-replicate n true)

pub all_present : (n : ℕ) → AllPresent n (full_bitmap n)
all_present n = record {
  size = full_long n;
  present = λ i short. set_bit (replicate n true) i (omega (arith, short, length-replicate n true)) ∙ get_or-replicate n i true false short;
}

-- ---- Byte by byte.

bit_there : (n k : ℕ) → get_or (replicate n true) k false ≡ nat_lt k n
bit_there n k = elim (cases_lt k n) as (λ _. get_or (replicate n true) k false ≡ nat_lt k n) [
  | inl lt ↦ get_or-replicate n k true false lt ∙ sym (lt-ltb k n lt)
  | inr ge ↦ get_or_past (replicate n true) k false (omega (arith, ge, length-replicate n true)) ∙ sym (le-ltb k n ge)
]

moved : (n j i : ℕ) → nat_lt (8 * j + i) n ≡ nat_lt i (n - 8 * j)
moved n j i = elim (cases_lt (8 * j + i) n) as (λ _. nat_lt (8 * j + i) n ≡ nat_lt i (n - 8 * j)) [
  | inl lt ↦ lt-ltb (8 * j + i) n lt ∙ sym (lt-ltb i (n - 8 * j) (omega (arith, lt)))
  | inr ge ↦ le-ltb (8 * j + i) n ge ∙ sym (le-ltb i (n - 8 * j) (omega (arith, ge)))
]

pub byte_is : (n j : ℕ) → bits_number 8 (λ i. nat_lt i (n - 8 * j)) ≡ bitmap_byte (replicate n true) j
byte_is n j = ap (bits_number 8) (λ k i. sym (bit_there n (8 * j + i) ∙ moved n j i) k)

-- ---- Any bits.

-- the bytes from one on
abbrev pub bytes_from : List Bool → ℕ → List ℕ
bytes_from bits j = map (bitmap_byte bits) (range_with_len j (bitmap_size (length bits) - j))

pub from_first : (bits : List Bool) → bytes_from bits 0 ≡ bitmap_bytes bits
from_first bits =
    let all : bitmap_size (length bits) - 0 ≡ bitmap_size (length bits) = omega arith in
    ap (λ k. map (bitmap_byte bits) (range_with_len 0 k)) all

pub next_byte : (bits : List Bool) (j byte : ℕ) → j < bitmap_size (length bits) → byte ≡ bitmap_byte bits j → bytes_from bits j ≡ byte ∷ bytes_from bits (j + 1)
next_byte bits j byte short is =
    let more : bitmap_size (length bits) - j ≡ suc (bitmap_size (length bits) - (j + 1)) = omega (arith, short) in
    ap (λ k. map (bitmap_byte bits) (range_with_len j k)) more ∙ ap (λ b. b ∷ bytes_from bits (j + 1)) (sym is)

pub from_last : (bits : List Bool) (j : ℕ) → bitmap_size (length bits) ≤ j → bytes_from bits j ≡ []
from_last bits j past = let none : bitmap_size (length bits) - j ≡ 0 = omega (arith, past) in ap (λ k. map (bitmap_byte bits) (range_with_len j k)) none
