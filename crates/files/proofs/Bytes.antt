-- Bytes of files by their places.
use Rattle.std.proofs.Common.{◌≡◌, ℕ, suc, ◌+◌, ◌<◌, ◌≤◌, List, [], ◌∷◌, length, Some, refl, sym, ap, ap₂, ◌∙◌, inl, inr, arith, rules}
use Rattle.std.specs.Prelude.{slice_get}
use Rattle.std.proofs.lemmas.Bool.{cases_lt}
use Rattle.std.proofs.lemmas.List.{places}
use Rattle.std.proofs.lemmas.Option.{none-some, same_Some, slice_get-get_or, slice_get_past}
use Rattle.sqlite_wal.specs.Format.{part}
use Rattle.sqlite_wal.proofs.PartLemmas.{slice_index-part}

-- two files with the same at each place
pub same_bytes : (xs ys : List ℕ) → ((i : ℕ) → slice_get xs i ≡ slice_get ys i) → xs ≡ ys
same_bytes [] [] same = refl
same_bytes [] (y ∷ ys) same = absurd (none-some y (same 0))
same_bytes (x ∷ xs) [] same = absurd (none-some x (sym (same 0)))
same_bytes (x ∷ xs) (y ∷ ys) same = ap₂ (λ (z : ℕ) (zs : List ℕ). z ∷ zs) (same_Some x y (same 0)) (same_bytes xs ys (λ i. same (suc i)))

-- a part of n bytes, or of what the file has of them
length_of_part : (file : List ℕ) (at n : ℕ) → length (part file at n) ≤ n
unfolding part
length_of_part file at n = search (rules, places)

reaches : (file : List ℕ) (at n i : ℕ) → i < n → at + i < length file → i < length (part file at n)
unfolding part
reaches file at n i low within = search (rules, places)

falls_short : (file : List ℕ) (at n i : ℕ) → length file ≤ at + i → length (part file at n) ≤ i
unfolding part
falls_short file at n i past = search (rules, places)

slice_get-part : (file : List ℕ) (at n i : ℕ) → i < n → slice_get (part file at n) i ≡ slice_get file (at + i)
slice_get-part file at n i low =
    elim (cases_lt (at + i) (length file)) [
      | inl within ↦ slice_get-get_or (part file at n) i 0 (reaches file at n i low within) ∙ ap Some (slice_index-part file at n i low) ∙ sym (slice_get-get_or file (at + i) 0 within)
      | inr past ↦ slice_get_past (part file at n) i (falls_short file at n i past) ∙ sym (slice_get_past file (at + i) past)
    ]

-- two parts with the same at each place
pub same_part : (f g : List ℕ) (at n : ℕ) → ((i : ℕ) → i < n → slice_get f (at + i) ≡ slice_get g (at + i)) → part f at n ≡ part g at n
same_part f g at n same = same_bytes (part f at n) (part g at n) λ i.
    elim (cases_lt i n) [
      | inl low ↦ slice_get-part f at n i low ∙ same i low ∙ sym (slice_get-part g at n i low)
      | inr past ↦
          let mine = length_of_part f at n in
          let other = length_of_part g at n in
          slice_get_past (part f at n) i (omega arith) ∙ sym (slice_get_past (part g at n) i (omega arith))
    ]

-- a place of two equal parts
pub part_bytes : (f g : List ℕ) (at n i : ℕ) → part f at n ≡ part g at n → i < n → slice_get f (at + i) ≡ slice_get g (at + i)
part_bytes f g at n i same low =
    sym (slice_get-part f at n i low) ∙ ap (λ (b : List ℕ). slice_get b i) same ∙ slice_get-part g at n i low
