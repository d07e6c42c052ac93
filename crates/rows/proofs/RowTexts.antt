-- Texts that are written piece by piece.
use Rattle.std.proofs.Common.{◌≡◌, ℕ, zero, suc, ◌+◌, ◌<◌, Bool, true, false, List, [], ◌∷◌, ◌++◌, Option, length, take, slice_index_or, refl, ap, sym, subst, ◌∙◌, append_assoc, append-nil, arith}
use Rattle.std.specs.Prelude.{flat_map}
use Rattle.std.specs.Io.KnownBytes.{Appends}
use Rattle.std.proofs.KnownBytes.{Appends-nil, Appends-trans}
use Rattle.binlog.specs.Cell.{CellValue}
use Rattle.rows.specs.RowText.{cell_text, after_comma, cells_text}

-- the texts of one byte more
next_flat : (f : ℕ → List ℕ) (i : ℕ) (bytes : List ℕ) (d : ℕ) → i < length bytes → flat_map f (take (i + 1) bytes) ≡ flat_map f (take i bytes) ++ f (slice_index_or bytes i d)
next_flat f i [] d short = absurd (omega (arith, short))
next_flat f zero (x ∷ bytes) d short = append-nil (f x)
next_flat f (suc i) (x ∷ bytes) d short =
    let e : suc i + 1 ≡ suc (i + 1) = omega arith in
    ap (λ k. flat_map f (take k (x ∷ bytes))) e ∙ ap (λ l. f x ++ l) (next_flat f i bytes d (omega (arith, short))) ∙ sym (append_assoc (f x) (flat_map f (take i bytes)) (f (slice_index_or bytes i d)))

pub more_written : (a b c : Option (List ℕ)) (f : ℕ → List ℕ) (i : ℕ) (bytes : List ℕ) (d : ℕ) → i < length bytes → Appends a b (flat_map f (take i bytes)) → Appends b c (f (slice_index_or bytes i d)) → Appends a c (flat_map f (take (i + 1) bytes))
more_written a b c f i bytes d short done more =
    subst (λ l. Appends a c l) (sym (next_flat f i bytes d short)) (Appends-trans a b c (flat_map f (take i bytes)) (f (slice_index_or bytes i d)) done more)

-- what is still to be written of cells, of which some were written or none
abbrev pub left_text : Bool → List CellValue → List ℕ
left_text true cells = cells_text cells
left_text false cells = flat_map (λ c. after_comma false (cell_text c)) cells

pub next_left : (first : Bool) (cell : CellValue) (cells : List CellValue) → left_text first (cell ∷ cells) ≡ after_comma first (cell_text cell) ++ left_text false cells
next_left true cell cells = refl
next_left false cell cells = refl

none_left : (first : Bool) → left_text first [] ≡ []
none_left true = refl
none_left false = refl
