-- A field and the byte that ends it are cut off in one way.
use Rattle.first_copy.proofs.Names.{◌≡◌, ℕ, Bool, true, false, not, List, ◌∷◌, ◌++◌, refl, sym, subst, ◌∙◌, CellValue, Column, Are, is_inner}
use Rattle.std.specs.Prelude.{IsTrue}
use Rattle.first_copy.specs.RowFields.{IsFieldOf}
use Rattle.columns.specs.Word.{Ends}
use Rattle.columns.specs.Lines.{is_separator}
use Rattle.columns.proofs.Words.{one_cut}
use Rattle.columns.proofs.Types.{never}

no_inner : (t : Bool) → t ≡ true → not t ≡ false
no_inner true h = refl
no_inner false h = absurd (never h)

-- a text that is cut at its first separator, and begins with these bytes without one and then a separator
pub cut_at : (front rest field tail text : List ℕ) (end : ℕ) → IsTrue (is_separator end) → text ≡ front ++ rest → Are is_inner front → Ends is_inner rest → Are is_inner field →
    text ≡ field ++ end ∷ tail → (front ≡ field) × (rest ≡ end ∷ tail)
cut_at front rest field tail text end separates whole inner stops own is =
    one_cut is_inner front field rest (end ∷ tail) inner own stops (no_inner (is_separator end) separates) (sym whole ∙ is)

-- the field that was cut off is that of the cell
pub of_cut : (column : Column) (front field : List ℕ) (cell : CellValue) → front ≡ field → IsFieldOf column field cell → IsFieldOf column front cell
of_cut column front field cell same is = subst (λ (bytes : List ℕ). IsFieldOf column bytes cell) (sym same) is
