-- Private: one field of a line is read.
use Rattle.std.specs.Prelude.{◌≡◌, ℕ, List, [], ◌∷◌, ◌++◌, length}
use Rattle.columns.specs.declared.column.Column.{Column}
use Rattle.first_copy.specs.CellPlaces.{place_size, place_cell}
use Rattle.first_copy.specs.RowFields.{IsFieldOf}
use Rattle.first_copy.specs.declared.places.Place.{Place}

-- The cell of the field was put at the end of the bytes.
pub record IsPut (column : Column) (field : List ℕ) (place : Place) (old new : List ℕ) : Type 0 where
  pub more : List ℕ
  pub is_field : IsFieldOf column field (place_cell place more)
  pub size : place_size place ≡ length more
  pub bytes_are : new ≡ old ++ more

-- The field that the text begins with, and the byte that ends it, were read, and its cell was put at the end.
pub record IsFieldRead (column : Column) (end : ℕ) (text rest : List ℕ) (old_places new_places : List Place) (old new : List ℕ) : Type 0 where
  pub field : List ℕ
  pub place : Place
  pub put : IsPut column field place old new
  pub text_is : text ≡ field ++ end ∷ rest
  pub places_are : new_places ≡ old_places ++ place ∷ []
