-- The fields of a line are read one by one.
use Rattle.first_copy.proofs.Names.{◌≡◌, ℕ, suc, ◌+◌, ◌<◌, ◌≤◌, List, [], ◌∷◌, ◌++◌, length, refl, ap, sym, subst, ◌∙◌, arith, append_assoc, length-append, append-nil, inl, inr, nil_from_length, CellValue, Column, placed_cells, AreFields, RowFault}
use Rattle.std.proofs.Common.{zero, drop, length-drop, rules}
use Rattle.std.proofs.lemmas.List.{take-append-le}
use lib.Seq.{drop-append-le}
use Rattle.binlog.specs.Cell.{bytes_cell}
use Rattle.std.specs.Prelude.{IsTrue}
use Rattle.columns.specs.Lines.{is_separator}
use Rattle.first_copy.specs.CellPlaces.{place_size, place_cell, places_size}
use Rattle.first_copy.specs.FieldSteps.{IsFieldRead}
use Rattle.first_copy.specs.RowFields.{field_end, IsFieldOf, IsWrongField, IsWrongAmong}
use Rattle.first_copy.specs.declared.fault.RowFault.TheVariants.{Fields, Memory}
use Rattle.first_copy.specs.declared.places.Place.{Place}
use Rattle.first_copy.specs.declared.places.Place.TheVariants.{Null, Number, Bytes}

-- The text is fields of these columns, whatever their cells are.
pub record HasFields (columns : List Column) (text : List ℕ) : Type 0 where
  pub cells : List CellValue
  pub are : AreFields columns text cells

-- more bytes behind those of a cell do not change it
cell_kept : (place : Place) (bytes more : List ℕ) → place_size place ≤ length bytes → place_cell place (bytes ++ more) ≡ place_cell place bytes
cell_kept Null bytes more within = refl
cell_kept (Number value width) bytes more within = refl
cell_kept (Bytes size) bytes more within = ap bytes_cell (take-append-le size bytes more within)

pub size_pushed : (places : List Place) (place : Place) → places_size (places ++ place ∷ []) ≡ places_size places + place_size place
size_pushed [] place = omega arith
size_pushed (first ∷ places) place = omega (arith, size_pushed places place)

-- a cell more
pub cells_pushed : (places : List Place) (place : Place) (bytes more : List ℕ) → places_size places ≡ length bytes →
    placed_cells (places ++ place ∷ []) (bytes ++ more) ≡ placed_cells places bytes ++ place_cell place more ∷ []
cells_pushed [] place bytes more size = (λ i. placed_cells (place ∷ []) (nil_from_length bytes (sym size) i ++ more))
cells_pushed (first ∷ places) place bytes more size =
    let within : place_size first ≤ length bytes = omega (arith, size) in
    let rest = drop-append-le (place_size first) bytes more within in
    (λ i. cell_kept first bytes more within i ∷ placed_cells (places ++ place ∷ []) (rest i)) ∙
    (λ i. place_cell first bytes ∷ cells_pushed places place (drop (place_size first) bytes) more (omega (arith, size, length-drop (place_size first) bytes)) i)

-- What is known of the fields that are read, while these are left.
pub record IsReadingFields (columns : List Column) (text : List ℕ) (left : List Column) (rest : List ℕ) (places : List Place) (bytes : List ℕ) (number : ℕ) : Type 0 where
  pub size : places_size places ≡ length bytes
  pub number_is : number ≡ length places
  pub found : (cells : List CellValue) → AreFields left rest cells → AreFields columns text (placed_cells places bytes ++ cells)
  pub only : (cells : List CellValue) → AreFields columns text cells → HasFields left rest
  pub fault : (fault : RowFault) → IsWrongAmong (number + 1) left rest fault → IsWrongAmong 1 columns text fault

-- a separator ends the field of each column
pub end_separates : (columns : List Column) → IsTrue (is_separator (field_end columns))
end_separates [] = search rules
end_separates (_ ∷ _) = search rules

-- nothing is read yet
pub begin_fields : (columns : List Column) (text : List ℕ) (places : List Place) (bytes : List ℕ) (number : ℕ) → places ≡ [] → bytes ≡ [] → number ≡ length places →
    IsReadingFields columns text columns text places bytes number
begin_fields columns text places bytes number none empty number_is = record {
  size = (λ i. places_size (none i)) ∙ ap length (sym empty);
  number_is = number_is;
  found = λ cells are. subst (λ (ps : List Place). AreFields columns text (placed_cells ps bytes ++ cells)) (sym none) are;
  only = λ cells are. record { cells = cells; are = are };
  fault = λ fault wrong. subst (λ (n : ℕ). IsWrongAmong (n + 1) columns text fault) (number_is ∙ ap length none) wrong;
}

-- What is known of any field that the rest may begin with, the byte that ends it and what follows.
abbrev pub Ahead : Column → ℕ → List ℕ → (List ℕ → Type 0) → Type 0
Ahead column end rest Q = (field tail : List ℕ) (cell : CellValue) → IsTrue (is_separator end) → IsFieldOf column field cell → rest ≡ field ++ end ∷ tail → Q tail

-- it has a first field, whose end this is
ahead_of : (columns : List Column) (text : List ℕ) (left : List Column) (column : Column) (others : List Column) (rest : List ℕ) (places : List Place) (bytes : List ℕ) (number end : ℕ) (Q : List ℕ → Type 0) →
    left ≡ column ∷ others → end ≡ field_end others → IsReadingFields columns text left rest places bytes number → Ahead column end rest Q → (cells : List CellValue) → AreFields columns text cells →
    (tail : List ℕ) × (others_cells : List CellValue) × AreFields others tail others_cells × Q tail
ahead_of columns text left column others rest places bytes number end Q left_is ends known ahead cells are =
    let at : IsReadingFields columns text (column ∷ others) rest places bytes number = subst (λ (cs : List Column). IsReadingFields columns text cs rest places bytes number) left_is known in
    let first = (at.only cells are).are in
    (first.1, first.3, first.7, ahead first.0 first.1 first.2 (subst (λ (e : ℕ). IsTrue (is_separator e)) (sym ends) (end_separates others)) first.4 (first.5 ∙ (λ i. first.0 ++ sym ends i ∷ first.1)))

-- One field more is read.
pub next_field : (columns : List Column) (text : List ℕ) (left : List Column) (column : Column) (others : List Column) (rest next : List ℕ) (places new_places : List Place) (bytes new_bytes : List ℕ) (number new_number end : ℕ) →
    left ≡ column ∷ others → end ≡ field_end others → new_number ≡ length new_places →
    IsReadingFields columns text left rest places bytes number →
    IsFieldRead column end rest next places new_places bytes new_bytes →
    Ahead column end rest (λ tail. next ≡ tail) →
    IsReadingFields columns text others next new_places new_bytes new_number
next_field columns text left column others rest next places new_places bytes new_bytes number new_number end left_is ends counts known read same =
    let place = read.place in
    let cell = place_cell place read.put.more in
    let at : IsReadingFields columns text (column ∷ others) rest places bytes number = subst (λ (cs : List Column). IsReadingFields columns text cs rest places bytes number) left_is known in
    let held : placed_cells new_places new_bytes ≡ placed_cells places bytes ++ cell ∷ [] =
    (λ i. placed_cells (read.places_are i) (read.put.bytes_are i)) ∙ cells_pushed places place bytes read.put.more at.size in
    let here : rest ≡ read.field ++ field_end others ∷ next = read.text_is ∙ (λ i. read.field ++ ends i ∷ next) in
    let more : new_number ≡ number + 1 = omega (arith, counts, at.number_is, ap length read.places_are, length-append places (place ∷ [])) in
    record {
      size = (λ i. places_size (read.places_are i)) ∙ size_pushed places place ∙ omega (arith, at.size, read.put.size, ap length read.put.bytes_are, length-append bytes read.put.more);
      number_is = counts;
      found = λ cells are. subst (AreFields columns text) (sym (append_assoc (placed_cells places bytes) (cell ∷ []) cells) ∙ (λ i. sym held i ++ cells))
          (at.found (cell ∷ cells) (read.field, next, cell, cells, read.put.is_field, here, refl, are));
      only = λ cells are.
          let first = ahead_of columns text left column others rest places bytes number end (λ tail. next ≡ tail) left_is ends known same cells are in
          record { cells = first.1; are = subst (λ (tail : List ℕ). AreFields others tail first.1) (sym first.3) first.2 };
      fault = λ fault wrong. at.fault fault (inr (read.field, next, cell, read.put.is_field, here, subst (λ (n : ℕ). IsWrongAmong (n + 1) others next fault) more wrong));
    }

-- A field that is not read, though the line's fields are these, was refused for memory alone.
pub refused_field : (columns : List Column) (text : List ℕ) (left : List Column) (column : Column) (others : List Column) (rest : List ℕ) (places : List Place) (bytes : List ℕ) (number end : ℕ) (fault : RowFault) →
    left ≡ column ∷ others → end ≡ field_end others → IsReadingFields columns text left rest places bytes number →
    Ahead column end rest (λ _. fault ≡ Memory) → (cells : List CellValue) → AreFields columns text cells → fault ≡ Memory
refused_field columns text left column others rest places bytes number end fault left_is ends known only cells are =
    (ahead_of columns text left column others rest places bytes number end (λ _. fault ≡ Memory) left_is ends known only cells are).3

-- A field that is not read has its fault among all.
pub wrong_field : (columns : List Column) (text : List ℕ) (left : List Column) (column : Column) (others : List Column) (rest : List ℕ) (places : List Place) (bytes : List ℕ) (number end : ℕ) (fault : RowFault) →
    left ≡ column ∷ others → end ≡ field_end others → IsReadingFields columns text left rest places bytes number →
    IsWrongField (number + 1) column end rest fault → IsWrongAmong 1 columns text fault
wrong_field columns text left column others rest places bytes number end fault left_is ends known wrong =
    let at : IsReadingFields columns text (column ∷ others) rest places bytes number = subst (λ (cs : List Column). IsReadingFields columns text cs rest places bytes number) left_is known in
    at.fault fault (inl (subst (λ (e : ℕ). IsWrongField (number + 1) column e rest fault) ends wrong))

-- All fields are read.
pub all_fields : (columns : List Column) (text : List ℕ) (left : List Column) (rest : List ℕ) (places : List Place) (bytes : List ℕ) (number : ℕ) →
    left ≡ [] → IsReadingFields columns text left rest places bytes number → rest ≡ [] → AreFields columns text (placed_cells places bytes)
all_fields columns text left rest places bytes number none known end =
    let at : IsReadingFields columns text [] rest places bytes number = subst (λ (cs : List Column). IsReadingFields columns text cs rest places bytes number) none known in
    subst (AreFields columns text) (append-nil (placed_cells places bytes)) (at.found [] (end, refl))

-- More bytes follow: they are no row's.
pub more_follows : (columns : List Column) (text : List ℕ) (left : List Column) (rest : List ℕ) (places : List Place) (bytes : List ℕ) (number : ℕ) →
    left ≡ [] → IsReadingFields columns text left rest places bytes number → 0 < length rest → ((cells : List CellValue) → AreFields columns text cells → ⊥) × IsWrongAmong 1 columns text Fields
more_follows columns text left rest places bytes number none known some =
    let at : IsReadingFields columns text [] rest places bytes number = subst (λ (cs : List Column). IsReadingFields columns text cs rest places bytes number) none known in
    (λ cells are. omega (arith, some, ap length (at.only cells are).are.0), at.fault Fields (refl, some))

-- a tab stands in front of the fields of more columns
pub tab_before : (columns : List Column) (n : ℕ) → n < length columns → 9 ≡ field_end (drop n columns)
tab_before [] n within = absurd (omega (arith, within))
tab_before (column ∷ columns) zero within = refl
tab_before (column ∷ columns) (suc n) within = tab_before columns n (omega (arith, within))
