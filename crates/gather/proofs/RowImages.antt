-- The cells of a row have an image.
use Rattle.gather.proofs.Names.{◌≡◌, ℕ, ◌<◌, ◌≤◌, ◌^◌, List, [], ◌∷◌, ◌++◌, length, ap, refl, subst, sym, arith, nat_le, AllByRecursion, and_parts, leb-true, length-append, little_bytes, CellValue, number_cell, HasCellImage, HasImage}
use Rattle.std.specs.Prelude.{true, ◌&&◌, IsTrue}
use Rattle.binlog.specs.Cell.{null_cell, bytes_cell}
use Rattle.binlog.specs.Column.{is_lawful}
use Rattle.binlog.specs.Shape.{prefix_of, shape, IsValue}
use Rattle.binlog.specs.Row.{AreValues, IsRow}
use Rattle.binlog.specs.declared.column.kind.ColumnKind.{ColumnKind}
use Rattle.binlog.specs.declared.column.kind.ColumnKind.TheVariants.{Tiny, Short, Int24, Long, LongLong, Varchar, Blob, Char, Enum, Set}
use Rattle.binlog.proofs.LawfulColumns.{AllLawful}

-- ---- One value.

numbered : (n w width : ℕ) → (1 ≤ width) × (width ≤ 8) → w ≡ width → n < 256 ^ width → HasCellImage (number_cell n w)
numbered n w width wide same fits = (omega (arith, same, wide.0), omega (arith, same, wide.1), subst (λ (k : ℕ). n < 256 ^ k) (sym same) fits)

within : (high width : ℕ) → high ≤ 8 → (nat_le 1 width && nat_le width high) ≡ true → (1 ≤ width) × (width ≤ 8)
within high width short lawful =
    let p = and_parts (nat_le 1 width) (nat_le width high) lawful in
    (leb-true _ _ p.0, omega (arith, short, leb-true _ _ p.1))

number_has_image : (t : ColumnKind) (n w : ℕ) (bytes : List ℕ) → IsTrue (is_lawful t) → IsValue (shape t) (number_cell n w) bytes → HasCellImage (number_cell n w)
number_has_image Tiny n w bytes lawful is = numbered n w 1 (omega arith, omega arith) is.0 is.1
number_has_image Short n w bytes lawful is = numbered n w 2 (omega arith, omega arith) is.0 is.1
number_has_image Int24 n w bytes lawful is = numbered n w 3 (omega arith, omega arith) is.0 is.1
number_has_image Long n w bytes lawful is = numbered n w 4 (omega arith, omega arith) is.0 is.1
number_has_image LongLong n w bytes lawful is = numbered n w 8 (omega arith, omega arith) is.0 is.1
number_has_image (Enum width) n w bytes lawful is = numbered n w width (within 2 width (omega arith) lawful) is.0 is.1
number_has_image (Set width) n w bytes lawful is = numbered n w width (within 8 width (omega arith) lawful) is.0 is.1
number_has_image _ n w bytes lawful is = absurd is

after : (size : ℕ) (value bytes : List ℕ) → bytes ≡ little_bytes size (length value) ++ value → length value ≤ length bytes
after size value bytes is = omega (arith, ap length is, length-append (little_bytes size (length value)) value)

bytes_within : (t : ColumnKind) (value bytes : List ℕ) → IsValue (shape t) (bytes_cell value) bytes → length value ≤ length bytes
bytes_within Tiny value bytes is = absurd is
bytes_within Short value bytes is = absurd is
bytes_within Int24 value bytes is = absurd is
bytes_within Long value bytes is = absurd is
bytes_within LongLong value bytes is = absurd is
bytes_within (Varchar maximum) value bytes is = after (prefix_of maximum) value bytes is.1
bytes_within (Blob prefix) value bytes is = after prefix value bytes is.1
bytes_within (Char maximum) value bytes is = after (prefix_of maximum) value bytes is.1
bytes_within (Enum width) value bytes is = absurd is
bytes_within (Set width) value bytes is = absurd is
bytes_within _ value bytes is = omega (arith, ap length is.0)

value_has_image : (t : ColumnKind) (cell : CellValue) (bytes : List ℕ) → IsTrue (is_lawful t) → IsValue (shape t) cell bytes → length bytes < 2 ^ 32 → HasCellImage cell
value_has_image t null_cell bytes lawful is short = tt
value_has_image t (number_cell n w) bytes lawful is short = number_has_image t n w bytes lawful is
value_has_image t (bytes_cell value) bytes lawful is short = omega (arith, bytes_within t value bytes is, short)

-- ---- All cells.

-- The cells are as many as the types, and each has an image.
record HaveImages (types : List ColumnKind) (cells : List CellValue) : Type 0 where
  as_many : length cells ≡ length types
  each : AllByRecursion HasCellImage cells

one_more : (t : ColumnKind) (types : List ColumnKind) (cell : CellValue) (cells : List CellValue) → HasCellImage cell → HaveImages types cells → HaveImages (t ∷ types) (cell ∷ cells)
one_more t types cell cells has rest = let same = rest.as_many in record { as_many = omega (arith, same); each = (has, rest.each) }

valued : (t : ColumnKind) (cell : CellValue) (values first others : List ℕ) → IsTrue (is_lawful t) → values ≡ first ++ others → IsValue (shape t) cell first → length values < 2 ^ 32 → HasCellImage cell
valued t cell values first others lawful cut is short =
    value_has_image t cell first lawful is (omega (arith, ap length cut, length-append first others, short))

shorter : (values first others : List ℕ) → values ≡ first ++ others → length values < 2 ^ 32 → length others < 2 ^ 32
shorter values first others cut short = omega (arith, ap length cut, length-append first others, short)

have_images : (types : List ColumnKind) (cells : List CellValue) (values : List ℕ) → AllLawful types → length values < 2 ^ 32 → AreValues types cells values → HaveImages types cells
have_images [] [] values lawful short are = record { as_many = refl; each = tt }
have_images [] (cell ∷ cells) values lawful short are = absurd are
have_images (t ∷ types) [] values lawful short are = absurd are
have_images (t ∷ types) (null_cell ∷ cells) values lawful short are = one_more t types null_cell cells tt (have_images types cells values lawful.1 short are)
have_images (t ∷ types) (number_cell n w ∷ cells) values lawful short are =
    one_more t types (number_cell n w) cells (valued t (number_cell n w) values are.0 are.1 lawful.0 are.2 are.3 short)
    (have_images types cells are.1 lawful.1 (shorter values are.0 are.1 are.2 short) are.4)
have_images (t ∷ types) (bytes_cell v ∷ cells) values lawful short are =
    one_more t types (bytes_cell v) cells (valued t (bytes_cell v) values are.0 are.1 lawful.0 are.2 are.3 short)
    (have_images types cells are.1 lawful.1 (shorter values are.0 are.1 are.2 short) are.4)

pub row_has_image : (types : List ColumnKind) (cells : List CellValue) (bytes : List ℕ) → AllByRecursion (λ kind. IsTrue (is_lawful kind)) types → length types ≤ 4096 → length bytes < 2 ^ 32 → IsRow types cells bytes → HasImage cells
row_has_image types cells bytes lawful few short is =
    let have = have_images types cells is.values lawful (omega (arith, ap length is.bytes_are, length-append is.bitmap is.values, short)) is.values_are in
    let same = have.as_many in
    record { count = omega (arith, same, few); each = have.each }
