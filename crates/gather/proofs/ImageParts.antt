-- Images written and read cell by cell.
use Rattle.gather.proofs.Names.{◌≡◌, ℕ, zero, suc, ◌+◌, ◌-◌, ◌<◌, ◌≤◌, Some, List, [], ◌∷◌, ◌++◌, length, refl, sym, ap, subst, ◌∙◌, append_assoc, arith, flat_map, AllByRecursion, length-append, length-bytes_low_first, CellValue, number_cell, cell_value, cell_image, image, HasCellImage, cell_values, cell_front, are_images}
use Rattle.std.proofs.Common.{drop, set, ◌%◌, ◌/◌, add-one}
use Rattle.std.specs.Prelude.{slice_index_or}
use Rattle.std.proofs.lemmas.List.{append-nil}
use Rattle.binlog.specs.declared.cell.Cell.{Cell}
use Rattle.gather.specs.ImageCells.{holds_after}

abbrev pub AllHave : List CellValue → Type 0
AllHave cells = AllByRecursion HasCellImage cells

-- ---- Sizes.

pub number_size : (n width : ℕ) → 2 + width ≡ length (cell_image (number_cell n width))
number_size n width = omega (arith, length-bytes_low_first 0 width n)

-- ---- Cells of an iterator.

pub first_has : (cells rest : List CellValue) (cell : CellValue) → AllHave cells → cells ≡ cell ∷ rest → HasCellImage cell × AllHave rest
first_has cells rest cell has is = subst AllHave is has

pub first_more : (cells rest : List CellValue) (cell : CellValue) → HasCellImage cell → AllHave rest → cells ≡ cell ∷ rest → AllHave cells
first_more cells rest cell has others is = subst AllHave {x = cell ∷ rest} (sym {b = cell ∷ rest} is) (has, others)

pub first_size : (cells rest : List CellValue) (cell : CellValue) → cells ≡ cell ∷ rest → length (flat_map cell_image cells) ≡ length (cell_image cell) + length (flat_map cell_image rest)
first_size cells rest cell is = ap (λ l. length (flat_map cell_image l)) is ∙ length-append (cell_image cell) (flat_map cell_image rest)

-- what has been written, and then what is left, is all
pub next_written : (all now new : List ℕ) (cells rest : List CellValue) (cell : CellValue) → now ++ flat_map cell_image cells ≡ all → cells ≡ cell ∷ rest → new ≡ now ++ cell_image cell → new ++ flat_map cell_image rest ≡ all
next_written all now new cells rest cell before is written =
    ap (λ l. l ++ flat_map cell_image rest) written
    ∙ append_assoc now (cell_image cell) (flat_map cell_image rest)
    ∙ ap (λ l. now ++ flat_map cell_image l) (sym is)
    ∙ before

-- ---- The number of cells, which is written over two zeros once all cells are.

all_written : (old out : List ℕ) (cells left : List CellValue) → left ≡ [] → out ++ flat_map cell_image left ≡ old ++ 0 ∷ 0 ∷ flat_map cell_image cells → out ≡ old ++ 0 ∷ 0 ∷ flat_map cell_image cells
all_written old out cells left none is = sym (append-nil out) ∙ ap (λ l. out ++ flat_map cell_image l) (sym none) ∙ is

pub begun : (old out : List ℕ) (cells left : List CellValue) → left ≡ [] → out ++ flat_map cell_image left ≡ old ++ 0 ∷ 0 ∷ flat_map cell_image cells → length old + 2 ≤ length out
begun old out cells left none is = omega (arith, ap length (all_written old out cells left none is), length-append old (0 ∷ 0 ∷ flat_map cell_image cells))

two_set : (old rest : List ℕ) (a b : ℕ) → set (set (old ++ 0 ∷ 0 ∷ rest) (length old) a) (suc (length old)) b ≡ old ++ a ∷ b ∷ rest
two_set [] rest a b = refl
two_set (x ∷ old) rest a b = ap (λ l. x ∷ l) (two_set old rest a b)

pub counted : (old out : List ℕ) (cells left : List CellValue) (start count : ℕ) → start ≡ length old → left ≡ [] → out ++ flat_map cell_image left ≡ old ++ 0 ∷ 0 ∷ flat_map cell_image cells →
    count + length left ≡ length cells → set (set out start (count % 256)) (start + 1) (count / 256 % 256) ≡ old ++ image cells
counted old out cells left start count begins none is total =
    let all = all_written old out cells left none is in
    let same : count ≡ length cells = omega (arith, ap length none, total) in
    (λ i. set (set (all i) (begins i) (same i % 256)) (begins i + 1) (same i / 256 % 256))
    ∙ ap (λ k. set (set (old ++ 0 ∷ 0 ∷ flat_map cell_image cells) (length old) (length cells % 256)) k (length cells / 256 % 256)) (add-one (length old))
    ∙ two_set old (flat_map cell_image cells) (length cells % 256) (length cells / 256 % 256)

-- ---- Cells of a slice.

pub next_values : (i : ℕ) (cells : List Cell) (d : Cell) → i < length cells → drop i (cell_values cells) ≡ cell_value (slice_index_or cells i d) ∷ drop (i + 1) (cell_values cells)
next_values i [] d short = absurd (omega (arith, short))
next_values zero (x ∷ cells) d short = refl
next_values (suc i) (x ∷ cells) d short =
    let e : suc (i + 1) ≡ suc i + 1 = omega arith in
    next_values i cells d (omega (arith, short)) ∙ ap (λ k. cell_value (slice_index_or cells i d) ∷ drop k (cell_values (x ∷ cells))) e

pub all_after : (i : ℕ) (cells : List CellValue) → AllHave cells → AllHave (drop i cells)
all_after zero cells has = has
all_after (suc i) [] has = tt
all_after (suc i) (cell ∷ cells) has = all_after i cells has.1

-- ---- Images that are read one after another.

pub one_left : (left : List ℕ) (count counter size : ℕ) (cell : CellValue) → counter < count → cell_front left ≡ Some (cell, size) → are_images (count - counter) left ≡ are_images (count - (counter + 1)) (drop size left)
one_left left count counter size cell more is =
    let e : count - counter ≡ suc (count - (counter + 1)) = omega (arith, more) in
    ap (λ k. are_images k left) e ∙ ap (λ found. holds_after found (λ n. are_images (count - (counter + 1)) (drop n left))) is
