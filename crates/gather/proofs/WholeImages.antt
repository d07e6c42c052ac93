-- Images of lists of cells: bytes are an image exactly if they are read as one.
use Rattle.gather.proofs.Names.{◌≡◌, ℕ, zero, suc, ◌+◌, ◌≤◌, true, List, [], ◌∷◌, ◌++◌, length, Option, Some, None, refl, sym, ap, subst, ◌∙◌, arith, nat_le, flat_map, AllByRecursion, and_parts, leb-true, length-append, little_bytes, length-bytes_low_first, CellValue, cell_image, image, HasCellImage, HasImage, cell_front, cells_in, are_images}
use Rattle.std.proofs.Common.{drop}
use Rattle.std.proofs.lemmas.Bool.{le-leb}
use Rattle.std.proofs.lemmas.List.{take-append-drop}
use Rattle.byteorder.specs.Endian.{little_number}
use Rattle.byteorder.specs.Numbers.{little_number-reads_back, little_from-lt}
use Rattle.wire.proofs.Cuts.{IsBytes, IsBytes-drop, number_at_front, drop_front, drop_at}
use Rattle.gather.specs.Image.{IsImage}
use Rattle.gather.specs.ImageCells.{holds_after, is_image}
use Rattle.gather.proofs.CellImages.{front_is, image_is_read, images_are_read}

-- ---- An image is read as one.

are_read : (cells : List CellValue) → AllByRecursion HasCellImage cells → are_images (length cells) (flat_map cell_image cells) ≡ true
are_read [] has = refl
are_read (cell ∷ cells) has =
    let rest = flat_map cell_image cells in
    ap (λ found. holds_after found (λ size. are_images (length cells) (drop size (cell_image cell ++ rest)))) (image_is_read cell rest has.0)
    ∙ ap (are_images (length cells)) (drop_front (cell_image cell) rest)
    ∙ are_read cells has.1

pub image_length : (cells : List CellValue) → length (image cells) ≡ 2 + length (flat_map cell_image cells)
image_length cells = omega (arith, length-append (little_bytes 2 (length cells)) (flat_map cell_image cells), length-bytes_low_first 0 2 (length cells))

after_count : (cells : List CellValue) → drop 2 (image cells) ≡ flat_map cell_image cells
after_count cells = drop_at (little_bytes 2 (length cells)) (flat_map cell_image cells) 2 (length-bytes_low_first 0 2 (length cells))

own_cells : (cells : List CellValue) → HasImage cells → cells_in (drop 2 (image cells)) ≡ cells
own_cells cells has = ap cells_in (after_count cells) ∙ images_are_read cells has.each

own_image : (cells : List CellValue) → HasImage cells → is_image (image cells) ≡ true
own_image cells has =
    let small = has.count in
    let long : 2 ≤ length (image cells) = omega (arith, image_length cells) in
    let number : little_number 2 (image cells) ≡ length cells = little_number-reads_back 2 (length cells) (flat_map cell_image cells) small in
    rw (le-leb _ _ long) ((λ i. are_images (number i) (after_count cells i)) ∙ are_read cells has.each)

pub is_read : (cells : List CellValue) (bytes : List ℕ) → IsImage cells bytes → is_image bytes ≡ true
is_read cells bytes is = ap is_image is.bytes_are ∙ own_image cells is.has_image

pub its_cells : (cells : List CellValue) (bytes : List ℕ) → IsImage cells bytes → cells_in (drop 2 bytes) ≡ cells
its_cells cells bytes is = ap (λ l. cells_in (drop 2 l)) is.bytes_are ∙ own_cells cells is.has_image

-- ---- What is read as one is an image.

record AreThere (count : ℕ) (bytes : List ℕ) : Type 0 where
  cells : List CellValue
  as_many : length cells ≡ count
  each : AllByRecursion HasCellImage cells
  bytes_are : bytes ≡ flat_map cell_image cells

more_there : (count : ℕ) (bytes : List ℕ) (found : Option (CellValue × ℕ)) → IsBytes bytes → cell_front bytes ≡ found → holds_after found (λ size. are_images count (drop size bytes)) ≡ true →
    ((size : ℕ) → are_images count (drop size bytes) ≡ true → AreThere count (drop size bytes)) → AreThere (suc count) bytes
more_there count bytes None fits is holds others = absurd cc
more_there count bytes (Some front) fits is holds others =
    let first = front_is bytes front is in
    let rest = others front.1 holds in
    let many = rest.as_many in
    record {
      cells = front.0 ∷ rest.cells;
      as_many = omega (arith, many);
      each = (first.has fits, rest.each);
      bytes_are = sym (take-append-drop front.1 bytes) ∙ (λ i. first.image fits i ++ rest.bytes_are i);
    }

are_there : (count : ℕ) (bytes : List ℕ) → IsBytes bytes → are_images count bytes ≡ true → AreThere count bytes
are_there zero [] fits holds = record { cells = []; as_many = refl; each = tt; bytes_are = refl }
are_there zero (b ∷ bytes) fits holds = absurd cc
are_there (suc count) bytes fits holds = more_there count bytes (cell_front bytes) fits refl holds (λ size. are_there count (drop size bytes) (IsBytes-drop size bytes fits))

some_cells : (bytes : List ℕ) → IsBytes bytes → is_image bytes ≡ true → (cells : List CellValue) × IsImage cells bytes
some_cells bytes fits is =
    let p = and_parts (nat_le 2 (length bytes)) (are_images (little_number 2 bytes) (drop 2 bytes)) is in
    let there = are_there (little_number 2 bytes) (drop 2 bytes) (IsBytes-drop 2 bytes fits) p.1 in
    let many = there.as_many in
    let small = little_from-lt 0 2 bytes fits in (
      there.cells,
      record {
        has_image = record { count = omega (arith, many, small); each = there.each };
        bytes_are = number_at_front 2 bytes (leb-true _ _ p.0) fits ∙ (λ i. little_bytes 2 (sym many i) ++ there.bytes_are i);
      },
    )

pub is_there : (bytes : List ℕ) → IsBytes bytes → is_image bytes ≡ true → IsImage (cells_in (drop 2 bytes)) bytes
is_there bytes fits is =
    let some = some_cells bytes fits is in
    subst (λ cells. IsImage cells bytes) (sym (its_cells some.0 bytes some.1)) some.1

-- ---- What is written is an image.

pub is_written : (cells : List CellValue) (bytes : List ℕ) → HasImage cells → bytes ≡ image cells → (IsImage (cells_in (drop 2 bytes)) bytes) × (cells_in (drop 2 bytes) ≡ cells)
is_written cells bytes has is =
    let whole : IsImage cells bytes = record { has_image = has; bytes_are = is } in
    let same = its_cells cells bytes whole in
    (subst (λ l. IsImage l bytes) (sym same) whole, same)

-- ---- Laws.

pub one_list : (a b : List CellValue) (bytes : List ℕ) → IsImage a bytes → IsImage b bytes → a ≡ b
one_list a b bytes is_a is_b = sym (its_cells a bytes is_a) ∙ its_cells b bytes is_b

pub one_bytes : (a b : List CellValue) (x y : List ℕ) → IsImage a x → IsImage b y → a ≡ b → x ≡ y
one_bytes a b x y is_a is_b same = is_a.bytes_are ∙ ap image same ∙ sym is_b.bytes_are
