-- Images of cells, and the cells at the front of bytes.
use Rattle.gather.proofs.Names.{◌≡◌, ℕ, zero, suc, ◌+◌, ◌-◌, ◌≤◌, true, false, ◌⊎◌, inl, inr, List, [], ◌∷◌, ◌++◌, length, take, Option, Some, None, refl, sym, ap, subst, ◌∙◌, append_assoc, arith, nat_le, flat_map, AllByRecursion, and_parts, leb-true, length-append, little_bytes, length-bytes_low_first, CellValue, number_cell, cell_image, HasCellImage, cell_front, cells_in}
use Rattle.std.proofs.Common.{◌==◌, Bool, ◌&&◌, drop}
use Rattle.std.specs.Prelude.{if◌then◌else◌}
use Rattle.std.proofs.Math.Seq.{take-add}
use Rattle.std.proofs.lemmas.Bool.{eqb-true, le-leb}
use Rattle.std.proofs.lemmas.List.{length-take, length-drop, take_at}
use Rattle.byteorder.specs.Endian.{little_number}
use Rattle.byteorder.specs.Numbers.{little_number-reads_back, little_from-lt}
use Rattle.binlog.specs.Cell.{null_cell, bytes_cell}
use Rattle.wire.proofs.Cuts.{IsBytes, IsBytes-rest, take_is_number, drop_at, drop_front}
use Rattle.gather.specs.ImageCells.{number_front, bytes_front, goes_on, cells_in_image}

-- ---- What is read is the image of a cell.

pub record IsFront (front : CellValue × ℕ) (bytes : List ℕ) : Type 0 where
  pub some : 1 ≤ front.1
  pub within : front.1 ≤ length bytes
  pub has : IsBytes bytes → HasCellImage front.0
  pub image : IsBytes bytes → take front.1 bytes ≡ cell_image front.0

choice : (b : Bool) (x y o : Option (CellValue × ℕ)) → (if b then x else y) ≡ o → ((b ≡ true) × (x ≡ o)) ⊎ ((b ≡ false) × (y ≡ o))
choice true x y o is = inl (refl, is)
choice false x y o is = inr (refl, is)

number_is : (kind : ℕ) (bytes : List ℕ) (front : CellValue × ℕ) → kind ≡ 1 → number_front bytes ≡ Some front → IsFront front (kind ∷ bytes)
number_is kind [] front first is = absurd cc
number_is kind (width ∷ bytes) front first is =
    elim (choice (nat_le 1 width && nat_le width 8 && nat_le width (length bytes)) (Some (number_cell (little_number width bytes) width, 2 + width)) None (Some front) is) as (λ _. IsFront front (kind ∷ width ∷ bytes)) [
      | inl p ↦ (
          let q = and_parts _ _ p.0 in
          let r = and_parts _ _ q.0 in
          let low = leb-true 1 width r.0 in
          let high = leb-true width 8 r.1 in
          let long = leb-true width (length bytes) q.1 in
          let same : (number_cell (little_number width bytes) width, 2 + width) ≡ front = cc in
          subst (λ f. IsFront f (kind ∷ width ∷ bytes)) same (record {
            some = omega arith;
            within = omega (arith, long);
            has = λ fits. (low, high, little_from-lt 0 width bytes (IsBytes-rest width bytes (IsBytes-rest kind (width ∷ bytes) fits)));
            image = λ fits. take-add 2 width (kind ∷ width ∷ bytes) ∙ (λ i. first i ∷ width ∷ take_is_number width bytes long (IsBytes-rest width bytes (IsBytes-rest kind (width ∷ bytes) fits)) i);
          }))
      | inr p ↦ absurd (let other = p.1 in cc)
    ]

bytes_is : (kind : ℕ) (bytes : List ℕ) (front : CellValue × ℕ) → kind ≡ 2 → bytes_front bytes ≡ Some front → IsFront front (kind ∷ bytes)
bytes_is kind bytes front first is =
    let size = little_number 4 bytes in
    let value = take size (drop 4 bytes) in
    elim (choice (nat_le 4 (length bytes) && nat_le size (length bytes - 4)) (Some (bytes_cell value, 5 + size)) None (Some front) is) as (λ _. IsFront front (kind ∷ bytes)) [
      | inl p ↦ (
          let q = and_parts _ _ p.0 in
          let long = leb-true 4 (length bytes) q.0 in
          let enough = leb-true size (length bytes - 4) q.1 in
          let value_length : length value ≡ size = omega (arith, enough, length-take size (drop 4 bytes), length-drop 4 bytes) in
          let same : (bytes_cell value, 5 + size) ≡ front = cc in
          subst (λ f. IsFront f (kind ∷ bytes)) same (record {
            some = omega arith;
            within = omega (arith, long, enough);
            has = λ fits. let small = little_from-lt 0 4 bytes (IsBytes-rest kind bytes fits) in omega (arith, small, value_length);
            image = λ fits. take-add 5 size (kind ∷ bytes) ∙ (λ i. first i ∷ (take_is_number 4 bytes long (IsBytes-rest kind bytes fits) ∙ ap (little_bytes 4) (sym value_length)) i ++ value);
          }))
      | inr p ↦ absurd (let other = p.1 in cc)
    ]

pub front_is : (bytes : List ℕ) (front : CellValue × ℕ) → cell_front bytes ≡ Some front → IsFront front bytes
front_is [] front is = absurd cc
front_is (kind ∷ bytes) front is =
    elim (choice (kind == 0) (Some (null_cell, 1)) (if kind == 1 then number_front bytes else if kind == 2 then bytes_front bytes else None) (Some front) is) as (λ _. IsFront front (kind ∷ bytes)) [
      | inl p ↦ (
          let first = eqb-true kind 0 p.0 in
          let one = p.1 in
          let same : (null_cell, 1) ≡ front = cc in
          subst (λ f. IsFront f (kind ∷ bytes)) same (record { some = omega arith; within = omega arith; has = λ fits. tt; image = λ fits. ap (λ k. k ∷ []) first }))
      | inr p ↦ elim (choice (kind == 1) (number_front bytes) (if kind == 2 then bytes_front bytes else None) (Some front) p.1) as (λ _. IsFront front (kind ∷ bytes)) [
        | inl q ↦ number_is kind bytes front (eqb-true kind 1 q.0) q.1
        | inr q ↦ elim (choice (kind == 2) (bytes_front bytes) None (Some front) q.1) as (λ _. IsFront front (kind ∷ bytes)) [
          | inl r ↦ bytes_is kind bytes front (eqb-true kind 2 r.0) r.1
          | inr r ↦ absurd (let other = r.1 in cc)
        ]
      ]
    ]

-- ---- The image of a cell is read, whatever follows it.

pub image_is_read : (cell : CellValue) (rest : List ℕ) → HasCellImage cell → cell_front (cell_image cell ++ rest) ≡ Some (cell, length (cell_image cell))
image_is_read null_cell rest has = refl
image_is_read (number_cell n width) rest has =
    let size = length-bytes_low_first 0 width n in
    let long : width ≤ length (little_bytes width n ++ rest) = omega (arith, size, length-append (little_bytes width n) rest) in
    let all : 2 + width ≡ length (1 ∷ width ∷ little_bytes width n) = omega (arith, size) in
    rw (le-leb 1 width has.0, le-leb width 8 has.1, le-leb _ _ long, little_number-reads_back width n rest has.2) (ap (λ (k : ℕ). Some (number_cell n width, k)) all)
image_is_read (bytes_cell value) rest has =
    let prefix = little_bytes 4 (length value) in
    let size : length prefix ≡ 4 = length-bytes_low_first 0 4 (length value) in
    let after = prefix ++ value ++ rest in
    let cut : after ≡ prefix ++ (value ++ rest) = append_assoc prefix value rest in
    let total : length after ≡ 4 + length value + length rest = ap length cut ∙ (omega (arith, size, length-append prefix (value ++ rest), length-append value rest)) in
    let number : little_number 4 after ≡ length value = ap (little_number 4) cut ∙ little_number-reads_back 4 (length value) (value ++ rest) has in
    let dropped : drop 4 after ≡ value ++ rest = ap (drop 4) cut ∙ drop_at prefix (value ++ rest) 4 size in
    let long : 4 ≤ length after = omega (arith, total) in
    let enough : length value ≤ length after - 4 = omega (arith, total) in
    let all : 5 + length value ≡ length (2 ∷ prefix ++ value) = omega (arith, size, length-append prefix value) in
    rw (le-leb _ _ long, number, le-leb _ _ enough, dropped, take_at value rest (length value) refl) (ap (λ (k : ℕ). Some (bytes_cell value, k)) all)

-- ---- Cells one after another.

-- any two amounts of fuel that are enough give the same
enough_after : (m n : ℕ) (bytes : List ℕ) (found : Option (CellValue × ℕ)) → cell_front bytes ≡ found → ((size : ℕ) → 1 ≤ size → cells_in_image m (drop size bytes) ≡ cells_in_image n (drop size bytes)) →
    goes_on found (λ size. cells_in_image m (drop size bytes)) ≡ goes_on found (λ size. cells_in_image n (drop size bytes))
enough_after m n bytes None is others = refl
enough_after m n bytes (Some front) is others = ap (λ l. front.0 ∷ l) (others front.1 (front_is bytes front is).some)

pub enough : (m n : ℕ) (bytes : List ℕ) → length bytes ≤ m → length bytes ≤ n → cells_in_image m bytes ≡ cells_in_image n bytes
enough zero zero bytes a b = refl
enough zero (suc n) [] a b = refl
enough zero (suc n) (x ∷ bytes) a b = absurd (omega (arith, a))
enough (suc m) zero [] a b = refl
enough (suc m) zero (x ∷ bytes) a b = absurd (omega (arith, b))
enough (suc m) (suc n) bytes a b = enough_after m n bytes (cell_front bytes) refl
    (λ size some. let shorter = length-drop size bytes in enough m n (drop size bytes) (omega (arith, a, some, shorter)) (omega (arith, b, some, shorter)))

by_length : (count : ℕ) (bytes : List ℕ) (front : CellValue × ℕ) → length bytes ≡ suc count → cell_front bytes ≡ Some front → cells_in_image (suc count) bytes ≡ front.0 ∷ cells_in (drop front.1 bytes)
by_length count bytes front long is =
    let f = front_is bytes front is in
    let some = f.some in
    rw is (ap (λ l. front.0 ∷ l) (enough count (length (drop front.1 bytes)) (drop front.1 bytes) (omega (arith, long, some, length-drop front.1 bytes)) (omega arith)))

-- the first cell, and the others
pub first_cell : (bytes : List ℕ) (front : CellValue × ℕ) → cell_front bytes ≡ Some front → cells_in bytes ≡ front.0 ∷ cells_in (drop front.1 bytes)
first_cell [] front is = absurd cc
first_cell (kind ∷ bytes) front is = by_length (length bytes) (kind ∷ bytes) front refl is

-- the images of cells have these cells
pub images_are_read : (cells : List CellValue) → AllByRecursion HasCellImage cells → cells_in (flat_map cell_image cells) ≡ cells
images_are_read [] has = refl
images_are_read (cell ∷ cells) has =
    let rest = flat_map cell_image cells in
    first_cell (cell_image cell ++ rest) (cell, length (cell_image cell)) (image_is_read cell rest has.0)
    ∙ ap (λ l. cell ∷ cells_in l) (drop_front (cell_image cell) rest)
    ∙ ap (λ l. cell ∷ l) (images_are_read cells has.1)
