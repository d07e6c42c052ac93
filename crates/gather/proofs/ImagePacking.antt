-- Changes whose images stand one after another.
use Rattle.gather.proofs.Names.{inl, ◌≡◌, ◌+◌, ◌<◌, inr, ℕ, zero, suc, List, [], ◌∷◌, ◌++◌, length, take, refl, ap, sym, subst, ◌∙◌, append_assoc, arith, Result, Ok, Err, false, length-append, CellValue, TableDef, image, HasImage, ChangeValue}
use Rattle.std.proofs.Common.{drop, subst₂, OnOk}
use Rattle.std.proofs.Math.Seq.{take-append_seam, drop-append_seam}
use Rattle.std.proofs.Math.ListN.{drop_of_length-le}
use Rattle.std.proofs.lemmas.List.{take-append-le, drop-append-le, length-drop, take_all, append-nil}
use Rattle.std.specs.Result.{is_err}
use Rattle.gather.specs.Image.{IsImage}
use Rattle.gather.specs.Transaction.{insert, delete, update}
use Rattle.gather.specs.Changes.{cells_of_image, change_by_size, change_in, changes_in, IsAbsentOrImage, IsEntry, AreEntries, AddsEntry}
use Rattle.gather.specs.declared.changes.Entry.{Entry}
use Rattle.gather.proofs.WholeImages.{is_written}

-- ---- An entry whose images are at the front of bytes, with more after them.

module _ (e : Entry) (bytes more : List ℕ) (is : IsEntry e bytes) where
  before_stays : take e.before (bytes ++ more) ≡ take e.before bytes
  before_stays = take-append-le e.before bytes more (omega (arith, is.within))

  after_stays : take e.after (drop e.before (bytes ++ more)) ≡ take e.after (drop e.before bytes)
  after_stays =
      ap (take e.after) (drop-append-le e.before bytes more (omega (arith, is.within))) ∙ take-append-le e.after (drop e.before bytes) more (omega (arith, is.within, length-drop e.before bytes))

  entry_stays : IsEntry e (bytes ++ more)
  entry_stays = record {
    some = is.some;
    within = omega (arith, is.within, length-append bytes more);
    before = subst IsAbsentOrImage (sym before_stays) is.before;
    after = subst IsAbsentOrImage (sym after_stays) is.after;
  }

  change_stays : change_in e (bytes ++ more) ≡ change_in e bytes
  change_stays = λ i. change_by_size e.table.value e.before e.after (cells_of_image (before_stays i)) (cells_of_image (after_stays i))

-- one entry more, and its images
entries_push : (entries : List Entry) (bytes : List ℕ) (e : Entry) (images : List ℕ) → AreEntries entries bytes → IsEntry e images → e.before + e.after ≡ length images →
    AreEntries (entries ++ e ∷ []) (bytes ++ images) × (changes_in (entries ++ e ∷ []) (bytes ++ images) ≡ changes_in entries bytes ++ change_in e images ∷ [])
entries_push [] bytes e images none is size =
    subst (λ front. AreEntries (e ∷ []) (front ++ images) × (changes_in (e ∷ []) (front ++ images) ≡ change_in e images ∷ [])) (sym none)
    ((is, drop_of_length-le images (omega (arith, size))), refl)
entries_push (x ∷ entries) bytes e images (is_x, are) is size =
    let n = x.before + x.after in
    let split : drop n (bytes ++ images) ≡ drop n bytes ++ images = drop-append-le n bytes images is_x.within in
    let later = entries_push entries (drop n bytes) e images are is size in
    let rest : changes_in (entries ++ e ∷ []) (drop n (bytes ++ images)) ≡ changes_in entries (drop n bytes) ++ change_in e images ∷ [] = ap (changes_in (entries ++ e ∷ [])) split ∙ later.1 in
    ((entry_stays x bytes images is_x, subst (AreEntries (entries ++ e ∷ [])) (sym split) later.0), λ i. change_stays x bytes images is_x i ∷ rest i)

-- ---- An entry of two images.

-- An image is that of the cells that its bytes have, and it has some bytes.
pub record OwnImage (cells : List CellValue) (bytes : List ℕ) : Type 0 where
  pub absent_or : IsAbsentOrImage bytes
  pub cells_are : cells_of_image bytes ≡ cells
  pub some : 0 < length bytes

pub own_image : (cells : List CellValue) (bytes : List ℕ) → IsImage cells bytes → OwnImage cells bytes
own_image cells bytes is =
    let w = is_written cells bytes is.has_image is.bytes_are in
    record { absent_or = inr w.0; cells_are = w.1; some = omega (arith, ap length is.bytes_are) }

module _ (e : Entry) (before after : List ℕ) (b : e.before ≡ length before) (a : e.after ≡ length after) where
  first : take e.before (before ++ after) ≡ before
  first = ap (λ n. take n (before ++ after)) b ∙ take-append_seam before after

  second : take e.after (drop e.before (before ++ after)) ≡ after
  second = ap (λ n. take e.after (drop n (before ++ after))) b ∙ ap (take e.after) (drop-append_seam before after) ∙ take_all e.after after (omega (arith, a))

  new_entry : IsAbsentOrImage before → IsAbsentOrImage after → 0 < length before + length after → IsEntry e (before ++ after)
  new_entry is_before is_after some = record {
    some = omega (arith, some, a, b);
    within = omega (arith, a, b, length-append before after);
    before = subst IsAbsentOrImage (sym first) is_before;
    after = subst IsAbsentOrImage (sym second) is_after;
  }

  new_size : e.before + e.after ≡ length (before ++ after)
  new_size = omega (arith, a, b, length-append before after)

  new_change : change_in e (before ++ after) ≡ change_by_size e.table.value (length before) (length after) (cells_of_image before) (cells_of_image after)
  new_change = λ i. change_by_size e.table.value (b i) (a i) (cells_of_image (first i)) (cells_of_image (second i))

-- the entry and its images are appended
pub packs : (entries : List Entry) (bytes : List ℕ) (e : Entry) (before after : List ℕ) {new_entries : List Entry} {mid new : List ℕ} → e.before ≡ length before → e.after ≡ length after →
    IsAbsentOrImage before → IsAbsentOrImage after → 0 < length before + length after → AreEntries entries bytes → new_entries ≡ entries ++ e ∷ [] → mid ≡ bytes ++ before → new ≡ mid ++ after →
    AreEntries new_entries new × (changes_in new_entries new ≡ changes_in entries bytes ++ change_by_size e.table.value (length before) (length after) (cells_of_image before) (cells_of_image after) ∷ [])
packs entries bytes e before after b a is_before is_after some are entries_are first second =
    let pushed = entries_push entries bytes e (before ++ after) are (new_entry e before after b a is_before is_after some) (new_size e before after b a) in
    let images = second ∙ ap (λ l. l ++ after) first ∙ append_assoc bytes before after in (
      subst₂ AreEntries (sym entries_are) (sym images) pushed.0,
      (λ i. changes_in (entries_are i) (images i)) ∙ pushed.1 ∙ ap (λ change. changes_in entries bytes ++ change ∷ []) (new_change e before after b a),
    )

-- ---- Kinds.

pub inserts : (table : TableDef) (cells : List CellValue) (bytes : List ℕ) → IsImage cells bytes →
    change_by_size table 0 (length bytes) [] (cells_of_image bytes) ≡ insert table.schema.items table.table.items cells
inserts table cells bytes is = ap (insert table.schema.items table.table.items) (own_image cells bytes is).cells_are

deletes_by : (table : TableDef) (size : ℕ) (before after : List CellValue) → 0 < size → change_by_size table size 0 before after ≡ delete table.schema.items table.table.items before
deletes_by table zero before after some = absurd (omega (arith, some))
deletes_by table (suc size) before after some = refl

pub deletes : (table : TableDef) (cells : List CellValue) (bytes : List ℕ) (after : List CellValue) → IsImage cells bytes →
    change_by_size table (length bytes) 0 (cells_of_image bytes) after ≡ delete table.schema.items table.table.items cells
deletes table cells bytes after is =
    let own = own_image cells bytes is in
    deletes_by table (length bytes) (cells_of_image bytes) after own.some ∙ ap (delete table.schema.items table.table.items) own.cells_are

updates_by : (table : TableDef) (size after_size : ℕ) (before after : List CellValue) → 0 < size → 0 < after_size →
    change_by_size table size after_size before after ≡ update table.schema.items table.table.items before after
updates_by table zero after_size before after some also = absurd (omega (arith, some))
updates_by table (suc size) zero before after some also = absurd (omega (arith, also))
updates_by table (suc size) (suc after_size) before after some also = refl

pub updates : (table : TableDef) (a b : List CellValue) (before after : List ℕ) → IsImage a before → IsImage b after →
    change_by_size table (length before) (length after) (cells_of_image before) (cells_of_image after) ≡ update table.schema.items table.table.items a b
updates table a b before after is_a is_b =
    let x = own_image a before is_a in
    let y = own_image b after is_b in
    updates_by table (length before) (length after) (cells_of_image before) (cells_of_image after) x.some y.some
    ∙ (λ i. update table.schema.items table.table.items (x.cells_are i) (y.cells_are i))

-- ---- A pair of rows, whose images are appended, and then its entry.

module _ (entries : List Entry) (bytes : List ℕ) (are : AreEntries entries bytes) (table : TableDef) where
  -- The change is appended.
  abbrev pub Pushed : ChangeValue → List Entry → List ℕ → Type 0
  Pushed change new_entries new = AreEntries new_entries new × (changes_in new_entries new ≡ changes_in entries bytes ++ change ∷ [])

  -- with the change of the entry's own copy of the table
  as_change : (change own : ChangeValue) (new_entries : List Entry) (new : List ℕ) → own ≡ change → Pushed own new_entries new → Pushed change new_entries new
  as_change change own new_entries new is pushed = (pushed.0, pushed.1 ∙ ap (λ c. changes_in entries bytes ++ c ∷ []) is)

  pub pushes_insert : (size : ℕ) (cells : List CellValue) {new_entries : List Entry} {new : List ℕ} → HasImage cells → size ≡ length (image cells) → new ≡ bytes ++ image cells → AddsEntry table 0 size entries new_entries →
      Pushed (insert table.schema.items table.table.items cells) new_entries new
  pushes_insert size cells has size_is new_is a =
      let is : IsImage cells (image cells) = record { has_image = has; bytes_are = refl } in
      let own = own_image cells (image cells) is in
      as_change _ _ _ _ (ap (λ t. change_by_size t 0 (length (image cells)) [] (cells_of_image (image cells))) a.table_is ∙ inserts table cells (image cells) is)
      (packs entries bytes a.entry [] (image cells) a.before_is (a.after_is ∙ size_is) (inl refl) own.absent_or (omega (arith, own.some)) are a.new_is (sym (append-nil bytes)) new_is)

  pub pushes_delete : (size : ℕ) (cells : List CellValue) {new_entries : List Entry} {new : List ℕ} → HasImage cells → size ≡ length (image cells) → new ≡ bytes ++ image cells → AddsEntry table size 0 entries new_entries →
      Pushed (delete table.schema.items table.table.items cells) new_entries new
  pushes_delete size cells has size_is new_is a =
      let is : IsImage cells (image cells) = record { has_image = has; bytes_are = refl } in
      let own = own_image cells (image cells) is in
      as_change _ _ _ _ (ap (λ t. change_by_size t (length (image cells)) 0 (cells_of_image (image cells)) []) a.table_is ∙ deletes table cells (image cells) [] is)
      (packs entries bytes a.entry (image cells) [] (a.before_is ∙ size_is) a.after_is own.absent_or (inl refl) (omega (arith, own.some)) are a.new_is new_is (sym (append-nil _)))

  pub pushes_update : (size after_size : ℕ) (before after : List CellValue) {new_entries : List Entry} {mid new : List ℕ} → HasImage before → HasImage after → size ≡ length (image before) → after_size ≡ length (image after) →
      mid ≡ bytes ++ image before → new ≡ mid ++ image after → AddsEntry table size after_size entries new_entries → Pushed (update table.schema.items table.table.items before after) new_entries new
  pushes_update size after_size before after has also size_is after_size_is mid_is new_is a =
      let is : IsImage before (image before) = record { has_image = has; bytes_are = refl } in
      let is_after : IsImage after (image after) = record { has_image = also; bytes_are = refl } in
      let own = own_image before (image before) is in
      let own_after = own_image after (image after) is_after in
      as_change _ _ _ _
      (ap (λ t. change_by_size t (length (image before)) (length (image after)) (cells_of_image (image before)) (cells_of_image (image after))) a.table_is ∙ updates table before after (image before) (image after) is is_after)
      (packs entries bytes a.entry (image before) (image after) (a.before_is ∙ size_is) (a.after_is ∙ after_size_is) own.absent_or own_after.absent_or (omega (arith, own.some)) are a.new_is mid_is new_is)

pub not_err : {T E P : Type 0} (r : Result T E) → is_err r ≡ false → OnOk r P → P
not_err (Ok x) is p = p
not_err (Err e) is p = absurd cc

-- ---- How many.

pub count_is : (entries : List Entry) (bytes : List ℕ) → length entries ≡ length (changes_in entries bytes)
count_is [] bytes = refl
count_is (e ∷ entries) bytes = ap suc (count_is entries (drop (e.before + e.after) bytes))
