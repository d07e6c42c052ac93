-- The items of a rows event, while its pairs become changes.
use Rattle.gather.proofs.Names.{◌≡◌, ℕ, ◌+◌, ◌<◌, ◌≤◌, ◌^◌, List, [], ◌∷◌, ◌++◌, length, map, append-nil, append_assoc, Option, Some, None, Result, Ok, Err, refl, ap, sym, ◌∙◌, subst, ⊎_elim, inl, inr, arith, AllByRecursion, length-append, RowsValue, TableDef, ChangeValue, change_of, IsRowsFault, table_of}
use Rattle.std.proofs.Common.{IsTrue}
use Rattle.std.specs.declared.alloc.Global.{Global}
use Rattle.std.specs.declared.rc.Rc.{Rc}
use Rattle.std.proofs.lemmas.Option.{none-some}
use Rattle.gtid.proofs.BytesSoFar.{length_map}
use Rattle.std.specs.Option.{unwrap_or}
use Rattle.binlog.specs.Column.{is_lawful}
use Rattle.binlog.specs.Row.{kinds}
use Rattle.binlog.specs.Rows.{PairValue, inserted, deleted, updated, IsPair, AreRows, AreItems}
use Rattle.binlog.specs.declared.column.kind.ColumnKind.{ColumnKind}
use Rattle.binlog.specs.declared.fault.EventFault.{EventFault}
use Rattle.binlog.specs.declared.fault.EventFaultKind.TheVariants.{Columns, Truncated}
use Rattle.binlog.specs.declared.body.rows_event.RowsKind.{RowsKind}
use Rattle.binlog.specs.declared.body.rows_event.RowsKind.TheVariants.{Write, Update, Delete}
use Rattle.binlog.proofs.LawfulColumns.{lawful_kinds}
use Rattle.gather.specs.Fault.{HasFirstPair, HasChange}
use Rattle.gather.specs.OpenTransaction.{HasImages, AppendsChanges}
use Rattle.gather.specs.declared.fault.GatherFault.TheVariants.{Event}
use Rattle.gather.proofs.RowImages.{row_has_image}

abbrev pub Item : Type 0
Item = Result PairValue EventFault

-- ---- The pairs in front of the first fault, and that fault.

abbrev oks : List Item → List PairValue
oks [] = []
oks (Ok pair ∷ items) = pair ∷ oks items
oks (Err fault ∷ items) = []

abbrev first_fault : List Item → Option EventFault
first_fault [] = None
first_fault (Ok pair ∷ items) = first_fault items
first_fault (Err fault ∷ items) = Some fault

oks_front : (pairs : List PairValue) (left : List Item) → oks (map Ok pairs ++ left) ≡ pairs ++ oks left
oks_front [] left = refl
oks_front (pair ∷ pairs) left = ap (λ x. pair ∷ x) (oks_front pairs left)

fault_front : (pairs : List PairValue) (left : List Item) → first_fault (map Ok pairs ++ left) ≡ first_fault left
fault_front [] left = refl
fault_front (pair ∷ pairs) left = fault_front pairs left

oks_all : (pairs : List PairValue) → oks (map Ok pairs) ≡ pairs
oks_all [] = refl
oks_all (pair ∷ pairs) = ap (λ x. pair ∷ x) (oks_all pairs)

fault_all : (pairs : List PairValue) → first_fault (map Ok pairs) ≡ None
fault_all [] = refl
fault_all (pair ∷ pairs) = fault_all pairs

-- ---- A walk over the items.

-- These items are left; the pairs before them have been appended as changes.
pub record Walked (kept : Rc TableDef Global) (r : RowsValue) (left : List Item) (before after : List ChangeValue) : Type 0 where
  pub columns : length kept.value.types.items ≡ r.columns
  pub pairs : List PairValue
  pub items : AreItems r (kinds kept.value.types.items) (map Ok pairs ++ left)
  pub after_is : (id : ℕ) → after ≡ before ++ map (change_of (table_of id kept)) pairs

pub walk_begins : (kept : Rc TableDef Global) (r : RowsValue) (items : List Item) (before : List ChangeValue) →
    length kept.value.types.items ≡ r.columns → AreItems r (kinds kept.value.types.items) items → Walked kept r items before before
walk_begins kept r items before columns are = record { columns = columns; pairs = []; items = are; after_is = λ id. sym (append-nil before) }

map_ok_more : (pairs : List PairValue) (pair : PairValue) (left : List Item) → map Ok pairs ++ Ok pair ∷ left ≡ map Ok (pairs ++ pair ∷ []) ++ left
map_ok_more [] pair left = refl
map_ok_more (x ∷ pairs) pair left = ap (λ l. Ok x ∷ l) (map_ok_more pairs pair left)

map_more : (f : PairValue → ChangeValue) (pairs : List PairValue) (pair : PairValue) → map f (pairs ++ pair ∷ []) ≡ map f pairs ++ f pair ∷ []
map_more f [] pair = refl
map_more f (x ∷ pairs) pair = ap (λ l. f x ∷ l) (map_more f pairs pair)

pub walk_more : (kept : Rc TableDef Global) (r : RowsValue) (pair : PairValue) (left : List Item) (before after new : List ChangeValue) →
    Walked kept r (Ok pair ∷ left) before after → ((id : ℕ) → new ≡ after ++ change_of (table_of id kept) pair ∷ []) → Walked kept r left before new
walk_more kept r pair left before after new w is = record {
  columns = w.columns;
  pairs = w.pairs ++ pair ∷ [];
  items = subst (AreItems r (kinds kept.value.types.items)) (map_ok_more w.pairs pair left) w.items;
  after_is = λ id.
      let f = change_of (table_of id kept) in
      is id ∙ ap (λ x. x ++ f pair ∷ []) (w.after_is id) ∙ append_assoc before (map f w.pairs) (f pair ∷ []) ∙ ap (λ x. before ++ x) (sym (map_more f w.pairs pair));
}

kinds_length : (kept : Rc TableDef Global) → length (kinds kept.value.types.items) ≡ length kept.value.types.items
kinds_length kept = length_map (λ t. t.kind) kept.value.types.items

pub walk_ends : (kept : Rc TableDef Global) (r : RowsValue) (before after : List ChangeValue) → Walked kept r [] before after → (id : ℕ) → AppendsChanges (table_of id kept) r before after
walk_ends kept r before after w id =
    ⊎_elim
    (λ whole.
    let same : w.pairs ≡ whole.0 = sym (append-nil w.pairs) ∙ sym (oks_front w.pairs []) ∙ ap oks whole.2 ∙ oks_all whole.0 in
    record { pairs = whole.0; read = record { columns = kinds_length kept ∙ w.columns; rows_are = whole.1 }; after_is = w.after_is id ∙ ap (λ ps. before ++ map (change_of (table_of id kept)) ps) same })
    (λ early.
    let none : None ≡ first_fault (map Ok early.0 ++ Err (record { kind = Truncated; at = r.bytes_at + early.1 }) ∷ []) = sym (fault_front w.pairs []) ∙ ap first_fault early.3 in
    absurd (none-some _ (none ∙ fault_front early.0 (Err (record { kind = Truncated; at = r.bytes_at + early.1 }) ∷ []))))
    w.items

pub walk_faults : (kept : Rc TableDef Global) (r : RowsValue) (fault : EventFault) (left : List Item) (before after : List ChangeValue) → Walked kept r (Err fault ∷ left) before after →
    (id : ℕ) → IsRowsFault (Some (Some (table_of id kept))) r (Event fault)
walk_faults kept r fault left before after w id =
    ⊎_elim
    (λ whole.
    let some : Some fault ≡ None = sym (fault_front w.pairs (Err fault ∷ left)) ∙ ap first_fault whole.2 ∙ fault_all whole.0 in
    absurd (none-some _ (sym some)))
    (λ early.
    let some : Some fault ≡ Some (record { kind = Truncated; at = r.bytes_at + early.1 }) =
    sym (fault_front w.pairs (Err fault ∷ left)) ∙ ap first_fault early.3 ∙ fault_front early.0 (Err (record { kind = Truncated; at = r.bytes_at + early.1 }) ∷ []) in
    inr (kinds_length kept ∙ w.columns, early.0, early.1, early.2, ap (λ o. Event (unwrap_or o fault)) some))
    w.items

-- ---- The rows of pairs have images.

abbrev ItemHasImages : Item → Type 0
ItemHasImages (Ok pair) = HasImages pair
ItemHasImages (Err fault) = Unit {0}

pair_images : (kind : RowsKind) (types : List ColumnKind) (pair : PairValue) (bytes : List ℕ) → AllByRecursion (λ k. IsTrue (is_lawful k)) types → length types ≤ 4096 → length bytes < 2 ^ 32 →
    IsPair kind types pair bytes → HasImages pair
pair_images Write types (inserted cells) bytes lawful few short is = row_has_image types cells bytes lawful few short is
pair_images Delete types (deleted cells) bytes lawful few short is = row_has_image types cells bytes lawful few short is
pair_images Update types (updated old new) bytes lawful few short (first, second, all, a, b) =
    let sum : length bytes ≡ length first + length second = ap length all ∙ length-append first second in
    (row_has_image types old first lawful few (omega (arith, sum, short)) a, row_has_image types new second lawful few (omega (arith, sum, short)) b)
pair_images Write types (deleted cells) bytes lawful few short is = absurd is
pair_images Write types (updated old new) bytes lawful few short is = absurd is
pair_images Delete types (inserted cells) bytes lawful few short is = absurd is
pair_images Delete types (updated old new) bytes lawful few short is = absurd is
pair_images Update types (inserted cells) bytes lawful few short is = absurd is
pair_images Update types (deleted cells) bytes lawful few short is = absurd is

rows_images : (kind : RowsKind) (types : List ColumnKind) (pairs : List PairValue) (more : List Item) (bytes : List ℕ) → AllByRecursion (λ k. IsTrue (is_lawful k)) types → length types ≤ 4096 →
    length bytes < 2 ^ 32 → AreRows kind types pairs bytes → AllByRecursion ItemHasImages more → AllByRecursion ItemHasImages (map Ok pairs ++ more)
rows_images kind types [] more bytes lawful few short are rest = rest
rows_images kind types (pair ∷ pairs) more bytes lawful few short (first, others, all, is, are) rest =
    let sum : length bytes ≡ length first + length others = ap length all ∙ length-append first others in
    (pair_images kind types pair first lawful few (omega (arith, sum, short)) is, rows_images kind types pairs more others lawful few (omega (arith, sum, short)) are rest)

at_front : (pairs : List PairValue) (pair : PairValue) (left : List Item) → AllByRecursion ItemHasImages (map Ok pairs ++ Ok pair ∷ left) → HasImages pair
at_front [] pair left (is, all) = is
at_front (x ∷ pairs) pair left (is, all) = at_front pairs pair left all

pub walk_images : (kept : Rc TableDef Global) (r : RowsValue) (pair : PairValue) (left : List Item) (before after : List ChangeValue) → Walked kept r (Ok pair ∷ left) before after →
    r.columns ≤ 4096 → length r.bytes < 2 ^ 32 → HasImages pair
walk_images kept r pair left before after w few short =
    let types = kinds kept.value.types.items in
    let lawful = lawful_kinds kept.value.types.items in
    let small : length types ≤ 4096 = omega (arith, kinds_length kept, w.columns, few) in
    let items = map Ok w.pairs ++ Ok pair ∷ left in
    let all : AllByRecursion ItemHasImages items =
    ⊎_elim
    (λ whole. subst (AllByRecursion ItemHasImages) (append-nil (map Ok whole.0) ∙ sym whole.2) (rows_images r.kind types whole.0 [] r.bytes lawful small short whole.1 tt))
    (λ early.
    let rows = early.2 in
    let sum : length r.bytes ≡ length rows.whole + length rows.rest = ap length rows.bytes_are ∙ length-append rows.whole rows.rest in
    subst (AllByRecursion ItemHasImages) (sym early.3)
    (rows_images r.kind types early.0 (Err (record { kind = Truncated; at = r.bytes_at + early.1 }) ∷ []) rows.whole lawful small (omega (arith, sum, short)) rows.pairs_are (tt, tt)))
    w.items in
    at_front w.pairs pair left all

-- ---- The first pair.

starts_ok : (pairs : List PairValue) (pair : PairValue) (left : List Item) → (first : PairValue) × (rest : List Item) × (map Ok pairs ++ Ok pair ∷ left ≡ Ok first ∷ rest)
starts_ok [] pair left = (pair, left, refl)
starts_ok (x ∷ pairs) pair left = (x, map Ok pairs ++ Ok pair ∷ left, refl)

whole_first : (kind : RowsKind) (types : List ColumnKind) (pairs : List PairValue) (bytes more : List ℕ) (first : PairValue) (rest : List Item) → AreRows kind types pairs bytes → Ok first ∷ rest ≡ map Ok pairs → HasFirstPair kind types (bytes ++ more)
whole_first kind types [] bytes more first rest are same = absurd cc
whole_first kind types (pair ∷ pairs) bytes more first rest (front, others, all, is, later) same =
    record { pair = pair; first = front; rest = others ++ more; bytes_are = ap (λ x. x ++ more) all ∙ append_assoc front others more; is_pair = is }

early_first : (kind : RowsKind) (types : List ColumnKind) (pairs : List PairValue) (bytes more : List ℕ) (first : PairValue) (rest : List Item) (fault : EventFault) → AreRows kind types pairs bytes →
    Ok first ∷ rest ≡ map Ok pairs ++ Err fault ∷ [] → HasFirstPair kind types (bytes ++ more)
early_first kind types [] bytes more first rest fault are same = absurd cc
early_first kind types (pair ∷ pairs) bytes more first rest fault (front, others, all, is, later) same =
    record { pair = pair; first = front; rest = others ++ more; bytes_are = ap (λ x. x ++ more) all ∙ append_assoc front others more; is_pair = is }

pub walk_first : (kept : Rc TableDef Global) (r : RowsValue) (pair : PairValue) (left : List Item) (before after : List ChangeValue) → Walked kept r (Ok pair ∷ left) before after →
    (id : ℕ) → HasChange (Some (Some (table_of id kept))) r
walk_first kept r pair left before after w id =
    let types = kinds kept.value.types.items in
    let s = starts_ok w.pairs pair left in
    let first : HasFirstPair r.kind types r.bytes = ⊎_elim
    (λ whole. subst (HasFirstPair r.kind types) (append-nil r.bytes) (whole_first r.kind types whole.0 r.bytes [] s.0 s.1 whole.1 (sym s.2 ∙ whole.2)))
    (λ early. subst (HasFirstPair r.kind types) (sym early.2.bytes_are) (early_first r.kind types early.0 early.2.whole early.2.rest s.0 s.1 _ early.2.pairs_are (sym s.2 ∙ early.3)))
    w.items in
    (kinds_length kept ∙ w.columns, first)

-- ---- The number of columns.

pub other_columns : (kept : Rc TableDef Global) (r : RowsValue) (fault : EventFault) → fault ≡ record { kind = Columns; at = r.columns_at } → (length kept.value.types.items ≡ r.columns → ⊥) →
    (id : ℕ) → IsRowsFault (Some (Some (table_of id kept))) r (Event fault)
other_columns kept r fault is ne id = inl ((λ same. ne (sym (kinds_length kept) ∙ same)), ap Event is)

pub ok_not_err : {T E : Type 0} (x : T) (y : E) → Ok x ≡ Err y → ⊥
ok_not_err x y is = cc
