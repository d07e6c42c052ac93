-- Sets with GTIDs of copies alone, and the tables of a copy.
use Rattle.replica.proofs.Names.{◌≡◌, ◌⊎◌, inl, inr, ℕ, Vec, zero, suc, ◌+◌, ◌<◌, Bool, true, false, List, [], ◌∷◌, ◌++◌, ◌≤◌, Result, Ok, Err, length, take, arith, refl, ap, sym, subst, ◌∙◌, AllByRecursion, true≢false, false≢true, or_cases, or_left, or_right, bytes_eq-Decides, Id, Ids, Name, Names, admits, name_list, Content, row_of, most, Entry, ListError, CellValue}
use Rattle.std.proofs.Common.{◌==◌, slice_index_or}
use Rattle.std.specs.List.{list_all, list_any, FoldsTo}
use Rattle.std.specs.FinSet as set
use Rattle.std.proofs.lemmas.Bool.{and_parts, and_cases, and_from, le-leb, lt-ltb, ne_eqb}
use Rattle.std.proofs.lemmas.List.{length-map, append-nil}
use Rattle.gtid.specs.declared.span.Span.{Span}
use Rattle.gtid.specs.Span.{is_in, IsLeast, IsLeastList}
use Rattle.gtid.proofs.OneLeastList.{some_first, tail_least}
use Rattle.binlog.specs.Filter.{name_cmp, is_named_in}
use Rattle.binlog.proofs.TableSets.{itself, listed, follow_by}
use Rattle.store.specs.Listing.{Accepts, HasAccepted, Hands}
use Rattle.store.specs.declared.listing.ListError.TheVariants.{Visitor as VisitorError}
use Rattle.replica.specs.declared.change.loading.NoRows.{NoRows}
use Rattle.replica.specs.declared.change.loading.FoundRow.{FoundRow}
use Rattle.replica.specs.declared.change.loading.FoundRow.TheVariants.{Row}
use Rattle.replica.specs.declared.change.loading.QualifiedName.{QualifiedName}
use Rattle.replica.specs.Loading.{IsLookedAt}
use Rattle.replica.specs.Marks.{is_of_copy}
use Rattle.replica.specs.Copies.{AreOfCopies, HaveNoRows}
use Rattle.replica.proofs.CopyMarks.{of_sources}

-- ---- sources

pub all_of_copies : (ids : Ids) (spans : List Span) → IsLeastList spans ids → list_all (λ (s : Span). is_of_copy s.source) spans ≡ true → AreOfCopies ids
all_of_copies ids spans least all = λ q there. of_sources is_of_copy q spans all (sym (least.covers q) ∙ there)

some_other : (spans : List Span) → IsLeast spans → list_all (λ (s : Span). is_of_copy s.source) spans ≡ false → (q : Id) × (list_any (is_in q) spans ≡ true) × (is_of_copy q.0 ≡ false)
some_other [] least some = absurd (true≢false some)
some_other (s ∷ spans) least some = elim (and_cases (is_of_copy s.source) (list_all (λ (t : Span). is_of_copy t.source) spans) some) [
  | inl here ↦ (
    (s.source, s.lo),
    or_left _ _ (and_from _ _ (itself s.source) (and_from _ _ (le-leb s.lo s.lo (omega arith)) (lt-ltb s.lo s.hi (some_first s spans least)))),
    here,
  )
  | inr later ↦ let r = some_other spans (tail_least s spans least) later in (r.0, or_right _ _ r.1, r.2)
]

pub not_of_copies : (ids : Ids) (spans : List Span) → IsLeastList spans ids → list_all (λ (s : Span). is_of_copy s.source) spans ≡ false → AreOfCopies ids → ⊥
not_of_copies ids spans least some all = let o = some_other spans least.least some in false≢true (sym o.2 ∙ all o.0 (least.covers o.0 ∙ o.1))

-- ---- names

-- what is said of each of the names is said of one that is among them
pub each_named : (P : Name → Type 0) (names : List Name) → AllByRecursion P names → (q : Name) → is_named_in q names ≡ true → P q
each_named P [] all q h = absurd (false≢true h)
each_named P (n ∷ names) all q h = elim (or_cases _ (is_named_in q names) h) [
  | inl this ↦ let parts = and_parts _ _ this in
      let same : n ≡ q = λ i. ((bytes_eq-Decides n.0 q.0).0 parts.0 i, (bytes_eq-Decides n.1 q.1).0 parts.1 i) in subst P same all.0
  | inr more ↦ each_named P names all.1 q more
]

module _ {A : Type 0} (P : Name → Type 0) where
  pub one_more : (pairs : List (Vec ℕ A × Vec ℕ A)) (k : ℕ) (x : Vec ℕ A × Vec ℕ A) → k < length pairs → x ≡ slice_index_or pairs k x → AllByRecursion P (name_list (take k pairs))
      → P (x.0.items, x.1.items) → AllByRecursion P (name_list (take (suc k) pairs))
  one_more [] k x short at before this = absurd (omega (arith, short))
  one_more (p ∷ pairs) zero x short at before this = (subst (λ (y : Vec ℕ A × Vec ℕ A). P (y.0.items, y.1.items)) at this, tt)
  one_more (p ∷ pairs) (suc k) x short at before this = (before.0, one_more pairs k x (omega (arith, short)) at before.1 this)

-- a name of the list is in its set
pub in_set : (names : List Name) (tables : Names) → set.from_list {R = name_cmp} names ≡ tables → (q : Name) → is_named_in q names ≡ set.contains tables q
in_set names tables same q = sym (listed names q) ∙ ap (λ s. set.contains s q) same

not_none : (n : ℕ) → (suc n == 0) ≡ false
not_none n = ne_eqb (suc n) 0 (λ z. omega (arith, z))

-- whether a table is one of the names, where the list of names is empty or not
pub one_of : {A : Type 0} (pairs : List (Vec ℕ A × Vec ℕ A)) (tables : Names) → set.from_list {R = name_cmp} (name_list pairs) ≡ tables → (schema table : List ℕ) (empty : Bool) → empty ≡ (length pairs == 0)
    → (empty ≡ true → false ≡ set.contains tables (schema, table)) × (empty ≡ false → admits tables schema table ≡ set.contains tables (schema, table))
one_of [] tables same schema table empty is = (
  (λ _. in_set [] tables same (schema, table)),
  (λ some. absurd (false≢true (sym some ∙ is))),
)
one_of (p ∷ pairs) tables same schema table empty is = (
  (λ none. absurd (false≢true (sym (not_none (length pairs)) ∙ sym is ∙ none))),
  (λ some. ap (λ s. admits s schema table) (sym same) ∙ (follow_by (length (p ∷ pairs)) (name_list (p ∷ pairs)) schema table empty is (sym (length-map (p ∷ pairs) _))).1 some ∙ in_set (name_list (p ∷ pairs)) tables same (schema, table)),
)

named_in : {A : Type 0} (pairs : List (Vec ℕ A × Vec ℕ A)) (k : ℕ) (x : Vec ℕ A × Vec ℕ A) → k < length pairs → x ≡ slice_index_or pairs k x → is_named_in (x.0.items, x.1.items) (name_list pairs) ≡ true
named_in [] k x short at = absurd (omega (arith, short))
named_in {A = A} (p ∷ pairs) zero x short at =
    subst (λ (y : Vec ℕ A × Vec ℕ A). is_named_in (y.0.items, y.1.items) (name_list (p ∷ pairs)) ≡ true) (sym at) (or_left _ _ (and_from _ _ (itself p.0.items) (itself p.1.items)))
named_in (p ∷ pairs) (suc k) x short at = or_right _ _ (named_in pairs k x (omega (arith, short)) at)

-- a name at its place in the list
pub named_at : {A : Type 0} (pairs : List (Vec ℕ A × Vec ℕ A)) (tables : Names) → set.from_list {R = name_cmp} (name_list pairs) ≡ tables → (k : ℕ) (x : Vec ℕ A × Vec ℕ A) → k < length pairs → x ≡ slice_index_or pairs k x
    → set.contains tables (x.0.items, x.1.items) ≡ true
named_at pairs tables same k x short at = sym (in_set (name_list pairs) tables same (x.0.items, x.1.items)) ∙ named_in pairs k x short at

pub one_on : (n : ℕ) → suc n ≡ n + 1
one_on n = omega arith

-- ---- rows

zero_or : (n : ℕ) → (n ≡ 0) ⊎ (1 ≤ n)
zero_or zero = inl refl
zero_or (suc n) = inr (omega arith)

all_at : {X : Type 0} (P : X → Type 0) (before after : List X) (x : X) → AllByRecursion P (before ++ x ∷ after) → P x
all_at P [] after x all = all.0
all_at P (b ∷ before) after x all = all_at P before after x all.1

module _ {V E : Type 0} (gives : V → Entry → Result (Unit {0}) E → V → Type 0) (tables : V → Names)
    (looks : (v w : V) (e : Entry) → gives v e (Ok tt) w → (w ≡ v) × (set.contains (tables v) (e.0.schema, e.0.table) ≡ false)) where
  all_apart : (v w : V) (entries : List Entry) → FoldsTo (Accepts gives) v entries w → (w ≡ v) × AllByRecursion (λ (e : Entry). set.contains (tables v) (e.0.schema, e.0.table) ≡ false) entries
  all_apart v w [] folds = (sym folds, tt)
  all_apart v w (e ∷ entries) (j, first, rest) =
      let at = looks v j e first in
      let more = all_apart j w entries rest in
      (more.0 ∙ at.0, (at.1, subst (λ u. AllByRecursion (λ (x : Entry). set.contains (tables u) (x.0.schema, x.0.table) ≡ false) entries) at.0 more.1))

  -- all rows were looked at, and none is of the tables
  pub no_rows : (content : Content) (v w : V) → HasAccepted gives content.rows v w [] → HaveNoRows (tables v) content
  no_rows content v w a schema table cells of =
      elim (zero_or (content.rows (row_of schema table cells))) [
        | inl none ↦ none
        | inr some ↦ let at = a.are.all (row_of schema table cells) some in
            absurd (false≢true (sym (all_at (λ (e : Entry). set.contains (tables v) (e.0.schema, e.0.table) ≡ false) at.0 at.1 (row_of schema table cells, content.rows (row_of schema table cells))
            (subst (AllByRecursion (λ (e : Entry). set.contains (tables v) (e.0.schema, e.0.table) ≡ false)) (sym (append-nil a.first) ∙ at.2) (all_apart v w a.first a.accepted).1)) ∙ of))
      ]

  -- the row at which the list ended
  pub some_row : (content : Content) (v last : V) (e : Entry) (left : List Entry) → HasAccepted gives content.rows v last (e ∷ left) → (tables last ≡ tables v) × (1 ≤ content.rows e.0)
  some_row content v last e left a =
      let at = all_at (λ (x : Entry). (x.1 ≡ content.rows x.0) × (1 ≤ x.1) × (x.1 ≤ most)) a.first left e a.are.counted in
      (ap tables (all_apart v last a.first a.accepted).0, subst (λ n. 1 ≤ n) at.0 at.1)

-- what stopped the search is a row of one of the tables
pub found_row : (content : Content) (v w : NoRows) (error : ListError FoundRow) (found : FoundRow) (name : QualifiedName) → error ≡ VisitorError found → found ≡ Row name
    → Hands (λ (v : NoRows) (e : Entry) (r : Result (Unit {0}) FoundRow) (w : NoRows). (w ≡ v) × IsLookedAt v.tables.now e r) content.rows v w (Err error)
    → (set.contains v.tables.now (name.schema.items, name.table.items) ≡ true) × ((cells : List CellValue) × (1 ≤ content.rows (row_of name.schema.items name.table.items cells)))
found_row content v w error found name is_visitor is_row hands =
    let G : NoRows → Entry → Result (Unit {0}) FoundRow → NoRows → Type 0 = λ (v : NoRows) (e : Entry) (r : Result (Unit {0}) FoundRow) (w : NoRows). (w ≡ v) × IsLookedAt v.tables.now e r in
    let it = subst (λ f. Hands G content.rows v w (Err (VisitorError f))) is_row (subst (λ e. Hands G content.rows v w (Err e)) is_visitor hands) in
    let e : Entry = it.1 in
    let some = some_row G (λ (v : NoRows). v.tables.now) (λ v w x looked. looked) content v it.0 e it.2 it.3 in
    let of = it.4.1 in
    let table : (name.schema.items, name.table.items) ≡ (e.0.schema, e.0.table) = λ i. (of.1 i, of.2 i) in
    let row : row_of name.schema.items name.table.items e.0.cells ≡ e.0 = λ i. record { schema = of.1 i; table = of.2 i; cells = e.0.cells } in (
      ap (λ names. set.contains names (name.schema.items, name.table.items)) (sym some.0) ∙ ap (λ n. set.contains it.0.tables.now n) table ∙ of.0,
      (e.0.cells, subst (λ r. 1 ≤ content.rows r) (sym row) some.1),
    )
