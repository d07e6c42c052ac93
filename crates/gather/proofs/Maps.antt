-- Table maps and changes of a block that grows by one event.
use Rattle.gather.proofs.Names.{◌≡◌, ℕ, false, List, [], ◌∷◌, ◌++◌, append-nil, append_assoc, map, Option, Some, None, refl, ap, sym, ◌∙◌, subst, ⊎_elim, list_any, cases_eq, TableValue, RowsValue, EventValue, format, commit, neutral, stop, rotate, gtid, table_map, other_map, xid, TableDef, ChangeValue, map_of, change_of, is_end, AreChangesOf, AreChanges, table_of}
use Rattle.std.specs.Option.{option_or, option_map}
use Rattle.std.specs.Ordering.{nat_cmp, is_eq}
use Rattle.std.specs.Cmp.{nat_cmp_is}
use Rattle.std.specs.declared.cmp.Ordering.TheVariants.{Less, Greater}
use Rattle.std.specs.BTreeMap.{BTreeMap, get, Updates}
use Rattle.std.specs.declared.alloc.Global.{Global}
use Rattle.std.specs.declared.rc.Rc.{Rc}
use Rattle.std.proofs.lemmas.Bool.{cases_order, ne_eqb, eq-eqb}
use Rattle.binlog.specs.Row.{kinds}
use Rattle.binlog.specs.Event.{begin, rows}
use Rattle.gather.specs.Transaction.{said_of}
use Rattle.gather.specs.OpenTransaction.{said, AppendsChanges, HasTaken}
use Rattle.gather.specs.declared.open_transaction.OpenTransaction.{OpenTransaction}

pub or_none : (x : Option (Option TableValue)) → option_or x None ≡ x
or_none None = refl
or_none (Some y) = refl

or_assoc : (x y z : Option (Option TableValue)) → option_or x (option_or y z) ≡ option_or (option_or x y) z
or_assoc None y z = refl
or_assoc (Some x) y z = refl

-- what the last map says after one more event
pub map_of_more : (body : List EventValue) (e : EventValue) (id : ℕ) → map_of (body ++ e ∷ []) id ≡ option_or (said_of id e) (map_of body id)
map_of_more [] e id = sym (or_none (said_of id e))
map_of_more (x ∷ body) e id = ap (λ m. option_or m (said_of id x)) (map_of_more body e id) ∙ sym (or_assoc (said_of id e) (map_of body id) (said_of id x))

-- ---- Table maps, as they are kept.

other_key : (a b : ℕ) → (a ≡ b → ⊥) → is_eq (nat_cmp a b) ≡ false
other_key a b ne =
    ⊎_elim (λ e. absurd (ne e)) (λ o. ⊎_elim (λ lt. ap is_eq (sym (nat_cmp_is a b Less lt))) (λ gt. ap is_eq (sym (nat_cmp_is a b Greater gt))) o) (cases_order a b)

-- What is kept of a number's table map is what the event says.
pub record Says (e : EventValue) (id : ℕ) (kept : Option (Rc TableDef Global)) : Type 0 where
  pub here : said_of id e ≡ Some (said id kept)
  pub elsewhere : (q : ℕ) → (id ≡ q → ⊥) → said_of q e ≡ None

pub other_says : (id : ℕ) → Says (other_map id) id None
other_says id = record { here = rw (eq-eqb id id refl) refl; elsewhere = λ q ne. rw (ne_eqb id q ne) refl }

pub map_says : (t : TableValue) (kept : Rc TableDef Global) → t ≡ table_of t.id kept → Says (table_map t) t.id (Some kept)
map_says t kept is = record { here = rw (eq-eqb t.id t.id refl) (ap (λ x. Some (Some x)) is); elsewhere = λ q ne. rw (ne_eqb t.id q ne) refl }

pub maps_more : (m n : BTreeMap ℕ (Option (Rc TableDef Global))) (id : ℕ) (kept : Option (Rc TableDef Global)) (e : EventValue) (body : List EventValue) →
    Updates nat_cmp m n id (Some kept) → Says e id kept → ((q : ℕ) → option_map (said q) (get nat_cmp m q) ≡ map_of body q) →
    (q : ℕ) → option_map (said q) (get nat_cmp n q) ≡ map_of (body ++ e ∷ []) q
maps_more m n id kept e body updates says before q =
    ⊎_elim
    (λ same.
    let here : get nat_cmp n q ≡ Some kept = subst (λ k. get nat_cmp n k ≡ Some kept) same updates.1 in
    let reported : said_of q e ≡ Some (said q kept) = subst (λ k. said_of k e ≡ Some (said k kept)) same says.here in
    ap (option_map (said q)) here ∙ sym (map_of_more body e q ∙ ap (λ s. option_or s (map_of body q)) reported))
    (λ ne.
    let there : get nat_cmp n q ≡ get nat_cmp m q = updates.2 q (other_key id q ne) in
    ap (option_map (said q)) there ∙ before q ∙ sym (map_of_more body e q ∙ ap (λ s. option_or s (map_of body q)) (says.elsewhere q ne)))
    (cases_eq id q)

-- ---- Changes.

-- one more event, and its changes
pub changes_more : (before body : List EventValue) (e : EventValue) (changes own : List ChangeValue) →
    AreChanges before body changes → AreChangesOf (before ++ body) e own → AreChanges before (body ++ e ∷ []) (changes ++ own)
changes_more before [] e changes own none of =
    let after : AreChangesOf before e own = subst (λ b. AreChangesOf b e own) (append-nil before) of in
    (own, [], after, ap (λ c. c ++ own) none ∙ sym (append-nil own), refl)
changes_more before (x ∷ body) e changes own (first, others, is, all, rest) of =
    let after : AreChangesOf ((before ++ x ∷ []) ++ body) e own = subst (λ b. AreChangesOf b e own) (sym (append_assoc before (x ∷ []) body)) of in
    (first, others ++ own, is, ap (λ c. c ++ own) all ∙ append_assoc first others own, changes_more (before ++ x ∷ []) body e others own rest after)

pub no_changes : (before body : List EventValue) (e : EventValue) (changes : List ChangeValue) →
    AreChanges before body changes → AreChangesOf (before ++ body) e [] → AreChanges before (body ++ e ∷ []) changes
no_changes before body e changes are of = subst (AreChanges before (body ++ e ∷ [])) (append-nil changes) (changes_more before body e changes [] are of)

-- none of the events ends a transaction
pub no_end_of : (before : List EventValue) (e : EventValue) (own : List ChangeValue) → AreChangesOf before e own → is_end e ≡ false
no_end_of before (table_map t) own of = refl
no_end_of before (other_map id) own of = refl
no_end_of before (rows r) own of = refl
no_end_of before format own of = absurd of
no_end_of before begin own of = absurd of
no_end_of before commit own of = absurd of
no_end_of before neutral own of = absurd of
no_end_of before stop own of = absurd of
no_end_of before (rotate position name) own of = absurd of
no_end_of before (gtid source number) own of = absurd of
no_end_of before (xid number) own of = absurd of

pub no_end : (before body : List EventValue) (changes : List ChangeValue) → AreChanges before body changes → list_any is_end body ≡ false
no_end before [] changes none = refl
no_end before (x ∷ body) changes (first, others, is, all, rest) =
    rw (no_end_of before x first is, no_end (before ++ x ∷ []) body others rest) refl

-- ---- Tables and rows events, as they are kept.

pub copied : (t : TableValue) (kept : Rc TableDef Global) (d : TableDef) → kept.value ≡ d → (d.schema.items ≡ t.schema) × (d.table.items ≡ t.table) × (kinds d.types.items ≡ t.columns) → t ≡ table_of t.id kept
copied t kept d is parts = rw (is, parts.0, parts.1, parts.2) refl

-- what is kept of a rows event's number is what the last table map with it says
pub reported : (body : List EventValue) (current : OpenTransaction) (id : ℕ) (kept : Option (Rc TableDef Global)) → HasTaken body current → get nat_cmp current.maps id ≡ Some kept → map_of body id ≡ Some (said id kept)
reported body current id kept keeps is = sym (keeps.maps id) ∙ ap (option_map (said id)) is

-- a number of which nothing is kept has no table map
pub unknown : (body : List EventValue) (current : OpenTransaction) (id : ℕ) → HasTaken body current → get nat_cmp current.maps id ≡ None → map_of body id ≡ None
unknown body current id keeps is = sym (keeps.maps id) ∙ ap (option_map (said id)) is

rows_say_nothing : (maps : BTreeMap ℕ (Option (Rc TableDef Global))) (body : List EventValue) (r : RowsValue) → ((q : ℕ) → option_map (said q) (get nat_cmp maps q) ≡ map_of body q) →
    (q : ℕ) → option_map (said q) (get nat_cmp maps q) ≡ map_of (body ++ rows r ∷ []) q
rows_say_nothing maps body r before q = before q ∙ sym (map_of_more body (rows r) q)

pub keeps_other : (body : List EventValue) (current : OpenTransaction) (r : RowsValue) → HasTaken body current → get nat_cmp current.maps r.id ≡ Some None → HasTaken (body ++ rows r ∷ []) current
keeps_other body current r keeps is = record {
  maps = rows_say_nothing current.maps body r keeps.maps;
  changes = no_changes [] body (rows r) current.changes keeps.changes (None, reported body current r.id None keeps is, refl);
}

pub adds_rows : (body : List EventValue) (current : OpenTransaction) (r : RowsValue) (kept : Rc TableDef Global) (new : List ChangeValue) → HasTaken body current → get nat_cmp current.maps r.id ≡ Some (Some kept) →
    AppendsChanges (table_of r.id kept) r current.changes new → AreChanges [] (body ++ rows r ∷ []) new
adds_rows body current r kept new keeps is adds =
    let own = map (change_of (table_of r.id kept)) adds.pairs in
    let of : AreChangesOf body (rows r) own = (Some (table_of r.id kept), reported body current r.id (Some kept) keeps is, (adds.pairs, adds.read, refl)) in
    subst (AreChanges [] (body ++ rows r ∷ [])) (sym adds.after_is) (changes_more [] body (rows r) current.changes own keeps.changes of)

pub maps_stay : (body : List EventValue) (current : OpenTransaction) (r : RowsValue) → HasTaken body current → (q : ℕ) → option_map (said q) (get nat_cmp current.maps q) ≡ map_of (body ++ rows r ∷ []) q
maps_stay body current r keeps = rows_say_nothing current.maps body r keeps.maps
