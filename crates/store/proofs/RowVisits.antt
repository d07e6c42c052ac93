-- Rows of held that are handed to a visitor while they are read.
use Rattle.store.proofs.Names.{◌≡◌, inl, inr, ℕ, List, [], ◌∷◌, ◌++◌, map, Some, None, Ok, Err, Result, refl, sym, ap, subst, ◌∙◌, append-nil, append_assoc, IsTrue, map-append, AllByRecursion, Ghosts, Null, Row, Command, IsDatabase, State, IsLive, IsUnchanged, Held, Error, Advances, command_of, unchanged_then, Names, HasImage, Content, held_tree, held_rows, IsAtRest, by_order, Rested, listed_text}
use Rattle.std.proofs.Common.{drop}
use Rattle.sqlite_trees.proofs.ListLemmas.{all-append}
use Rattle.std.proofs.lemmas.Fn.{FoldsTo-push}
use Rattle.sqlite.specs.Clock.{timed}
use Rattle.sqlite.specs.State.{Shown}
use Rattle.sqlite.specs.Held.{state}
use Rattle.sqlite.specs.Given.{HasGiven, HasBegun, FailsToAdvance}
use Rattle.sqlite.proofs.Callers.{EndsIn, begins_shown, given_begin}
use Rattle.store.specs.Rows.{key_for}
use Rattle.store.specs.Load.{Ascends}
use Rattle.store.specs.Listing.{Entry, ListsBag, shown_entry, without_rowids, Accepts, Handed, Hands, HasAccepted, KeepsListed, HoldsListed, IsListing}
use Rattle.store.specs.declared.store.Store.{Store}
use Rattle.store.specs.Store.{Holds, IsUnbroken, database}
use Rattle.store.specs.declared.listing.ListError.{ListError}
use Rattle.store.specs.declared.listing.ListError.TheVariants.{Store as StoreError, Visitor as VisitorError}
use Rattle.store.specs.declared.fault.StoreFault.TheVariants.{Database}
use Rattle.store.proofs.PlainQueries.{rest_unchanged, rest_read}
use Rattle.store.proofs.Keeps.{open_shown}
use Rattle.store.proofs.Listings.{AreEntries, are_entries, given_entry, listed_asks, listed_order}
use Rattle.store.proofs.QueryOrder.{listed_rise}
use Rattle.store.proofs.Readings.{all_rows, all_ascend, all_rests}
use Rattle.store.proofs.Steps.{rested_after}

-- ---- Entries by what is stored of them.

one_entry : (e f : Entry) → HasImage e.0.cells → HasImage f.0.cells → shown_entry e ≡ shown_entry f → e ≡ f
one_entry e f e_has f_has same =
    sym (given_entry (Null ∷ shown_entry f) e (key_for f.0) f.1 f.0.cells f.0.schema f.0.table (refl, refl, refl) refl (record { has_image = f_has; bytes_are = refl }) refl refl same e_has)

-- The rest of a list of entries, after the first ones.
pub record IsCut (all first : List Entry) (tail : List Row) : Type 0 where
  pub left : List Entry
  pub is : all ≡ first ++ left
  pub shown : map shown_entry left ≡ without_rowids tail
  pub lawful : AllByRecursion (λ (e : Entry). HasImage e.0.cells) left

cut : (rows : List Row) (first all : List Entry) (tail : List Row) → map shown_entry first ≡ without_rowids rows → AllByRecursion (λ (e : Entry). HasImage e.0.cells) first
    → map shown_entry all ≡ without_rowids (rows ++ tail) → AllByRecursion (λ (e : Entry). HasImage e.0.cells) all → IsCut all first tail
cut [] [] all tail first_is first_has all_is all_has = record { left = all; is = refl; shown = all_is; lawful = all_has }
cut [] (e ∷ first) all tail first_is first_has all_is all_has = absurd (Prim.cc)
cut (r ∷ rows) [] all tail first_is first_has all_is all_has = absurd (Prim.cc)
cut (r ∷ rows) (e ∷ first) [] tail first_is first_has all_is all_has = absurd (Prim.cc)
cut (r ∷ rows) (e ∷ first) (f ∷ all) tail first_is first_has all_is all_has =
    let here : shown_entry f ≡ shown_entry e = Prim.cc in
    let front : map shown_entry first ≡ without_rowids rows = Prim.cc in
    let others : map shown_entry all ≡ without_rowids (rows ++ tail) = Prim.cc in
    let one : f ≡ e = one_entry f e all_has.0 first_has.0 here in
    let rest = cut rows first all tail front first_has.1 others all_has.1 in
    record { left = rest.left; is = ap (λ x. x ∷ all) one ∙ ap (λ l. e ∷ l) rest.is; shown = rest.shown; lawful = rest.lawful }

joined : (rows : List Row) (first : List Entry) (row : Row) (e : Entry) → map shown_entry first ≡ without_rowids rows → shown_entry e ≡ drop 1 row → map shown_entry (first ++ e ∷ []) ≡ without_rowids (rows ++ row ∷ [])
joined rows first row e front last = rw (map-append shown_entry first (e ∷ []), front, last) (sym (map-append (drop 1) rows (row ∷ [])))

-- ---- The rows that a query gives.

self_unchanged : (s : State) → IsTrue s.is_open → IsUnchanged s s
self_unchanged s is_open = (record { was_open = is_open; is_open = is_open; now_is = refl; committed_is = refl; mode = refl }, record { changes = refl; last_rowid = refl }, refl)

whole_entries : (now new : State) (names : Names) (content : Content) → IsAtRest now names content → IsUnchanged now new → (rows : List Row) → Shown listed_text [] now new rows → AreEntries content.rows rows
whole_entries now new names content rest same rows shown =
    let laid = rest.stands.laid_out in
    let asks = listed_asks now.now.schema laid in
    let live : IsLive now = λ is_open. (rest.sound, subst IsDatabase rest.settled rest.sound) in
    let all = all_rows listed_text (held_tree now.now.schema) now new asks (λ (rs : List Row). rs) (Ok rows) live same shown in
    let order = subst (λ o. Ascends (by_order o) rows) (listed_order now.now.schema laid) (all_ascend listed_text (held_tree now.now.schema) now new asks (λ (rs : List Row). rs) (Ok rows) live same shown) in
    are_entries (held_rows now.now) rows content.rows rest.stands.rows all rest.stands.held (listed_rise {E = Unit {0}} (λ (rs : List Row). rs) (Ok rows) now.now laid rest.stands.held rest.held_apart rest.sound all order)

module _ {S : Type 0} (g : Ghosts S) (names : Names) (content : Content) where
  given_entries : (h : Held S) → IsAtRest (state g h) names content → (rows : List Row) → HasGiven g listed_text [] h rows → (tail : List Row) × AreEntries content.rows (rows ++ tail)
  given_entries h rest rows given =
      let s = state g h in
      let same = self_unchanged s rest.is_open in
      let asks = listed_asks s.now.schema rest.stands.laid_out in
      let shown = begins_shown listed_text [] s s rows (given_begin g listed_text [] h rows given) same (λ c db it from. subst (λ (k : Command). EndsIn k db (timed [] c.formats it.now)) (sym asks.is ∙ ap command_of it.is) tt) in
      (shown.0, whole_entries s s names content rest same (rows ++ shown.0) shown.1)

  module _ {V E : Type 0} (gives : V → Entry → Result (Unit {0}) E → V → Type 0) (old : Held S) (rest : IsAtRest (state g old) names content) (v : V) where
    pub listing_none : HasGiven g listed_text [] old [] → IsListing g gives old old v v
    listing_none given = record { same = self_unchanged (state g old) rest.is_open; rows = []; given = given; first = []; shown = refl; lawful = tt; accepted = refl }

    module _ (mid : Held S) (w : V) (it : IsListing g gives old mid v w) where
      here : IsAtRest (state g mid) names content
      here = rest_unchanged (state g old) (state g mid) names content it.same rest

      pub left_accepted : (left : List Entry) × HasAccepted gives content.rows v w left
      left_accepted =
          let all = given_entries mid here it.rows it.given in
          let c = cut it.rows it.first all.1.entries all.0 it.shown it.lawful all.1.shown all.1.images in
          (c.left, record { first = it.first; are = subst (ListsBag content.rows) c.is all.1.are; accepted = it.accepted })

      -- reading on has failed
      pub left_rested : (new : Held S) (error : Error) → FailsToAdvance g mid new error → Rested (state g old) (state g new)
      left_rested new error failed =
          let asks = listed_asks mid.schema here.stands.laid_out in
          rested_after (state g old) (state g mid) (state g new) it.same
          (all_rests listed_text (held_tree mid.schema) (state g mid) (state g new) asks {X = Unit {0}} (Err error) tt (failed listed_text [] it.rows it.given))

      pub all_accepted : (new : Held S) → Advances g mid new None → IsUnchanged (state g mid) (state g new) → HasAccepted gives content.rows v w []
      all_accepted new shown same =
          let all = whole_entries (state g mid) (state g new) names content here same it.rows (shown listed_text [] it.rows it.given) in
          let c = cut it.rows it.first all.entries [] it.shown it.lawful (all.shown ∙ ap without_rowids (sym (append-nil it.rows))) all.images in
          let none : c.left ≡ [] = no_entry c.left c.shown in
          record { first = it.first; are = subst (λ l. ListsBag content.rows (it.first ++ l)) none (subst (ListsBag content.rows) c.is all.are); accepted = it.accepted }
        where
          no_entry : (entries : List Entry) → map shown_entry entries ≡ [] → entries ≡ []
          no_entry [] none = refl
          no_entry (e ∷ entries) none = absurd (Prim.cc)

      -- The next row is that of the next entry.
      pub record IsNext (new : Held S) (row : Row) : Type 0 where
        pub entry : Entry
        pub left : List Entry
        pub shown : shown_entry entry ≡ drop 1 row
        pub lawful : HasImage entry.0.cells
        pub accepted : HasAccepted gives content.rows v w (entry ∷ left)
        pub more : (u : V) → Accepts gives w entry u → IsListing g gives old new v u

      pub next_accepted : (new : Held S) (row : Row) → Advances g mid new (Some row) → IsUnchanged (state g mid) (state g new) → IsNext new row
      next_accepted new row shown same =
          let given = shown listed_text [] it.rows it.given in
          let all = given_entries new (rest_unchanged (state g mid) (state g new) names content same here) (it.rows ++ row ∷ []) given in
          let c = cut it.rows it.first all.1.entries (row ∷ all.0) it.shown it.lawful (all.1.shown ∙ ap without_rowids (append_assoc it.rows (row ∷ []) all.0)) all.1.images in
          go all.0 c.left c.shown c.lawful (subst (ListsBag content.rows) c.is all.1.are) given
        where
          go : (tail : List Row) (left : List Entry) → map shown_entry left ≡ without_rowids (row ∷ tail) → AllByRecursion (λ (e : Entry). HasImage e.0.cells) left → ListsBag content.rows (it.first ++ left)
              → HasGiven g listed_text [] new (it.rows ++ row ∷ []) → IsNext new row
          go tail [] none lawful are given = absurd (Prim.cc)
          go tail (e ∷ left) is lawful are given = record {
            entry = e;
            left = left;
            shown = Prim.cc;
            lawful = lawful.0;
            accepted = record { first = it.first; are = are; accepted = it.accepted };
            more = λ u accepts. record {
              same = unchanged_then (state g old) (state g mid) (state g new) it.same same;
              rows = it.rows ++ row ∷ [];
              given = given;
              first = it.first ++ e ∷ [];
              shown = joined it.rows it.first row e it.shown (Prim.cc);
              lawful = all-append (λ (x : Entry). HasImage x.0.cells) it.first (e ∷ []) it.lawful (lawful.0, tt);
              accepted = FoldsTo-push (Accepts gives) v it.first w e u it.accepted accepts;
            };
          }

      next_same : (new : Held S) → IsUnchanged (state g mid) (state g new) → IsUnchanged (state g old) (state g new)
      next_same new same = unchanged_then (state g old) (state g mid) (state g new) it.same same

      -- The visitor has ended the list at the next row.
      pub stopped : (new : Held S) (row : Row) → IsUnchanged (state g mid) (state g new) → (next : IsNext new row) (u : V) (error : ListError E) → Handed gives next.entry w u (Err error)
          → Hands gives content.rows v u (Err error) × KeepsListed {E = E} (state g old) (state g new) (Err error)
      stopped new row same next u (VisitorError e) handed = ((w, next.entry, next.left, next.accepted, handed), next_same new same)
      stopped new row same next u (StoreError fault) handed = absurd handed

-- ---- The query before its first row.

pub kept_after : {E : Type 0} (old mid new : State) (r : Result (Unit {0}) (ListError E)) → IsUnchanged old mid → KeepsListed mid new r → KeepsListed old new r
kept_after old mid new (Ok u) same kept = unchanged_then old mid new same kept
kept_after old mid new (Err (VisitorError e)) same kept = unchanged_then old mid new same kept
kept_after old mid new (Err (StoreError (Database e))) same kept = rested_after old mid new same kept
kept_after old mid new _ same kept = absurd kept

-- what a list leaves, if the connection is still open
pub kept_now : {E : Type 0} (old new : State) (r : Result (Unit {0}) (ListError E)) → KeepsListed old new r → old.now ≡ old.committed → IsTrue new.is_open → new.now ≡ old.now
kept_now old new (Ok u) kept settled is_open = kept.0.now_is
kept_now old new (Err (VisitorError e)) kept settled is_open = kept.0.now_is
kept_now old new (Err (StoreError (Database e))) kept settled is_open = (kept.rests settled is_open).0
kept_now old new _ kept settled is_open = absurd kept

pub begun_open : {S : Type 0} (g : Ghosts S) (sql : List ℕ) (old mid : Held S) → HasBegun g sql [] old mid → IsTrue (state g old).is_open
begun_open g sql old mid (inl begun) = begun.1.0.was_open
begun_open g sql old mid (inr made) = open_shown sql [] (state g old) (state g mid) _ made.1

-- ---- The store.

pub held_listed : {S E : Type 0} (g : Ghosts S) (old new : Store S g) (content : Content) (r : Result (Unit {0}) (ListError E)) → Holds g old content → IsUnbroken g new → new.executed ≡ old.executed → new.following ≡ old.following
    → KeepsListed (database g old) (database g new) r → HoldsListed g content new r
held_listed g old new content r was whole set names kept = go r kept
  where
    executed : new.executed ≡ content.executed
    executed = set ∙ was.executed

    held : IsUnchanged (database g old) (database g new) → Holds g new content
    held same = record { whole = whole; executed = executed; rest = subst (λ n. IsAtRest (database g new) n content) (sym names) (rest_unchanged (database g old) (database g new) old.following content same was.rest) }

    go : {E : Type 0} (r : Result (Unit {0}) (ListError E)) → KeepsListed (database g old) (database g new) r → HoldsListed g content new r
    go (Ok u) kept = held kept
    go (Err (VisitorError e)) kept = held kept
    go (Err (StoreError (Database e))) kept = record { whole = whole; executed = executed; rest = λ is_open. subst (λ n. IsAtRest (database g new) n content) (sym names) (rest_read (database g old) (database g new) old.following content was.rest (kept.rests was.rest.settled) is_open) }
    go _ kept = absurd kept
