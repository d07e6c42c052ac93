-- A store while the rows of one table are taken out of it.
use Rattle.replica.proofs.Names.{◌≡◌, inl, inr, ℕ, arith, Bool, true, false, List, [], ◌∷◌, ◌++◌, length, Option, Some, None, Result, Ok, Err, IfErr, IsTrue, refl, sym, ap, subst, subst₂, ◌∙◌, append_assoc, append-nil, replicate, if◌then◌else◌, cases_Bool, false≢true, Ghosts, Trees, Held, Ids, CellValue, Names, admits, is_read, ChangeValue, Content, HasOutcome, done, AreDone, IsRefusedAt, Entry, StoreFault, ListError, Store, HasFailed, HoldsAs, AreOf, NoSuchRow, CountFull, Reason, Refused, Database, Memory, Halted, Account, HasNotices, StillWaits, WereMissed, has_failure, IsLeftOfNoted, IsNotedSinceOpening, IsLedOver, IsLedSinceOpening, TakesAlone, HasStayed}
use Rattle.std.proofs.Common.{OnOk, IfSome}
use Rattle.std.specs.Prelude.{flat_map, MatchOption, MatchBool}
use Rattle.std.specs.FinSet as set
use Rattle.std.specs.List.{FoldsTo}
use Rattle.sqlite.specs.Held.{state}
use Rattle.binlog.specs.declared.body.table_map.TableDef.{TableDef}
use Rattle.gather.specs.Image.{IsImage}
use Rattle.gather.specs.Transaction.{delete}
use Rattle.gather.proofs.WholeImages.{one_list}
use Rattle.store.specs.declared.row_change.Refusal.{Refusal}
use Rattle.store.specs.declared.row_change.Refusal.TheVariants as why
use Rattle.store.specs.Faults.{IsFailure}
use Rattle.store.specs.Listing.{Accepts, Lists}
use Rattle.store.specs.declared.fault.StoreFault.TheVariants as fault
use Rattle.store.specs.declared.listing.ListError.TheVariants.{Store as StoreError, Visitor as VisitorError}
use Rattle.store.specs.Apply.{IsAtRest}
use Rattle.store.specs.Store.{Holds}
use Rattle.replica.specs.declared.source.connections.NoMemory.{NoMemory}
use Rattle.replica.specs.declared.change.clearing.ClearEnd.{ClearEnd}
use Rattle.replica.specs.declared.change.clearing.ClearEnd.TheVariants.{Repeat, NotFollowed, OtherSet, Failed}
use Rattle.replica.specs.declared.change.clearing.TableRows.{TableRows}
use Rattle.replica.specs.Noted.{Excludes, opened}
use Rattle.replica.specs.Alone.{IsOwnOrHalted}
use Rattle.replica.specs.Copies.{HasJust}
use Rattle.replica.specs.Clear.{TableClear, IsClearedWhere, IsClearedBy, is_in_table, IsToBeCleared, IsClearedAt, HasTakenOut, MayEndClear}
use Rattle.replica.specs.Clearing.{deletes_of, AreDeletesOf, AppendsDeletes, TakesRow, gathered_of, end_by, ListsDeletes, HasCleared, IsClearedSinceOpening}
use Rattle.replica.proofs.RowDeletes.{others_stay, all_gone, none_refused, all_skipped, none_of_them_refused, as_many}
use Rattle.replica.proofs.Notices.{weaker_leaves, since_through, none_let}
use Rattle.replica.proofs.InOrder.{whole_leaves}

-- ---- Rows that are listed.

-- a row of another table
pub none_taken_of : (e : Entry) (old : TableRows) → is_in_table old.table.value.schema.items old.table.value.table.items e.0 ≡ false → AppendsDeletes e old old
none_taken_of e old apart = record {
  same = refl;
  changes_are = sym (append-nil old.changes) ∙ ap (λ (b : Bool). old.changes ++ (if b then replicate e.1 (delete old.table.value.schema.items old.table.value.table.items e.0.cells) else [])) (sym apart);
}

-- a row of the table
all_taken_of : (e : Entry) (old new : TableRows) (answer : Result (Unit {0}) NoMemory) → is_in_table old.table.value.schema.items old.table.value.table.items e.0 ≡ true → new.table ≡ old.table
    → OnOk answer (new.changes ≡ old.changes ++ replicate e.1 (delete old.table.value.schema.items old.table.value.table.items e.0.cells)) → TakesRow old e answer new
all_taken_of e old new (Ok u) here same taken = record {
  same = same;
  changes_are = taken ∙ ap (λ (b : Bool). old.changes ++ (if b then replicate e.1 (delete old.table.value.schema.items old.table.value.table.items e.0.cells) else [])) (sym here);
}
all_taken_of e old new (Err cause) here same taken = tt

-- an image that was read from the bytes of another
pub read_same : (found : Option (List CellValue)) (made cells : List CellValue) (bytes : List ℕ) → MatchOption found ((none : List CellValue) → IsImage none bytes → ⊥) (λ some. IsImage some bytes) → found ≡ Some made → IsImage cells bytes → made ≡ cells
read_same found made cells bytes reads is image =
    one_list made cells bytes (subst (λ (o : Option (List CellValue)). MatchOption o ((none : List CellValue) → IsImage none bytes → ⊥) (λ some. IsImage some bytes)) is reads) image

pub image_copied : (found : Option (List CellValue)) (cells : List CellValue) (bytes : List ℕ) → MatchOption found ((none : List CellValue) → IsImage none bytes → ⊥) (λ some. IsImage some bytes) → IsImage cells bytes → IfSome found (λ made. made ≡ cells)
image_copied None cells bytes reads image = tt
image_copied (Some made) cells bytes reads image = one_list made cells bytes reads image

pub row_taken : (e : Entry) (old new : TableRows) (answer : Result (Unit {0}) NoMemory) (cells : List CellValue) (table : TableDef) (here : Bool) → table ≡ old.table.value → here ≡ is_in_table table.schema.items table.table.items e.0 → here ≡ true → new.table ≡ old.table → cells ≡ e.0.cells
    → OnOk answer (new.changes ≡ old.changes ++ replicate e.1 (delete old.table.value.schema.items old.table.value.table.items cells)) → TakesRow old e answer new
row_taken e old new answer cells table here table_is says is same cells_are taken =
    all_taken_of e old new answer (ap (λ (t : TableDef). is_in_table t.schema.items t.table.items e.0) (sym table_is) ∙ sym says ∙ is) same
    (subst (λ (x : List CellValue). OnOk answer (new.changes ≡ old.changes ++ replicate e.1 (delete old.table.value.schema.items old.table.value.table.items x))) cells_are taken)

-- all rows of a list
all_taken : (es : List Entry) (v w : TableRows) → FoldsTo (Accepts TakesRow) v es w → w.changes ≡ v.changes ++ flat_map (deletes_of v.table.value.schema.items v.table.value.table.items) es
all_taken [] v w folds = ap (λ (t : TableRows). t.changes) (sym folds) ∙ sym (append-nil v.changes)
all_taken (e ∷ es) v w folds =
    let first = folds.1 in
    all_taken es folds.0 w folds.2
    ∙ ap (λ (t : TableRows). folds.0.changes ++ flat_map (deletes_of t.table.value.schema.items t.table.value.table.items) es) (λ i. record v { table = first.same i })
    ∙ ap (λ (cs : List ChangeValue). cs ++ flat_map (deletes_of v.table.value.schema.items v.table.value.table.items) es) first.changes_are
    ∙ append_assoc v.changes (deletes_of v.table.value.schema.items v.table.value.table.items e) (flat_map (deletes_of v.table.value.schema.items v.table.value.table.items) es)

-- ---- What a transaction of deletes comes to.

module _ (names : Names) (clear : TableClear) (old : Content) (changes : List ChangeValue) (are : AreDeletesOf clear.schema clear.table old.rows changes) where
  cleared_where : (new : Content) (kept : Bool) → admits names clear.schema clear.table ≡ kept → HasOutcome names old (record { source = clear.source; number = clear.number; changes = changes }) (done new) → IsClearedWhere kept clear old new
  cleared_where new true followed outcome =
      let all : AreDone names (flat_map (deletes_of clear.schema clear.table) are.entries) old.rows new.rows = subst (λ cs. AreDone names cs old.rows new.rows) are.changes_are outcome.1 in
      record {
        executed = outcome.2;
        gone = all_gone names clear.schema clear.table followed old.rows new.rows are.entries are.lists all;
        others = others_stay names clear.schema clear.table followed are.entries old.rows new.rows all;
      }
  cleared_where new false left_out outcome = record {
    executed = outcome.2;
    rows = all_skipped names clear.schema clear.table left_out are.entries old.rows new.rows (subst (λ cs. AreDone names cs old.rows new.rows) are.changes_are outcome.1);
  }

  is_cleared : (new : Content) → HasOutcome names old (record { source = clear.source; number = clear.number; changes = changes }) (done new) → IsClearedBy names clear old new
  is_cleared new outcome = cleared_where new (admits names clear.schema clear.table) refl outcome

  not_refused_where : (at : ℕ) (why : Refusal) (kept : Bool) → admits names clear.schema clear.table ≡ kept → IsRefusedAt names (flat_map (deletes_of clear.schema clear.table) are.entries) old.rows at why → ⊥
  not_refused_where at why true followed it = none_refused names clear.schema clear.table followed old.rows are.entries at why are.lists it
  not_refused_where at why false left_out it = none_of_them_refused names clear.schema clear.table left_out old.rows are.entries at why it

  not_refused : {X : Type 0} (at : ℕ) (why : Refusal) → IsRefusedAt names changes old.rows at why → X
  not_refused at why it = absurd (not_refused_where at why (admits names clear.schema clear.table) refl (subst (λ cs. IsRefusedAt names cs old.rows at why) are.changes_are it))

-- ---- What is asked before.

pub contains_by : (executed ids : Ids) (source : List ℕ) (number : ℕ) (answer known : Bool) → ids ≡ executed → answer ≡ set.contains ids (source, number) → answer ≡ known → set.contains executed (source, number) ≡ known
contains_by executed ids source number answer known same says is = ap (λ (x : Ids). set.contains x (source, number)) (sym same) ∙ sym says ∙ is

pub reads_by : (names following : Names) (schema table : List ℕ) (answer known : Bool) → following ≡ names → answer ≡ is_read following schema table → answer ≡ known → is_read names schema table ≡ known
reads_by names following schema table answer known same says is = ap (λ (n : Names). is_read n schema table) (sym same) ∙ sym says ∙ is

-- ---- What was reported.

pub opened_missed : (was is : Option Ids) (executed : Ids) → StillWaits was (opened executed ∷ []) is → WereMissed was (opened executed ∷ []) is
opened_missed was None executed waits = tt
opened_missed None (Some is) executed waits = absurd waits
opened_missed (Some was) (Some is) executed waits = tt

abbrev pub opened_noted : (names : Names) (old : Content) (ids : Ids) (was is : Account) → ids ≡ old.executed → HasNotices was is (opened ids ∷ []) → Excludes was ids names is → IsNotedSinceOpening names old old was is []
opened_noted names old ids was is same noticed excludes = record {
  noted_of = record {
    notices = opened ids ∷ [];
    noted = noticed.noted;
    waits = noticed.waits;
    missed = opened_missed was.waits is.waits ids noticed.waits;
    leads = (same, refl);
    ends_are = refl;
    stays = noticed.stays;
    stops = λ bad. absurd (false≢true bad);
    last = λ bad. absurd (false≢true bad);
    lets_none = λ on. tt;
  };
  begins = same;
  missed = λ some. absurd (some refl);
  fails = tt;
  excluded = none_let was is ids old.executed names same excludes;
}

-- ---- A store.

module _ {S : Type 0} (g : Ghosts S) where
  -- a store that is at hand as this content, failed or not
  pub as_held : (store : Store S g) (content : Content) → store.executed ≡ content.executed → (IsTrue (state g store.conn).is_open → IsAtRest (state g store.conn) store.following content) → IsTrue (state g store.conn).is_open → (is : Bool) × HoldsAs g is content store
  as_held store content same rest is_open = elim (cases_Bool store.broken) [
    | inl broken ↦ (true, record { broken = broken; executed = same; rest = rest })
    | inr whole ↦ (false, record { whole = whole; executed = same; rest = rest is_open })
  ]

  weaker : (store : Store S g) (content : Content) (P Q : Content → Type 0) → ((left : Content) → P left → Q left) → HasStayed g store content P → HasStayed g store content Q
  weaker store content P Q more it = record { executed = it.executed; rest = it.rest; schema = it.schema; leaves = weaker_leaves g it.schema store P Q more it.leaves }

  -- nothing was reported but the opening
  pub led_opened : (names : Names) (old : Content) (after : Store S g) (t0 t1 : Account) → HasStayed g after old (λ left. left ≡ old) → IsNotedSinceOpening names old old t0 t1 [] → IsClearedSinceOpening g names after old t0 t1
  led_opened names old after t0 t1 it noted = record {
    new = old;
    executed = it.executed;
    rest = it.rest;
    noted_of = noted;
    schema = it.schema;
    leaves = weaker_leaves g it.schema after (λ left. left ≡ old) (IsLeftOfNoted names noted.noted_of.notices old) (λ left same. inl same) it.leaves;
  }

module _ {S : Type 0} (g : Ghosts S) (settled : (h : Held S) (db : Trees) → IsTrue (state g h).is_open → (state g h).may_leave db → db ≡ (state g h).committed.trees) where
  pub stays_whole : (store : Store S g) (content : Content) (P : Content → Type 0) → P content → Holds g store content → HasStayed g store content P
  stays_whole store content P is holds = record { executed = holds.executed; rest = λ is_open. holds.rest; schema = (state g store.conn).now.schema; leaves = whole_leaves g settled content store P is holds }

  -- and a transaction
  led_as : (first last : Store S g) (old : Content) (t0 t2 : Account) → (a : IsLedSinceOpening g first last false old t0 t2 []) → (is : Bool) → a.now_broken ≡ is → IsClearedSinceOpening g first.following last old t0 t2
  led_as first last old t0 t2 a false is =
      let whole : Holds g last a.new = subst (λ (b : Bool). HoldsAs g b a.new last) is a.holds in
      record { new = a.new; executed = whole.executed; rest = λ is_open. whole.rest; noted_of = a.noted_of; schema = (state g last.conn).now.schema; leaves = whole_leaves g settled a.new last (IsLeftOfNoted first.following a.noted_of.noted_of.notices a.new) (inl refl) whole }
  led_as first last old t0 t2 a true is =
      let failed : HasFailed g last a.new = subst (λ (b : Bool). HoldsAs g b a.new last) is a.holds in
      let l = a.leaves refl is in
      record { new = a.new; executed = failed.executed; rest = failed.rest; noted_of = a.noted_of; schema = l.0; leaves = l.1 }

  pub led_applied : (first middle last : Store S g) (old : Content) (t0 t1 t2 : Account) → middle.following ≡ first.following → Holds g middle old → (noted : IsNotedSinceOpening first.following old old t0 t1 []) → has_failure noted.noted_of.notices ≡ false
      → ((is : Bool) (now : Content) → HoldsAs g is now middle → IsLedOver g middle last is now t1 t2 []) → IsClearedSinceOpening g first.following last old t0 t2
  led_applied first middle last old t0 t1 t2 same holds noted whole led =
      let opens : IsLedSinceOpening g first middle false old t0 t1 [] = record { now_broken = false; new = old; holds = holds; noted_of = noted; breaks = λ f. absurd (false≢true (sym whole ∙ f)); leaves = λ fresh bad. absurd (false≢true bad) } in
      let all = since_through g false old first middle last t0 t1 t2 [] [] same (λ some. absurd (some refl)) opens led (λ some. absurd (some refl)) in
      led_as first last old t0 t2 all all.now_broken refl

  -- a store whose rows were listed stays as it is
  pub stays_listed : {V E : Type 0} (gives : V → Entry → Result (Unit {0}) E → V → Type 0) (before after : Store S g) (content : Content) (v w : V) (listed : Result (Unit {0}) (ListError E)) → after.following ≡ before.following
      → Lists g gives content after v w listed → ((trees : Trees) → (state g after.conn).may_leave trees → AreOf (state g before.conn).now.schema before.following content trees) → HasStayed g after content (λ left. left ≡ content)
  stays_listed gives before after content v w (Ok u) same it crash = stays_whole after content (λ left. left ≡ content) refl it.1
  stays_listed gives before after content v w (Err (VisitorError cause)) same it crash = stays_whole after content (λ left. left ≡ content) refl it.1
  stays_listed gives before after content v w (Err (StoreError (fault.Database e))) same it crash = record {
    executed = it.1.executed;
    rest = it.1.rest;
    schema = (state g before.conn).now.schema;
    leaves = record { each = λ trees may. (content, subst (λ n. AreOf (state g before.conn).now.schema n content trees) (sym same) (crash trees may), refl) };
  }
  stays_listed gives before after content v w (Err (StoreError fault.Memory)) same it crash = absurd it.1
  stays_listed gives before after content v w (Err (StoreError fault.Damaged)) same it crash = absurd it.1
  stays_listed gives before after content v w (Err (StoreError (fault.Layout n))) same it crash = absurd it.1
  stays_listed gives before after content v w (Err (StoreError fault.Broken)) same it crash = absurd it.1
  stays_listed gives before after content v w (Err (StoreError fault.Follows)) same it crash = absurd it.1
  stays_listed gives before after content v w (Err (StoreError (fault.NoSuchRow at))) same it crash = absurd it.1
  stays_listed gives before after content v w (Err (StoreError (fault.CountFull at))) same it crash = absurd it.1

  -- the rows of the table are listed
  lists_by : (schema table : List ℕ) (before after : Store S g) (content : Content) (v w : TableRows) (listed : Result (Unit {0}) (ListError NoMemory)) → v.changes ≡ [] → v.table.value.schema.items ≡ schema → v.table.value.table.items ≡ table → after.following ≡ before.following
      → Lists g TakesRow content after v w listed → ((trees : Trees) → (state g after.conn).may_leave trees → AreOf (state g before.conn).now.schema before.following content trees) → ListsDeletes g schema table content after (gathered_of listed w.changes)
  lists_by schema table before after content v w (Ok u) empty schema_is table_is same it crash = (
    record {
      entries = it.0.first ++ [];
      lists = it.0.are;
      changes_are = all_taken it.0.first v w it.0.accepted
          ∙ (λ i. empty i ++ flat_map (deletes_of (schema_is i) (table_is i)) it.0.first)
          ∙ ap (flat_map (deletes_of schema table)) (sym (append-nil it.0.first));
    },
    it.1,
  )
  lists_by schema table before after content v w (Err (VisitorError cause)) empty schema_is table_is same it crash = (tt, stays_listed TakesRow before after content v w (Err (VisitorError cause)) same it crash)
  lists_by schema table before after content v w (Err (StoreError (fault.Database e))) empty schema_is table_is same it crash = (tt, stays_listed TakesRow before after content v w (Err (StoreError (fault.Database e))) same it crash)
  lists_by schema table before after content v w (Err (StoreError fault.Memory)) empty schema_is table_is same it crash = absurd it.1
  lists_by schema table before after content v w (Err (StoreError fault.Damaged)) empty schema_is table_is same it crash = absurd it.1
  lists_by schema table before after content v w (Err (StoreError (fault.Layout n))) empty schema_is table_is same it crash = absurd it.1
  lists_by schema table before after content v w (Err (StoreError fault.Broken)) empty schema_is table_is same it crash = absurd it.1
  lists_by schema table before after content v w (Err (StoreError fault.Follows)) empty schema_is table_is same it crash = absurd it.1
  lists_by schema table before after content v w (Err (StoreError (fault.NoSuchRow at))) empty schema_is table_is same it crash = absurd it.1
  lists_by schema table before after content v w (Err (StoreError (fault.CountFull at))) empty schema_is table_is same it crash = absurd it.1

  pub lists_all : (schema table : List ℕ) (before after : Store S g) (content : Content) (v w : TableRows) (listed : Result (Unit {0}) (ListError NoMemory)) (made : Result (List ChangeValue) StoreFault) → made ≡ gathered_of listed w.changes → v.changes ≡ [] → v.table.value.schema.items ≡ schema → v.table.value.table.items ≡ table → after.following ≡ before.following
      → Lists g TakesRow content after v w listed → ((trees : Trees) → (state g after.conn).may_leave trees → AreOf (state g before.conn).now.schema before.following content trees) → ListsDeletes g schema table content after made
  lists_all schema table before after content v w listed made gathers empty schema_is table_is same it crash =
      subst (λ r. ListsDeletes g schema table content after r) (sym gathers) (lists_by schema table before after content v w listed empty schema_is table_is same it crash)

  -- nothing is done
  pub repeats : (names : Names) (clear : TableClear) (store : Store S g) (old : Content) → set.contains old.executed (clear.source, clear.number) ≡ true → Holds g store old → HasCleared g names clear store old Repeat
  repeats names clear store old known holds = record { new = old; clears = (known, refl); stays = stays_whole store old _ (inl refl) holds }

  pub not_followed : (names : Names) (clear : TableClear) (store : Store S g) (old : Content) → set.contains old.executed (clear.source, clear.number) ≡ false → is_read names clear.schema clear.table ≡ false → Holds g store old → HasCleared g names clear store old NotFollowed
  not_followed names clear store old fresh left_out holds = record { new = old; clears = (fresh, left_out, refl); stays = stays_whole store old _ (inl refl) holds }

  pub other_set : (names : Names) (clear : TableClear) (store : Store S g) (old : Content) → IsToBeCleared names clear old → (HasJust old.executed clear.at → ⊥) → Holds g store old → HasCleared g names clear store old OtherSet
  other_set names clear store old is other holds = record { new = old; clears = (is, other, refl); stays = stays_whole store old _ (inl refl) holds }

  pub not_listed : (names : Names) (clear : TableClear) (store : Store S g) (old : Content) (cause : StoreFault) → IsToBeCleared names clear old → IsFailure cause × HasStayed g store old (λ left. left ≡ old)
      → HasCleared g names clear store old (Failed cause)
  not_listed names clear store old cause is it = record { new = old; clears = (is, it.0, refl); stays = weaker g store old (λ left. left ≡ old) _ (λ left same. inl same) it.1 }

  module _ (clear : TableClear) (before after : Store S g) (old : Content) (rows : ℕ) (changes : List ChangeValue) (later : after.following ≡ before.following) (is : IsClearedAt before.following clear old) (are : AreDeletesOf clear.schema clear.table old.rows changes)
      (so_many : MatchBool (admits before.following clear.schema clear.table) (rows ≡ length changes) (rows ≡ 0)) where
    -- the transaction is executed before
    not_known : {X : Type 0} → set.contains old.executed (clear.source, clear.number) ≡ true → X
    not_known known = absurd (false≢true (sym is.to_be.fresh ∙ known))

    left_so : (left : Content) → HasOutcome before.following old (record { source = clear.source; number = clear.number; changes = changes }) (done left) → IsClearedBy before.following clear old left
    left_so left outcome = is_cleared before.following clear old changes are left outcome

    taken_out : (kept : Bool) → MatchBool kept (rows ≡ length changes) (rows ≡ 0) → HasTakenOut kept clear.schema clear.table old.rows rows
    taken_out true so = record { entries = are.entries; lists = are.lists; counted = so ∙ ap length are.changes_are ∙ as_many clear.schema clear.table are.entries }
    taken_out false so = so

    by_answer : (answer : Result Bool Reason) → TakesAlone g old (record { source = clear.source; number = clear.number; changes = changes }) before after answer → HasCleared g before.following clear after old (end_by rows answer)
    by_answer (Ok true) it = record {
      new = it.after;
      clears = elim it.applies [
        | inl one ↦ (
          is,
          taken_out (admits before.following clear.schema clear.table) so_many,
          subst (λ (c : Content). IsClearedBy before.following clear old c) (sym one.4.1) (left_so one.0 one.2),
        )
        | inr known ↦ not_known known.0
      ];
      stays = stays_whole after it.after _ (inl refl) it.holds;
    }
    by_answer (Ok false) it = elim it.applies [
      | inl one ↦ absurd (omega (arith, one.3))
      | inr known ↦ not_known known.0
    ]
    by_answer (Err (Refused (NoSuchRow at))) it = not_refused before.following clear old changes are at why.NoSuchRow it.0.1
    by_answer (Err (Refused (CountFull at))) it = not_refused before.following clear old changes are at why.CountFull it.0.1
    by_answer (Err (Database (fault.Database e))) it = record {
      new = old;
      clears = (is, refl);
      stays = record {
        executed = it.failed.executed;
        rest = it.failed.rest;
        schema = (state g before.conn).now.schema;
        leaves = record {
          each = λ trees may.
              let l = it.leaves trees may in (
                l.0,
                subst (λ n. AreOf (state g before.conn).now.schema n l.0 trees) (sym later) l.1,
                elim l.2 [
                  | inl same ↦ inl same
                  | inr more ↦ inr (left_so l.0 more)
                ],
              );
        };
      };
    }
    by_answer (Err Memory) it = record {
      new = old;
      clears = (is, refl);
      stays = record {
        executed = it.failed.executed;
        rest = it.failed.rest;
        schema = (state g before.conn).now.schema;
        leaves = record {
          each = λ trees may.
              let l = it.leaves trees may in
              (l.0, subst (λ n. AreOf (state g before.conn).now.schema n l.0 trees) (sym later) l.1, inl l.2);
        };
      };
    }
    by_answer (Err Halted) it = record { new = old; clears = (is, refl); stays = stays_whole after old _ (inl refl) it.1 }
    by_answer _ it = absurd it

  -- the tables are those of the store from before the list
  pub ends_by : (names : Names) (clear : TableClear) (before after : Store S g) (old : Content) (rows : ℕ) (changes : List ChangeValue) (answer : Result Bool Reason) (end : ClearEnd) → end ≡ end_by rows answer → before.following ≡ names → after.following ≡ before.following → IsClearedAt names clear old
      → AreDeletesOf clear.schema clear.table old.rows changes → MatchBool (admits names clear.schema clear.table) (rows ≡ length changes) (rows ≡ 0) → TakesAlone g old (record { source = clear.source; number = clear.number; changes = changes }) before after answer → HasCleared g names clear after old end
  ends_by names clear before after old rows changes answer end ends same later is are so_many takes =
      subst₂ (λ n e. HasCleared g n clear after old e) same (sym ends)
      (by_answer clear before after old rows changes later (subst (λ n. IsClearedAt n clear old) (sym same) is) are (subst (λ n. MatchBool (admits n clear.schema clear.table) (rows ≡ length changes) (rows ≡ 0)) (sym same) so_many) answer takes)

-- how many rows go, by the tables that a store follows
pub rows_by : (names following : Names) (schema table : List ℕ) (rows : ℕ) (changes : List ChangeValue) → following ≡ names → MatchBool (admits following schema table) (rows ≡ length changes) (rows ≡ 0) → MatchBool (admits names schema table) (rows ≡ length changes) (rows ≡ 0)
rows_by names following schema table rows changes same so = subst (λ n. MatchBool (admits n schema table) (rows ≡ length changes) (rows ≡ 0)) same so

-- whether the observer has ended it
pub may_end_by : (rows : ℕ) (answer : Result Bool Reason) (account : Account) → IfErr answer (λ reason. IsOwnOrHalted reason account.has_stopped) → MayEndClear (end_by rows answer) account
may_end_by rows (Ok true) account own = tt
may_end_by rows (Ok false) account own = tt
may_end_by rows (Err reason) account own = own
