-- A store into which a first copy is loaded, and its files.
use Rattle.replica.proofs.Names.{◌≡◌, ◌≢◌, ℕ, Bool, true, false, false≢true, true≢false, List, [], inl, None, Result, Err, IfOk, IfErr, refl, sym, ap, ap₂, subst, ◌∙◌, Files, AreClean, SeenMayStay, Trees, IsClean, FileStore, Error, HasCleanDisk, over_files, IsClosed, FailsToClose, IsCopied, Id, Ids, id, Names, Content, adopted, StoreFault, ListError, Store, AreOf, database, Supply, NotAdopted, Account, HasStayed, HasChanged}
use Rattle.std.specs.FinSet as set
use Rattle.std.specs.Str.{bytes_eq}
use Rattle.binlog.proofs.TableSets.{itself}
use Rattle.gtid.specs.declared.identifier.Gtid.{Gtid}
use Rattle.sqlite_disk.specs.declared.Disk.{Ghosts}
use Rattle.sqlite_trees.specs.declared.store.Store.{Ghosts as StoreGhosts}
use Rattle.sqlite_store.specs.FileStore.{view}
use Rattle.sqlite.specs.Held.{state}
use Rattle.store.specs.Faults.{IsFailure}
use Rattle.store.specs.declared.fault.StoreFault.TheVariants as fault
use Rattle.store.specs.declared.listing.ListError.TheVariants.{Store as StoreError, Visitor as VisitorError}
use Rattle.store.specs.Listing.{HoldsListed}
use Rattle.store.specs.Store.{Holds, Keeps}
use Rattle.replica.specs.declared.change.loading.LoadEnd.{LoadEnd}
use Rattle.replica.specs.declared.change.loading.LoadEnd.TheVariants.{Changed, HadEnded, Refused}
use Rattle.replica.specs.declared.change.loading.Unloadable.{Unloadable}
use Rattle.replica.specs.declared.change.loading.Unloadable.TheVariants.{GivenUp, Unfinished, OtherSet, LeftOut, NotFirst, HasRows, Failed}
use Rattle.replica.specs.Marks.{ended_number, is_unfinished}
use Rattle.gather.specs.Given.{empty_of, then_last, unless_last}
use Rattle.replica.specs.Copies.{Copy, IsNotGivenUp, IsAtSet, IsNotHad, MayNotLoad, end_of_copy, was_begun, with_marks}
use Rattle.replica.specs.Loading.{JudgesCopy, HasLoaded, IsLedByLoad}
use Rattle.replica.specs.LoadFile.{LoadsTo, IsNotedOfLoad}
use Rattle.replica.proofs.CaptureFiles.{clean_before_closing, noted_of_files}
use Rattle.replica.proofs.ContentStays.{keeps_stayed}
use Rattle.replica.proofs.ChangeFiles.{changed_into}

-- the tables may not be copied
pub not_had : (names : Names) (content : Content) (ids : Ids) (first : Id) (tables : Names) (why : Unloadable) → IsNotGivenUp content.executed first false → was_begun content.executed ids first ≡ false → IsAtSet content.executed ids
    → IsNotHad names content.executed tables why → MayNotLoad names content ids first tables why
not_had names content ids first tables (LeftOut name) kept begun at it = (kept, (begun, (at, it)))
not_had names content ids first tables (NotFirst name) kept begun at it = (kept, (begun, (at, it)))
not_had names content ids first tables (Failed fault) kept begun at it = (kept, (begun, it))
not_had names content ids first tables GivenUp kept begun at it = absurd it
not_had names content ids first tables OtherSet kept begun at it = absurd it
not_had names content ids first tables (Unfinished source) kept begun at it = absurd it
not_had names content ids first tables (HasRows name) kept begun at it = absurd it

-- whether a mark of the copy is executed, by the store's set
pub marked_by : (content : Content) (number_is : ℕ) (mark : Gtid) {executed : Ids} {said says : Bool} {source : List ℕ} → executed ≡ content.executed → said ≡ set.contains executed (id mark) → mark.source ≡ source → mark.number ≡ number_is → said ≡ says
    → set.contains content.executed (source, number_is) ≡ says
marked_by content number_is mark {executed} {said} {says} {source} same is of number it =
    ap (λ (ids : Ids). set.contains ids (source, number_is)) (sym same) ∙ ap₂ (λ (s : List ℕ) (n : ℕ). set.contains executed (s, n)) (sym of) (sym number) ∙ sym is ∙ it

-- whether the copy was begun, by the store's set
pub begun_by : (content : Content) (ids : Ids) (first : Id) {executed : Ids} {said says : Bool} → executed ≡ content.executed → said ≡ was_begun executed ids first → said ≡ says → was_begun content.executed ids first ≡ says
begun_by content ids first same is it = ap (λ (x : Ids). was_begun x ids first) (sym same) ∙ sym is ∙ it

-- a copy is unfinished by the store's set
pub unfinished_by : (content : Content) (source : List ℕ) {executed : Ids} → executed ≡ content.executed → is_unfinished executed source ≡ true → is_unfinished content.executed source ≡ true
unfinished_by content source same is = ap (λ (x : Ids). is_unfinished x source) (sym same) ∙ is

-- what the copy gives, and then the transaction with which it has ended
pub with_the_end : (is_given : Bool) (inner left : Supply) (last : Gtid) (source : List ℕ) → is_given ≡ false → inner ≡ left → last.source ≡ source → last.number ≡ ended_number
    → unless_last is_given inner (empty_of last) ≡ then_last left (end_of_copy source)
with_the_end false inner left last source is same of number = ap₂ then_last same (λ i. record { source = of i; number = number i; changes = [] })
with_the_end true inner left last source is same of number = absurd (true≢false is)

pub differs : (a b : List ℕ) → bytes_eq a b ≡ false → a ≢ b
differs a b is same = false≢true (sym is ∙ subst (λ x. bytes_eq a x ≡ true) same (itself a))

module _ {S : Type 0} (g : StoreGhosts S) where
  pub keeps_of : (store : Store S g) (content : Content) → Holds g store content → Keeps g store content
  keeps_of store content holds = record { whole = holds.whole; executed = holds.executed; rest = λ is_open. holds.rest }

  kept_listed : (E : Type 0) (f : StoreFault) (content : Content) (store : Store S g) → HoldsListed g {E = E} content store (Err (StoreError f)) → Keeps g store content × IsFailure f
  kept_listed E (fault.Database e) content store keeps = (keeps, tt)
  kept_listed E fault.Memory content store keeps = absurd keeps
  kept_listed E fault.Damaged content store keeps = absurd keeps
  kept_listed E (fault.Layout n) content store keeps = absurd keeps
  kept_listed E fault.Broken content store keeps = absurd keeps
  kept_listed E fault.Follows content store keeps = absurd keeps
  kept_listed E (fault.NoSuchRow at) content store keeps = absurd keeps
  kept_listed E (fault.CountFull at) content store keeps = absurd keeps

  -- after a failure of the store, and after one of the visitor
  pub kept_after : {E : Type 0} (error : ListError E) (f : StoreFault) (content : Content) (store : Store S g) → error ≡ StoreError f → HoldsListed g content store (Err error) → Keeps g store content × IsFailure f
  kept_after {E} error f content store is listed = kept_listed E f content store (subst (λ (e : ListError E). HoldsListed g content store (Err e)) is listed)

  pub held_after : {E : Type 0} (error : ListError E) (e : E) (content : Content) (store : Store S g) → error ≡ VisitorError e → HoldsListed g content store (Err error) → Holds g store content
  held_after {E} error e content store is listed = subst (λ (x : ListError E). HoldsListed g content store (Err x)) is listed

  -- a copy may not be loaded for this reason
  pub may_not : (names : Names) (store : Store S g) (content : Content) (ids : Ids) (first : Id) (tables : Names) (why : Unloadable) → Keeps g store content
      → MayNotLoad names content ids first tables why → JudgesCopy g names content ids first tables store (Err why)
  may_not names store content ids first tables why keeps reason = (keeps, reason)

  -- the copy is refused, and the store keeps what it holds
  pub refused : (before after : Store S g) (old : Content) (ids : Ids) (first : Id) (tables : Names) → after.following ≡ before.following
      → ((trees : Trees) → (state g after.conn).may_leave trees → AreOf (state g before.conn).now.schema before.following old trees)
      → (why : Unloadable) → JudgesCopy g before.following old ids first tables after (Err why) → MayNotLoad before.following old ids first tables why × HasStayed g after old (λ left. left ≡ old)
  refused before after old ids first tables later crash why (keeps, is) = (
    is,
    record {
      executed = keeps.executed;
      rest = keeps.rest;
      schema = (state g before.conn).now.schema;
      leaves = record { each = λ trees may. (old, subst (λ n. AreOf (state g before.conn).now.schema n old trees) (sym later) (crash trees may), refl) };
    },
  )

  -- a copy may be loaded, and memory runs out before its set is adopted
  pub unadopted : {E : Type 0} (before after : Store S g) (old : Content) (ids : Ids) (left : Supply) → after.following ≡ before.following → Holds g after old
      → ((trees : Trees) → (state g after.conn).may_leave trees → AreOf (state g before.conn).now.schema before.following old trees) → HasChanged g {E = E} before.following after old ids left 0 (NotAdopted fault.Memory)
  unadopted before after old ids left later holds crash = record {
    change = record { taken = []; last = None; gives = tt; new = old; applies = (refl, refl); why = (refl, refl, tt) };
    is = false;
    holds = holds;
    schema = (state g before.conn).now.schema;
    leaves = record { each = λ trees may. (old, subst (λ n. AreOf (state g before.conn).now.schema n old trees) (sym later) (crash trees may), inl refl) };
  }

module _ {D : Type 0} (g : Ghosts D) (names : Names) (old : Content) (opened after : Store (FileStore D g) over_files) where
  pub loaded_into : {E : Type 0} (only : Names) (copy : Copy) (applied : ℕ) (end : LoadEnd E) (closed : Result (Files D) (Error × FileStore D g))
      → after.following ≡ opened.following → (HasCleanDisk (database over_files after) → Holds over_files opened old × (opened.following ≡ names))
      → (HasCleanDisk (database over_files after) → (content : Content) → Holds over_files opened content → HasLoaded over_files opened.following after content copy applied end)
      → IfOk closed (λ files. AreClean g files.log files.db → IsCopied after.conn files)
      → IfErr closed (λ e. IsClosed after.conn e.1 × (IsClean (view e.1) → FailsToClose after.conn e.1 e.0))
      → LoadsTo only names old copy applied end closed
  loaded_into {E} only copy applied (Changed end) closed same opens loads copied failed = (
    (λ honest.
        let clean = clean_before_closing after.conn closed copied failed honest in
        let o = opens clean in
        (subst (λ n. HasLoaded over_files {E = E} n after old copy applied (Changed end)) o.1 (loads clean old o.0)).0),
    changed_into g names old opened after copy.left (with_marks copy.ids copy.first) applied end closed same opens (λ clean content holds. (loads clean content holds).1) copied failed,
  )
  loaded_into {E} only copy applied HadEnded closed same opens loads copied failed = (
    (λ honest.
        let clean = clean_before_closing after.conn closed copied failed honest in
        let o = opens clean in
        (subst (λ n. HasLoaded over_files {E = E} n after old copy applied HadEnded) o.1 (loads clean old o.0)).0),
    keeps_stayed g names old opened after only old closed same opens (λ clean holds. (loads clean old holds).1) copied failed,
  )
  loaded_into {E} only copy applied (Refused why) closed same opens loads copied failed = (
    (λ honest.
        let clean = clean_before_closing after.conn closed copied failed honest in
        let o = opens clean in
        (subst (λ n. HasLoaded over_files {E = E} n after old copy applied (Refused why)) o.1 (loads clean old o.0)).0),
    keeps_stayed g names old opened after only old closed same opens (λ clean holds. (loads clean old holds).1) copied failed,
  )

  pub noted_of_load : SeenMayStay g → {E : Type 0} (copy : Copy) (t0 t1 : Account) (end : LoadEnd E) (closed : Result (Files D) (Error × FileStore D g))
      → after.following ≡ opened.following → (HasCleanDisk (database over_files after) → Holds over_files opened old × (opened.following ≡ names))
      → (HasCleanDisk (database over_files after) → Holds over_files opened old → IsLedByLoad over_files opened after old copy t0 t1 end)
      → IfOk closed (λ files. AreClean g files.log files.db → IsCopied after.conn files)
      → IfErr closed (λ e. IsClosed after.conn e.1 × (IsClean (view e.1) → FailsToClose after.conn e.1 e.0))
      → IsNotedOfLoad names old copy t0 t1 end closed
  noted_of_load still copy t0 t1 (Changed end) closed same opens notes copied failed = λ begun. noted_of_files g names old opened after still (adopted old (with_marks copy.ids copy.first)) t0 t1 [] closed same opens (λ clean holds. notes clean holds begun) copied failed
  noted_of_load still copy t0 t1 HadEnded closed same opens notes copied failed = tt
  noted_of_load still copy t0 t1 (Refused why) closed same opens notes copied failed = tt
