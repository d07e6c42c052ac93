-- A store that follows more tables than before, and the files of its database.
use Rattle.gtid.specs.Identifier.{id_cmp}
use Rattle.gtid.specs.declared.identifier.Gtid.{Gtid}
use Rattle.gtid.proofs.Sets.{id_cmp_total}
use Rattle.std.proofs.lemmas.Bool.{false≢true}
use Rattle.replica.proofs.Names.{◌≡◌, ℕ, Bool, List, true, inl, inr, ap₂, id, Option, None, Some, Result, Ok, Err, IfOk, IfErr, IsTrue, refl, sym, ap, subst, ◌∙◌, arith, Ghosts, Trees, Files, AreClean, IsClean, FileStore, Error, HasCleanDisk, over_files, IsClosed, FailsToClose, IsCopied, Held, Ids, Names, Content, StoreFault, Store, database, AreOf}
use Rattle.std.specs.FinSet as set
use Rattle.sqlite_disk.specs.declared.Disk.{Ghosts as Disk}
use Rattle.sqlite_store.specs.FileStore.{view}
use Rattle.sqlite.specs.Effect.{Database}
use Rattle.sqlite.specs.Held.{state}
use Rattle.store.specs.Changes.{adopted, widened}
use Rattle.store.specs.declared.fault.StoreFault.TheVariants as fault
use Rattle.store.specs.Store.{Holds, Adopts, LeavesAdmitted, names_left}
use Rattle.store.proofs.CrashOpenings.{left_by}
use Rattle.store.proofs.ExecutedSets.{nothing_new}
use Rattle.replica.specs.declared.file.admitting.AdmitFault.{AdmitFault}
use Rattle.replica.specs.declared.file.admitting.AdmitFault.TheVariants.{AllFollowed, Followed, Unfinished, Failed, GivenUp, HasEnded, HasBegun, NoTables, OtherSet}
use Rattle.replica.specs.declared.file.admitting.CopyBegin.{CopyBegin}
use Rattle.replica.specs.Copies.{with_marks}
use Rattle.replica.specs.Admit.{StandFor, IsToBegin, MayAdmit, IsNotAdmitted, with_copy_begun, IsLeftOfAdmit, HasAdmitted, AdmitsInFiles}
use Rattle.replica.proofs.CaptureFiles.{closed_with}
use Rattle.replica.proofs.ClearStore.{as_held}

nothing_within : (s : Ids) → set.is_subset set.empty s ≡ true
nothing_within s = set.contains-is_subset id_cmp_total set.empty s (λ q there. absurd (false≢true (sym (set.contains-empty id_cmp q) ∙ there)))

-- the empty set adds nothing
same_content : (old : Content) (none : Ids) → none ≡ set.empty → adopted old none ≡ old
same_content old none is = sym (nothing_new old old.executed none refl (subst (λ (s : Ids). set.is_subset s old.executed ≡ true) (sym is) (nothing_within old.executed)))

-- what a copy adds begins it, and without one nothing is added
pub begins_by : {E : Type 0} (made : Result Ids E) (given : Option CopyBegin) (copy : CopyBegin) → given ≡ Some copy → IfOk made (λ ids. ids ≡ with_marks copy.gtids.now (id copy.first))
    → IfOk made (λ ids. (old : Content) → adopted old ids ≡ with_copy_begun given old)
begins_by (Ok ids) given copy of is = λ old. ap (λ (s : Ids). adopted old s) is ∙ ap (λ (c : Option CopyBegin). with_copy_begun c old) (sym of)
begins_by (Err e) given copy of is = tt

pub begins_none : (none : Ids) (given : Option CopyBegin) → given ≡ None → none ≡ set.empty → (old : Content) → adopted old none ≡ with_copy_begun given old
begins_none none given of is old = same_content old none is ∙ ap (λ (c : Option CopyBegin). with_copy_begun c old) (sym of)

-- ---- why tables are not admitted

-- whether a mark of the copy is executed
pub is_marked : (executed : Ids) (number_is : ℕ) (mark : Gtid) {said says : Bool} {source : List ℕ} → said ≡ set.contains executed (id mark) → mark.source ≡ source → mark.number ≡ number_is → said ≡ says
    → set.contains executed (source, number_is) ≡ says
is_marked executed number_is mark {said} {says} {source} is of number it = ap₂ (λ (s : List ℕ) (n : ℕ). set.contains executed (s, n)) (sym of) (sym number) ∙ sym is ∙ it

module _ (names : Names) (executed : Ids) (tables : Names) where
  -- what is a reason where they come alone is one where they come with a copy
  pub likewise : (copy : CopyBegin) (why : AdmitFault) → IsNotAdmitted names executed tables None why → IsNotAdmitted names executed tables (Some copy) why
  likewise copy (Unfinished source) is = is
  likewise copy AllFollowed is = is
  likewise copy (Followed name) is = is
  likewise copy (Failed cause) is = is
  likewise copy GivenUp is = absurd is
  likewise copy HasEnded is = absurd is
  likewise copy HasBegun is = absurd is
  likewise copy NoTables is = absurd is
  likewise copy OtherSet is = absurd is

  pub may_with : (copy : CopyBegin) → MayAdmit names executed tables None → IsToBegin executed tables copy → MayAdmit names executed tables (Some copy)
  may_with copy may begins = record { none = may.none; some = may.some; are_new = may.are_new; begins = begins }

-- ---- the store

module _ {S : Type 0} (g : Ghosts S) (names : Names) (tables unkept : Names) (copy : Option CopyBegin) where
  -- nothing was done
  pub is_refused : (settled : (h : Held S) (db : Trees) → IsTrue (state g h).is_open → (state g h).may_leave db → db ≡ (state g h).committed.trees)
      → (store : Store S g) (old : Content) (why : AdmitFault) → store.following ≡ names → IsNotAdmitted names old.executed tables copy why → Holds g store old → HasAdmitted g names old tables unkept copy (Err why) store
  is_refused settled store old why same is holds = record {
    new = old;
    leads = (is, same, refl);
    executed = holds.executed;
    rest = λ is_open. holds.rest;
    schema = (state g store.conn).now.schema;
    leaves = λ trees may. (store.following, old, whole trees may, left why);
  }
    where
      whole : (trees : Trees) → (state g store.conn).may_leave trees → AreOf (state g store.conn).now.schema store.following old trees
      whole trees may =
          let r = holds.rest in
          let is_trees : trees ≡ (state g store.conn).now.trees = settled store.conn trees r.is_open may ∙ sym (ap (λ (b : Database). b.trees) r.settled) in
          subst (λ t. AreOf (state g store.conn).now.schema store.following old t) (sym is_trees) (record { stands = r.stands; sound = r.sound; spans_apart = r.spans_apart })

      left : (which : AdmitFault) → IsLeftOfAdmit names old tables unkept copy (Err which) store.following old store.following old
      left (Unfinished source) = (refl, refl)
      left AllFollowed = (refl, refl)
      left (Followed name) = (refl, refl)
      left (Failed (fault.Database e)) = inl (refl, refl)
      left (Failed fault.Memory) = (refl, refl)
      left (Failed fault.Damaged) = (refl, refl)
      left (Failed (fault.Layout n)) = (refl, refl)
      left (Failed fault.Broken) = (refl, refl)
      left (Failed fault.Follows) = (refl, refl)
      left (Failed (fault.NoSuchRow at)) = (refl, refl)
      left (Failed (fault.CountFull at)) = (refl, refl)
      left GivenUp = (refl, refl)
      left HasEnded = (refl, refl)
      left HasBegun = (refl, refl)
      left NoTables = (refl, refl)
      left OtherSet = (refl, refl)

  module _ (before after : Store S g) (old : Content) (ids : Ids) (more : Names) (stand : StandFor names tables unkept more) (begun : adopted old ids ≡ with_copy_begun copy old) (was : before.following ≡ names) where
    pub is_admitted : MayAdmit names old.executed tables copy → after.following ≡ names_left before.following more (Ok tt) → Adopts g old ids before after (Ok tt)
        → ((trees : Trees) → (state g after.conn).may_leave trees → LeavesAdmitted (state g before.conn).now.schema before.following more old ids (Ok tt) trees)
        → HasAdmitted g names old tables unkept copy (Ok tt) after
    is_admitted may later it leaves =
        let holds : Holds g after (with_copy_begun copy old) = subst (Holds g after) begun it in
        let is : after.following ≡ widened names more = later ∙ ap (λ n. widened n more) was in
        record {
          new = with_copy_begun copy old;
          leads = (may, (more, stand, is), refl);
          executed = holds.executed;
          rest = λ is_open. holds.rest;
          schema = (state g before.conn).now.schema;
          leaves = λ trees left. (
            after.following,
            with_copy_begun copy old,
            subst (λ n. AreOf (state g before.conn).now.schema n (with_copy_begun copy old) trees) (sym later) (subst (λ c. AreOf (state g before.conn).now.schema (widened before.following more) c trees) begun (leaves trees left)),
            (refl, refl),
          );
        }

    pub not_admitted : (f : StoreFault) → after.following ≡ before.following → Adopts g old ids before after (Err f)
        → ((trees : Trees) → (state g after.conn).may_leave trees → LeavesAdmitted (state g before.conn).now.schema before.following more old ids (Err f) trees)
        → HasAdmitted g names old tables unkept copy (Err (Failed f)) after
    not_admitted (fault.Database e) later it leaves = record {
      new = old;
      leads = (tt, later ∙ was, refl);
      executed = it.executed;
      rest = it.rest;
      schema = (state g before.conn).now.schema;
      leaves = λ trees left. elim (leaves trees left) [
        | inl whole ↦ (after.following, old, subst (λ n. AreOf (state g before.conn).now.schema n old trees) (sym later) whole, inl (refl, refl))
        | inr wider ↦ (
          widened names more,
          with_copy_begun copy old,
          subst (λ n. AreOf (state g before.conn).now.schema (widened n more) (with_copy_begun copy old) trees) was (subst (λ c. AreOf (state g before.conn).now.schema (widened before.following more) c trees) begun wider),
          inr ((more, stand, refl), refl),
        )
      ];
    }
    not_admitted fault.Memory later it leaves = record {
      new = old;
      leads = (tt, later ∙ was, refl);
      executed = it.0.executed;
      rest = it.0.rest;
      schema = (state g before.conn).now.schema;
      leaves = λ trees left. (after.following, old, subst (λ n. AreOf (state g before.conn).now.schema n old trees) (sym later) (leaves trees left), (refl, refl));
    }
    not_admitted _ later it leaves = absurd it

-- ---- the files

module _ {D : Type 0} (g : Disk D) (names : Names) (old : Content) (opened after : Store (FileStore D g) over_files) (tables unkept : Names) (copy : Option CopyBegin) (answer : Result (Unit {0}) AdmitFault) where
  pub admits_in : (closed : Result (Files D) (Error × FileStore D g))
      → (HasCleanDisk (database over_files after) → Holds over_files opened old × (opened.following ≡ names))
      → (HasCleanDisk (database over_files after) → Holds over_files opened old → HasAdmitted over_files opened.following old tables unkept copy answer after)
      → IfOk closed (λ files. AreClean g files.log files.db → IsCopied after.conn files)
      → IfErr closed (λ e. IsClosed after.conn e.1 × (IsClean (view e.1) → FailsToClose after.conn e.1 e.0))
      → AdmitsInFiles names old tables unkept copy answer closed
  admits_in (Ok files) opens comes copied failed = λ honest.
      let at_close = copied honest in
      let o = opens at_close.was_clean in
      let h = subst (λ n. HasAdmitted over_files n old tables unkept copy answer after) o.1 (comes at_close.was_clean o.0) in
      let held = as_held over_files after h.new h.executed h.rest at_close.was_open in
      (after.following, h.new, h.leads, closed_with g after.following after refl held.0 h.new files at_close held.1)
  admits_in (Err e) opens comes copied failed = λ honest.
      let quiet = failed.0.quiet in
      let clean : HasCleanDisk (database over_files after) = omega (arith, quiet.clean, honest) in
      let o = opens clean in
      let h = subst (λ n. HasAdmitted over_files n old tables unkept copy answer after) o.1 (comes clean o.0) in (
        after.following,
        h.new,
        h.leads,
        λ trees may.
            let l = h.leaves trees (quiet.outcomes trees may) in
            (l.0, l.1, l.3, λ only. left_by h.schema l.0 l.1 trees l.2 only),
      )
