-- A database file that was changed by transactions that no connection carries.
use Rattle.replica.proofs.Names.{◌≡◌, ℕ, Bool, true, false, [], Result, Ok, Err, IfOk, IfErr, refl, subst, ◌∙◌, arith, Files, AreClean, IsClean, Schema, FileStore, SeenMayStay, settled_at, Error, HasCleanDisk, over_files, file_state, IsClosed, FailsToClose, IsCopied, Ids, Names, Content, Store, database, IsLeft, NotAdopted, KeepsContent, Account, has_failure, IsLeftOfNoted, IsNotedSinceOpening, IsLedSinceOpening, Supply, LeavesOnly, HasChanged}
use Rattle.sqlite_disk.specs.declared.Disk.{Ghosts}
use Rattle.sqlite_trees.specs.declared.store.Store.{Ghosts as StoreGhosts}
use Rattle.sqlite_store.specs.FileStore.{view}
use Rattle.store.specs.Store.{Holds}
use Rattle.replica.specs.declared.change.changing.ChangeEnd.{ChangeEnd}
use Rattle.replica.specs.declared.change.changing.ChangeEnd.TheVariants.{AllGiven, NotGiven, Stopped, TooMany}
use Rattle.replica.specs.Change.{IsAdopted, UnlessAdopted, IsLeftOfChange}
use Rattle.replica.specs.ChangeFile.{ChangesFile}
use Rattle.replica.proofs.CaptureFiles.{closed_with, may_hold}
use Rattle.replica.proofs.InOrder.{whole_leaves}

pub unless_begun : {E : Type 0} (end : ChangeEnd E) (P : Type 0) → IsAdopted end → UnlessAdopted end P
unless_begun AllGiven P begun = tt
unless_begun (NotGiven cause) P begun = tt
unless_begun (Stopped reason) P begun = tt
unless_begun TooMany P begun = tt
unless_begun (NotAdopted f) P begun = absurd begun

module _ {S : Type 0} (g : StoreGhosts S) where
  -- what leads since an opening for these tables
  abbrev LeadsSince : Content → Store S g → Bool → Content → Account → Account → Names → Type 0
  LeadsSince old after broken new was is names =
      (noted_of : IsNotedSinceOpening names old new was is []) × (has_failure noted_of.noted_of.notices ≡ true → broken ≡ true)
      × (broken ≡ true → (schema : Schema) × LeavesOnly g schema after (IsLeftOfNoted names noted_of.noted_of.notices new))

  -- of the store before its tables alone matter
  pub since_likewise : (first other last : Store S g) (old : Content) (was is : Account) → other.following ≡ first.following → IsLedSinceOpening g other last false old was is [] → IsLedSinceOpening g first last false old was is []
  since_likewise first other last old was is same a =
      let all : LeadsSince old last a.now_broken a.new was is first.following = subst (LeadsSince old last a.now_broken a.new was is) same (a.noted_of, a.breaks, a.leaves refl) in
      record { now_broken = a.now_broken; new = a.new; holds = a.holds; noted_of = all.0; breaks = all.1; leaves = λ fresh broken. all.2 broken }

module _ {D : Type 0} (g : Ghosts D) (names : Names) (old : Content) (opened after : Store (FileStore D g) over_files) where
  pub changed_into : {E : Type 0} (left : Supply) (ids : Ids) (applied : ℕ) (end : ChangeEnd E) (closed : Result (Files D) (Error × FileStore D g))
      → after.following ≡ opened.following → (HasCleanDisk (database over_files after) → Holds over_files opened old × (opened.following ≡ names))
      → (HasCleanDisk (database over_files after) → (content : Content) → Holds over_files opened content → HasChanged over_files opened.following after content ids left applied end)
      → IfOk closed (λ files. AreClean g files.log files.db → IsCopied after.conn files)
      → IfErr closed (λ e. IsClosed after.conn e.1 × (IsClean (view e.1) → FailsToClose after.conn e.1 e.0))
      → ChangesFile left names old ids (record { applied = applied; end = end; closed = closed })
  changed_into left ids applied end (Ok files) same opens changes copied failed = λ honest.
      let copy = copied honest in
      let o = opens copy.was_clean in
      let h = subst (λ n. HasChanged over_files n after old ids left applied end) o.1 (changes copy.was_clean old o.0) in
      (h.change, closed_with g names after (same ∙ o.1) h.is h.change.new files copy h.holds)
  changed_into left ids applied end (Err e) same opens changes copied failed = λ honest.
      let quiet = failed.0.quiet in
      let clean : HasCleanDisk (database over_files after) = omega (arith, quiet.clean, honest) in
      let o = opens clean in
      let h = subst (λ n. HasChanged over_files n after old ids left applied end) o.1 (changes clean old o.0) in
      (h.change, may_hold g names after (same ∙ o.1) h.schema (IsLeftOfChange names old ids left applied end h.change) e.1 (λ trees may. quiet.outcomes trees may) h.leaves)

  -- a store that is whole afterwards
  pub keeps_whole : SeenMayStay g → (only : Names) (content : Content) (closed : Result (Files D) (Error × FileStore D g))
      → after.following ≡ opened.following → (HasCleanDisk (database over_files after) → Holds over_files opened old × (opened.following ≡ names))
      → (HasCleanDisk (database over_files after) → Holds over_files opened old → Holds over_files after content)
      → IfOk closed (λ files. AreClean g files.log files.db → IsCopied after.conn files)
      → IfErr closed (λ e. IsClosed after.conn e.1 × (IsClean (view e.1) → FailsToClose after.conn e.1 e.0))
      → KeepsContent only names content closed
  keeps_whole still only content (Ok files) same opens whole copied failed = λ honest.
      let copy = copied honest in
      let o = opens copy.was_clean in
      closed_with g names after (same ∙ o.1) false content files copy (whole copy.was_clean o.0)
  keeps_whole still only content (Err e) same opens whole copied failed = λ honest trees may.
      let quiet = failed.0.quiet in
      let clean : HasCleanDisk (database over_files after) = omega (arith, quiet.clean, honest) in
      let o = opens clean in
      let leaves = whole_leaves over_files (λ h db is_open left. settled_at h.store still db is_open left) content after (λ c. c ≡ content) refl (whole clean o.0) in
      let l = may_hold g names after (same ∙ o.1) (file_state after.conn).now.schema (λ c. c ≡ content) e.1 (λ t m. quiet.outcomes t m) leaves trees may in
      subst (λ c. IsLeft only names c trees) l.1 (l.2 only)
