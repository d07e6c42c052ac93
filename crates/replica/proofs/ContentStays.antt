-- A database file whose store has come to a content, as it was opened or another one.
use Rattle.replica.proofs.Names.{◌≡◌, Result, Ok, Err, IfOk, IfErr, subst, ◌∙◌, arith, Files, AreClean, IsClean, FileStore, Error, HasCleanDisk, over_files, IsClosed, FailsToClose, IsCopied, Names, Content, Store, database, IsLeft, AreClosedWith, KeepsContent, HasStayed}
use Rattle.std.specs.Prelude.{MatchResult}
use Rattle.sqlite_disk.specs.declared.Disk.{Ghosts}
use Rattle.sqlite_store.specs.FileStore.{view}
use Rattle.store.specs.Store.{Holds}
use Rattle.replica.specs.FollowFile.{MayHold}
use Rattle.replica.proofs.CaptureFiles.{closed_with, may_hold}
use Rattle.replica.proofs.ClearStore.{as_held}

module _ {D : Type 0} (g : Ghosts D) (names : Names) (old : Content) (opened after : Store (FileStore D g) over_files) where
  -- the closed files hold a content of which this is so, and files that could not be closed may be left with one of these
  pub ends_with : (Is : Content → Type 0) (left : Content → Content → Type 0) (closed : Result (Files D) (Error × FileStore D g))
      → after.following ≡ opened.following → (HasCleanDisk (database over_files after) → Holds over_files opened old × (opened.following ≡ names))
      → (HasCleanDisk (database over_files after) → Holds over_files opened old → (new : Content) × Is new × HasStayed over_files after new (left new))
      → IfOk closed (λ files. AreClean g files.log files.db → IsCopied after.conn files)
      → IfErr closed (λ e. IsClosed after.conn e.1 × (IsClean (view e.1) → FailsToClose after.conn e.1 e.0))
      → MatchResult closed (λ files. AreClean g files.log files.db → (new : Content) × Is new × AreClosedWith g names new files) (λ e. IsClean (view e.1) → (new : Content) × Is new × MayHold names e.1 (left new))
  ends_with Is left (Ok files) same opens comes copied failed = λ honest.
      let copy = copied honest in
      let o = opens copy.was_clean in
      let h = comes copy.was_clean o.0 in
      let held = as_held over_files after h.0 h.2.executed h.2.rest copy.was_open in
      (h.0, h.1, closed_with g names after (same ∙ o.1) held.0 h.0 files copy held.1)
  ends_with Is left (Err e) same opens comes copied failed = λ honest.
      let quiet = failed.0.quiet in
      let clean : HasCleanDisk (database over_files after) = omega (arith, quiet.clean, honest) in
      let o = opens clean in
      let h = comes clean o.0 in
      (h.0, h.1, may_hold g names after (same ∙ o.1) h.2.schema (left h.0) e.1 (λ trees may. quiet.outcomes trees may) h.2.leaves)

  -- a store that has stayed as it was
  pub keeps_stayed : (only : Names) (content : Content) (closed : Result (Files D) (Error × FileStore D g))
      → after.following ≡ opened.following → (HasCleanDisk (database over_files after) → Holds over_files opened old × (opened.following ≡ names))
      → (HasCleanDisk (database over_files after) → Holds over_files opened old → HasStayed over_files after content (λ left. left ≡ content))
      → IfOk closed (λ files. AreClean g files.log files.db → IsCopied after.conn files)
      → IfErr closed (λ e. IsClosed after.conn e.1 × (IsClean (view e.1) → FailsToClose after.conn e.1 e.0))
      → KeepsContent only names content closed
  keeps_stayed only content (Ok files) same opens stays copied failed = λ honest.
      let copy = copied honest in
      let o = opens copy.was_clean in
      let s = stays copy.was_clean o.0 in
      let held = as_held over_files after content s.executed s.rest copy.was_open in
      closed_with g names after (same ∙ o.1) held.0 content files copy held.1
  keeps_stayed only content (Err e) same opens stays copied failed = λ honest trees may.
      let quiet = failed.0.quiet in
      let clean : HasCleanDisk (database over_files after) = omega (arith, quiet.clean, honest) in
      let o = opens clean in
      let s = stays clean o.0 in
      let l = may_hold g names after (same ∙ o.1) s.schema (λ left. left ≡ content) e.1 (λ t m. quiet.outcomes t m) s.leaves trees may in
      subst (λ c. IsLeft only names c trees) l.1 (l.2 only)
