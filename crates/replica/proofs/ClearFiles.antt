-- A database file of which the rows of one table were taken out.
use Rattle.replica.proofs.Names.{◌≡◌, [], Result, Ok, Err, IfOk, IfErr, subst, ◌∙◌, arith, Files, AreClean, IsClean, FileStore, Error, HasCleanDisk, over_files, IsClosed, FailsToClose, IsCopied, Names, Content, Store, database, Account, IsLeftOfNoted}
use Rattle.sqlite_disk.specs.declared.Disk.{Ghosts}
use Rattle.sqlite_store.specs.FileStore.{view}
use Rattle.store.specs.Store.{Holds}
use Rattle.replica.specs.declared.change.clearing.ClearEnd.{ClearEnd}
use Rattle.replica.specs.NotedFile.{IsNotedOfFiles}
use Rattle.replica.specs.Clear.{TableClear, ClearsTo, IsLeftOfClear}
use Rattle.replica.specs.Clearing.{HasCleared, IsClearedSinceOpening}
use Rattle.replica.specs.ClearFile.{ClearsFile}
use Rattle.replica.proofs.CaptureFiles.{closed_with, may_hold}
use Rattle.replica.proofs.ClearStore.{as_held}
use Rattle.replica.proofs.ContentStays.{ends_with}

module _ {D : Type 0} (g : Ghosts D) (names : Names) (old : Content) (opened after : Store (FileStore D g) over_files) where
  pub cleared_into : (clear : TableClear) (end : ClearEnd) (closed : Result (Files D) (Error × FileStore D g))
      → after.following ≡ opened.following → (HasCleanDisk (database over_files after) → Holds over_files opened old × (opened.following ≡ names))
      → (HasCleanDisk (database over_files after) → (content : Content) → Holds over_files opened content → HasCleared over_files opened.following clear after content end)
      → IfOk closed (λ files. AreClean g files.log files.db → IsCopied after.conn files)
      → IfErr closed (λ e. IsClosed after.conn e.1 × (IsClean (view e.1) → FailsToClose after.conn e.1 e.0))
      → ClearsFile clear names old (record { end = end; closed = closed })
  cleared_into clear end closed same opens clears copied failed =
      ends_with g names old opened after (ClearsTo names clear old end) (IsLeftOfClear names clear old end) closed same opens
      (λ clean holds.
      let h = subst (λ n. HasCleared over_files n clear after old end) (opens clean).1 (clears clean old holds) in
      (h.new, h.clears, h.stays))
      copied failed

  -- what was reported to an observer
  pub noted_since : (t0 t1 : Account) (closed : Result (Files D) (Error × FileStore D g))
      → after.following ≡ opened.following → (HasCleanDisk (database over_files after) → Holds over_files opened old × (opened.following ≡ names))
      → (HasCleanDisk (database over_files after) → (content : Content) → Holds over_files opened content → IsClearedSinceOpening over_files opened.following after content t0 t1)
      → IfOk closed (λ files. AreClean g files.log files.db → IsCopied after.conn files)
      → IfErr closed (λ e. IsClosed after.conn e.1 × (IsClean (view e.1) → FailsToClose after.conn e.1 e.0))
      → IsNotedOfFiles names old t0 t1 [] closed
  noted_since t0 t1 (Ok files) same opens notes copied failed = λ honest.
      let copy = copied honest in
      let o = opens copy.was_clean in
      let a = subst (λ n. IsClearedSinceOpening over_files n after old t0 t1) o.1 (notes copy.was_clean old o.0) in
      let held = as_held over_files after a.new a.executed a.rest copy.was_open in
      (a.new, closed_with g names after (same ∙ o.1) held.0 a.new files copy held.1, a.noted_of)
  noted_since t0 t1 (Err e) same opens notes copied failed = λ honest.
      let quiet = failed.0.quiet in
      let clean : HasCleanDisk (database over_files after) = omega (arith, quiet.clean, honest) in
      let o = opens clean in
      let a = subst (λ n. IsClearedSinceOpening over_files n after old t0 t1) o.1 (notes clean old o.0) in
      (a.new, a.noted_of, may_hold g names after (same ∙ o.1) a.schema (IsLeftOfNoted names a.noted_of.noted_of.notices a.new) e.1 (λ trees may. quiet.outcomes trees may) a.leaves)
