-- Captured connections that were read into a file.
use Rattle.replica.proofs.Names.{◌≡◌, ℕ, Bool, true, false, List, Option, Some, Result, Ok, Err, IfOk, IfErr, IsTrue, inl, inr, refl, sym, subst, ◌∙◌, arith, Files, Image, AreClean, SeenMayStay, settled_at, cases_Bool, Trees, IsClean, Schema, FileStore, Error, HasCleanDisk, over_files, file_state, IsClosed, FailsToClose, IsCopied, Held, Ids, Names, Content, Store, HoldsAs, database, IsLeft, names_for, Capture, Ended, History, Settings, IsLeftOfAll, HasReadAll, LeavesOnly, FilesHold, AreClosedWith, KeepsContent, Account, IsNotedSinceOpening, IsLedSinceOpening, IsLeftOfNoted, waits_for_none}
use Rattle.std.specs.Prelude.{MatchResult}
use Rattle.sqlite_disk.specs.declared.Disk.{Ghosts}
use Rattle.sqlite_store.specs.FileStore.{view, recovers}
use Rattle.sqlite.specs.Effect.{Database}
use Rattle.sqlite.specs.State.{State}
use Rattle.store.specs.Apply.{IsAtRest}
use Rattle.store.specs.Store.{Holds, Keeps}
use Rattle.store.specs.Entering.{IsWanted}
use Rattle.store.proofs.CrashOpenings.{left_by}
use Rattle.replica.specs.declared.source.captures.Halt.{Halt}
use Rattle.replica.specs.declared.source.counted.Counted.{Counted}
use Rattle.replica.specs.Crash as crash
use Rattle.replica.proofs.InOrder.{whole_leaves}
use Rattle.replica.specs.Capture.{Reads}
use Rattle.replica.specs.File.{LeavesContent, IsOpenedIn, IsCleanlyClosed, WasClosed, ClosesAs}
use Rattle.replica.specs.NotedFile.{IsNotedOfFiles, HaveReached}
use Rattle.replica.specs.Replay.{LeadsTo, MayLeave}
use Rattle.replica.specs.Conn.{StoreState}
use Rattle.replica.specs.FollowFile.{StreamView, Connects, MayHold, FollowsFile}
use Rattle.replica.proofs.CaptureList.{reads_weaker}
use Rattle.replica.proofs.WaitSets.{has_reached, left_has}

-- what a database at rest has committed is opened as its content
rest_left : (s : State) (names : Names) (content : Content) → IsAtRest s names content → (only : Names) → IsLeft only names content s.committed.trees
rest_left s names content rest only =
    subst (λ (db : Database). IsLeft only names content db.trees) rest.settled
    (left_by s.now.schema names content s.now.trees (record { stands = rest.stands; sound = rest.sound; spans_apart = rest.spans_apart }) only)

rest_of : {D : Type 0} {g : Ghosts D} (is : Bool) (content : Content) (store : Store (FileStore D g) over_files) → IsTrue (database over_files store).is_open → HoldsAs over_files is content store → IsAtRest (database over_files store) store.following content
rest_of false content store is_open holds = holds.rest
rest_of true content store is_open holds = holds.rest is_open

-- files that were closed with a clean disk, or could not be, had a clean disk before
pub clean_before_closing : {D : Type 0} {g : Ghosts D} (conn : Held (FileStore D g)) (closed : Result (Files D) (Error × FileStore D g))
    → IfOk closed (λ files. AreClean g files.log files.db → IsCopied conn files)
    → IfErr closed (λ e. IsClosed conn e.1 × (IsClean (view e.1) → FailsToClose conn e.1 e.0))
    → IsCleanlyClosed closed → HasCleanDisk (file_state conn)
clean_before_closing conn (Ok files) copied failed honest = (copied honest).was_clean
clean_before_closing conn (Err e) copied failed honest = let quiet = failed.0.quiet in omega (arith, quiet.clean, honest)

was_closed : {D : Type 0} {g : Ghosts D} (conn : Held (FileStore D g)) (closed : Result (Files D) (Error × FileStore D g)) → IfErr closed (λ e. IsClosed conn e.1 × (IsClean (view e.1) → FailsToClose conn e.1 e.0)) → WasClosed closed
was_closed conn (Ok files) failed = tt
was_closed conn (Err e) failed = (conn, failed.0, failed.1)

-- a store that was opened over files, and then the closed files
pub closes_as : {D : Type 0} {g : Ghosts D} (only : Option Names) (image : Image) (opened : Store (FileStore D g) over_files) (conn : Held (FileStore D g)) (closed : Result (Files D) (Error × FileStore D g))
    → (HasCleanDisk (file_state conn) → HasCleanDisk (database over_files opened))
    → (HasCleanDisk (database over_files opened) → (names : Names) (content : Content) → FilesHold (names_for only) names content image → Holds over_files opened content × (opened.following ≡ names) × IsWanted only names)
    → (HasCleanDisk (database over_files opened) → IsOpenedIn only image opened)
    → IfOk closed (λ files. AreClean g files.log files.db → IsCopied conn files)
    → IfErr closed (λ e. IsClosed conn e.1 × (IsClean (view e.1) → FailsToClose conn e.1 e.0))
    → ClosesAs only image closed
closes_as only image opened conn closed before opens entered copied failed = record {
  wanted = λ names content files honest. (opens (before (clean_before_closing conn closed copied failed honest)) names content files).2;
  entered = λ honest.
      let e = entered (before (clean_before_closing conn closed copied failed honest)) in
      (e.0, e.1, λ ready. let o = e.2 ready in (opened.following, o.content, o.of, o.wanted));
  closing = was_closed conn closed failed;
}

module _ {D : Type 0} (g : Ghosts D) (names : Names) (after : Store (FileStore D g) over_files) (kept : after.following ≡ names) where
  -- closed files hold what the store held
  pub closed_with : (is : Bool) (content : Content) (files : Files D) → IsCopied after.conn files → HoldsAs over_files is content after → AreClosedWith g names content files
  closed_with is content files copy holds = record {
    trees = (file_state after.conn).committed.trees;
    stands = λ only. subst (λ n. IsLeft only n content (file_state after.conn).committed.trees) kept (rest_left (file_state after.conn) after.following content (rest_of is content after copy.was_open holds) only);
    seen = copy.seen;
    left = copy.left;
  }

  -- the same of a store that keeps it, and whose connection may be shut
  pub kept_with : (content : Content) (files : Files D) → IsCopied after.conn files → Keeps over_files after content → AreClosedWith g names content files
  kept_with content files copy keeps = record {
    trees = (file_state after.conn).committed.trees;
    stands = λ only. subst (λ n. IsLeft only n content (file_state after.conn).committed.trees) kept (rest_left (file_state after.conn) after.following content (keeps.rest copy.was_open) only);
    seen = copy.seen;
    left = copy.left;
  }

  -- files that could not be closed are left with what the store may leave
  pub may_hold : (schema : Schema) (among : Content → Type 0) (last : FileStore D g) → ((trees : Trees) → recovers last trees → (file_state after.conn).may_leave trees) → LeavesOnly over_files schema after among → MayHold names last among
  may_hold schema among last quiet leaves trees may =
      let l = leaves.each trees (quiet trees may) in
      (l.0, l.2, λ only. subst (λ n. IsLeft only n l.0 trees) kept (left_by schema after.following l.0 trees l.1 only))

module _ {D : Type 0} (g : Ghosts D) (names : Names) (old : Content) (opened after : Store (FileStore D g) over_files) where
  leads_to : (limit : ℕ) → after.following ≡ names → (files : Files D) (bs : List (List ℕ)) (ends : List Ended) → IsCopied after.conn files → HasReadAll over_files limit after (database over_files opened).now.schema false old bs ends → LeadsTo g limit names old files bs ends
  leads_to limit kept files bs ends copy a = record {
    is = a.is;
    new = a.new;
    history = subst (λ n. History limit n (record { broken = false; content = old }) bs (record { broken = a.is; content = a.new }) ends) kept a.history;
    closed = closed_with g names after kept a.is a.new files copy a.holds;
  }

  may_leave : (limit : ℕ) → after.following ≡ names → (last : FileStore D g) (bs : List (List ℕ)) (ends : List Ended) → ((trees : Trees) → recovers last trees → (file_state after.conn).may_leave trees) → HasReadAll over_files limit after (database over_files opened).now.schema false old bs ends → MayLeave g limit names old last bs ends
  may_leave limit kept last bs ends quiet a = record {
    is = a.is;
    new = a.new;
    history = subst (λ n. History limit n (record { broken = false; content = old }) bs (record { broken = a.is; content = a.new }) ends) kept a.history;
    each = may_hold g names after kept (database over_files opened).now.schema (IsLeftOfAll limit names (record { broken = false; content = old }) bs a.new ends) last quiet
        (subst (λ n. LeavesOnly over_files (database over_files opened).now.schema after (IsLeftOfAll limit n (record { broken = false; content = old }) bs a.new ends)) kept (a.leaves refl));
  }

  pub replayed : (limit : ℕ) {R : Type 0} (left : R → Option (List ℕ)) (captures : List (Capture R)) (ends : List Ended) (read : Result (Unit {0}) Halt) (closed : Result (Files D) (Error × FileStore D g))
      → after.following ≡ opened.following → (HasCleanDisk (database over_files after) → Holds over_files opened old × (opened.following ≡ names))
      → (HasCleanDisk (database over_files after) → (was : Bool) (content : Content) → HoldsAs over_files was content opened → Reads left (HasReadAll over_files limit after (database over_files opened).now.schema was content) captures ends read)
      → IfOk closed (λ files. AreClean g files.log files.db → IsCopied after.conn files)
      → IfErr closed (λ e. IsClosed after.conn e.1 × (IsClean (view e.1) → FailsToClose after.conn e.1 e.0))
      → MatchResult closed (λ files. AreClean g files.log files.db → Reads left (LeadsTo g limit names old files) captures ends read) (λ e. IsClean (view e.1) → Reads left (MayLeave g limit names old e.1) captures ends read)
  replayed limit left captures ends read (Ok files) same opens reads copied failed = λ honest.
      let copy = copied honest in
      reads_weaker left _ (LeadsTo g limit names old files) (λ bs es a. leads_to limit (same ∙ (opens copy.was_clean).1) files bs es copy a) captures ends read (reads copy.was_clean false old (opens copy.was_clean).0)
  replayed limit left captures ends read (Err e) same opens reads copied failed = λ honest.
      let quiet = failed.0.quiet in
      let clean : HasCleanDisk (database over_files after) = omega (arith, quiet.clean, honest) in
      reads_weaker left _ (MayLeave g limit names old e.1) (λ bs es a. may_leave limit (same ∙ (opens clean).1) e.1 bs es (λ trees may. quiet.outcomes trees may) a) captures ends read (reads clean false old (opens clean).0)

  pub followed_into : (only : Names) {T E : Type 0} (known : StreamView T) (gives : Ids → Result T E → Type 0) (settings : Settings) (connection : Result (Ended × Counted T) E) (closed : Result (Files D) (Error × FileStore D g))
      → after.following ≡ opened.following → (HasCleanDisk (database over_files after) → Holds over_files opened old × (opened.following ≡ names)) → LeavesContent only names old (database over_files opened)
      → (HasCleanDisk (database over_files after) → (held : StoreState) → HoldsAs over_files held.broken held.content opened → Connects over_files known gives settings opened after held connection)
      → IfOk closed (λ files. AreClean g files.log files.db → IsCopied after.conn files)
      → IfErr closed (λ e. IsClosed after.conn e.1 × (IsClean (view e.1) → FailsToClose after.conn e.1 e.0))
      → FollowsFile known gives settings only names old (record { connection = connection; closed = closed })
  followed_into only known gives settings (Ok (end, counted)) (Ok files) same opens left_there connects copied failed = λ honest.
      let copy = copied honest in
      let o = opens copy.was_clean in
      let f = connects copy.was_clean (record { broken = false; content = old }) o.0 in
      record { before = opened; after = after; holds = o.0; following = o.1; over = f; comes = closed_with g names after (same ∙ o.1) f.follows.has_read.is f.follows.has_read.new files copy f.follows.has_read.holds }
  followed_into only known gives settings (Err cause) (Ok files) same opens left_there connects copied failed = λ honest.
      let copy = copied honest in
      let o = opens copy.was_clean in
      let f = connects copy.was_clean (record { broken = false; content = old }) o.0 in
      (f.0, closed_with g names after (same ∙ o.1) false old files copy (subst (λ (s : Store (FileStore D g) over_files). Holds over_files s old) (sym f.1) o.0))
  followed_into only known gives settings (Ok (end, counted)) (Err e) same opens left_there connects copied failed = λ honest.
      let quiet = failed.0.quiet in
      let clean : HasCleanDisk (database over_files after) = omega (arith, quiet.clean, honest) in
      let o = opens clean in
      let f = connects clean (record { broken = false; content = old }) o.0 in
      let r = f.follows.has_read in
      record {
        before = opened;
        after = after;
        holds = o.0;
        following = o.1;
        over = f;
        comes = may_hold g names after (same ∙ o.1) (database over_files opened).now.schema (crash.IsLeftOfOne settings.limit names old f.follows.read r.new end) e.1 (λ trees may. quiet.outcomes trees may)
            (subst (λ n. LeavesOnly over_files (database over_files opened).now.schema after (crash.IsLeftOfOne settings.limit n old f.follows.read r.new end)) o.1 (r.leaves refl));
      }
  followed_into only known gives settings (Err cause) (Err e) same opens left_there connects copied failed = λ honest.
      let quiet = failed.0.quiet in
      let clean : HasCleanDisk (database over_files after) = omega (arith, quiet.clean, honest) in
      let f = connects clean (record { broken = false; content = old }) (opens clean).0 in
      (f.0, λ trees may. left_there (subst (λ (s : Store (FileStore D g) over_files). HasCleanDisk (database over_files s)) f.1 clean) trees (subst (λ (s : Store (FileStore D g) over_files). (database over_files s).may_leave trees) f.1 (quiet.outcomes trees may)))

  -- a store that stayed as it was opened
  pub keeps_content : (only : Names) (closed : Result (Files D) (Error × FileStore D g))
      → after.following ≡ opened.following → (HasCleanDisk (database over_files after) → Holds over_files opened old × (opened.following ≡ names)) → LeavesContent only names old (database over_files opened)
      → (Holds over_files opened old → after ≡ opened)
      → IfOk closed (λ files. AreClean g files.log files.db → IsCopied after.conn files)
      → IfErr closed (λ e. IsClosed after.conn e.1 × (IsClean (view e.1) → FailsToClose after.conn e.1 e.0))
      → KeepsContent only names old closed
  keeps_content only (Ok files) same opens left_there stays copied failed = λ honest.
      let copy = copied honest in
      let o = opens copy.was_clean in
      closed_with g names after (same ∙ o.1) false old files copy (subst (λ (s : Store (FileStore D g) over_files). Holds over_files s old) (sym (stays o.0)) o.0)
  keeps_content only (Err e) same opens left_there stays copied failed = λ honest trees may.
      let quiet = failed.0.quiet in
      let clean : HasCleanDisk (database over_files after) = omega (arith, quiet.clean, honest) in
      let stayed = stays (opens clean).0 in
      left_there (subst (λ (s : Store (FileStore D g) over_files). HasCleanDisk (database over_files s)) stayed clean) trees (subst (λ (s : Store (FileStore D g) over_files). (database over_files s).may_leave trees) stayed (quiet.outcomes trees may))

  -- what a crash leaves of a store that has failed or not
  left_since : SeenMayStay g → (begin : Content) (t0 t1 : Account) (ends : List Ended) → (a : IsLedSinceOpening over_files opened after false begin t0 t1 ends)
      → (schema : Schema) × LeavesOnly over_files schema after (IsLeftOfNoted opened.following a.noted_of.noted_of.notices a.new)
  left_since still begin t0 t1 ends a = elim (cases_Bool a.now_broken) [
    | inl failed ↦ a.leaves refl failed
    | inr whole ↦ (
      (file_state after.conn).now.schema,
      whole_leaves over_files (λ h db is_open left. settled_at h.store still db is_open left) a.new after (IsLeftOfNoted opened.following a.noted_of.noted_of.notices a.new) (inl refl)
          (subst (λ (b : Bool). HoldsAs over_files b a.new after) whole a.holds),
    )
  ]

  -- what was reported to an observer leads from a content, as that from before or the one with a set added, to what closed files hold
  pub noted_of_files : SeenMayStay g → (begin : Content) (t0 t1 : Account) (ends : List Ended) (closed : Result (Files D) (Error × FileStore D g))
      → after.following ≡ opened.following → (HasCleanDisk (database over_files after) → Holds over_files opened old × (opened.following ≡ names))
      → (HasCleanDisk (database over_files after) → Holds over_files opened old → IsLedSinceOpening over_files opened after false begin t0 t1 ends)
      → IfOk closed (λ files. AreClean g files.log files.db → IsCopied after.conn files)
      → IfErr closed (λ e. IsClosed after.conn e.1 × (IsClean (view e.1) → FailsToClose after.conn e.1 e.0))
      → IsNotedOfFiles names begin t0 t1 ends closed
  noted_of_files still begin t0 t1 ends (Ok files) same opens notes copied failed = λ honest.
      let copy = copied honest in
      let o = opens copy.was_clean in
      let a = notes copy.was_clean o.0 in
      (a.new, closed_with g names after (same ∙ o.1) a.now_broken a.new files copy a.holds, subst (λ n. IsNotedSinceOpening n begin a.new t0 t1 ends) o.1 a.noted_of)
  noted_of_files still begin t0 t1 ends (Err e) same opens notes copied failed = λ honest.
      let quiet = failed.0.quiet in
      let clean : HasCleanDisk (database over_files after) = omega (arith, quiet.clean, honest) in
      let o = opens clean in
      let a = notes clean o.0 in
      let l = left_since still begin t0 t1 ends a in
      let it : (since : IsNotedSinceOpening names begin a.new t0 t1 ends) × LeavesOnly over_files l.0 after (IsLeftOfNoted names since.noted_of.notices a.new) =
      subst (λ n. (since : IsNotedSinceOpening n begin a.new t0 t1 ends) × LeavesOnly over_files l.0 after (IsLeftOfNoted n since.noted_of.notices a.new)) o.1 (a.noted_of, l.1) in
      (a.new, it.0, may_hold g names after (same ∙ o.1) l.0 (IsLeftOfNoted names it.0.noted_of.notices a.new) e.1 (λ trees may. quiet.outcomes trees may) it.1)

-- where the observer waits for nothing more
pub reached_in_files : {D : Type 0} {g : Ghosts D} (names : Names) (old : Content) (was is : Account) (ends : List Ended) (wanted : Ids) (closed : Result (Files D) (Error × FileStore D g)) → IsNotedOfFiles names old was is ends closed
    → was.waits ≡ Some wanted → waits_for_none is.waits ≡ true → HaveReached names old wanted closed
reached_in_files names old was is ends wanted (Ok files) noted wants none = λ honest.
    let n = noted honest in
    (n.0, n.1, has_reached names old n.0 was is ends wanted n.2 wants none)
reached_in_files names old was is ends wanted (Err e) noted wants none = λ honest.
    let n = noted honest in (
      n.0,
      has_reached names old n.0 was is ends wanted n.1 wants none,
      λ trees may.
          let it = n.2 trees may in
          (it.0, left_has names n.1.noted_of.notices n.0 it.0 it.1, it.2),
    )
