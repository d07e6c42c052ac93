-- A change feed: the lines of what is reported to an observer, and a reader of them, by the rules that docs/OPERATING.md gives it
-- ("A change feed").
use Rattle.std.specs.Prelude.{◌≡◌, Bool, true, false, if◌then◌else◌, List, [], ◌∷◌, ◌++◌, map, Option, Some, None, Result, Ok, Err}
use Rattle.std.specs.FinSet as set
use Rattle.std.specs.List.{AllByRecursion}
use Rattle.gtid.specs.Identifier.{Id, Ids}
use Rattle.binlog.specs.Filter.{Names}
use Rattle.gather.specs.Transaction.{ChangeValue, DeliveryValue}
use Rattle.store.specs.State.{Content}
use Rattle.replica.specs.declared.session.end.Reason.{Reason}
use Rattle.replica.specs.declared.session.end.Reason.TheVariants.{Database}
use Rattle.replica.specs.Noted.{Notice, opened, connected, before, stopped, after, ended, LeadsBy, BeginsWith, fails_by, EndsAtFailure, IsLeftOfNoted}

-- ---- What is written.

-- A line of a feed: the executed set of a database that was opened; a change of a transaction; that it was committed; that it was not.
pub data Line : Type 0 where
  open_line : Ids → Line
  change_line : Id → ChangeValue → Line
  commit_line : Id → Line
  rollback_line : Id → Line

abbrev pub gtid_of : DeliveryValue → Id
gtid_of d = (d.source, d.number)

-- After a failure of the database it is not known whether the transaction was committed.
abbrev pub lines_after : Id → Result Bool Reason → List Line
lines_after id (Ok true) = commit_line id ∷ []
lines_after id (Ok false) = []
lines_after id (Err (Database cause)) = []
lines_after id (Err _) = rollback_line id ∷ []

-- The lines of what is reported. After a failure of the store, and where the observer has stopped, there are none.
abbrev pub lines_of : List Notice → List Line
lines_of [] = []
lines_of (opened ids ∷ notices) = open_line ids ∷ lines_of notices
lines_of (connected ∷ notices) = lines_of notices
lines_of (before d ∷ notices) = map (λ c. change_line (gtid_of d) c) d.changes ++ lines_of notices
lines_of (stopped d ∷ notices) = []
lines_of (after d answer ∷ notices) = lines_after (gtid_of d) answer ++ (if fails_by answer then [] else lines_of notices)
lines_of (ended end goes_on ∷ notices) = lines_of notices

-- ---- What is read.

-- A reader: the set of the transactions that it has used, these in order with their changes, and the changes that it keeps, with the
-- GTID of the last one.
pub record Reader : Type 0 where
  pub used : Ids
  pub taken : List DeliveryValue
  pub kept : Option (Id × List ChangeValue)

abbrev pub kept_changes : Option (Id × List ChangeValue) → List ChangeValue
kept_changes None = []
kept_changes (Some (id, changes)) = changes

-- It uses these changes, unless it has used the transaction; and keeps none.
abbrev pub with_used : Id → List ChangeValue → Reader → Reader
with_used id changes r =
    if set.contains r.used id then record r { kept = None }
    else record { used = set.insert r.used id; taken = r.taken ++ record { source = id.0; number = id.1; changes = changes } ∷ []; kept = None }

-- At an open it uses the changes that are kept if the set has their GTID, and drops them otherwise.
abbrev pub after_open : Ids → Option (Id × List ChangeValue) → Reader → Reader
after_open ids None r = r
after_open ids (Some (id, changes)) r = if set.contains ids id then with_used id changes r else record r { kept = None }

-- It keeps the changes of a transaction until it was committed, and uses them then; if it was not, it drops them. At an open the
-- transactions that it has not used count as used.
abbrev pub read_line : Reader → Line → Reader
read_line r (open_line ids) = record (after_open ids r.kept r) { used = set.union (after_open ids r.kept r).used ids }
read_line r (change_line id change) = record r { kept = Some (id, kept_changes r.kept ++ change ∷ []) }
read_line r (commit_line id) = with_used id (kept_changes r.kept) r
read_line r (rollback_line id) = record r { kept = None }

abbrev pub read_lines : Reader → List Line → Reader
read_lines r [] = r
read_lines r (line ∷ lines) = read_lines (read_line r line) lines

-- A line of a feed's file: a whole one, or one that is cut.
pub data FileLine : Type 0 where
  whole_line : Line → FileLine
  cut_line : FileLine

abbrev pub HaveNoOpen : List FileLine → Type 0
HaveNoOpen [] = Unit {0}
HaveNoOpen (cut_line ∷ lines) = HaveNoOpen lines
HaveNoOpen (whole_line (open_line ids) ∷ lines) = ⊥
HaveNoOpen (whole_line _ ∷ lines) = HaveNoOpen lines

-- The lines that are read: of a line that is cut, and what follows it up to an `open`, none. `drops` is whether one came before.
abbrev pub unbroken : (drops : Bool) → List FileLine → List Line
unbroken drops [] = []
unbroken drops (cut_line ∷ lines) = unbroken true lines
unbroken drops (whole_line (open_line ids) ∷ lines) = open_line ids ∷ unbroken false lines
unbroken true (whole_line _ ∷ lines) = unbroken true lines
unbroken false (whole_line line ∷ lines) = line ∷ unbroken false lines

-- what is read of a file
abbrev pub read_file : Reader → List FileLine → Reader
read_file r lines = read_lines r (unbroken false lines)

-- one that has read nothing
abbrev pub at_first : Reader
at_first = record { used = set.empty; taken = []; kept = None }

abbrev pub has_change : List ChangeValue → Bool
has_change [] = false
has_change (c ∷ cs) = true

-- the transactions that have changes
abbrev pub with_changes : List DeliveryValue → List DeliveryValue
with_changes [] = []
with_changes (d ∷ ds) = (if has_change d.changes then d ∷ [] else []) ++ with_changes ds

-- ---- Runs of a program.

-- A line that may be missing at the end of what a run has written, since the run or the machine was stopped, if this set is executed
-- afterwards: no change and no rollback of a transaction that is executed, and an open only if nothing was executed since.
abbrev pub MayBeMissing : Ids → Line → Type 0
MayBeMissing executed (open_line ids) = ids ≡ executed
MayBeMissing executed (change_line id change) = set.contains executed id ≡ false
MayBeMissing executed (commit_line id) = Unit {0}
MayBeMissing executed (rollback_line id) = set.contains executed id ≡ false

-- What a power failure may leave after the lines of a run that are whole: nothing, or a line that is cut (or has zeros) and after it
-- anything but an `open`.
abbrev pub IsHole : List FileLine → Type 0
IsHole [] = Unit {0}
IsHole (cut_line ∷ lines) = HaveNoOpen lines
IsHole (whole_line line ∷ lines) = ⊥

-- A run over a database of the first content has left one of the second, and these are its lines in the feed. What is said of what was
-- reported is `notes` of the functions that report: a clause, or a field of the clause `noted`.
pub record IsFed (names : Names) (old left : Content) (lines : List FileLine) : Type 0 where
  pub notices : List Notice
  pub new : Content
  pub leads : LeadsBy names old notices new
  pub begins : BeginsWith old.executed notices
  pub fails : EndsAtFailure notices
  pub left_is : IsLeftOfNoted names notices new left
  pub written : List Line
  pub missing : List Line
  pub broken : List FileLine
  pub lines_are : lines_of notices ≡ written ++ missing
  pub may : AllByRecursion (MayBeMissing left.executed) missing
  pub is_broken : IsHole broken
  pub in_file : lines ≡ map whole_line written ++ broken

-- Runs, each over the database that the one before has left.
abbrev pub AreFed : Names → Content → List (List FileLine) → Content → Type 0
AreFed names old [] last = last ≡ old
AreFed names old (lines ∷ runs) last = (left : Content) × IsFed names old left lines × AreFed names left runs last

-- the lines of all runs
abbrev pub all_lines : List (List FileLine) → List FileLine
all_lines [] = []
all_lines (lines ∷ runs) = lines ++ all_lines runs
