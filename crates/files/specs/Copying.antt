-- The two files of a database while a writer changes them, and a copy that is made of them meanwhile.
use Rattle.std.specs.Prelude.{◌≡◌, ◌≢◌, ◌⊎◌, ℕ, suc, ◌+◌, ◌<◌, ◌≤◌, nat_le, if◌then◌else◌, List, [], length, slice_get, slice_index, Option, Some, None, MatchOption}
use Rattle.sqlite_wal.specs.Format.{page_number, commit_size}
use Rattle.sqlite_wal.specs.Gate.{IsShut}
use Rattle.sqlite_wal.specs.Recovery.{Image, Pages, header, frame_at, frame, Replays, page_count, file_page, Recovers}

-- The header of a WAL file, if it has all of its 32 bytes. A file that is not there has no byte.
unfoldable pub header_of : List ℕ → Option (List ℕ)
header_of log = if nat_le 32 (length log) then Some (header log) else None

-- None of the first k frames is for page n.
abbrev pub HasNoFrame : ℕ → List ℕ → ℕ → ℕ → Type 0
HasNoFrame page_size log k n = (i : ℕ) → i < k → page_number (frame page_size log i) ≢ n

-- A change of the files that does not begin the log anew. Recovery takes the first `before` frames of the old log, and the first
-- `after` of the new one. Frames are added after those that are committed, and pages are copied back from those alone.
pub record ChangesFiles (page_size : ℕ) (old : Image) (before : ℕ) (new : Image) (after : ℕ) : Type 0 where
  pub same_header : header_of new.log ≡ header_of old.log
  pub no_fewer : before ≤ after
  pub stays : (i : ℕ) → i < before → frame page_size new.log i ≡ frame page_size old.log i
  -- Each page by which the database grows has a frame.
  pub grows : (n : ℕ) → 1 ≤ n → n ≤ page_count page_size new.log new.db after → HasNoFrame page_size new.log after n → n ≤ page_count page_size old.log old.db before
  -- A page of the database without a committed frame stays as it is in the database file. What that has past these pages may be cut
  -- off.
  pub pages : (n : ℕ) → 1 ≤ n → n ≤ page_count page_size old.log old.db before → HasNoFrame page_size old.log before n → file_page page_size new.db n ≡ file_page page_size old.db n
  -- Without a committed frame nothing is copied back.
  pub untouched : before ≡ 0 → new.db ≡ old.db

-- After moment i the log is begun anew, or comes or goes: it has a header, or none, that it had at no moment since `first`.
abbrev pub BeginsAnew : (ℕ → Image) → ℕ → ℕ → Type 0
BeginsAnew files first i = (j : ℕ) → first ≤ j → j ≤ i → header_of (files (suc i)).log ≢ header_of (files j).log

-- What the files have at each moment from `first` to `last` is what writers leave that keep to SQLite's format. `frames` is how many
-- frames recovery takes of the log at a moment.
pub record AreWritten (page_size : ℕ) (files : ℕ → Image) (frames : ℕ → ℕ) (first last : ℕ) : Type 0 where
  pub replays : (i : ℕ) → first ≤ i → i ≤ last → Replays page_size (files i).log (frames i)
  pub present : (i : ℕ) → first ≤ i → i ≤ last → 0 < length (files i).db
  pub steps : (i : ℕ) → first ≤ i → i < last → ChangesFiles page_size (files i) (frames i) (files (suc i)) (frames (suc i)) ⊎ BeginsAnew files first i

-- These bytes were read of a file from moment `first` to moment `last`: at each place there is what the file had there at one of
-- them, a byte, or nothing past its end.
abbrev pub WereRead : (ℕ → List ℕ) → ℕ → ℕ → List ℕ → Type 0
WereRead file first last bytes = (at : ℕ) → (i : ℕ) × (first ≤ i) × (i ≤ last) × (slice_get bytes at ≡ slice_get (file i) at)

-- They were read from the front on, each place at the moment that `when` says.
pub record WereReadInOrder (file : ℕ → List ℕ) (first last : ℕ) (when : ℕ → ℕ) (bytes : List ℕ) : Type 0 where
  pub began : (at : ℕ) → first ≤ when at
  pub ended : (at : ℕ) → when at ≤ last
  pub order : (at next : ℕ) → at ≤ next → when at ≤ when next
  pub read : (at : ℕ) → slice_get bytes at ≡ slice_get (file (when at)) at

-- When a copy is made: the header of the log is read, then the database file is copied, then the log, each place of it at a moment,
-- and then the header is read again.
pub record Times : Type 0 where
  pub first : ℕ
  pub between : ℕ
  pub when : ℕ → ℕ
  pub last : ℕ

-- The copy was made at these times, under one header of the log. A log without a header was not copied.
pub record IsCopied (files : ℕ → Image) (times : Times) (copy : Image) : Type 0 where
  pub began : times.first ≤ times.between
  pub ended : times.between ≤ times.last
  pub same_header : header_of (files times.last).log ≡ header_of (files times.first).log
  pub db : WereRead (λ i. (files i).db) times.first times.between copy.db
  pub log : MatchOption (header_of (files times.first).log) (copy.log ≡ []) (λ head. WereReadInOrder (λ i. (files i).log) times.between times.last times.when copy.log)

-- the same first k frames
abbrev pub HaveFrames : ℕ → ℕ → List ℕ → List ℕ → Type 0
HaveFrames page_size k log other = (j : ℕ) → j < k → frame page_size log j ≡ frame page_size other j

-- One of the first k frames of the log was not committed yet when its reading began.
abbrev pub TakesUncommitted : ℕ → (ℕ → ℕ) → Times → ℕ → Type 0
TakesUncommitted page_size frames times k = (j : ℕ) × (j < k) × (frames (times.when (frame_at page_size j)) ≤ j)

-- If recovery takes a frame of the copied log that was not committed yet when its reading began, what it takes is what it takes of
-- the log at one moment of the log's copying.
abbrev pub TakesOfOneMoment : ℕ → (ℕ → Image) → (ℕ → ℕ) → Times → List ℕ → Type 0
TakesOfOneMoment page_size files frames times log =
    (k : ℕ) → Replays page_size log k → TakesUncommitted page_size frames times k
    → (i : ℕ) × (times.between ≤ i) × (i ≤ times.last) × (frames i ≡ k) × HaveFrames page_size k log (files i).log

-- If recovery takes a frame of the copied log that was not committed yet when its reading began, what it takes are whole frames: they
-- are committed in the log at one moment of the log's copying.
abbrev pub TakesWholeFrames : ℕ → (ℕ → Image) → (ℕ → ℕ) → Times → List ℕ → Type 0
TakesWholeFrames page_size files frames times log =
    (k : ℕ) → Replays page_size log k → TakesUncommitted page_size frames times k
    → (i : ℕ) × (times.between ≤ i) × (i ≤ times.last) × (k ≤ frames i) × HaveFrames page_size k log (files i).log

-- At each moment from `first` to `last` the first byte of the salt of the frame after those that are committed is not the header's.
abbrev pub EndShut : ℕ → (ℕ → Image) → (ℕ → ℕ) → ℕ → ℕ → Type 0
EndShut page_size files frames first last =
    (i : ℕ) → first ≤ i → i ≤ last → IsShut (files i).log (frame_at page_size (frames i) + 8) (slice_index (header (files i).log) 16)

-- The first byte of a frame's salt is read at the moment at which the reading of the frame begins.
abbrev pub ReadsSaltsAtOnce : ℕ → Times → Type 0
ReadsSaltsAtOnce page_size times = (j : ℕ) → times.when (frame_at page_size j + 8) ≡ times.when (frame_at page_size j)

-- From `first` to `last` a change commits once at most: of the frames that it adds the last alone may be one that commits.
abbrev pub CommitOnce : ℕ → (ℕ → Image) → (ℕ → ℕ) → ℕ → ℕ → Type 0
CommitOnce page_size files frames first last =
    (i : ℕ) → first ≤ i → i < last → (j : ℕ) → frames i ≤ j → suc j < frames (suc i) → commit_size (frame page_size (files (suc i)).log j) ≡ 0

-- At one moment from `first` to `last` the files stand for these pages.
abbrev pub StoodFor : ℕ → (ℕ → Image) → ℕ → ℕ → Pages → Type 0
StoodFor page_size files first last pages = (i : ℕ) × (first ≤ i) × (i ≤ last) × Recovers page_size (files i) pages

-- What is known of the files and of the copy: what the files have at each moment, which moment it is, and what the copy has.
pub record CopyAccount : Type 0 where
  pub files : ℕ → Image
  pub now : ℕ
  pub copy : Image

-- This holds of a call, which lasts from the moment of the old account to that of the new one. Nothing is said if no account is kept
-- afterwards; one that is was kept before.
abbrev pub InCall : (CopyAccount → CopyAccount → Type 0) → Option CopyAccount → Option CopyAccount → Type 0
InCall P before None = Unit {0}
InCall P None (Some after) = ⊥
InCall P (Some before) (Some after) = (after.files ≡ before.files) × (before.now ≤ after.now) × P before after

-- This is the header that the log has at one moment of the call, or none if it has none then.
abbrev pub ReadsHeader : Option (List ℕ) → CopyAccount → CopyAccount → Type 0
ReadsHeader head before after =
    (after.copy ≡ before.copy) × ((i : ℕ) × (before.now ≤ i) × (i ≤ after.now) × (head ≡ header_of (after.files i).log))

-- The copy of the database file is what was read of it in the call.
abbrev pub CopiesFile : CopyAccount → CopyAccount → Type 0
CopiesFile before after =
    (after.copy.log ≡ before.copy.log) × WereRead (λ i. (after.files i).db) before.now after.now after.copy.db

-- The copy has no log.
abbrev pub RemovesLog : CopyAccount → CopyAccount → Type 0
RemovesLog before after = (after.copy.db ≡ before.copy.db) × (after.copy.log ≡ [])

-- The copy of the log is what was read of it in the call, from the front on.
abbrev pub CopiesLog : CopyAccount → CopyAccount → Type 0
CopiesLog before after =
    (after.copy.db ≡ before.copy.db)
    × ((when : ℕ → ℕ) × WereReadInOrder (λ i. (after.files i).log) before.now after.now when after.copy.log)

-- At one moment of the call the log has no header, or is not there.
abbrev pub MissesLog : CopyAccount → CopyAccount → Type 0
MissesLog before after =
    (i : ℕ) × (before.now ≤ i) × (i ≤ after.now) × (header_of (after.files i).log ≡ None)

-- At two moments of the call the log has not the same header, or has one at one of them alone.
abbrev pub MeetsOtherHeader : CopyAccount → CopyAccount → Type 0
MeetsOtherHeader before after =
    (i j : ℕ) × (before.now ≤ i) × (i ≤ j) × (j ≤ after.now) × (header_of (after.files i).log ≢ header_of (after.files j).log)

-- The copy was made in the call, under one header of the log.
abbrev pub CopiesBoth : CopyAccount → CopyAccount → Type 0
CopiesBoth before after =
    (times : Times) × (before.now ≤ times.first) × (times.last ≤ after.now) × IsCopied after.files times after.copy
