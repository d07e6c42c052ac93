-- A replica whose database is in files, stopped anywhere and started again any number of times.
use Rattle.replica.proofs.Names.{◌≡◌, ◌⊎◌, ℕ, ◌+◌, ◌<◌, List, [], ◌∷◌, ◌++◌, length, Option, Some, None, Result, Ok, Err, inl, inr, refl, sym, ap, subst, ◌∙◌, append_assoc, append-nil, Bool, true, false, Files, Image, FileStore, Error, Consumes, DumpValue, IsDump, Ids, Names, Content, names_for, ScriptValue, Ended, Settings, Conn, IsLeftOfOne, IsInFull, FilesHold, AreClosedWith}
use Rattle.std.proofs.Common.{add-zero}
use Rattle.sqlite_disk.specs.declared.Disk.{Ghosts}
use Rattle.sqlite_wal.specs.Files.{outcomes}
use Rattle.sqlite.specs.Files.{image_of}
use Rattle.sqlite.specs.Closing.{HoldsAlone}
use Rattle.replica.specs.declared.source.counted.Counted.{Counted}
use Rattle.replica.specs.Resume.{Reaches, Restarts, end_reason}
use Rattle.replica.specs.declared.file.Unopened.{Unopened}
use Rattle.replica.specs.File.{IsTurnedAway}
use Rattle.replica.specs.FollowFile.{StreamView, FollowsFile}
use Rattle.replica.specs.Restart.{IsSent, MayFind, MayFindUnopened, IsLeftUnopened, Starts, IsUncut, AreStarts, HoldFirst, FilesNeverFall}
use Rattle.replica.proofs.Bytes.{all_back}
use Rattle.scripted_source.specs.Source.{is_once}
use Rattle.replica.proofs.OneOutcome.{one_content}
use Rattle.replica.proofs.Resumption.{leads}
use Rattle.replica.proofs.Restarts.{restarted}

-- what was read of a prefix is a prefix
read_of : (left left' : Option (List ℕ)) (part read : List ℕ) → left ≡ Some part → Consumes left left' read → (after : List ℕ) × (part ≡ read ++ after)
read_of left None part read is c = absurd (subst (λ l. Consumes l None read) is c)
read_of left (Some after) part read is c = (after, subst (λ l. Consumes l (Some after) read) is c)

-- what closed files hold is found by the next call
closed_found : {D : Type 0} (g : Ghosts D) (only names : Names) (content : Content) (files : Files D) (next : Image) → AreClosedWith g names content files
    → (image : Image) × ((image ≡ image_of g files) ⊎ outcomes g files.log files.db image) × ((next ≡ image) ⊎ (next ≡ record image { log = [] })) → FilesHold only names content next
closed_found g only names content files next a f =
    let alone : HoldsAlone f.0 a.trees = elim f.1 [ inl is ↦ subst (λ image. HoldsAlone image a.trees) (sym is) a.seen | inr may ↦ a.left f.0 may ] in
    elim f.2 [
      | inl is ↦ subst (λ image. FilesHold only names content image) (sym is) (inr (a.trees, alone.both, a.stands only))
      | inr is ↦ subst (λ image. FilesHold only names content image) (sym is) (inr (a.trees, alone.alone, a.stands only))
    ]

-- what files hold is found by the next call, where this one has not opened their database
pub unopened_found : {D : Type 0} {g : Ghosts D} (wanted : Option Names) (names : Names) (content : Content) (before next : Image) (why : Unopened D g) → FilesHold (names_for wanted) names content before → IsTurnedAway wanted before why
    → MayFindUnopened before why next → FilesHold (names_for wanted) names content next
unopened_found wanted names content before next (Unopened.NotOpened why) hold away may = subst (λ i. FilesHold (names_for wanted) names content i) (sym may) hold
unopened_found wanted names content before next (Unopened.Files error left) hold away may = away.refused names content hold may.0 next may.1
unopened_found wanted names content before next (Unopened.Database cause conn) hold away may = inr (may.1.0, may.1.2, (away.refused names content hold).1 may.0 may.1.0 may.1.1)

still_found : {D : Type 0} {g : Ghosts D} (only names : Names) (content : Content) (before next : Image) → (r : IsLeftUnopened g only before next) → FilesHold only names content before → FilesHold only names content next
still_found only names content before next r hold =
    subst (λ n. FilesHold n names content next) r.is_for
    (unopened_found r.wanted names content before next r.why (subst (λ n. FilesHold n names content before) (sym r.is_for) hold) r.away r.finds)

module _ (one_dump : (a b : DumpValue) (payload : List ℕ) → IsDump a payload → IsDump b payload → a ≡ b) {D : Type 0} (g : Ghosts D) {F T E : Type 0} (known : StreamView T)
    (gives : F → Ids → Result T E → Type 0) (only names : Names) (history : List ScriptValue) where
  -- a connection over what was read of what the source has sent, and what is left of it
  restart : (limit : ℕ) (held : Content) (given last : Option (List ℕ)) (read : List ℕ) (new content : Content) (end : Ended) → IsSent limit names history held given → Consumes given last read
      → Conn limit names false held read new end → IsLeftOfOne limit names held read new end content → Restarts limit names history held content
  restart limit held given last read new content end s consumes conn leaves =
      let r = read_of given last s.part read s.left_is consumes in record {
        last = s.last;
        dialogue = s.dialogue;
        asked = s.asked;
        are_bytes = all_back (λ b. b < 256) s.dialogue.opening s.dialogue.answer s.are_bytes;
        fewer = s.fewer;
        part = read;
        more = r.0 ++ s.more;
        cut = s.cut ∙ ap (λ (l : List ℕ). l ++ s.more) r.1 ∙ append_assoc read r.0 s.more;
        was = false;
        new = new;
        end = end;
        conn = conn;
        leaves = leaves;
      }

  stays : (j : ℕ) (held : Content) (next : Image) → Reaches names history j held → FilesHold only names held next → (i : ℕ) × HoldFirst only names history next (j + i)
  stays j held next reached hold = (0, record { content = held; hold = hold; reached = subst (λ n. Reaches names history n held) (sym (add-zero j)) reached })

  found : (settings : Settings) (connect : F) (j : ℕ) (held : Content) (next : Image) → Reaches names history j held → (connection : Result (Ended × Counted T) E) (closed : Result (Files D) (Error × FileStore D g))
      → FollowsFile known (gives connect) settings only names held (record { connection = connection; closed = closed })
      → ((stream : T) → gives connect held.executed (Ok stream) → IsSent settings.limit names history held (known.left stream)) → MayFind closed next → (i : ℕ) × HoldFirst only names history next (j + i)
  found settings connect j held next reached (Ok (end, counted)) (Ok files) follows sent finds =
      let q = follows finds.0 in
      let f = q.over.follows in
      let r = f.has_read in
      let conn = subst (λ n. Conn settings.limit n false held f.read r.new end) q.following r.conn in
      let s = restart settings.limit held (known.left q.over.stream) (known.left counted.stream) f.read r.new r.new end (sent q.over.stream q.over.given) f.reads conn (inl refl) in
      let one = restarted one_dump settings.limit names history j held r.new reached s in
      (one.0, record { content = r.new; hold = closed_found g only names r.new files next q.comes finds.1; reached = one.1 })
  found settings connect j held next reached (Err cause) (Ok files) follows sent finds = stays j held next reached (closed_found g only names held files next (follows finds.0).1 finds.1)
  found settings connect j held next reached (Ok (end, counted)) (Err e) follows sent finds =
      let q = follows finds.0 in
      let f = q.over.follows in
      let r = f.has_read in
      let conn = subst (λ n. Conn settings.limit n false held f.read r.new end) q.following r.conn in
      let m = q.comes finds.1.0 finds.1.1 in
      let s = restart settings.limit held (known.left q.over.stream) (known.left counted.stream) f.read r.new m.0 end (sent q.over.stream q.over.given) f.reads conn m.1 in
      let one = restarted one_dump settings.limit names history j held m.0 reached s in
      (one.0, record { content = m.0; hold = inr (finds.1.0, finds.1.2, m.2 only); reached = one.1 })
  found settings connect j held next reached (Err cause) (Err e) follows sent finds = stays j held next reached (inr (finds.1.0, finds.1.2, (follows finds.0).1 finds.1.0 finds.1.1))

  pub files_never_fall : (j : ℕ) (held : Content) (before : Image) (images : List Image) → Reaches names history j held → FilesHold only names held before
      → AreStarts g known gives only names history before images → FilesNeverFall only names history j images
  files_never_fall j held before [] reached hold starts = tt
  files_never_fall j held before (next ∷ images) reached hold starts =
      let one : (i : ℕ) × HoldFirst only names history next (j + i) = elim starts.0 [
        | inl s ↦ found s.settings s.connect j held next reached s.done.connection s.done.closed (s.follows held hold) (λ stream gave. s.sent stream held gave hold) s.finds
        | inr r ↦ stays j held next reached (still_found only names held before next r hold)
      ] in
      (one.0, one.1, files_never_fall (j + one.0) one.1.content next images one.1.reached one.1.hold starts.1)

  -- what was read is all that the source sends
  all_read : (given last : Option (List ℕ)) (read part more whole : List ℕ) → given ≡ Some part → last ≡ Some [] → Consumes given last read → whole ≡ part ++ more → more ≡ [] → read ≡ whole
  all_read given last read part more whole given_is last_is consumes is none =
      let c : part ≡ read ++ [] = subst (λ l. Consumes (Some part) l read) last_is (subst (λ l. Consumes l last read) given_is consumes) in
      let w : whole ≡ part ++ [] = is ∙ ap (λ (l : List ℕ). part ++ l) none in
      sym (w ∙ append-nil part ∙ c ∙ append-nil read)

  ends_in_full : (once : Bool) → IsInFull (end_reason once)
  ends_in_full true = tt
  ends_in_full false = tt

  -- such a connection leads to the content after the whole history
  leads_to_all : (limit j : ℕ) (held : Content) (given last : Option (List ℕ)) (read : List ℕ) (new : Content) (end : Ended) → Reaches names history j held → (s : IsSent limit names history held given) → s.more ≡ [] → last ≡ Some []
      → Consumes given last read → IsInFull end.reason → Conn limit names false held read new end → Reaches names history (length history) new
  leads_to_all limit j held given last read new end reached s none nothing consumes in_full conn =
      let all : read ≡ s.dialogue.opening ++ s.dialogue.answer = all_read given last read s.part s.more (s.dialogue.opening ++ s.dialogue.answer) s.left_is nothing consumes s.cut none in
      let r = s.asked j reached in
      let l = leads one_dump limit names history j held s.last s.dialogue r s.fewer in
      let whole : Conn limit names false held (s.dialogue.opening ++ s.dialogue.answer) new end = subst (λ b. Conn limit names false held b new end) all conn in
      let full : IsInFull l.end.reason = subst IsInFull (sym l.reason_is) (ends_in_full (is_once r.dump.flags)) in
      let same : new ≡ s.last = one_content limit names (s.dialogue.opening ++ s.dialogue.answer) s.are_bytes false false held new s.last end l.end in_full full whole l.conn in
      subst (λ c. Reaches names history (length history) c) (sym same) r.all_applied

  not_one_more : (limit : ℕ) (held : Content) (read : List ℕ) (new content : Content) (end : Ended) → IsInFull end.reason → IsLeftOfOne limit names held read new end content → content ≡ new
  not_one_more limit held read new content end in_full (inl same) = same
  not_one_more limit held read new content end in_full (inr more) = absurd (subst IsInFull more.failed in_full)

  all_found : (settings : Settings) (connect : F) (j : ℕ) (held : Content) (next : Image) → Reaches names history j held → (end : Ended) (counted : Counted T) (closed : Result (Files D) (Error × FileStore D g))
      → FollowsFile known (gives connect) settings only names held (record { connection = Ok (end, counted); closed = closed })
      → ((stream : T) → gives connect held.executed (Ok stream) → (s : IsSent settings.limit names history held (known.left stream)) × (s.more ≡ [])) → IsInFull end.reason → known.left counted.stream ≡ Some [] → MayFind closed next
      → HoldFirst only names history next (length history)
  all_found settings connect j held next reached end counted (Ok files) follows sent in_full nothing finds =
      let q = follows finds.0 in
      let f = q.over.follows in
      let r = f.has_read in
      let conn = subst (λ n. Conn settings.limit n false held f.read r.new end) q.following r.conn in
      let s = sent q.over.stream q.over.given in record {
        content = r.new;
        hold = closed_found g only names r.new files next q.comes finds.1;
        reached = leads_to_all settings.limit j held (known.left q.over.stream) (known.left counted.stream) f.read r.new end reached s.0 s.1 nothing f.reads in_full conn;
      }
  all_found settings connect j held next reached end counted (Err e) follows sent in_full nothing finds =
      let q = follows finds.0 in
      let f = q.over.follows in
      let r = f.has_read in
      let conn = subst (λ n. Conn settings.limit n false held f.read r.new end) q.following r.conn in
      let s = sent q.over.stream q.over.given in
      let m = q.comes finds.1.0 finds.1.1 in
      let all = leads_to_all settings.limit j held (known.left q.over.stream) (known.left counted.stream) f.read r.new end reached s.0 s.1 nothing f.reads in_full conn in record {
        content = m.0;
        hold = inr (finds.1.0, finds.1.2, m.2 only);
        reached = subst (λ c. Reaches names history (length history) c) (sym (not_one_more settings.limit held f.read r.new m.0 end in_full m.1)) all;
      }

  pub files_hold_all : (j : ℕ) (held : Content) (before next : Image) → Reaches names history j held → FilesHold only names held before → (s : Starts g known gives only names history before next)
      → IsUncut g known gives only names history s → HoldFirst only names history next (length history)
  files_hold_all j held before next reached hold s u =
      all_found s.settings s.connect j held next reached u.end u.counted s.done.closed
      (subst (λ c. FollowsFile known (gives s.connect) s.settings only names held (record { connection = c; closed = s.done.closed })) u.connection (s.follows held hold))
      (λ stream gave. (s.sent stream held gave hold, u.all_sent stream held gave hold)) u.in_full u.nothing_left s.finds
