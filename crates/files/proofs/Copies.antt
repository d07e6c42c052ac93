-- What a copy stands for that was made beside a writer.
use Rattle.std.proofs.Common.{◌≡◌, ◌≢◌, ℕ, zero, suc, ◌+◌, ◌-◌, ◌*◌, ◌/◌, ◌<◌, ◌≤◌, ◌⊎◌, cond, eqb, leb, List, [], length, Option, Some, None, refl, sym, ap, subst, ◌∙◌, inl, inr, arith}
use Rattle.std.specs.Prelude.{slice_get, slice_index}
use Rattle.std.proofs.lemmas.Bool.{cases_lt, cases_Bool, cond-true, cond-false, eqb-false, le-leb, leb-true}
use Rattle.std.proofs.lemmas.Option.{cond_some, none-some, MatchOption-at_some, MatchOption-at_none, slice_get-get_or, slice_get_within, get_or_from_slice_get}
use Rattle.sqlite_wal.specs.Format.{page_number, commit_size, content}
use Rattle.sqlite_wal.specs.Recovery.{Image, Pages, header, frame, frame_at, Replays, IsCommitted, page_count, file_page, page_after, pages_after, Recovers}
use Rattle.sqlite_wal.specs.Gate.{IsShut}
use Rattle.sqlite_wal.specs.Index.{Shares}
use Rattle.sqlite_wal.proofs.PartLemmas.{part_within, length-part, frames_len-suc, frames_len-le}
use Rattle.sqlite_wal.proofs.RecoveryLemmas.{same_pages, IsCommitted-shares, replays_no_fewer, invalid_at_shut, passes_of}
use Rattle.files.specs.Copying.{header_of, HasNoFrame, ChangesFiles, BeginsAnew, AreWritten, WereRead, WereReadInOrder, Times, IsCopied, HaveFrames, TakesOfOneMoment, TakesWholeFrames, CommitOnce, EndShut, ReadsSaltsAtOnce, StoodFor}
use Rattle.files.proofs.Bytes.{same_bytes, same_part, part_bytes}

same_headers : (a b : List ℕ) → header_of a ≡ header_of b → 32 ≤ length b → (32 ≤ length a) × (header a ≡ header b)
unfolding header_of
same_headers a b same long =
    let some = same ∙ cond-true _ _ _ (le-leb 32 (length b) long) in
    let parts = cond_some (leb 32 (length a)) (header a) (header b) some in
    (leb-true 32 (length a) parts.0, parts.1)

-- a log with committed frames has a header
pub has_header : (log : List ℕ) → 32 ≤ length log → header_of log ≡ Some (header log)
unfolding header_of
has_header log long = cond-true _ _ _ (le-leb 32 (length log) long)

header_of_nothing : header_of [] ≡ None
unfolding header_of
header_of_nothing = refl

-- recovery takes none of a log without a header
no_frames : (page_size : ℕ) (log : List ℕ) (k : ℕ) → header_of log ≡ None → Replays page_size log k → k ≡ 0
no_frames page_size log k none (inl ignored) = ignored.1
no_frames page_size log k none (inr taken) = absurd (none-some (header log) (sym none ∙ has_header log (omega (arith, taken.0.long))))

-- what recovery takes is committed
takes_committed : (page_size : ℕ) (log : List ℕ) (k : ℕ) → 0 < k → Replays page_size log k → IsCommitted page_size log k
takes_committed page_size log k some (inl ignored) = absurd (omega (arith, ignored.1))
takes_committed page_size log k some (inr taken) = taken.0

-- the new files come from the old ones by changes that do not begin the log anew
record Later (page_size : ℕ) (old : Image) (before : ℕ) (new : Image) (after : ℕ) : Type 0 where
  pub same_header : header_of new.log ≡ header_of old.log
  pub no_fewer : before ≤ after
  pub stays : (i : ℕ) → i < before → frame page_size new.log i ≡ frame page_size old.log i
  pub pages : (n : ℕ) → 1 ≤ n → n ≤ page_count page_size new.log new.db after → HasNoFrame page_size new.log after n → (n ≤ page_count page_size old.log old.db before) × (file_page page_size new.db n ≡ file_page page_size old.db n)
  pub untouched : after ≡ 0 → new.db ≡ old.db

Later-refl : (page_size : ℕ) (it : Image) (k : ℕ) → Later page_size it k it k
Later-refl page_size it k =
    record { same_header = refl; no_fewer = omega arith; stays = λ i low. refl; pages = λ n some low none. (low, refl); untouched = λ none. refl }

-- a page without one of the later frames has none of the earlier
none_before : (page_size : ℕ) (old new : List ℕ) (before after n : ℕ) → before ≤ after → ((i : ℕ) → i < before → frame page_size new i ≡ frame page_size old i) → HasNoFrame page_size new after n → HasNoFrame page_size old before n
none_before page_size old new before after n few stays none i low is =
    none i (omega arith) (ap page_number (stays i low) ∙ is)

Later-from : (page_size : ℕ) (old : Image) (before : ℕ) (new : Image) (after : ℕ) → ChangesFiles page_size old before new after → Later page_size old before new after
Later-from page_size old before new after it =
    record {
      same_header = it.same_header;
      no_fewer = it.no_fewer;
      stays = it.stays;
      pages = λ n some low none.
          let reached = it.grows n some low none in
          (reached, it.pages n some reached (none_before page_size old.log new.log before after n it.no_fewer it.stays none));
      untouched = λ none. it.untouched (omega (arith, it.no_fewer));
    }

Later-trans : (page_size : ℕ) (a : Image) (i : ℕ) (b : Image) (j : ℕ) (c : Image) (k : ℕ) → Later page_size a i b j → Later page_size b j c k → Later page_size a i c k
Later-trans page_size a i b j c k ab bc =
    record {
      same_header = bc.same_header ∙ ab.same_header;
      no_fewer = omega (arith, ab.no_fewer, bc.no_fewer);
      stays = λ m low. bc.stays m (omega (arith, ab.no_fewer)) ∙ ab.stays m low;
      pages = λ n some low none.
          let later = bc.pages n some low none in
          let earlier = ab.pages n some later.0 (none_before page_size b.log c.log j k n bc.no_fewer bc.stays none) in
          (earlier.0, later.1 ∙ earlier.1);
      untouched = λ none. bc.untouched none ∙ ab.untouched (omega (arith, bc.no_fewer));
    }

-- one of more frames has the page, or none has
none_of_more : (page_size : ℕ) (log : List ℕ) (k n : ℕ) → HasNoFrame page_size log k n → page_number (frame page_size log k) ≢ n → HasNoFrame page_size log (suc k) n
none_of_more page_size log k n none other i low is =
    elim (cases_lt i k) [
      | inl before ↦ none i before is
      | inr here ↦ let same : i ≡ k = omega arith in other (ap (λ (j : ℕ). page_number (frame page_size log j)) (sym same) ∙ is)
    ]

-- A page is the same where the frames are, and where it is the same in the database file if it has no frame.
page_after-same : (page_size : ℕ) (a b d e : List ℕ) (n k : ℕ) → HaveFrames page_size k a b → (HasNoFrame page_size b k n → file_page page_size d n ≡ file_page page_size e n) → page_after page_size a d n k ≡ page_after page_size b e n k
page_after-same page_size a b d e n zero same base = base (λ i low. absurd (omega arith))
page_after-same page_size a b d e n (suc k) same base =
    let first = ap (λ (f : List ℕ). cond (eqb (page_number f) n) (content f) (page_after page_size a d n k)) (same k (omega arith)) in
    let last = frame page_size b k in
    elim (cases_Bool (eqb (page_number last) n)) [
      | inl found ↦ first ∙ cond-true _ _ _ found ∙ sym (cond-true _ _ _ found)
      | inr not_here ↦
          let rest = page_after-same page_size a b d e n k (λ j low. same j (omega arith)) (λ none. base (none_of_more page_size b k n none (eqb-false (page_number last) n not_here))) in
          first ∙ cond-false _ _ _ not_here ∙ rest ∙ sym (cond-false _ _ _ not_here)
    ]

page_count-same : (page_size : ℕ) (a b d e : List ℕ) (k : ℕ) → HaveFrames page_size k a b → (k ≡ 0 → d ≡ e) → page_count page_size a d k ≡ page_count page_size b e k
page_count-same page_size a b d e zero same base = ap (λ (x : List ℕ). length x / page_size) (base refl)
page_count-same page_size a b d e (suc k) same base = ap commit_size (same k (omega arith))

module _ (page_size : ℕ) (files : ℕ → Image) (frames : ℕ → ℕ) (first last : ℕ) (written : AreWritten page_size files frames first last) (same : header_of (files last).log ≡ header_of (files first).log) where
  -- once the log was begun anew, its header is not the first any more
  other_since : (i : ℕ) → first ≤ i → i < last → BeginsAnew files first i → (j : ℕ) → i < j → j ≤ last → header_of (files j).log ≢ header_of (files first).log
  other_since i began ended anew zero past within = absurd (omega arith)
  other_since i began ended anew (suc j) past within =
      elim (cases_lt i j) [
        | inl later ↦
            elim (written.steps j (omega arith) (omega arith)) [
              | inl change ↦ λ is. other_since i began ended anew j later (omega arith) (sym change.same_header ∙ is)
              | inr again ↦ again first (omega arith) (omega arith)
            ]
        | inr here ↦
            let is : i ≡ j = omega arith in
            subst (λ (m : ℕ). header_of (files (suc m)).log ≢ header_of (files first).log) is (anew first (omega arith) began)
      ]

  change_at : (i : ℕ) → first ≤ i → i < last → ChangesFiles page_size (files i) (frames i) (files (suc i)) (frames (suc i))
  change_at i began ended =
      elim (written.steps i began ended) [
        | inl change ↦ change
        | inr anew ↦ absurd (other_since i began ended anew last ended (omega arith) same)
      ]

  later_at : (i j : ℕ) → first ≤ i → i ≤ j → j ≤ last → Later page_size (files i) (frames i) (files j) (frames j)
  later_at i zero began order within =
      let is : zero ≡ i = omega arith in
      subst (λ (m : ℕ). Later page_size (files m) (frames m) (files zero) (frames zero)) is (Later-refl page_size (files zero) (frames zero))
  later_at i (suc j) began order within =
      elim (cases_lt i (suc j)) [
        | inl before ↦
            Later-trans page_size (files i) (frames i) (files j) (frames j) (files (suc j)) (frames (suc j))
            (later_at i j began (omega arith) (omega arith))
            (Later-from page_size (files j) (frames j) (files (suc j)) (frames (suc j)) (change_at j (omega arith) (omega arith)))
        | inr here ↦
            let is : suc j ≡ i = omega arith in
            subst (λ (m : ℕ). Later page_size (files m) (frames m) (files (suc j)) (frames (suc j))) is (Later-refl page_size (files (suc j)) (frames (suc j)))
      ]

  -- The copied database file has each page that the database had at a later moment without a frame.
  copied_page : (between : ℕ) (bytes : List ℕ) → WereRead (λ i. (files i).db) first between bytes → (e n : ℕ) → between ≤ e → e ≤ last → 1 ≤ n → n ≤ page_count page_size (files e).log (files e).db (frames e) → HasNoFrame page_size (files e).log (frames e) n → file_page page_size bytes n ≡ file_page page_size (files e).db n
  copied_page between bytes were e n began ended some low none =
      same_part bytes (files e).db ((n - 1) * page_size) page_size λ p within.
      let read = were ((n - 1) * page_size + p) in
      let later = later_at read.0 e read.1 (omega (arith, read.2)) ended in
      read.3 ∙ part_bytes (files read.0).db (files e).db ((n - 1) * page_size) page_size p (sym (later.pages n some low none).1) within

  copied_db : (between : ℕ) (bytes : List ℕ) → WereRead (λ i. (files i).db) first between bytes → (e : ℕ) → between ≤ e → e ≤ last → frames e ≡ 0 → bytes ≡ (files e).db
  copied_db between bytes were e began ended none =
      same_bytes bytes (files e).db λ at.
      let read = were at in
      let later = later_at read.0 e read.1 (omega (arith, read.2)) ended in
      read.3 ∙ ap (λ (b : List ℕ). slice_get b at) (sym (later.untouched none))

  -- If recovery takes of the copied log what it takes at a later moment, the copy stands for what the files stand for then.
  same_pages_at : (between : ℕ) (copy : Image) → WereRead (λ i. (files i).db) first between copy.db → (e k : ℕ) → between ≤ e → e ≤ last → frames e ≡ k → HaveFrames page_size k copy.log (files e).log → pages_after page_size (files e).log (files e).db (frames e) ≡ pages_after page_size copy.log copy.db k
  same_pages_at between copy were e k began ended is have =
      let log = (files e).log in
      let db = (files e).db in
      let count = ap (page_count page_size log db) is ∙ sym (page_count-same page_size copy.log log copy.db db k have (λ none. copied_db between copy.db were e began ended (is ∙ none))) in
      same_pages page_size copy.log copy.db log db k (frames e) count λ n some low.
      let there : n ≤ page_count page_size log db (frames e) = subst (λ (m : ℕ). n ≤ m) (sym count) low in
      ap (page_after page_size log db n) is
      ∙ sym (page_after-same page_size copy.log log copy.db db n k have (λ none. copied_page between copy.db were e n began ended some there (subst (λ (m : ℕ). HasNoFrame page_size log m n) (sym is) none)))

  committed_at : (t f : ℕ) → first ≤ t → t ≤ last → frames t ≡ suc f → IsCommitted page_size (files t).log (suc f)
  committed_at t f began ended is =
      takes_committed page_size (files t).log (suc f) (omega arith) (subst (Replays page_size (files t).log) is (written.replays t began ended))

  module _ (between : ℕ) (when : ℕ → ℕ) (copy : List ℕ) (start : first ≤ between) (were : WereReadInOrder (λ i. (files i).log) between last when copy) where
    -- when the reading of frame j began
    begun : ℕ → ℕ
    begun j = when (frame_at page_size j)

    -- A frame that was committed when its reading began is read as it is in the log at any moment from when it was committed.
    frame_read : (j : ℕ) → j < frames (begun j) → (t : ℕ) → first ≤ t → t ≤ last → j < frames t → frame page_size copy j ≡ frame page_size (files t).log j
    unfolding begun
    frame_read j done t since within there =
        let from = begun j in
        let log = (files from).log in
        let end = later_at from last (omega (arith, were.began (frame_at page_size j))) (were.ended (frame_at page_size j)) (omega arith) in
        let other = later_at t last since within (omega arith) in
        let whole = same_part copy log (frame_at page_size j) (24 + page_size) λ p low.
        let at = frame_at page_size j + p in
        let later = later_at from (when at) (omega (arith, were.began (frame_at page_size j))) (were.order (frame_at page_size j) at (omega arith)) (were.ended at) in
        were.read at ∙ part_bytes (files (when at)).log log (frame_at page_size j) (24 + page_size) p (later.stays j done) low in
        whole ∙ sym (end.stays j done) ∙ other.stays j there

    -- The header is in the copy.
    head_read : (t : ℕ) → between ≤ t → t ≤ last → 32 ≤ length (files t).log → header copy ≡ header (files t).log
    head_read t since within long =
        let log = (files t).log in
        same_part copy log 0 32 λ p low.
        let at = 0 + p in
        let mine = later_at first (when at) (omega arith) (omega (arith, were.began at)) (were.ended at) in
        let other = later_at first t (omega arith) (omega arith) within in
        were.read at ∙ part_bytes (files (when at)).log log 0 32 p (same_headers (files (when at)).log log (mine.same_header ∙ sym other.same_header) long).1 low

    -- The frames of a moment are in the copy, if each was committed when its reading began.
    shares : (t f : ℕ) → between ≤ t → t ≤ last → frames t ≡ suc f → ((j : ℕ) → j < suc f → j < frames (begun j)) → Shares page_size (suc f) (files t).log copy
    shares t f since within is done =
        let log = (files t).log in
        let committed = committed_at t f (omega arith) within is in
        let each : (j : ℕ) → j < suc f → frame page_size copy j ≡ frame page_size log j =
        λ j low. frame_read j (done j low) t (omega arith) within (omega arith) in
        let head = head_read t since within (omega (arith, committed.long)) in
        let whole = ap length (each f (omega arith)) ∙ length-part log (frame_at page_size f) (24 + page_size) (committed.valid f (omega arith)).within in
        let fits = part_within copy (frame_at page_size f) (24 + page_size) (omega arith) whole in
        record {
          long = omega arith;
          within = omega (arith, frames_len-suc page_size f);
          head = head;
          frames = each;
        }

    -- Recovery takes no fewer of the copy.
    no_fewer : (t f : ℕ) → between ≤ t → t ≤ last → frames t ≡ f → ((j : ℕ) → j < f → j < frames (begun j)) → (k : ℕ) → Replays page_size copy k → f ≤ k
    no_fewer t zero since within is done k replays = omega arith
    no_fewer t (suc f) since within is done k replays =
        replays_no_fewer page_size copy (suc f) k
        (IsCommitted-shares page_size (suc f) (files t).log copy (shares t f since within is done) (committed_at t f (omega arith) within is))
        replays

    -- each frame was committed when its reading began, or one was not
    all_or_one : (k : ℕ) → ((j : ℕ) × (j < k) × (frames (when (frame_at page_size j)) ≤ j)) ⊎ ((j : ℕ) → j < k → j < frames (begun j))
    unfolding begun
    all_or_one zero = inr (λ j low. absurd (omega arith))
    all_or_one (suc k) =
        elim (cases_lt k (frames (begun k))) [
          | inr unfinished ↦ inl (k, omega arith, unfinished)
          | inl done ↦
              elim (all_or_one k) [
                | inl one ↦ inl (one.0, omega (arith, one.1), one.2)
                | inr before ↦ inr λ j low. elim (cases_lt j k) [
                  | inl less ↦ before j less
                  | inr here ↦ let is : k ≡ j = omega arith in subst (λ (m : ℕ). m < frames (begun m)) is done
                ]
              ]
        ]

    frames_grow : (a b : ℕ) → between ≤ a → a ≤ b → b ≤ last → frames a ≤ frames b
    frames_grow a b since order within = (later_at a b (omega arith) order within).no_fewer

    from_first : between ≤ last → (j : ℕ) → frames between ≤ frames (begun j)
    unfolding begun
    from_first within j =
        let at = frame_at page_size j in
        frames_grow between (when at) (omega arith) (were.began at) (were.ended at)

    at_least : (k : ℕ) → ((j : ℕ) → j < k → j < frames (begun j)) → k ≤ frames (begun k)
    unfolding begun
    at_least zero done = omega arith
    at_least (suc k) done =
        let low = frames_len-suc page_size k in
        let before = frame_at page_size k in
        let here = frame_at page_size (suc k) in
        omega (arith, done k (omega arith), frames_grow (when before) (when here) (were.began before) (were.order before here (omega arith)) (were.ended here))

    -- If each frame that recovery takes was committed when its reading began, recovery takes what it took of the log when the reading
    -- of the next frame began.
    finished : (k : ℕ) → Replays page_size copy k → ((j : ℕ) → j < k → j < frames (begun j)) → (i : ℕ) × (between ≤ i) × (i ≤ last) × (frames i ≡ k) × HaveFrames page_size k copy (files i).log
    unfolding begun
    finished k replays done =
        let next = frame_at page_size k in
        let t = when next in
        let since = were.began next in
        let within = were.ended next in
        let least : k ≤ frames t = at_least k done in
        let most : frames t ≤ k =
        no_fewer t (frames t) since within refl
        (λ j low. elim (cases_lt j k) [
          | inl before ↦ done j before
          | inr after ↦
              let at = frame_at page_size j in
              omega (arith, frames_grow t (when at) since (were.order next at (omega (arith, frames_len-le page_size k j after))) (were.ended at))
        ])
        k replays in
        (t, since, within, omega arith, λ j low. frame_read j (done j low) t (omega arith) within (omega arith))

    -- the first frame that was not committed when its reading began
    first_unfinished : (k : ℕ) → ((j : ℕ) × (j < k) × (frames (when (frame_at page_size j)) ≤ j)) → (j : ℕ) × (j < k) × (frames (begun j) ≤ j) × ((i : ℕ) → i < j → i < frames (begun i))
    unfolding begun
    first_unfinished zero one = absurd (omega (arith, one.1))
    first_unfinished (suc k) one =
        elim (all_or_one k) [
          | inl before ↦
              let found = first_unfinished k before in
              (found.0, omega (arith, found.1), found.2, found.3)
          | inr done ↦
              elim (cases_lt one.0 k) [
                | inl less ↦ absurd (omega (arith, done one.0 less, one.2))
                | inr here ↦ let is : one.0 ≡ k = omega (arith, one.1) in (k, omega arith, subst (λ (m : ℕ). frames (when (frame_at page_size m)) ≤ m) is one.2, done)
              ]
        ]

    -- Where the gate behind the committed frames is shut, and a frame's gate is read as its reading begins, recovery takes no frame that
    -- was not committed then.
    stops_at_gate : EndShut page_size files frames between last → ((j : ℕ) → when (frame_at page_size j + 8) ≡ when (frame_at page_size j)) → (k : ℕ) → Replays page_size copy k → ((j : ℕ) × (j < k) × (frames (when (frame_at page_size j)) ≤ j)) → ⊥
    unfolding begun
    stops_at_gate shut once k replays one =
        let found = first_unfinished k one in
        let j = found.0 in
        let at = frame_at page_size j in
        let t = when at in
        let log = (files t).log in
        let since = were.began at in
        let within = were.ended at in
        let least : j ≤ frames t = at_least j found.3 in
        let is : frames t ≡ j = omega (arith, found.2) in
        let gate : IsShut log (at + 8) (slice_index (header log) 16) = subst (λ (m : ℕ). IsShut log (frame_at page_size m + 8) (slice_index (header log) 16)) is (shut t since within) in
        let byte : slice_get copy (at + 8) ≡ slice_get log (at + 8) =
        were.read (at + 8) ∙ ap (λ (m : ℕ). slice_get (files m).log (at + 8)) (once j) in
        let there : slice_get copy (at + 8) ≡ Some (slice_index log (at + 8)) = byte ∙ slice_get-get_or log (at + 8) 0 gate.within in
        let head = head_read t since within (omega (arith, gate.within)) in
        let mine : IsShut copy (at + 8) (slice_index (header copy) 16) =
        record {
          within = slice_get_within copy (at + 8) (slice_index log (at + 8)) there;
          differs = λ same_key. gate.differs (sym (get_or_from_slice_get copy (at + 8) (slice_index log (at + 8)) 0 there) ∙ same_key ∙ ap (λ (b : List ℕ). slice_index b 16) head);
        } in
        invalid_at_shut page_size copy j mine (passes_of ((takes_committed page_size copy k (omega (arith, found.1)) replays).valid j found.1))

    module _ (once : CommitOnce page_size files frames between last) (k : ℕ) (replays : Replays page_size copy k) (m : ℕ) (start_of : between ≤ m) (ended : m ≤ last) (have : HaveFrames page_size k copy (files m).log) where
      -- no change passes over the frames that recovery takes
      passed : (j : ℕ) → between ≤ j → suc j ≤ m → frames j < k → k < frames (suc j) → ⊥
      passed j began within fewer more =
          let committed = takes_committed page_size copy k (omega arith) replays in
          let quiet = once j began (omega arith) (k - 1) (omega arith) (omega arith) in
          let later = later_at (suc j) m (omega arith) within ended in
          committed.commits (k - 1) (omega arith)
          (ap commit_size (have (k - 1) (omega arith) ∙ later.stays (k - 1) (omega arith)) ∙ quiet)

      -- as many as at the beginning, if not fewer than then
      at_first : (j : ℕ) → j ≡ between → k ≤ frames j → frames j ≡ k
      at_first j is enough =
          let least = no_fewer between (frames between) (omega arith) (omega arith) refl (λ i low. omega (arith, from_first (omega arith) i)) k replays in
          omega (arith, ap frames is)

      moment : (j : ℕ) → between ≤ j → j ≤ m → k ≤ frames j → (i : ℕ) × (between ≤ i) × (i ≤ m) × (frames i ≡ k)
      moment zero began within enough = (zero, began, within, at_first zero (omega arith) enough)
      moment (suc j) began within enough =
          elim (cases_lt j between) [
            | inl start_here ↦ (suc j, began, within, at_first (suc j) (omega arith) enough)
            | inr before ↦
                elim (cases_lt (frames j) k) [
                  | inr still ↦ moment j before (omega arith) still
                  | inl fewer ↦
                      elim (cases_lt k (frames (suc j))) [
                        | inl more ↦ absurd (passed j before within fewer more)
                        | inr as_many ↦ (suc j, began, within, omega arith)
                      ]
                ]
          ]

    whole : CommitOnce page_size files frames between last → (k : ℕ) → Replays page_size copy k → ((i : ℕ) × (between ≤ i) × (i ≤ last) × (k ≤ frames i) × HaveFrames page_size k copy (files i).log) → (i : ℕ) × (between ≤ i) × (i ≤ last) × (frames i ≡ k) × HaveFrames page_size k copy (files i).log
    whole once k replays taken =
        let m = taken.0 in
        let found = moment once k replays m taken.1 taken.2 taken.4 m taken.1 (omega arith) taken.3 in
        let later = later_at found.0 m (omega (arith, found.1)) found.2 taken.2 in
        (found.0, found.1, omega (arith, found.2, taken.2), found.3, λ j low. taken.4 j low ∙ later.stays j (omega (arith, found.3)))

module _ (page_size : ℕ) (files : ℕ → Image) (frames : ℕ → ℕ) (times : Times) (written : AreWritten page_size files frames times.first times.last) (copy : Image) (it : IsCopied files times copy) where
  -- Without a log at the beginning there are no frames, in the copy either.
  without_log : header_of (files times.first).log ≡ None → (frames times.between ≡ 0) × (copy.log ≡ [])
  without_log none =
      let between = times.between in
      let later = later_at page_size files frames times.first times.last written it.same_header times.first between (omega arith) it.began it.ended in (
        no_frames page_size (files between).log (frames between) (later.same_header ∙ none) (written.replays between it.began it.ended),
        MatchOption-at_none (copy.log ≡ []) _ none it.log,
      )

  -- a log of which was read, or nothing
  by_log : {P : Type 0} → (header_of (files times.first).log ≡ None → P) → (WereReadInOrder (λ i. (files i).log) times.between times.last times.when copy.log → P) → P
  by_log {P = P} none some = go (header_of (files times.first).log) refl
    where
      go : (o : Option (List ℕ)) → header_of (files times.first).log ≡ o → P
      go None is = none is
      go (Some head) is = some (MatchOption-at_some _ _ head is it.log)

  moment_of : TakesOfOneMoment page_size files frames times copy.log → (k : ℕ) → Replays page_size copy.log k → (i : ℕ) × (times.between ≤ i) × (i ≤ times.last) × (frames i ≡ k) × HaveFrames page_size k copy.log (files i).log
  moment_of takes k replays =
      by_log
      (λ none.
      let without = without_log none in
      let nothing = no_frames page_size copy.log k (ap header_of without.1 ∙ header_of_nothing) replays in
      (times.between, omega arith, it.ended, without.0 ∙ sym nothing, λ j low. absurd (omega (arith, nothing))))
      (λ were.
      elim (all_or_one page_size files frames times.first times.last written it.same_header times.between times.when copy.log it.began were k) [
        | inl one ↦ takes k replays one
        | inr done ↦ finished page_size files frames times.first times.last written it.same_header times.between times.when copy.log it.began were k replays done
      ])

  pub stood_for : TakesOfOneMoment page_size files frames times copy.log → (pages : Pages) → Recovers page_size copy pages → StoodFor page_size files times.between times.last pages
  stood_for takes pages recovers =
      let taken = moment_of takes recovers.frames recovers.replays in
      let e = taken.0 in
      let since : times.first ≤ e = omega (arith, it.began, taken.1) in (
        e,
        taken.1,
        taken.2,
        record {
          frames = frames e;
          replays = written.replays e since taken.2;
          present = written.present e since taken.2;
          gives = same_pages_at page_size files frames times.first times.last written it.same_header times.between copy it.db e recovers.frames taken.1 taken.2 taken.3 taken.4 ∙ recovers.gives;
        },
      )

  pub of_one_moment : CommitOnce page_size files frames times.between times.last → TakesWholeFrames page_size files frames times copy.log → TakesOfOneMoment page_size files frames times copy.log
  of_one_moment once takes k replays unfinished =
      by_log
      (λ none.
      let nothing = no_frames page_size copy.log k (ap header_of (without_log none).1 ∙ header_of_nothing) replays in
      absurd (omega (arith, nothing, unfinished.1)))
      (λ were.
      whole page_size files frames times.first times.last written it.same_header times.between times.when copy.log it.began were once k replays (takes k replays unfinished))

  pub if_shut : EndShut page_size files frames times.between times.last → ReadsSaltsAtOnce page_size times → TakesOfOneMoment page_size files frames times copy.log
  if_shut shut once k replays unfinished =
      by_log
      (λ none.
      let nothing = no_frames page_size copy.log k (ap header_of (without_log none).1 ∙ header_of_nothing) replays in
      absurd (omega (arith, nothing, unfinished.1)))
      (λ were.
      absurd (stops_at_gate page_size files frames times.first times.last written it.same_header times.between times.when copy.log it.began were shut once k replays unfinished))
