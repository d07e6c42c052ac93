-- Steps of a writer as changes of the two files.
use Rattle.std.proofs.Common.{◌≡◌, ◌≢◌, ℕ, zero, suc, ◌+◌, ◌<◌, ◌≤◌, List, length, Some, refl, sym, ap, subst, ◌∙◌, inl, inr, arith, get_or-set_other}
use Rattle.std.specs.Prelude.{slice_get, slice_index, slice_set}
use Rattle.std.proofs.lemmas.Bool.{cases_lt}
use Rattle.std.proofs.lemmas.List.{length-set}
use Rattle.std.proofs.lemmas.Option.{slice_get-get_or, slice_get_past}
use Rattle.sqlite_wal.specs.Format.{page_number}
use Rattle.sqlite_wal.specs.Recovery.{Image, header, frame, frame_at, Replays, IsCommitted, page_count}
use Rattle.sqlite_wal.specs.Index.{Index, opened, gate_of, key_of, Lists, Shares, IsUnlogged, KeepsUnlogged, IsReady}
use Rattle.sqlite_wal.proofs.PartLemmas.{frames_len-lt}
use Rattle.sqlite_wal.proofs.RecoveryLemmas.{page_count-shares, replays_once}
use Rattle.files.specs.Copying.{HasNoFrame, ChangesFiles, AreWritten, Times, TakesOfOneMoment}
use Rattle.files.proofs.Bytes.{same_part}
use Rattle.files.proofs.Copies.{has_header}

-- a write behind the frames that recovery takes
pub behind : (page_size k : ℕ) (old new db : List ℕ) → IsCommitted page_size old k → Shares page_size k old new → ChangesFiles page_size (record { log = old; db = db }) k (record { log = new; db = db }) k
behind page_size k old new db committed shares =
    record {
      same_header = has_header new (omega (arith, shares.long)) ∙ ap Some shares.head ∙ sym (has_header old (omega (arith, committed.long)));
      no_fewer = omega arith;
      stays = shares.frames;
      grows = λ n some low none. subst (λ (m : ℕ). n ≤ m) (page_count-shares page_size old new db k shares) low;
      pages = λ n some low none. refl;
      untouched = λ none. refl;
    }

unlogged : (it : Index) (page_size : ℕ) (log : List ℕ) (n : ℕ) → ((i : ℕ) → i < length it.numbers → slice_index it.numbers i ≡ page_number (frame page_size log i)) → HasNoFrame page_size log (length it.numbers) n → IsUnlogged it n
unlogged it page_size log n numbers none i low is = none i low (sym (numbers i low) ∙ is)

page_count-file : (page_size : ℕ) (log d e : List ℕ) (k : ℕ) → (k ≡ 0 → d ≡ e) → page_count page_size log d k ≡ page_count page_size log e k
page_count-file page_size log d e zero all = ap (λ (db : List ℕ). page_count page_size log db zero) (all refl)
page_count-file page_size log d e (suc k) all = refl

-- two states that a checkpoint makes of the database file
pub back : (it : Index) (log first old new : List ℕ) → Lists it log first → KeepsUnlogged it first old → KeepsUnlogged it first new → ChangesFiles it.page_size (record { log = log; db = old }) (length it.numbers) (record { log = log; db = new }) (length it.numbers)
back it log first old new lists was is =
    let all : length it.numbers ≡ 0 → new ≡ old = λ none. is.all none ∙ sym (was.all none) in
    let same = page_count-file it.page_size log new old (length it.numbers) all in
    let at_first = page_count-file it.page_size log old first (length it.numbers) was.all in
    record {
      same_header = refl;
      no_fewer = omega arith;
      stays = λ i low. refl;
      grows = λ n some low none. subst (λ (m : ℕ). n ≤ m) same low;
      pages = λ n some low none.
          let counted = subst (λ (m : ℕ). n ≤ m) (at_first ∙ sym lists.count) low in
          let without = unlogged it it.page_size log n lists.numbers none in
          is.pages n some counted without ∙ sym (was.pages n some counted without);
      untouched = all;
    }

elsewhere : (xs : List ℕ) (gate key i : ℕ) → i ≢ gate → slice_get (slice_set xs gate key) i ≡ slice_get xs i
elsewhere xs gate key i other =
    elim (cases_lt i (length xs)) [
      | inl within ↦
          slice_get-get_or (slice_set xs gate key) i 0 (omega (arith, length-set xs gate key))
          ∙ ap Some (get_or-set_other xs gate i key 0 other)
          ∙ sym (slice_get-get_or xs i 0 within)
      | inr past ↦
          slice_get_past (slice_set xs gate key) i (omega (arith, length-set xs gate key)) ∙ sym (slice_get_past xs i past)
    ]

-- the moment at which transactions that stand behind a shut gate are committed
pub gate_opens : (durable newest : Index) (log db : List ℕ) → IsReady durable newest log db → ChangesFiles durable.page_size (record { log = log; db = db }) (length durable.numbers) (record { log = opened durable log; db = db }) (length newest.numbers)
gate_opens durable newest log db ready =
    let page_size = durable.page_size in
    let gate = gate_of durable in
    let key = key_of durable in
    let shown = ready.shown in
    let hidden = subst (λ (m : ℕ). IsCommitted m (opened durable log) (length newest.numbers)) ready.size ready.hidden.committed in
    let head : header (opened durable log) ≡ header log = same_part (opened durable log) log 0 32 λ i low. elsewhere log gate key (0 + i) (λ is. omega (arith, is)) in
    record {
      same_header = has_header (opened durable log) (omega (arith, hidden.long)) ∙ ap Some head ∙ sym (has_header log (omega (arith, shown.committed.long)));
      no_fewer = ready.longer;
      stays = λ i low. same_part (opened durable log) log (frame_at page_size i) (24 + page_size) λ p within.
          elsewhere log gate key (frame_at page_size i + p) (λ is. omega (arith, is, frames_len-lt page_size i (length durable.numbers) low));
      grows = λ n some low none.
          let counted = subst (λ (m : ℕ). newest.count ≡ page_count m (opened durable log) db (length newest.numbers)) ready.size ready.hidden.count in
          let numbers = subst (λ (m : ℕ). (i : ℕ) → i < length newest.numbers → slice_index newest.numbers i ≡ page_number (frame m (opened durable log) i)) ready.size ready.hidden.numbers in
          subst (λ (m : ℕ). n ≤ m) shown.count (ready.reach n some (subst (λ (m : ℕ). n ≤ m) (sym counted) low) (unlogged newest page_size (opened durable log) n numbers none)).0;
      pages = λ n some low none. refl;
      untouched = λ none. refl;
    }

-- files that nobody writes
module _ (page_size k : ℕ) (image : Image) (replays : Replays page_size image.log k) where
  unchanged : ChangesFiles page_size image k image k
  unchanged =
      record {
        same_header = refl;
        no_fewer = omega arith;
        stays = λ i low. refl;
        grows = λ n some low none. low;
        pages = λ n some low none. refl;
        untouched = λ none. refl;
      }

  pub rest : (first last : ℕ) → 0 < length image.db → AreWritten page_size (λ _. image) (λ _. k) first last
  rest first last present =
      record {
        replays = λ i began ended. replays;
        present = λ i began ended. present;
        steps = λ i began ended. inl unchanged;
      }

  pub of_rest : (times : Times) → TakesOfOneMoment page_size (λ _. image) (λ _. k) times image.log
  of_rest times m taken unfinished = absurd (omega (arith, replays_once page_size image.log k m replays taken, unfinished.1, unfinished.2))
