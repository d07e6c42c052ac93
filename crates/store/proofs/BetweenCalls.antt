-- From one call to the next.
use Rattle.store.proofs.Names.{◌≡◌, ◌<◌, ◌≤◌, nat_lt, ℕ, List, [], ◌∷◌, true, false, Some, None, Option, Ok, Err, Result, IfOk, refl, sym, ap, subst, subst₂, ◌∙◌, arith, AllByRecursion, lt-ltb, nat_tests, Row, Database, IsDatabase, State, IsUnchanged, Refusal, IsLaidOut, LiesBeside, most, Key, IsHeldRow, HasRowids, Finds, meta_rows, held_rows, span_rows, follow_rows, count, KeyCounts, with_one, without_one, IsWorking, StaysOpen, HasCounts, Appear, Adds, added, Counted}
use Rattle.store.specs.declared.row_change.Refusal.TheVariants.{NoSuchRow, CountFull}
use Rattle.store.specs.Inside.{Raises, AddsNew, removed}
use Rattle.store.proofs.RowLemmas.{count_found, count_none}

pub working_same : (old mid : State) → IsUnchanged old mid → IsWorking old → IsWorking mid
working_same old mid h was = record {
  is_open = h.0.is_open;
  inside = h.0.mode ∙ was.inside;
  laid_out = subst (λ (d : Database). IsLaidOut d.schema) (sym h.0.now_is) was.laid_out;
  held_apart = subst (λ (d : Database). HasRowids (held_rows d)) (sym h.0.now_is) was.held_apart;
  spans_apart = subst (λ (d : Database). HasRowids (span_rows d)) (sym h.0.now_is) was.spans_apart;
  lawful = subst (λ (d : Database). AllByRecursion IsHeldRow (held_rows d)) (sym h.0.now_is) was.lawful;
  sound = subst IsDatabase (sym h.0.now_is) was.sound;
  beside = subst₂ LiesBeside (sym h.0.committed_is) (sym h.0.now_is) was.beside;
}

pub goes_since : (old mid new : State) → IsUnchanged old mid → StaysOpen mid new → StaysOpen old new
goes_since old mid new h next = record {
  working = next.working;
  schema = next.schema ∙ ap (λ (d : Database). d.schema) h.0.now_is;
  committed = next.committed ∙ h.0.committed_is;
  meta = next.meta ∙ ap meta_rows h.0.now_is;
  follow = next.follow ∙ ap follow_rows h.0.now_is;
}

pub holds_since : (old mid new : State) (counts : KeyCounts) → IsUnchanged old mid → HasCounts mid new counts → HasCounts old new counts
holds_since old mid new counts h next = record {
  on = goes_since old mid new h next.on;
  spans = next.spans ∙ ap span_rows h.0.now_is;
  counts_are = next.counts_are;
}

-- the count under a key that was looked up
pub counted_none : (key : Key) (rows : List Row) → Finds key rows None → count rows key ≡ 0
counted_none key rows none = count_none key rows none

pub counted_some : (key : Key) (rows : List Row) (n : ℕ) → Finds key rows (Some n) → count rows key ≡ n
counted_some key rows n one = count_found key rows one.0 n one.1 one.2

module _ (old mid new : State) (key : Key) (same : IsUnchanged old mid) where
  counts_same : count (held_rows mid.now) ≡ count (held_rows old.now)
  counts_same = ap (λ (d : Database). count (held_rows d)) same.0.now_is

  pub found_mid : (found : Option ℕ) → Finds key (held_rows old.now) found → Finds key (held_rows mid.now) found
  found_mid found h = subst (λ (d : Database). Finds key (held_rows d) found) (sym same.0.now_is) h

  pub counted_added : (n : ℕ) → count (held_rows old.now) key ≡ n → n < most → HasCounts mid new (with_one key (count (held_rows mid.now))) → Counted old new (added key (count (held_rows old.now))) None
  counted_added n is low h =
      let test : nat_lt (count (held_rows old.now) key) most ≡ true = rw is (lt-ltb n most low) in
      rw test (holds_since old mid new _ same (subst (λ b. HasCounts mid new (with_one key b)) counts_same h))

  pub counted_removed : (n : ℕ) → count (held_rows old.now) key ≡ n → 0 < n → HasCounts mid new (without_one key (count (held_rows mid.now))) → Counted old new (removed key (count (held_rows old.now))) None
  counted_removed n is low h =
      let test : nat_lt 0 (count (held_rows old.now) key) ≡ true = rw is (lt-ltb 0 n low) in
      rw test (holds_since old mid new _ same (subst (λ b. HasCounts mid new (without_one key b)) counts_same h))

pub counted_full : (old new : State) (key : Key) (n : ℕ) → count (held_rows old.now) key ≡ n → most ≤ n → Counted old new (added key (count (held_rows old.now))) (Some CountFull)
counted_full old new key n is high =
    let test : nat_lt (count (held_rows old.now) key) most ≡ false = rw is (grind (arith, nat_tests)) in rw test refl

pub counted_missing : (old new : State) (key : Key) → count (held_rows old.now) key ≡ 0 → Counted old new (removed key (count (held_rows old.now))) (Some NoSuchRow)
counted_missing old new key is = let test : nat_lt 0 (count (held_rows old.now) key) ≡ false = rw is refl in rw test refl

-- ---- one call after another
pub goes_then : (old mid new : State) → StaysOpen old mid → StaysOpen mid new → StaysOpen old new
goes_then old mid new one two = record {
  working = two.working;
  schema = two.schema ∙ one.schema;
  committed = two.committed ∙ one.committed;
  meta = two.meta ∙ one.meta;
  follow = two.follow ∙ one.follow;
}

-- ---- a row that is put in or taken out with all its copies

raises_new : (keys : List Key) (c d : KeyCounts) → Appear keys c d → Raises keys c d
raises_new [] c d h = h
raises_new (key ∷ keys) c d h = (omega (arith, h.0), raises_new keys (with_one key c) d h.1)

pub adds_new : (keys : List Key) (old new : State) → AddsNew keys old new → Adds keys old new
adds_new keys old new h = (h.0, raises_new keys (count (held_rows old.now)) (count (held_rows new.now)) h.1)

pub counted_new : (old new : State) (key : Key) → AddsNew (key ∷ []) old new → Counted old new (added key (count (held_rows old.now))) None
counted_new old new key h = let test : nat_lt (count (held_rows old.now) key) most ≡ true = lt-ltb _ most (omega (arith, h.1.0)) in rw test (record { on = h.0.on; spans = h.0.spans; counts_are = h.1.1 })

pub counted_one : (old new : State) (key : Key) → count (held_rows old.now) key ≡ 1 → HasCounts old new (without_one key (count (held_rows old.now))) → Counted old new (removed key (count (held_rows old.now))) None
counted_one old new key is h = let test : nat_lt 0 (count (held_rows old.now) key) ≡ true = rw is refl in rw test h

-- ---- an answer over the counts as they were before an earlier call

module _ (old mid new : State) (key : Key) where
  answered : (x : Result KeyCounts Refusal) (r : Option Refusal) → ((counts : KeyCounts) → HasCounts mid new counts → HasCounts old new counts) → Counted mid new x r → Counted old new x r
  answered (Ok counts) None since h = since counts h
  answered (Ok counts) (Some why) since h = h
  answered (Err e) None since h = h
  answered (Err e) (Some why) since h = h

  -- the call changed nothing
  pub counted_since : {E : Type 0} (r : Result (Option Refusal) E) → IsUnchanged old mid → IfOk r (Counted mid new (added key (count (held_rows mid.now)))) → IfOk r (Counted old new (added key (count (held_rows old.now))))
  counted_since (Ok o) same h =
      answered (added key (count (held_rows old.now))) o (λ counts next. holds_since old mid new counts same next) (subst (λ b. Counted mid new (added key b) o) (ap (λ (d : Database). count (held_rows d)) same.0.now_is) h)
  counted_since (Err e) same h = h

  -- the call left the counts as they were
  pub counted_left : {E : Type 0} (r : Result (Option Refusal) E) → HasCounts old mid (count (held_rows old.now)) → IfOk r (Counted mid new (removed key (count (held_rows mid.now))))
      → IfOk r (Counted old new (removed key (count (held_rows old.now))))
  counted_left (Ok o) left h = answered (removed key (count (held_rows old.now))) o (λ counts next. record { on = goes_then old mid new left.on next.on; spans = next.spans ∙ left.spans; counts_are = next.counts_are })
      (subst (λ b. Counted mid new (removed key b) o) left.counts_are h)
  counted_left (Err e) left h = h
