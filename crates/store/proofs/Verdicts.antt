-- The verdict on rows of held that come one at a time, and what reading them leaves.
use Rattle.store.proofs.Names.{inl, ◌++◌, ℕ, List, [], ◌∷◌, ℤ, Option, None, Some, Result, Ok, Err, IfOk, refl, subst, sym, append_assoc, append-nil, arith, AllByRecursion, IsPermutation, Ghosts, Database, IsDatabase, State, IsLive, IsUnchanged, Survives, Held, Advances, unchanged_then, survives_then, Row, IsHeldRow, HasRowids, RowidsRise, StoreFault, AsksAll, Judges, OnSeen, Rested, all_held_text}
use Rattle.sqlite.specs.State.{CommitsShowing}
use Rattle.sqlite.specs.Held.{state}
use Rattle.sqlite.specs.Given.{HasGiven, HasBegun}
use Rattle.sqlite.proofs.Callers.{begun_plain}
use Rattle.sqlite_trees.proofs.ListLemmas.{all-append}
use Rattle.store.specs.declared.table.held.Verdict.{Verdict}
use Rattle.store.specs.declared.table.held.Verdict.TheVariants.{Lawful, Unordered, Unlawful}
use Rattle.store.specs.Judge.{HasVerdict, HasOrder}
use Rattle.store.specs.Load.{HasJudged, IsJudging}
use Rattle.store.proofs.RowChecks.{rise_rowids}
use Rattle.store.proofs.TableQueries.{held_table, on_seen}
use Rattle.store.proofs.Readings.{all_rows, all_survives}
use Rattle.store.proofs.Steps.{rested_after, still_asks}

pub still_unlawful : (rows : List Row) (row : Row) → ¬ AllByRecursion IsHeldRow rows → ¬ AllByRecursion IsHeldRow (rows ++ row ∷ [])
still_unlawful [] row off all = off tt
still_unlawful (first ∷ rows) row off all = still_unlawful rows row (λ rest. off (all.0, rest)) all.1

pub now_unlawful : (rows : List Row) (row : Row) → ¬ IsHeldRow row → ¬ AllByRecursion IsHeldRow (rows ++ row ∷ [])
now_unlawful [] row off all = off all.0
now_unlawful (first ∷ rows) row off all = now_unlawful rows row off all.1

one_more : (last : Option ℤ) (rows : List Row) (row : Row) (after : Verdict) → HasVerdict (Lawful last) rows → IsHeldRow row → HasOrder last row after → HasVerdict after (rows ++ row ∷ [])
one_more last rows row (Lawful None) so held order = absurd order
one_more last rows row (Lawful (Some id)) so held order = (
  all-append IsHeldRow rows (row ∷ []) so.0 (held, tt),
  λ more rise. subst (RowidsRise None) (sym (append_assoc rows (row ∷ []) more)) (so.1 (row ∷ more) (id, order.0, order.1, rise)),
)
one_more last rows row Unordered so held order = tt
one_more last rows row Unlawful so held order = absurd order

pub then_ordered : {E : Type 0} (last : Option ℤ) (rows : List Row) (row : Row) (r : Result Verdict E) → HasVerdict (Lawful last) rows → IsHeldRow row → IfOk r (HasOrder last row) → IfOk r (λ after. HasVerdict after (rows ++ row ∷ []))
then_ordered last rows row (Ok after) so held order = one_more last rows row after so held order
then_ordered last rows row (Err e) so held order = order

pub verdict_rowids : (last : Option ℤ) (rows : List Row) → HasVerdict (Lawful last) rows → HasRowids rows
verdict_rowids last rows so = rise_rowids None rows (subst (RowidsRise None) (append-nil rows) (so.1 [] tt))

-- ---- What reading leaves.

pub rested_self : (a : State) → Rested a a
rested_self a = record { commit = record { was_open = λ is_open. is_open; committed = λ is_open. refl }; rests = λ settled is_open. (refl, refl) }

pub survives_self : (a : State) → Survives a a (λ _. ⊥)
survives_self a = record { clean = omega arith; shield = λ on. on; counts = omega arith; limit = refl; closes = λ clean is_open. inl is_open; crash = λ clean db left. inl left }

-- ---- One row after the other.

live_still : (a b : State) → IsUnchanged a b → IsLive a → IsLive b
live_still a b same live is_open = let sound = live same.0.was_open in (subst IsDatabase (sym same.0.now_is) sound.0, subst IsDatabase (sym same.0.committed_is) sound.1)

module _ {S : Type 0} (g : Ghosts S) (sql : List ℕ) where
  pub judging_none : (h : Held S) → HasGiven g sql [] h [] → IsJudging g sql h h (Lawful None)
  unfolding HasGiven
  judging_none h it = record {
    same = (record { was_open = it.0.is_open; is_open = it.0.is_open; now_is = refl; committed_is = refl; mode = refl }, record { changes = refl; last_rowid = refl }, refl);
    some = [];
    given = it;
    found = (tt, λ more rise. rise);
  }

  pub judged_all : (a b c : Held S) (verdict : Verdict) → IsJudging g sql a b verdict → Advances g b c None → IsUnchanged (state g b) (state g c) → IsLive (state g a) → HasJudged sql (state g a) (state g c) verdict
  judged_all a b c verdict it shown same live = record {
    same = unchanged_then (state g a) (state g b) (state g c) it.same same;
    answer = it.some;
    all = λ tree asks.
        let found = all_rows sql tree (state g b) (state g c) (still_asks (state g a) (state g b) sql tree it.same asks) (λ (rows : List Row). rows) (Ok it.some)
        (live_still (state g a) (state g b) it.same live) same (shown sql [] it.some it.given) in
        subst (λ (db : Database). IsPermutation (db.trees tree) it.some) it.same.0.now_is found;
    found = it.found;
  }

-- ---- All rows of held.

pub begun_survives : (old mid new : State) → Survives old mid (CommitsShowing all_held_text [] old) → Survives mid new (λ _. ⊥) → Survives old new (λ _. (tree : ℕ) → ¬ AsksAll old.now.schema all_held_text tree)
begun_survives old mid new begun rest = survives_then old mid new (λ _. (tree : ℕ) → ¬ AsksAll old.now.schema all_held_text tree) (λ _. ⊥) (λ _. (tree : ℕ) → ¬ AsksAll old.now.schema all_held_text tree)
    (λ _ db made. made) (λ _ db none. absurd none) (all_survives all_held_text old mid begun) rest

module _ {S : Type 0} (g : Ghosts S) (old mid : Held S) (tree : ℕ) (asks : AsksAll old.schema all_held_text tree) (begun : HasBegun g all_held_text [] old mid) where
  first : HasGiven g all_held_text [] mid [] × IsUnchanged (state g old) (state g mid)
  first = begun_plain g all_held_text [] old mid asks.plain begun

  pub begun_rested : (new : State) → Rested (state g mid) new → Rested (state g old) new
  begun_rested new rested = rested_after (state g old) (state g mid) new first.1 rested

  module _ (new : State) (verdict : Verdict) (live : IsLive (state g old)) (judged : HasGiven g all_held_text [] mid [] → IsLive (state g mid) → HasJudged all_held_text (state g mid) new verdict) where
    all : HasJudged all_held_text (state g mid) new verdict
    all = judged first.0 (live_still (state g old) (state g mid) first.1 live)

    pub begun_same : {X : Type 0} (r : Result X StoreFault) → OnSeen r (IsUnchanged (state g old) new)
    begun_same r = on_seen r (unchanged_then (state g old) (state g mid) new first.1 all.same)

    pub begun_judged : {X : Type 0} (r : Result X StoreFault) → ((rows : List Row) → HasVerdict verdict rows → Judges r (λ _. AllByRecursion IsHeldRow rows × HasRowids rows) (AllByRecursion IsHeldRow rows))
        → Judges r (λ _. AllByRecursion IsHeldRow ((state g old).now.trees tree) × HasRowids ((state g old).now.trees tree)) (AllByRecursion IsHeldRow ((state g old).now.trees tree))
    begun_judged r says =
        let same = all.all tree (still_asks (state g old) (state g mid) all_held_text tree first.1 asks) in
        let here : IsPermutation ((state g old).now.trees tree) all.answer = subst (λ (db : Database). IsPermutation (db.trees tree) all.answer) first.1.0.now_is same in
        held_table ((state g old).now.trees tree) all.answer here r (says all.answer all.found)
