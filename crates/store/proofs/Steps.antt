-- Tables that are read one after the other.
use Rattle.store.proofs.Names.{◌≡◌, inl, inr, List, ℕ, refl, sym, subst, ◌∙◌, arith, pos, map, AllByRecursion, IsDatabase, Trees, State, HasCleanDisk, IsLive, IsUnchanged, Survives, StoreFault, Ids, Names, Damaged, Content, IsLaidOut, IsFirstLaidOut, meta_rows, held_rows, span_rows, follow_rows, IsHeldRow, IsExecutedRow, HasRowids, AreNames, AreSpans, StandsFor, StandsForFirst, id_in, bag_of, count, AsksAll, Rested}
use Rattle.std.specs.FinSet as set
use Rattle.sqlite.specs.Effect.{Database as Db}
use Rattle.store.specs.Rows.{executed_rows}
use Rattle.store.specs.Load.{StatesLayout, OnDamaged, IsLoaded, IsFirstLoaded}
use Rattle.store.proofs.Keeps.{kept_unchanged, kept_then}

pub rested_unchanged : (a b : State) → IsUnchanged a b → Rested a b
rested_unchanged a b same = record { commit = kept_unchanged a b same; rests = λ settled is_open. (same.0.now_is, same.0.committed_is) }

pub rested_after : (a b c : State) → IsUnchanged a b → Rested b c → Rested a c
rested_after a b c same rested = record {
  commit = kept_then a b c (kept_unchanged a b same) rested.commit;
  rests = λ settled is_open.
      let r = rested.rests (same.0.now_is ∙ settled ∙ sym same.0.committed_is) is_open in
      (r.0 ∙ same.0.now_is, r.1 ∙ same.0.committed_is);
}

-- the tables are where they were
pub still_asks : (a b : State) (text : List ℕ) (tree : ℕ) → IsUnchanged a b → AsksAll a.now.schema text tree → AsksAll b.now.schema text tree
still_asks a b text tree same asks = subst (λ (db : Db). AsksAll db.schema text tree) (sym same.0.now_is) asks

pub first_step : (a b : State) (text : List ℕ) (tree : ℕ) → AsksAll a.now.schema text tree → Survives a b (λ _. (tree : ℕ) → ¬ AsksAll a.now.schema text tree) → Survives a b (λ _. ⊥)
first_step a b text tree asks s = record {
  clean = s.clean;
  shield = s.shield;
  counts = s.counts;
  limit = s.limit;
  closes = s.closes;
  crash = λ clean db left. elim (s.crash clean db left) [ inl was ↦ inl was | inr made ↦ absurd (made tree asks) ];
}

pub clean_before : (b c : State) (P : Trees → Type 0) → Survives b c P → HasCleanDisk c → HasCleanDisk b
clean_before b c P s clean = omega (arith, s.clean, clean)

-- ---- A fault is handed on.

pub seen_by : {P Q : Type 0} (f : StoreFault) → (P → Q) → OnDamaged f P → OnDamaged f Q
seen_by Damaged h p = h p
seen_by _ h p = tt

pub fault_by : {rules others : Type 0} (f : StoreFault) → (others → rules) → OnDamaged f (¬ rules) → OnDamaged f (¬ others)
fault_by f back h = seen_by f (λ off o. off (back o)) h

-- ---- What was loaded.

pub first_loaded : (s t : State) (ids : Ids) → IsLive s → IsFirstLaidOut s.now.schema → s.now ≡ s.committed → StatesLayout (pos 1) (meta_rows s.now) → IsUnchanged s t
    → AllByRecursion IsExecutedRow (executed_rows s.now) × (ids ≡ set.from_list (map id_in (executed_rows s.now)))
    → AllByRecursion IsHeldRow (held_rows s.now) × HasRowids (held_rows s.now) → IsFirstLoaded t ids
first_loaded s t ids live made settled meta same executed held =
    let content : Content = record { executed = ids; rows = bag_of (count (held_rows s.now)) } in
    record {
      content = content;
      executed_is = refl;
      rest = record {
        is_open = same.0.is_open;
        settled = same.0.now_is ∙ settled ∙ sym same.0.committed_is;
        meta_apart = subst (λ (db : Db). HasRowids (meta_rows db)) (sym same.0.now_is) meta.apart;
        held_apart = subst (λ (db : Db). HasRowids (held_rows db)) (sym same.0.now_is) held.1;
        stands = subst (λ (db : Db). StandsForFirst db content) (sym same.0.now_is) (record {
          laid_out = made;
          says = meta.says;
          rules = record { meta = meta.lawful; executed = executed.0; held = held.0 };
          executed = executed.1;
          rows = refl;
        });
        sound = subst IsDatabase (sym same.0.now_is) (live same.0.was_open).0;
      };
    }

pub loaded : (s t : State) (ids : Ids) (names : Names) → IsLive s → IsLaidOut s.now.schema → s.now ≡ s.committed → StatesLayout (pos 2) (meta_rows s.now) → IsUnchanged s t
    → AreNames (follow_rows s.now) names → AreSpans (span_rows s.now) ids × HasRowids (span_rows s.now)
    → AllByRecursion IsHeldRow (held_rows s.now) × HasRowids (held_rows s.now) → IsLoaded t ids names
loaded s t ids names live laid settled meta same follow spans held =
    let content : Content = record { executed = ids; rows = bag_of (count (held_rows s.now)) } in
    record {
      content = content;
      executed_is = refl;
      rest = record {
        is_open = same.0.is_open;
        settled = same.0.now_is ∙ settled ∙ sym same.0.committed_is;
        held_apart = subst (λ (db : Db). HasRowids (held_rows db)) (sym same.0.now_is) held.1;
        spans_apart = subst (λ (db : Db). HasRowids (span_rows db)) (sym same.0.now_is) spans.1;
        stands = subst (λ (db : Db). StandsFor db names content) (sym same.0.now_is) (record {
          laid_out = laid;
          says = meta.says;
          meta = meta.lawful;
          follow = follow;
          held = held.0;
          executed = spans.0;
          rows = refl;
        });
        sound = subst IsDatabase (sym same.0.now_is) (live same.0.was_open).0;
      };
    }
