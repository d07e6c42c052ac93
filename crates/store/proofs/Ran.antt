-- A transaction from its begin to its end.
use Rattle.store.proofs.Names.{◌≡◌, inl, inr, ℕ, Bool, true, false, Option, Ok, Err, Result, refl, sym, ap, subst, subst₂, ◌∙◌, arith, Trees, Error, Database, IsDatabase, State, HasCleanDisk, Survives, KeepsCommit, IsRolledBack, FailsToCommit, Held, survives_begin, survives_then, Names, DeliveryValue, Refusal, Content, StandsFor, HasRowids, held_rows, span_rows, IsWorking, StaysOpen, HasMade, LiesBeside, IsAtRest, Rests, RunsTransaction, MayCommit}
use Rattle.std.specs.Result.{IsErr}
use Rattle.sqlite_trees.specs.declared.store.Store as store
use Rattle.sqlite.specs.State.{Shows}
use Rattle.sqlite.specs.Held.{state}
use Rattle.store.proofs.BesideStays.{beside_unchanged}
use Rattle.store.specs.Apply.{IsApplied, IsAppliedAlone, IsAtRestAfter}

pub begun_working : {S : Type 0} (g : store.Ghosts S) (h : Held S) (names : Names) (content : Content) → IsAtRest (state g h) names content → IsWorking (state g (record h { in_transaction = true }))
begun_working g h names content rest = record {
  is_open = rest.is_open;
  inside = refl;
  laid_out = rest.stands.laid_out;
  held_apart = rest.held_apart;
  spans_apart = rest.spans_apart;
  lawful = rest.stands.held;
  sound = rest.sound;
  beside = beside_unchanged (state g h).committed (state g h).now rest.settled;
}

-- ---- given up

pub rests_rolled : (t m n : State) → t.now ≡ t.committed → KeepsCommit t m → IsRolledBack m n → Rests t n
rests_rolled t m n settled kept rolled is_open =
    let u = rolled.undone is_open in
    let k = kept.committed (rolled.was_open is_open) in
    (u.0 ∙ k ∙ sym settled, u.1 ∙ k)

-- the same, from what the calls ensure
pub rolled : {S : Type 0} (g : store.Ghosts S) (h : Held S) (m n : State) → (state g h).now ≡ (state g h).committed → (HasCleanDisk m → KeepsCommit (state g (record h { in_transaction = true })) m) → Survives m n (λ _. ⊥) → (HasCleanDisk n → IsRolledBack m n)
    → HasCleanDisk n → Rests (state g h) n
rolled g h m n settled kept survives undone late = rests_rolled (state g (record h { in_transaction = true })) m n settled (kept (omega (arith, survives.clean, late))) (undone late)

pub survives_rolled : {S : Type 0} (g : store.Ghosts S) (h : Held S) (m n : State) (may : Trees → Type 0) → Survives (state g (record h { in_transaction = true })) m (λ _. ⊥) → Survives m n (λ _. ⊥)
    → Survives (state g h) n may
survives_rolled g h m n may inside undone =
    survives_begin g h n may (survives_then (state g (record h { in_transaction = true })) m n (λ _. ⊥) (λ _. ⊥) may (λ _ db none. absurd none) (λ _ db none. absurd none) inside undone)

pub rests_failed : (t m n : State) (e : Error) → t.now ≡ t.committed → KeepsCommit t m → m.in_transaction ≡ true → FailsToCommit m n e → Rests t n
rests_failed t m n e settled kept inside (inl fails) = rests_rolled t m n settled kept fails.3
rests_failed t m n e settled kept inside (inr late) = absurd (let no = late.1 in cc)

-- ---- committed

-- the tables that were made in the transaction
pub at_rest : (names : Names) (content : Content) (m n : State) → HasMade m names content → Shows m n m.now m.now false → IsAtRest n names content
at_rest names content m n made h = record {
  is_open = h.is_open;
  settled = h.now_is ∙ sym h.committed_is;
  held_apart = subst (λ (db : Database). HasRowids (held_rows db)) (sym h.now_is) made.working.held_apart;
  spans_apart = subst (λ (db : Database). HasRowids (span_rows db)) (sym h.now_is) made.working.spans_apart;
  stands = subst (λ (db : Database). StandsFor db names content) (sym h.now_is) made.stands;
  sound = subst IsDatabase (sym h.now_is) made.working.sound;
}

module _ (names : Names) (content : Content) (d : DeliveryValue) where
  pub runs_err : {E : Type 0} (in_order : Bool) (a n : State) (r : Result (Option (ℕ × Refusal)) E) → IsErr r → Rests a n → RunsTransaction in_order names content d a n r
  runs_err in_order a n (Ok o) is rests = absurd (cc)
  runs_err in_order a n (Err e) is rests = rests

  pub may_commit_err : {E : Type 0} (a : Database) (r : Result (Option (ℕ × Refusal)) E) (db : Trees) → IsErr r → IsAppliedAlone names content d a db → MayCommit names content d a r db
  may_commit_err a (Ok o) db is applied = absurd (cc)
  may_commit_err a (Err e) db is applied = applied

-- The transaction was filled, and its commit was tried.
module _ {S : Type 0} (g : store.Ghosts S) (h : Held S) (names : Names) (content : Content) (d : DeliveryValue) (m n : State) (rest : IsAtRest (state g h) names content)
    (fills : HasCleanDisk m → StaysOpen (state g (record h { in_transaction = true })) m × IsApplied names content d m.now.schema m.now.trees) (survives : Survives m n (λ db. db ≡ m.now.trees)) where
  abbrev t : State
  t = state g (record h { in_transaction = true })

  early : HasCleanDisk n → HasCleanDisk m
  early late = omega (arith, survives.clean, late)

  pub taken : (HasCleanDisk n → Shows m n m.now m.now false) → HasCleanDisk n → IsAtRestAfter names content d n × (n.now.schema ≡ (state g h).now.schema) × LiesBeside (state g h).now n.now
  taken shows late =
      let it = fills (early late) in
      let made : HasMade m names it.1.after = record { working = it.0.working; stands = it.1.stands.stands } in
      let shown = shows late in (
        record { after = it.1.after; outcome = it.1.outcome; rest = at_rest names it.1.after m n made shown },
        ap (λ (db : Database). db.schema) shown.now_is ∙ it.0.schema,
        subst₂ LiesBeside (it.0.committed ∙ sym rest.settled) (sym shown.now_is) it.0.working.beside,
      )

  pub untaken : (e : Error) → (HasCleanDisk n → FailsToCommit m n e) → HasCleanDisk n → Rests (state g h) n
  untaken e fails late =
      let it = fills (early late) in
      rests_failed t m n e rest.settled (record { was_open = λ _. rest.is_open; committed = λ _. it.0.committed }) it.0.working.inside (fails late)

  -- what a crash leaves
  leaves : HasCleanDisk n → (db : Trees) → db ≡ m.now.trees → IsAppliedAlone names content d (state g h).now db
  leaves late db is =
      let it = fills (early late) in (
        subst₂ (λ s trees. IsApplied names content d s trees) it.0.schema (sym is) it.1,
        subst₂ (λ s trees. LiesBeside t.now (record { schema = s; trees = trees })) it.0.schema (sym is) (subst (λ c. LiesBeside c m.now) (it.0.committed ∙ sym rest.settled) it.0.working.beside),
      )

  pub may_take : Survives t m (λ _. ⊥) → Survives (state g h) n (λ db. IsAppliedAlone names content d (state g h).now db)
  may_take inside = survives_begin g h n _ (survives_then t m n (λ _. ⊥) (λ db. db ≡ m.now.trees) _ (λ _ db none. absurd none) leaves inside survives)
