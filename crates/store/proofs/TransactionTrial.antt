-- A transaction that is tried before another one.
use Rattle.store.proofs.Names.{◌≡◌, ℕ, true, false, is_none, Option, Some, None, Ok, Err, Result, IsTrue, sym, ap, subst, ◌∙◌, arith, State, HasCleanDisk, IsUnchanged, Survives, survives_then, Beside, Names, DeliveryValue, Refusal, Content, LiesBeside, IsAtRest, IsNew, Rests, RunsTransaction, MayCommit, WasOpen}
use Rattle.sqlite.specs.Effect.{Database as Stored}
use Rattle.store.proofs.ExecutedInMemory.{rest_same}
use Rattle.store.proofs.Lives.{narrowed}

-- ---- the first one

module _ (E : Type 0) (names : Names) (content : Content) (d : DeliveryValue) (a b : State) where
  pub committed : (r : Option (ℕ × Refusal)) → IsTrue (is_none r) → RunsTransaction {E = E} false names content d a b (Ok r) → RunsTransaction {E = E} true names content d a b (Ok None)
  committed None done ran = ran
  committed (Some why) done ran = absurd (cc)

  pub may_be_committed : (r : Option (ℕ × Refusal)) → IsTrue (is_none r) → Survives a b (MayCommit {E = E} names content d a.now (Ok r)) → Survives a b (MayCommit {E = E} names content d a.now (Ok None))
  may_be_committed None done survives = survives
  may_be_committed (Some why) done survives = absurd (cc)

  pub rolled_back : (r : Option (ℕ × Refusal)) → is_none r ≡ false → RunsTransaction {E = E} false names content d a b (Ok r) → Rests a b
  rolled_back None refused ran = absurd (cc)
  rolled_back (Some why) refused ran = ran.1

  pub commits_none : (r : Option (ℕ × Refusal)) → is_none r ≡ false → Survives a b (MayCommit {E = E} names content d a.now (Ok r)) → Survives a b (λ _. ⊥)
  commits_none None refused survives = absurd (cc)
  commits_none (Some why) refused survives = survives

-- ---- where the first one changed nothing

-- The connection is open, and the database as it was.
pub record IsStill (a b : State) : Type 0 where
  pub is_open : IsTrue b.is_open
  pub now : b.now ≡ a.now
  pub committed : b.committed ≡ a.committed

pub still : (a b c : State) → Rests a b → IsUnchanged b c → IsStill a c
still a b c rests same =
    let r = rests same.0.was_open in
    record { is_open = same.0.is_open; now = same.0.now_is ∙ r.0; committed = same.0.committed_is ∙ r.1 }

module _ {E : Type 0} (names : Names) (content : Content) (d : DeliveryValue) (beside : Beside) (a b c : State) (r : Result (Option (ℕ × Refusal)) E) (rest : IsAtRest a names content) (new : IsNew a.now names content d beside) where
  -- what is known of the second one is known
  module _ (same : IsStill a b) where
    since : {P : Type 0} → (IsAtRest b names content → IsNew b.now names content d beside → P) → P
    since known = known (rest_same a b names content same.is_open same.now same.committed rest) (subst (λ (db : Stored). IsNew db names content d beside) (sym same.now) new)

    rests_then : Rests b c → Rests a c
    rests_then rests is_open = let r = rests is_open in (r.0 ∙ same.now, r.1 ∙ same.committed)

    pub runs_then : (IsAtRest b names content → IsNew b.now names content d beside → RunsTransaction true names content d b c r) → RunsTransaction true names content d a c r
    runs_then ran = go r (since ran)
      where
        go : (r : Result (Option (ℕ × Refusal)) E) → RunsTransaction true names content d b c r → RunsTransaction true names content d a c r
        go (Ok None) ran = (ran.0, ran.1 ∙ ap (λ (db : Stored). db.schema) same.now, subst (λ (db : Stored). LiesBeside db c.now) same.now ran.2)
        go (Ok (Some why)) ran = (ran.0, rests_then ran.1)
        go (Err e) ran = rests_then ran

  -- what a crash after both leaves
  pub crash_then : (HasCleanDisk b → IsStill a b) → Survives a b (λ _. ⊥) → Survives b c (λ _. Unit {0})
      → (IsAtRest b names content → IsNew b.now names content d beside → Survives b c (MayCommit names content d b.now r)) → Survives a c (MayCommit names content d a.now r)
  crash_then same one lives two =
      let early : HasCleanDisk c → HasCleanDisk b = λ clean. omega (arith, lives.clean, clean) in
      survives_then a b c (λ _. ⊥) (MayCommit names content d b.now r) (MayCommit names content d a.now r) (λ _ db none. absurd none)
      (λ clean db may. subst (λ (was : Stored). MayCommit names content d was r db) (same (early clean)).now may)
      one
      (narrowed b c (MayCommit names content d b.now r) (λ _. Unit {0}) lives (λ clean. since (same (early clean)) two))

-- ---- a call after it

pub rests_after : (a b c : State) → a.now ≡ a.committed → WasOpen b c → Rests a b → (b.now ≡ b.committed → Rests b c) → Rests a c
rests_after a b c settled opened one two is_open =
    let r = one (opened is_open) in
    let s = two (r.0 ∙ settled ∙ sym r.1) is_open in
    (s.0 ∙ r.0, s.1 ∙ r.1)
