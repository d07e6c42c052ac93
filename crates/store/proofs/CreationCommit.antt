-- The end of a transaction that makes a database.
use Rattle.store.proofs.Names.{◌≡◌, inl, inr, true, false, refl, sym, subst, subst₂, ◌∙◌, Ok, Err, Result, OnOk, OnErr, IfErr, IsTrue, [], arith, Error, State, HasCleanDisk, IsLive, KeepsCommit, Survives, FailsToCommit, Held, Trees, Content, LiesBeside, IsAtRest, Rested, IsRolledBack, MayStandFor, HasMade, Names}
use Rattle.sqlite.specs.State.{KeepsCounts, Shows}
use Rattle.sqlite_trees.specs.declared.store.Store as store
use Rattle.sqlite.specs.Held.{state}
use Rattle.store.specs.Open.{IsBlank, IsFirstAtRest}
use Rattle.store.specs.Making.{IsMaking}
use Rattle.store.specs.Migrating.{IsFirstInside}
use Rattle.store.proofs.Keeps.{kept_then, kept_rolled}
use Rattle.store.proofs.Ran.{rests_rolled, at_rest}
use Rattle.store.proofs.BesideStays.{beside_unchanged}

pub making_inside : {S : Type 0} (g : store.Ghosts S) (h : Held S) → IsLive (state g h) → IsBlank (state g h) → IsMaking [] (state g (record h { in_transaction = true }))
making_inside g h live blank = record {
  is_open = blank.is_open;
  inside = refl;
  base = h.schema;
  vacant = blank.vacant;
  schema_is = refl;
  empty = tt;
  sound = (live blank.is_open).0;
  beside = beside_unchanged (state g h).committed (state g h).now blank.settled;
}

pub first_inside : {S : Type 0} (g : store.Ghosts S) (h : Held S) (content : Content) → IsFirstAtRest (state g h) content → IsFirstInside content (state g (record h { in_transaction = true }))
first_inside g h content rest = record {
  is_open = rest.is_open;
  inside = refl;
  settled = rest.settled;
  meta_apart = rest.meta_apart;
  held_apart = rest.held_apart;
  stands = rest.stands;
  sound = rest.sound;
}

-- The transaction was given up, whatever was done in it.
pub rested_rolled : (t m n : State) → KeepsCommit t m → IsRolledBack m n → Rested t n
rested_rolled t m n kept undone = record { commit = kept_then t m n kept (kept_rolled m n undone); rests = λ settled. rests_rolled t m n settled kept undone }

-- It began then.
pub rested_begun : {S : Type 0} (g : store.Ghosts S) (h : Held S) (n : State) → Rested (state g (record h { in_transaction = true })) n → Rested (state g h) n
rested_begun g h n it = record { commit = record { was_open = it.commit.was_open; committed = it.commit.committed }; rests = it.rests }

-- Its commit failed.
rested_failed : (t m n : State) (e : Error) → KeepsCommit t m → m.in_transaction ≡ true → FailsToCommit m n e → Rested t n
rested_failed t m n e kept inside (inl fails) = rested_rolled t m n kept fails.3
rested_failed t m n e kept inside (inr late) = absurd (let no = late.1 in cc)

pub rested_unless : {S : Type 0} (g : store.Ghosts S) (h : Held S) (m n : State) (r : Result (Unit {0}) Error) → KeepsCommit (state g (record h { in_transaction = true })) m → m.in_transaction ≡ true → IfErr r (FailsToCommit m n) → OnErr r (Rested (state g h) n)
rested_unless g h m n (Ok u) kept inside fails = tt
rested_unless g h m n (Err e) kept inside fails = rested_begun g h n (rested_failed (state g (record h { in_transaction = true })) m n e kept inside fails)

-- The transaction has been committed.
abbrev pub HasEnded : State → State → Type 0
HasEnded m n = IsTrue m.in_transaction × Shows m n m.now m.now false × KeepsCounts m n × (n.marks ≡ [])

pub made_rest : {E : Type 0} (names : Names) (content : Content) (t m n : State) (r : Result (Unit {0}) E) → t.now ≡ t.committed → KeepsCommit t m → HasMade m names content → OnOk r (HasEnded m n) → OnOk r (IsAtRest n names content × LiesBeside t.now n.now)
made_rest names content t m n (Ok u) settled kept made (_, h, _, _) = (
  at_rest names content m n made h,
  subst₂ LiesBeside (kept.committed made.working.is_open ∙ sym settled) (sym h.now_is) made.working.beside,
)
made_rest names content t m n (Err e) settled kept made h = tt

-- ---- From its begin to its end.

module _ {S : Type 0} (g : store.Ghosts S) (h : Held S) (names : Names) (content : Content) (m n : State) (settled : (state g h).now ≡ (state g h).committed) (kept : HasCleanDisk m → KeepsCommit (state g (record h { in_transaction = true })) m)
    (made : HasCleanDisk m → HasMade m names content) (r : Result (Unit {0}) Error) (survives : Survives m n (λ db. db ≡ m.now.trees)) where
  abbrev t : State
  t = state g (record h { in_transaction = true })

  early : HasCleanDisk n → HasCleanDisk m
  early late = omega (arith, survives.clean, late)

  pub committed : (HasCleanDisk n → OnOk r (HasEnded m n)) → HasCleanDisk n → OnOk r (IsAtRest n names content × LiesBeside (state g h).now n.now)
  committed ok late = made_rest names content t m n r settled (kept (early late)) (made (early late)) (ok late)

  pub may_stand : HasCleanDisk n → (db : Trees) → db ≡ m.now.trees → MayStandFor (state g h).now names content db
  may_stand late db is =
      let it = made (early late) in
      record {
        db = m.now;
        trees_are = is;
        stands = it.stands;
        sound = it.working.sound;
        beside = subst (λ c. LiesBeside c m.now) ((kept (early late)).committed it.working.is_open ∙ sym settled) it.working.beside;
        spans_apart = it.working.spans_apart;
      }
