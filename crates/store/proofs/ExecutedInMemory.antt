-- The executed set in memory during a transaction.
use Rattle.store.proofs.Names.{◌≡◌, ◌⊎◌, inl, inr, ℕ, List, Bool, false, IsTrue, Ok, Err, Result, refl, sym, ap, subst, subst₂, ◌∙◌, false≢true, cases_Bool, true≢false, Trees, IsDatabase, Ghosts, Held, State, HasCleanDisk, Survives, survives_then, Ids, IsLeastList, Beside, Span, Names, DeliveryValue, Refusal, StoreFault, Memory, WasOpen, Content, is_executed, StandsFor, HasRowids, held_rows, span_rows, LiesBeside, SparesBeside, IsAtRest, IsNew, Rests}
use Rattle.std.proofs.Common.{IsErr}
use Rattle.std.specs.FinSet as set
use Rattle.std.proofs.Props.{props}
use Rattle.sqlite.specs.Effect.{Database as Stored}
use Rattle.sqlite.specs.Held.{state}
use Rattle.gtid.specs.Beside.{Joins}
use Rattle.store.specs.declared.row_change.Refusal.TheVariants as why
use Rattle.store.specs.declared.fault.Applied.{Applied}
use Rattle.store.specs.declared.fault.Applied.TheVariants.{Done}
use Rattle.store.specs.declared.fault.StoreFault.TheVariants.{NoSuchRow, CountFull, Database, Broken}
use Rattle.store.specs.declared.store.Store.{Store}
use Rattle.store.specs.Store.{Holds, KeepsRest, Applies, AppliesShut, AreOf, Leaves, breaks}
use Rattle.store.specs.Changes.{HasOutcome, refused}
use Rattle.store.proofs.BesideStays.{beside_same, beside_unchanged}
use Rattle.store.specs.Apply.{IsAtRestAfter, HasMoved, Comes, MayMove, IsReported, FailsShut}

-- ---- the connection as it was
pub rest_same : (a b : State) (names : Names) (content : Content) → IsTrue b.is_open → b.now ≡ a.now → b.committed ≡ a.committed → IsAtRest a names content → IsAtRest b names content
rest_same a b names content is_open now committed rest = record {
  is_open = is_open;
  settled = now ∙ rest.settled ∙ sym committed;
  held_apart = subst (λ (db : Stored). HasRowids (held_rows db)) (sym now) rest.held_apart;
  spans_apart = subst (λ (db : Stored). HasRowids (span_rows db)) (sym now) rest.spans_apart;
  stands = subst (λ (db : Stored). StandsFor db names content) (sym now) rest.stands;
  sound = subst IsDatabase (sym now) rest.sound;
}

-- ---- a connection that was shut
pub shut_after : (old new : State) → WasOpen old new → old.is_open ≡ false → new.is_open ≡ false
shut_after old new opened shut = elim (cases_Bool new.is_open) [
  | inl is_open ↦ absurd (false≢true (sym shut ∙ opened is_open))
  | inr out ↦ out
]

pub refused_shut : (at : ℕ) (reason : Refusal) (old mid new : State) (was now : Ids) (fault : StoreFault) → WasOpen old mid → old.is_open ≡ false → IsReported at reason mid new fault → now ≡ was → FailsShut new was now (Err fault)
refused_shut at reason old mid new was now (NoSuchRow n) opened shut reported same = absurd (false≢true (sym shut ∙ opened reported.2.0.was_open))
refused_shut at reason old mid new was now (CountFull n) opened shut reported same = absurd (false≢true (sym shut ∙ opened reported.2.0.was_open))
refused_shut at reason old mid new was now (Database e) opened shut reported same = (shut_after old new (λ is_open. opened (reported is_open).0) shut, same)
refused_shut at reason old mid new was now _ opened shut reported same = absurd reported

-- ---- what is known of the transaction
pub is_new : (db : Stored) (names : Names) (content : Content) (d : DeliveryValue) (executed : Ids) (beside : Beside) → StandsFor db names content → executed ≡ content.executed → set.contains executed (d.source, d.number) ≡ false
    → ((sorted : List Span) → IsLeastList sorted executed → Joins executed (d.source, d.number) beside sorted) → IsNew db names content d beside
is_new db names content d executed beside stands same out joins = record {
  stands = stands;
  out = subst (λ ids. set.contains ids (d.source, d.number) ≡ false) same out;
  joins = subst (λ ids. Joins ids (d.source, d.number) beside stands.executed.spans) same (joins stands.executed.spans (subst (IsLeastList stands.executed.spans) (sym same) stands.executed.least));
}

-- ---- what it comes to
module _ (names : Names) (content : Content) (d : DeliveryValue) where
  pub moved : (old new : State) (executed now : Ids) → executed ≡ content.executed → now ≡ set.insert executed (d.source, d.number) → IsAtRestAfter names content d new × (new.now.schema ≡ old.now.schema) × LiesBeside old.now new.now → HasMoved names content d old new now
  moved old new executed now same is ran = record {
    applied = ran.0;
    schema = ran.1;
    beside = ran.2;
    set = is ∙ ap (λ ids. set.insert ids (d.source, d.number)) same ∙ sym ran.0.outcome.2;
  }

  pub came : (old mid new : State) (executed : Ids) (at : ℕ) (reason : Refusal) (fault : StoreFault) → executed ≡ content.executed → IsAtRest old names content
      → HasOutcome names content d (refused at reason) × Rests old mid → IsReported at reason mid new fault → Comes names content d old new executed (Err fault)
  came old mid new executed at reason (NoSuchRow n) same rest h reported =
      let at_rest : IsAtRest new names content = let r = h.1 reported.2.0.was_open in rest_same old new names content reported.2.0.is_open (reported.2.0.now_is ∙ r.0) (reported.2.0.committed_is ∙ r.1) rest in
      (subst (λ p. HasOutcome names content d (refused p why.NoSuchRow)) (sym reported.0) (subst (λ w. HasOutcome names content d (refused at w)) reported.1 h.0), at_rest, same, reported.2.0.now_is ∙ (h.1 reported.2.0.was_open).0)
  came old mid new executed at reason (CountFull n) same rest h reported =
      let at_rest : IsAtRest new names content = let r = h.1 reported.2.0.was_open in rest_same old new names content reported.2.0.is_open (reported.2.0.now_is ∙ r.0) (reported.2.0.committed_is ∙ r.1) rest in
      (subst (λ p. HasOutcome names content d (refused p why.CountFull)) (sym reported.0) (subst (λ w. HasOutcome names content d (refused at w)) reported.1 h.0), at_rest, same, reported.2.0.now_is ∙ (h.1 reported.2.0.was_open).0)
  came old mid new executed at reason (Database e) same rest h reported = (
    (λ is_open.
        let t = reported is_open in
        let r = h.1 t.0 in
        let s = t.1 (r.0 ∙ rest.settled ∙ sym r.1) in
        (s.0 ∙ r.0, s.1 ∙ r.1)),
    same,
  )
  came old mid new executed at reason _ same rest h reported = absurd reported

  pub given_up : (old mid new : State) (r : Result Applied StoreFault) → Survives old mid (λ _. ⊥) → Survives mid new (λ _. ⊥) → Survives old new (MayMove names content d old.now r)
  given_up old mid new r one two = survives_then old mid new (λ _. ⊥) (λ _. ⊥) (MayMove names content d old.now r) (λ _ db none. absurd none) (λ _ db none. absurd none) one two

-- the fault of an answer
abbrev pub fault_in : Result Applied StoreFault → StoreFault
fault_in (Ok a) = Broken
fault_in (Err fault) = fault

-- ---- the store
false-prop : {b : Bool} → IsProp (b ≡ false)
false-prop = Prim.hlevel props

-- a store whose set is taken out and put back is as it was
pub same_store : {S : Type 0} (g : Ghosts S) (store : Store S g) (ids : Ids) (autocommit : store.conn.in_transaction ≡ false) → ids ≡ store.executed → record store { executed = ids; autocommit = autocommit } ≡ store
same_store g store ids autocommit same = λ i. record store { executed = same i; autocommit = false-prop autocommit store.autocommit i }

module _ {S : Type 0} (g : Ghosts S) (content : Content) (d : DeliveryValue) (old new : Store S g) where
  pub applied : (r : Result Applied StoreFault) → Holds g old content → is_executed content d ≡ false → new.following ≡ old.following → new.broken ≡ breaks r → (r ≡ Err Memory → new.conn ≡ old.conn)
      → Comes old.following content d (state g old.conn) (state g new.conn) new.executed r → Applies g content d old new r
  applied (Ok Done) was out names broken memory it = record {
    after = it.applied.after;
    outcome = it.applied.outcome;
    holds = record {
      whole = broken;
      executed = it.set;
      rest = subst (λ n. IsAtRest (state g new.conn) n it.applied.after) (sym names) it.applied.rest;
    };
  }
  applied (Err (NoSuchRow at)) was out names broken memory it = (it.0, record { whole = broken; executed = it.2; rest = subst (λ n. IsAtRest (state g new.conn) n content) (sym names) it.1 })
  applied (Err (CountFull at)) was out names broken memory it = (it.0, record { whole = broken; executed = it.2; rest = subst (λ n. IsAtRest (state g new.conn) n content) (sym names) it.1 })
  applied (Err (Database e)) was out names broken memory it = (
    out,
    record {
      broken = broken;
      executed = it.1;
      rest = λ is_open. let r = it.0 is_open in subst (λ n. IsAtRest (state g new.conn) n content) (sym names) (rest_same (state g old.conn) (state g new.conn) old.following content is_open r.0 r.1 was.rest);
    },
  )
  applied (Err Memory) was out names broken memory it = (
    out,
    record {
      broken = broken;
      executed = it.1;
      rest = λ is_open. let r = it.0 is_open in subst (λ n. IsAtRest (state g new.conn) n content) (sym names) (rest_same (state g old.conn) (state g new.conn) old.following content is_open r.0 r.1 was.rest);
    },
    memory refl,
  )
  applied _ was out names broken memory it = absurd it

  -- the schema stays
  pub same_schema : (r : Result Applied StoreFault) → new.broken ≡ false → new.broken ≡ breaks r → Comes old.following content d (state g old.conn) (state g new.conn) new.executed r
      → (state g new.conn).now.schema ≡ (state g old.conn).now.schema
  same_schema (Ok Done) whole broken it = it.schema
  same_schema (Err (NoSuchRow at)) whole broken it = ap (λ (db : Stored). db.schema) it.3
  same_schema (Err (CountFull at)) whole broken it = ap (λ (db : Stored). db.schema) it.3
  same_schema (Err (Database e)) whole broken it = absurd (true≢false (sym broken ∙ whole))
  same_schema (Err Memory) whole broken it = absurd (true≢false (sym broken ∙ whole))
  same_schema _ whole broken it = absurd it

  -- and so does what lies beside
  pub lies_beside : (r : Result Applied StoreFault) → IsTrue (state g new.conn).is_open → Comes old.following content d (state g old.conn) (state g new.conn) new.executed r → LiesBeside (state g old.conn).now (state g new.conn).now
  lies_beside (Ok Done) is_open it = it.beside
  lies_beside (Err (NoSuchRow at)) is_open it = beside_unchanged (state g old.conn).now (state g new.conn).now it.3
  lies_beside (Err (CountFull at)) is_open it = beside_unchanged (state g old.conn).now (state g new.conn).now it.3
  lies_beside (Err (Database e)) is_open it = beside_unchanged (state g old.conn).now (state g new.conn).now (it.0 is_open).0
  lies_beside (Err Memory) is_open it = beside_unchanged (state g old.conn).now (state g new.conn).now (it.0 is_open).0
  lies_beside _ is_open it = absurd it

  -- a transaction that is refused or fails
  pub stays_now : (r : Result Applied StoreFault) → IsErr r → IsTrue (state g new.conn).is_open → Comes old.following content d (state g old.conn) (state g new.conn) new.executed r → (state g new.conn).now ≡ (state g old.conn).now
  stays_now (Ok out) failed is_open it = absurd (false≢true failed)
  stays_now (Err (NoSuchRow at)) failed is_open it = it.3
  stays_now (Err (CountFull at)) failed is_open it = it.3
  stays_now (Err (Database e)) failed is_open it = (it.0 is_open).0
  stays_now (Err Memory) failed is_open it = (it.0 is_open).0
  stays_now (Err _) failed is_open it = absurd it

  -- on a connection that was shut
  pub applied_shut : (r : Result Applied StoreFault) (was : Ids) → was ≡ content.executed → is_executed content d ≡ false → new.broken ≡ breaks r → FailsShut (state g new.conn) was new.executed r → AppliesShut g content d old new r
  applied_shut (Err (Database e)) was same out broken it = (out, record { broken = broken; executed = it.1 ∙ same; rest = λ is_open. absurd (false≢true (sym it.0 ∙ is_open)) })
  applied_shut (Err Memory) was same out broken it = (out, record { broken = broken; executed = it.1 ∙ same; rest = λ is_open. absurd (false≢true (sym it.0 ∙ is_open)) })
  applied_shut _ was same out broken it = absurd it

-- ---- what a crash leaves
module _ {S : Type 0} (g : Ghosts S) (names : Names) (content : Content)
    (settled : (h : Held S) (db : Trees) → IsTrue (state g h).is_open → (state g h).may_leave db → db ≡ (state g h).committed.trees) where
  pub spares : (h : Held S) (db : Trees) → IsAtRest (state g h) names content → (state g h).may_leave db → SparesBeside (state g h).now db
  spares h db r left =
      let trees : db ≡ (state g h).now.trees = settled h db r.is_open left ∙ sym (ap (λ (b : Stored). b.trees) r.settled) in
      subst (SparesBeside (state g h).now) (sym trees) (beside_same (state g h).now)

  pub spares_either : {P : Type 0} (old : Held S) (trees : Trees) → IsAtRest (state g old) names content → (state g old).may_leave trees ⊎ (P × SparesBeside (state g old).now trees) → SparesBeside (state g old).now trees
  spares_either old trees rest (inl was) = spares old trees rest was
  spares_either old trees rest (inr may) = may.1

  pub spares_kept : (old new : Held S) (trees : Trees) → IsAtRest (state g old) names content → Survives (state g old) (state g new) (λ _. ⊥) → HasCleanDisk (state g new) → (state g new).may_leave trees → SparesBeside (state g old).now trees
  spares_kept old new trees rest survives clean left = elim (survives.crash clean trees left) [ inl was ↦ spares old trees rest was | inr none ↦ absurd none ]

  pub spares_moved : (d : DeliveryValue) (old : Held S) (r : Result Applied StoreFault) (trees : Trees) → IsAtRest (state g old) names content → (state g old).may_leave trees ⊎ MayMove names content d (state g old).now r trees → SparesBeside (state g old).now trees
  spares_moved d old r trees rest (inl was) = spares old trees rest was
  spares_moved d old (Ok Done) trees rest (inr may) = may.1
  spares_moved d old (Err (Database e)) trees rest (inr may) = may.1
  spares_moved d old _ trees rest (inr may) = absurd may

  pub stays : (h : Held S) (db : Trees) → (r : IsAtRest (state g h) names content) → (state g h).may_leave db → AreOf h.schema names content db
  stays h db r left =
      let trees : db ≡ (state g h).now.trees = settled h db r.is_open left ∙ sym (ap (λ (b : Stored). b.trees) r.settled) in
      subst (λ t. AreOf h.schema names content t) (sym trees) (record { stands = r.stands; sound = r.sound; spans_apart = r.spans_apart })

  pub left_whole : (d : DeliveryValue) (old new : Held S) (r : Result Applied StoreFault) (executed : Ids) (trees : Trees) → IsAtRest (state g old) names content → Comes names content d (state g old) (state g new) executed r
      → (state g old).may_leave trees ⊎ MayMove names content d (state g old).now r trees → (state g new).may_leave trees → Leaves old.schema names content d r trees
  left_whole d old new (Ok Done) executed trees rest it (inl was) left =
      let rest_new = it.applied.rest in
      let trees_are : trees ≡ (state g new).now.trees = settled new trees rest_new.is_open left ∙ sym (ap (λ (b : Stored). b.trees) rest_new.settled) in
      record {
        after = it.applied.after;
        outcome = it.applied.outcome;
        stands = subst₂ (λ s t. AreOf s names it.applied.after t) it.schema (sym trees_are) (record { stands = rest_new.stands; sound = rest_new.sound; spans_apart = rest_new.spans_apart });
      }
  left_whole d old new (Ok Done) executed trees rest it (inr may) left = may.0
  left_whole d old new (Err (NoSuchRow at)) executed trees rest it (inl was) left = stays old trees rest was
  left_whole d old new (Err (NoSuchRow at)) executed trees rest it (inr may) left = absurd may
  left_whole d old new (Err (CountFull at)) executed trees rest it (inl was) left = stays old trees rest was
  left_whole d old new (Err (CountFull at)) executed trees rest it (inr may) left = absurd may
  left_whole d old new (Err (Database e)) executed trees rest it (inl was) left = inl (stays old trees rest was)
  left_whole d old new (Err (Database e)) executed trees rest it (inr may) left = inr may.0
  left_whole d old new (Err Memory) executed trees rest it (inl was) left = stays old trees rest was
  left_whole d old new (Err Memory) executed trees rest it (inr may) left = absurd may
  left_whole d old new _ executed trees rest it was left = absurd it

-- ---- what stays
module _ {S : Type 0} (g : Ghosts S) (settled : (h : Held S) (db : Trees) → IsTrue (state g h).is_open → (state g h).may_leave db → db ≡ (state g h).committed.trees) where
  -- of a call that leaves the connection and the names as they were
  pub rest_kept : {X : Type 0} (before after : Store S g) (answer : Result X StoreFault) → after.conn ≡ before.conn → after.following ≡ before.following → KeepsRest g before after answer
  rest_kept before after answer conn names = record {
    following = names;
    clean = subst (λ h. HasCleanDisk (state g h)) conn;
    schema = λ clean content was whole. ap (λ h. (state g h).now.schema) conn;
    beside = λ clean content was is_open. beside_unchanged (state g before.conn).now (state g after.conn).now (ap (λ h. (state g h).now) conn);
    crash_beside = λ clean content was trees left. spares g before.following content settled before.conn trees was.rest (subst (λ h. (state g h).may_leave trees) conn left);
    unchanged = λ clean content was failed is_open. ap (λ h. (state g h).now) conn;
  }
