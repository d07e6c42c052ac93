-- A table that is read after others: what its call says of the state before it is so of the first state.
use Rattle.store.proofs.Names.{◌≡◌, false, ℕ, List, Ok, Err, Result, refl, sym, ap, subst, ◌∙◌, Row, Database, State, HasCleanDisk, IsUnchanged, Survives, unchanged_then, survives_then, StoreFault, AsksAll, Rested, Judges}
use Rattle.store.specs.Load.{ReadsAll, LoadsAll, IsCalm}
use Rattle.store.proofs.OnlyReading.{calm_self, calm_then}
use Rattle.store.proofs.Steps.{rested_after, clean_before, first_step, seen_by, fault_by}
use Rattle.store.proofs.Lives.{over_any, any_then, narrowed}

-- Reads that answered lead from the one state to the other, where the tables are laid out so.
pub record Leads (laid : Type 0) (a b : State) : Type 1 where
  pub now : HasCleanDisk b → laid → b.now ≡ a.now
  pub same : HasCleanDisk b → laid → (c : State) → IsUnchanged b c → IsUnchanged a c
  pub rested : HasCleanDisk b → laid → (c : State) → Rested b c → Rested a c
  pub crash : laid → (c : State) → Survives b c (λ _. ⊥) → Survives a c (λ _. ⊥)
  pub lives : (c : State) → Survives b c (λ _. Unit {0}) → Survives a c (λ _. Unit {0})
  pub calm : IsCalm a b
  pub autocommit : a.in_transaction ≡ false → b.in_transaction ≡ false

pub at_start : (laid : Type 0) (a : State) → Leads laid a a
at_start laid a = record { now = λ clean l. refl; same = λ clean l c same. same; rested = λ clean l c rested. rested; crash = λ l c survives. survives; lives = λ c lives. lives; calm = calm_self a; autocommit = λ out. out }

-- One more table is read, all of which the text asks for.
module _ {laid : Type 0} {a b c : State} {text : List ℕ} {tree : ℕ} {X : Type 0} {r : Result X StoreFault} {Lawful : List Row → X → Type 0} {rules : List Row → Type 0}
    (so : Leads laid a b) (asks : laid → AsksAll a.now.schema text tree) (reads : ReadsAll text b c r Lawful rules) where
  early : HasCleanDisk c → HasCleanDisk b
  early clean = clean_before b c _ reads.crash clean

  asks_on : HasCleanDisk c → laid → AsksAll b.now.schema text tree
  asks_on clean l = subst (λ (db : Database). AsksAll db.schema text tree) (sym (so.now (early clean) l)) (asks l)

  judged_on : HasCleanDisk c → laid → Judges r (Lawful (a.now.trees tree)) (rules (a.now.trees tree))
  judged_on clean l = subst (λ (db : Database). Judges r (Lawful (db.trees tree)) (rules (db.trees tree))) (so.now (early clean) l) (reads.judged clean tree (asks_on clean l))

  rested_on : HasCleanDisk c → laid → Rested a c
  rested_on clean l = so.rested (early clean) l c (reads.rested clean tree (asks_on clean l))

  lives_on : Survives a c (λ _. Unit {0})
  lives_on = so.lives c (over_any b c _ reads.crash)

  calm_on : IsCalm a c
  calm_on = calm_then a b c so.calm reads.calm

  commits_nothing : laid → Survives b c (λ _. ⊥)
  commits_nothing l = narrowed b c (λ _. ⊥) _ reads.crash (λ clean. first_step b c text tree (asks_on clean l) reads.crash)

  crash_on : laid → Survives a c (λ _. ⊥)
  crash_on l = so.crash l c (commits_nothing l)

-- It answered.
module _ {laid : Type 0} {a b c : State} {text : List ℕ} {tree : ℕ} {X : Type 0} {x : X} {Lawful : List Row → X → Type 0} {rules : List Row → Type 0}
    (so : Leads laid a b) (asks : laid → AsksAll a.now.schema text tree) (reads : ReadsAll text b c (Ok x) Lawful rules) where
  stays : HasCleanDisk c → laid → IsUnchanged b c
  stays clean l = reads.same clean tree (asks_on so asks reads clean l)

  -- what is known of the rows
  pub says_on : HasCleanDisk c → laid → Lawful (a.now.trees tree) x
  says_on = judged_on so asks reads

  pub leads_on : Leads laid a c
  leads_on = record {
    now = λ clean l. (stays clean l).0.now_is ∙ so.now (early so asks reads clean) l;
    same = λ clean l d then. so.same (early so asks reads clean) l d (unchanged_then b c d (stays clean l) then);
    rested = λ clean l d rested. so.rested (early so asks reads clean) l d (rested_after b c d (stays clean l) rested);
    crash = λ l d after. so.crash l d (survives_then b c d (λ _. ⊥) (λ _. ⊥) (λ _. ⊥) (λ _ db none. absurd none) (λ _ db none. none) (commits_nothing so asks reads l) after);
    lives = λ d after. so.lives d (any_then b c d _ (over_any b c _ reads.crash) after);
    calm = calm_on so asks reads;
    autocommit = λ out. reads.autocommit (so.autocommit out);
  }

  -- it was the last one
  pub all_read : {Y says : Type 0} {Good : Y → Type 0} {all : Type 0} (y : Y) → (HasCleanDisk c → laid → a.now ≡ a.committed → says → IsUnchanged a c → Good y) → LoadsAll laid says a c (Ok y) Good all
  all_read y good =
      let same : HasCleanDisk c → laid → IsUnchanged a c = λ clean l. so.same (early so asks reads clean) l c (stays clean l) in
      record {
        loads = λ clean l settled says. good clean l settled says (same clean l);
        same = same;
        rested = rested_on so asks reads;
        lives = lives_on so asks reads;
        crash = crash_on so asks reads;
        calm = calm_on so asks reads;
        fault = tt;
        autocommit = λ out. reads.autocommit (so.autocommit out);
      }

-- It failed, or its rows break the rules, which are among those of all tables.
module _ {laid : Type 0} {a b c : State} {text : List ℕ} {tree : ℕ} {X : Type 0} {fault : StoreFault} {Lawful : List Row → X → Type 0} {rules : List Row → Type 0}
    (so : Leads laid a b) (asks : laid → AsksAll a.now.schema text tree) (reads : ReadsAll {X = X} text b c (Err fault) Lawful rules) where
  pub not_read : {Y says : Type 0} {Good : Y → Type 0} {all : Type 0} (r : Result Y StoreFault) → (e : StoreFault) × (r ≡ Err e) × (e ≡ fault) → (all → rules (a.now.trees tree)) → LoadsAll laid says a c r Good all
  not_read {says = says} {Good = Good} {all = all} r is back = subst (λ x. LoadsAll laid says a c x Good all) (sym (is.1 ∙ ap Err is.2)) (record {
    loads = λ clean l settled said. let judged = judged_on so asks reads clean l in (judged.0, fault_by fault back judged.1);
    same = λ clean l. seen_by fault (so.same (early so asks reads clean) l c) (reads.same clean tree (asks_on so asks reads clean l));
    rested = rested_on so asks reads;
    lives = lives_on so asks reads;
    crash = crash_on so asks reads;
    calm = calm_on so asks reads;
    fault = reads.fault;
    autocommit = λ out. reads.autocommit (so.autocommit out);
  })
