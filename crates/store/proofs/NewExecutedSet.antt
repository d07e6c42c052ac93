-- Another executed set is stored.
use Rattle.store.proofs.Names.{◌≡◌, pos, true, Ok, Err, Result, OnOk, IfErr, sym, ap, subst, subst₂, ◌∙◌, AllByRecursion, Trees, Error, Database, State, KeepsCommit, FailsToCommit, Held, Ids, AreGtids, Names, Content, with_executed, LiesBeside, SaysLayout, IsMetaRow, AreNames, bag_of, count, span_rows, Records, IsLeastList, AreOf, IsAtRest, SparesBeside, HasMade}
use Rattle.sqlite_trees.specs.declared.store.Store as store
use Rattle.sqlite.specs.Held.{state}
use Rattle.store.specs.Inside.{Shows as Stored}
use Rattle.store.specs.Apply.{Replaces}
use Rattle.store.proofs.Ran.{rests_failed}
use Rattle.store.proofs.CreationCommit.{HasEnded, made_rest}

module _ {S : Type 0} (g : store.Ghosts S) (h : Held S) (names : Names) (content : Content) (rest : IsAtRest (state g h) names content) where
  abbrev t : State
  t = state g (record h { in_transaction = true })

  -- what is stored is the set in memory
  pub stored_of : (executed : Ids) → executed ≡ content.executed → Stored (span_rows t.now) rest.stands.executed.spans executed
  stored_of executed is = record { least = subst (IsLeastList rest.stands.executed.spans) (sym is) rest.stands.executed.least; rows_are = rest.stands.executed.rows_are }

  module _ (ids : Ids) (m : State) (lawful : AreGtids ids) (r : Records t m ids) where
    now_made : HasMade m names (with_executed ids content)
    now_made = record {
      working = r.on.working;
      stands = record {
        laid_out = r.on.working.laid_out;
        says = subst (SaysLayout (pos 2)) (sym r.on.meta) rest.stands.says;
        meta = subst (AllByRecursion IsMetaRow) (sym r.on.meta) rest.stands.meta;
        follow = subst (λ rows. AreNames rows names) (sym r.on.follow) rest.stands.follow;
        held = r.on.working.lawful;
        executed = record { spans = r.spans; least = r.shows.least; lawful = lawful; rows_are = r.shows.rows_are };
        rows = rest.stands.rows ∙ ap (λ rows. bag_of (count rows)) (sym r.held);
      };
    }

    pub replaced : (n : State) (done : Result (Unit {0}) Error) → KeepsCommit t m → OnOk done (HasEnded m n) → IfErr done (FailsToCommit m n) → Replaces names (with_executed ids content) (state g h) n done
    replaced n (Ok u) kept shown failed =
        let it = made_rest {E = Error} names (with_executed ids content) t m n (Ok u) rest.settled kept now_made shown in
        (it.0, ap (λ (d : Database). d.schema) shown.1.now_is ∙ r.on.schema, it.1)
    replaced n (Err e) kept shown failed = rests_failed t m n e rest.settled kept r.on.working.inside failed

    pub may_replace : (db : Trees) → db ≡ m.now.trees → AreOf h.schema names (with_executed ids content) db × SparesBeside (state g h).now db
    may_replace db is = subst₂ (λ s trees. AreOf s names (with_executed ids content) trees × LiesBeside t.now (record { schema = s; trees = trees })) r.on.schema (sym is) (
      record { stands = now_made.stands; sound = r.on.working.sound; spans_apart = r.on.working.spans_apart },
      subst (λ c. LiesBeside c m.now) (r.on.committed ∙ sym rest.settled) r.on.working.beside,
    )
