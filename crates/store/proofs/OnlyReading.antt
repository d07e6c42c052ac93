-- What a text leaves that only reads, whatever the schema is.
use Rattle.store.proofs.Names.{◌≡◌, ◌⊎◌, inl, inr, ℕ, Bool, true, false, List, [], Ok, Err, Result, None, Option, OnOk, OnErr, IfOk, IfErr, refl, sym, ap, ◌∙◌, Row, Compiled, Parsed, Schema, Command, Error, Ghosts, Held, State, HasCleanDisk, Survives, IsUnchanged, survives_weaker, StoreFault, Rested, with_command, all_meta_text, all_held_text}
use Rattle.std.specs.Prelude.{if◌then◌else◌}
use Rattle.sqlite_ast.specs.declared.Select as select
use Rattle.sqlite_ast.specs.declared.Statement.TheVariants as written
use Rattle.sqlite_schema.specs.declared.command.Returning.{Returning}
use Rattle.sqlite_resolve.specs.declared.error.CompileError.{CompileError}
use Rattle.sqlite_resolve.specs.declared.error.CompileError.TheVariants.{NoSuchTable}
use Rattle.sqlite_resolve.specs.Lowering.{Checked, and_then}
use Rattle.sqlite_resolve.specs.Compile.{first, compiled, planned, meaning, returning, command, timed}
use Rattle.sqlite.specs.Listing.{understood, reads_listing, listing_schema, is_select, if_select}
use Rattle.sqlite.specs.Given.{HasBegun, Returns}
use Rattle.sqlite.specs.Held.{state}
use Rattle.sqlite.specs.State.{Shown, FailsToQuery, CommitsShowing}
use Rattle.store.specs.Faults.{IsFailure}
use Rattle.store.specs.Load.{OnlyReads, IsCalm, Spares, all_spans_text, all_follow_text, all_executed_text}
use Rattle.store.proofs.AnyWhole.{reads_meta, reads_held, reads_spans, reads_follow, reads_executed}
use Rattle.store.proofs.Keeps.{kept_query, kept_then, inside_then}
use Rattle.store.proofs.PlainQueries.{rests_read}
use Rattle.store.proofs.Steps.{rested_after, clean_before}
use Rattle.store.proofs.Verdicts.{rested_self, survives_self}

-- ---- A SELECT is no write, under any schema.

abbrev shows_of : Checked Compiled → Option Returning
shows_of (Ok c) = c.returning
shows_of (Err e) = None

module _ (text : List ℕ) (p : Parsed) (s : select.Select) (parses : first text ≡ Ok p) (is : p.statement ≡ written.Select s) where
  compiled_shows : (schema : Schema) → shows_of (compiled schema text) ≡ None
  unfolding compiled planned meaning returning
  compiled_shows schema = rw (parses, is) (go (command schema p.formats _ (written.Select s)))
    where
      go : (r : Checked Command) → shows_of (and_then (and_then (and_then r (λ c. Ok (c, None))) (λ found. Ok (timed schema p.formats (written.Select s), found))) (λ plan. Ok (with_command p plan))) ≡ None
      go (Ok c) = refl
      go (Err e) = refl

  listed_shows : (r : Result Compiled CompileError) → shows_of r ≡ None → shows_of (if_select r) ≡ None
  listed_shows (Ok c) none = by (is_select c.command)
    where
      by : (b : Bool) → shows_of (if b then Ok c else Err NoSuchTable) ≡ None
      by true = none
      by false = refl
  listed_shows (Err e) none = refl

  understood_shows : (schema : Schema) → shows_of (understood schema text) ≡ None
  unfolding understood
  understood_shows schema = by (reads_listing schema text)
    where
      by : (b : Bool) → shows_of (if b then if_select (compiled listing_schema text) else compiled schema text) ≡ None
      by true = listed_shows (compiled listing_schema text) (compiled_shows listing_schema)
      by false = compiled_shows schema

  pub only_reads : OnlyReads text
  only_reads schema c found = sym (ap shows_of found) ∙ understood_shows schema

pub meta_only : OnlyReads all_meta_text
meta_only = only_reads all_meta_text _ _ reads_meta.parses refl

pub held_only : OnlyReads all_held_text
held_only = only_reads all_held_text _ _ reads_held.parses refl

pub spans_only : OnlyReads all_spans_text
spans_only = only_reads all_spans_text _ _ reads_spans.parses refl

pub follow_only : OnlyReads all_follow_text
follow_only = only_reads all_follow_text _ _ reads_follow.parses refl

pub executed_only : OnlyReads all_executed_text
executed_only = only_reads all_executed_text _ _ reads_executed.parses refl

-- ---- One call after the other.

pub rested_then : (a b c : State) → Rested a b → Rested b c → Rested a c
rested_then a b c one two = record {
  commit = kept_then a b c one.commit two.commit;
  rests = λ settled is_open.
      let first = one.rests settled (two.commit.was_open is_open) in
      let second = two.rests (first.0 ∙ settled ∙ sym first.1) is_open in
      (second.0 ∙ first.0, second.1 ∙ first.1);
}

pub calm_self : (a : State) → IsCalm a a
calm_self a = record { rested = λ clean. rested_self a; survives = survives_self a }

pub calm_then : (a b c : State) → IsCalm a b → IsCalm b c → IsCalm a c
calm_then a b c one two = record {
  rested = λ clean. rested_then a b c (one.rested (clean_before b c _ two.survives clean)) (two.rested clean);
  survives = inside_then a b c one.survives two.survives;
}

-- ---- A query.

module _ (sql : List ℕ) (only : OnlyReads sql) where
  commits_none : (old new : State) → Survives old new (CommitsShowing sql [] old) → Survives old new (λ _. ⊥)
  unfolding CommitsShowing
  commits_none old new s = survives_weaker old new (CommitsShowing sql [] old) (λ _. ⊥) (λ clean db made. absurd (let no = rw (only old.now.schema made.0 made.1.is) at made.2 in cc)) s

  shown_same : (old new : State) (rows : List Row) → Shown sql [] old new rows → IsUnchanged old new
  unfolding Shown
  shown_same old new rows h = (rw (only old.now.schema h.0 h.1.is) at h.2).3

  pub calm_read : {X : Type 0} (items : X → List Row) (old new : State) (r : Result X Error) → (HasCleanDisk new → IfOk r (λ x. Shown sql [] old new (items x))) → (HasCleanDisk new → IfErr r (FailsToQuery sql [] old new))
      → Survives old new (CommitsShowing sql [] old) → IsCalm old new
  calm_read {X = X} items old new r shown failed s = record {
    rested = λ clean.
        let same = go r (shown clean) in
        record { commit = kept_query sql [] old new r same (failed clean); rests = λ settled. rests_read sql [] old new r settled same (failed clean) };
    survives = commits_none old new s;
  }
    where
      go : (r : Result X Error) → IfOk r (λ x. Shown sql [] old new (items x)) → OnOk r (IsUnchanged old new)
      go (Ok x) h = shown_same old new (items x) h
      go (Err e) h = tt

  no_returns : (r : Result Compiled CompileError) → ((c : Compiled) → r ≡ Ok c → c.returning ≡ None) → ¬ Returns r
  no_returns (Ok c) none some = absurd (let no = rw (none c refl) at some in cc)
  no_returns (Err e) none some = some

  -- a query that has begun, and what reads on in it
  pub calm_begun : {S : Type 0} (g : Ghosts S) (old mid : Held S) (new : State) → (HasCleanDisk (state g mid) → HasBegun g sql [] old mid) → Survives (state g old) (state g mid) (CommitsShowing sql [] (state g old))
      → (HasCleanDisk new → Rested (state g mid) new) → Survives (state g mid) new (λ _. ⊥) → IsCalm (state g old) new
  calm_begun g old mid new begun s on on_survives = record {
    rested = λ clean. rested_after (state g old) (state g mid) new (go (begun (clean_before (state g mid) new _ on_survives clean))) (on clean);
    survives = inside_then (state g old) (state g mid) new (commits_none (state g old) (state g mid) s) on_survives;
  }
    where
      go : HasBegun g sql [] old mid → IsUnchanged (state g old) (state g mid)
      go (inl h) = h.1
      go (inr h) = absurd (no_returns (understood old.schema sql) (only old.schema) h.0)

-- ---- A refusal.

pub spares_calm : {X : Type 0} (old new : State) (r : Result X StoreFault) → IsCalm old new → Spares old new r
spares_calm {X = X} old new r calm = record { rested = λ clean. on_err r (calm.rested clean); survives = by r }
  where
    on_err : (r : Result X StoreFault) → Rested old new → OnErr r (Rested old new)
    on_err (Ok x) h = tt
    on_err (Err e) h = h

    by : (r : Result X StoreFault) → IfErr r (λ fault. IsFailure fault ⊎ Survives old new (λ _. ⊥))
    by (Ok x) = tt
    by (Err e) = inr calm.survives

pub spares_then : {X : Type 0} (old mid new : State) (r : Result X StoreFault) → IsCalm old mid → (HasCleanDisk new → HasCleanDisk mid) → Spares mid new r → Spares old new r
spares_then old mid new (Ok x) calm early spares = record { rested = λ clean. tt; survives = tt }
spares_then old mid new (Err e) calm early spares = record {
  rested = λ clean. rested_then old mid new (calm.rested (early clean)) (spares.rested clean);
  survives = elim spares.survives [ inl failed ↦ inl failed | inr survives ↦ inr (inside_then old mid new calm.survives survives) ];
}

-- a statement failed while the tables were written
pub spares_failed : {X : Type 0} (old new : State) (fault : StoreFault) → IsFailure fault → (HasCleanDisk new → Rested old new) → Spares {X = X} old new (Err fault)
spares_failed old new fault failed rested = record { rested = rested; survives = inl failed }
