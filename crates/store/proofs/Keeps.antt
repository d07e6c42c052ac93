-- What a call inside a transaction keeps.
use Rattle.store.proofs.Names.{arith, ◌⊎◌, inl, inr, ℕ, List, Ok, Err, Result, Some, None, Bool, true, false, cond, MatchBool, ◌≢◌, IfOk, IfErr, OnOk, IsTrue, ◌≡◌, refl, sym, ap, subst, ◌∙◌, cases_Bool, Row, Compiled, Error, State, Survives, KeepsCommit, HasCleanDisk, IsUnchanged, IsRolledBack, ExecutesInside, Ghosts, Held, WasOpen, IsPlain, survives_then}
use Rattle.std.proofs.Common.{IsOk, IsErr, MutBor}
use Rattle.std.proofs.lemmas.Result.{on_ok_weaker}
use Rattle.sqlite.specs.declared.error.Error.TheVariants.{ExecuteReturnedResults}
use Rattle.sqlite_trees.specs.declared.error.StoreError.{StoreError}
use Rattle.sqlite.specs.State.{IsNotRun, FailsToQuery, FailsToShow, IsTooLate, Shown, ShowsRows, ExecutesIn, RunsCommand, Fails, shows_rows, store_error, CommitsShowing}
use Rattle.sqlite.specs.Held.{state}
use Rattle.sqlite.specs.Listing.{understood}
use Rattle.store.specs.Inside.{Stays}
use Rattle.sqlite.proofs.Callers.{never_commits}

pub kept_unchanged : (old new : State) → IsUnchanged old new → KeepsCommit old new
kept_unchanged old new h = record { was_open = λ _. h.0.was_open; committed = λ _. h.0.committed_is }

pub kept_rolled : (old new : State) → IsRolledBack old new → KeepsCommit old new
kept_rolled old new h = record { was_open = h.was_open; committed = λ is_open. (h.undone is_open).1 }

kept_showing : (old new : State) (sql : List ℕ) (c : Compiled) (params : Row) (e : Error) (r : _) → FailsToShow old new sql c params e r → KeepsCommit old new
kept_showing old new sql c params e None h = kept_unchanged old new h.3
kept_showing old new sql c params e (Some what) (inl h) = kept_unchanged old new h.1
kept_showing old new sql c params e (Some what) (inr h) = kept_rolled old new h.3

pub kept_not_run : (old new : State) (sql : List ℕ) (params : Row) (e : Error) → IsNotRun old new sql params e → KeepsCommit old new
unfolding IsNotRun
kept_not_run old new sql params e (inl h) = kept_unchanged old new h.1
kept_not_run old new sql params e (inr h) = kept_rolled old new h.3

pub kept_failed : (sql : List ℕ) (params : Row) (old new : State) (e : Error) → FailsToQuery sql params old new e ⊎ IsTooLate sql params old new e → KeepsCommit old new
unfolding FailsToQuery
kept_failed sql params old new e (inl (inl h)) = kept_not_run old new sql params e h
kept_failed sql params old new e (inl (inr h)) = kept_showing old new sql h.0 _ e h.0.returning h.2
kept_failed sql params old new e (inr h) = kept_unchanged old new h.5

pub kept_executed : (held : ℕ) (sql : List ℕ) (params : Row) (old new : State) (r : Result ℕ Error) → ExecutesInside held sql params old new r → KeepsCommit old new
kept_executed held sql params old new (Ok count) h = record { was_open = λ _. h.1.was_open; committed = λ _. h.1.committed_is }
kept_executed held sql params old new (Err e) (inl h) = elim h.1 [ inl same ↦ kept_unchanged old new same | inr undone ↦ kept_rolled old new undone ]
kept_executed held sql params old new (Err e) (inr h) = kept_unchanged old new h.2

-- a statement that a rule refuses, and not the disk, changes nothing
module _ (sql : List ℕ) (old new : State) (e : Error) (no_fault : (cause : StoreError) → e ≢ store_error cause) where
  no_failure : {P : Type 0} → Fails old new P e → IsUnchanged old new
  no_failure f = absurd (no_fault f.0 f.1)

  same_alone : (c : Compiled) (params : Row) (b : Bool) → MatchBool b ((◌≡◌ {A = Result ℕ Error} (Err e) (Err ExecuteReturnedResults)) × IsUnchanged old new) (RunsCommand old new sql c params (Err e)) → IsUnchanged old new
  same_alone c params true r = r.1
  same_alone c params false (inl r) = r.1
  same_alone c params false (inr r) = no_failure r

  same_executed : (params : Row) → ExecutesIn false sql params old new (Err e) → IsUnchanged old new
  unfolding ExecutesIn IsNotRun
  same_executed params (inl (inl r)) = r.1
  same_executed params (inl (inr r)) = no_failure r
  same_executed params (inr r) = same_alone r.0 _ (shows_rows false r.0) r.2

  pub refused_same : (params : Row) → ExecutesInside 0 sql params old new (Err e) → IsUnchanged old new
  refused_same params (inl h) = same_executed params h.0
  refused_same params (inr h) = h.2

-- ---- one call after another
pub kept_then : (a b c : State) → KeepsCommit a b → KeepsCommit b c → KeepsCommit a c
kept_then a b c one two = record { was_open = λ is_open. one.was_open (two.was_open is_open); committed = λ is_open. two.committed is_open ∙ one.committed (two.was_open is_open) }

pub inside_then : (a b c : State) → Survives a b (λ _. ⊥) → Survives b c (λ _. ⊥) → Survives a c (λ _. ⊥)
inside_then a b c one two = survives_then a b c (λ _. ⊥) (λ _. ⊥) (λ _. ⊥) (λ _ db none. none) (λ _ db none. none) one two

-- what calls have kept that all answered
abbrev pub HaveStayed : {S : Type 0} → Ghosts S → MutBor (Held S) → MutBor (Held S) → Type 0
HaveStayed g a b = Stays {X = Unit {0}} {E = Error} g a b (Ok tt)

-- a call after one that answered
pub stays_then : {S X E Y F : Type 0} {g : Ghosts S} {a b c : MutBor (Held S)} {x : X} {r : Result Y F} → Stays {E = E} g a b (Ok x) → Stays g b c r → Stays g a c r
stays_then {g = g} {a = a} {b = b} {c = c} {r = r} one two =
    let early : HasCleanDisk (state g c.now) → HasCleanDisk (state g b.now) = λ clean. omega (arith, two.survives.clean, clean) in
    record {
      same_reference = two.same_reference ∙ one.same_reference;
      kept = λ clean inside. kept_then (state g a.now) (state g b.now) (state g c.now) (one.kept (early clean) inside) (two.kept clean (one.inside (early clean) ∙ inside));
      survives = inside_then (state g a.now) (state g b.now) (state g c.now) one.survives two.survives;
      inside = on_ok_weaker r (λ on clean. on clean ∙ one.inside (early clean)) two.inside;
      opened = λ clean is_open. one.opened (early clean) (two.opened clean is_open);
    }

-- another answer
pub stays_ok : {S X E Y F : Type 0} {g : Ghosts S} {a b : MutBor (Held S)} {x : X} {y : Y} → Stays {E = E} g a b (Ok x) → Stays {E = F} g a b (Ok y)
stays_ok s = record { same_reference = s.same_reference; kept = s.kept; survives = s.survives; inside = s.inside; opened = s.opened }

-- a failure that is handed on
pub stays_err : {S X E Y F : Type 0} {g : Ghosts S} {a b : MutBor (Held S)} {e : E} {r : Result Y F} → Stays {X = X} g a b (Err e) → IsErr r → Stays g a b r
stays_err {r = Ok y} s failed = absurd (cc)
stays_err {r = Err f} s failed = record { same_reference = s.same_reference; kept = s.kept; survives = s.survives; inside = tt; opened = s.opened }

-- ---- a query outside a transaction
pub kept_query : {X : Type 0} (sql : List ℕ) (params : Row) (old new : State) (r : Result X Error) → OnOk r (IsUnchanged old new) → IfErr r (FailsToQuery sql params old new) → KeepsCommit old new
kept_query sql params old new (Ok x) same failed = kept_unchanged old new same
kept_query sql params old new (Err e) same failed = kept_failed sql params old new e (inl failed)

pub query_survives : (sql : List ℕ) (params : Row) (old new : State) → IsPlain (understood old.now.schema sql) → Survives old new (CommitsShowing sql params old) → Survives old new (λ _. ⊥)
query_survives sql params old new plain s = record {
  clean = s.clean;
  shield = s.shield;
  counts = s.counts;
  limit = s.limit;
  closes = s.closes;
  crash = λ clean db left. elim (s.crash clean db left) [ inl was ↦ inl was | inr made ↦ absurd (never_commits sql params old db plain made) ];
}

-- ---- a connection that is open was open

open_showing : (old new : State) (sql : List ℕ) (c : Compiled) (params : Row) (rows : List Row) (r : _) → ShowsRows old new sql c params rows r → IsTrue old.is_open
open_showing old new sql c params rows None h = h.3.0.was_open
open_showing old new sql c params rows (Some what) h = h.1.shown.was_open

-- a query that answers found the connection open
pub open_shown : (sql : List ℕ) (params : Row) (old new : State) (rows : List Row) → Shown sql params old new rows → IsTrue old.is_open
unfolding Shown
open_shown sql params old new rows h = open_showing old new sql h.0 _ rows h.0.returning h.2

pub live_query : {X : Type 0} (items : X → List Row) (sql : List ℕ) (params : Row) (old new : State) (r : Result X Error) → IfOk r (λ x. Shown sql params old new (items x)) → OnOk r (IsTrue old.is_open)
live_query items sql params old new (Ok x) ok = open_shown sql params old new (items x) ok
live_query items sql params old new (Err e) ok = tt

pub opened_shown : {X : Type 0} (items : X → List Row) (sql : List ℕ) (params : Row) (old new : State) (r : Result X Error) → IfOk r (λ x. Shown sql params old new (items x))
    → IfErr r (λ e. FailsToQuery sql params old new e ⊎ IsTooLate sql params old new e) → WasOpen old new
opened_shown items sql params old new (Ok x) ok err is_open = open_shown sql params old new (items x) ok
opened_shown items sql params old new (Err e) ok err is_open = (kept_failed sql params old new e err).was_open is_open

pub opened_query : {X : Type 0} (items : X → List Row) (sql : List ℕ) (params : Row) (old new : State) (r : Result X Error) → IfOk r (λ x. Shown sql params old new (items x))
    → IfErr r (FailsToQuery sql params old new) → WasOpen old new
opened_query items sql params old new (Ok x) ok err is_open = open_shown sql params old new (items x) ok
opened_query items sql params old new (Err e) ok err is_open = (kept_failed sql params old new e (inl err)).was_open is_open

-- ---- a call inside, from what the database says of it

opened_executed : {S : Type 0} {P : Type 0} (g : Ghosts S) (h k : Held S) (sql : List ℕ) (params : Row) (r : Result ℕ Error) → (h.in_transaction ≡ false → P × (k ≡ h))
    → (IsTrue h.in_transaction → ExecutesInside 0 sql params (state g h) (state g k) r) → WasOpen (state g h) (state g k)
opened_executed {S = S} g h k sql params r ended runs is_open = elim (cases_Bool h.in_transaction) [
  | inl inside ↦ (kept_executed 0 sql params (state g h) (state g k) r (runs inside)).was_open is_open
  | inr out ↦ subst (λ (x : Held S). IsTrue (state g x).is_open) (ended out).1 is_open
]

module _ {S : Type 0} {P : Type 0} (g : Ghosts S) (a b : MutBor (Held S)) (sql : List ℕ) (params : Row) (outcome : Result ℕ Error) (same_reference : b.ghost_name ≡ a.ghost_name)
    (ended : a.now.in_transaction ≡ false → P × (b.now ≡ a.now)) (runs : HasCleanDisk (state g b.now) → IsTrue a.now.in_transaction → ExecutesInside 0 sql params (state g a.now) (state g b.now) outcome)
    (survives : Survives (state g a.now) (state g b.now) (λ _. ⊥)) where
  -- an answer to an outcome after which the transaction goes on
  stays_answered : {X : Type 0} (r : Result X Error)
      → OnOk r (IsTrue a.now.in_transaction → ExecutesInside 0 sql params (state g a.now) (state g b.now) outcome → b.now.in_transaction ≡ a.now.in_transaction) → Stays g a b r
  stays_answered r goes = record {
    same_reference = same_reference;
    kept = λ clean inside. kept_executed 0 sql params (state g a.now) (state g b.now) outcome (runs clean inside);
    survives = survives;
    inside = on_ok_weaker r (λ on clean. elim (cases_Bool a.now.in_transaction) [ inl inside ↦ on inside (runs clean inside) | inr out ↦ ap (λ (x : Held S). x.in_transaction) (ended out).1 ]) goes;
    opened = λ clean. opened_executed g a.now b.now sql params outcome ended (runs clean);
  }

  pub stays_executed : Stays g a b outcome
  stays_executed = stays_answered outcome (goes outcome)
    where
      goes : (r : Result ℕ Error) → OnOk r (IsTrue a.now.in_transaction → ExecutesInside 0 sql params (state g a.now) (state g b.now) r → b.now.in_transaction ≡ a.now.in_transaction)
      goes (Ok n) = λ inside h. h.1.mode ∙ sym inside
      goes (Err e) = tt

  -- whether an INSERT put its rows in, or a rule refused it
  pub stays_inserted : (r : Result Bool Error) (e : Error) → ((cause : StoreError) → e ≢ store_error cause) → (r ≡ Ok true → IsOk outcome) → (r ≡ Ok false → outcome ≡ Err e) → Stays g a b r
  stays_inserted (Ok true) e no_fault ok refused = stays_answered (Ok true) (λ inside h. goes outcome (ok refl) h ∙ sym inside)
    where
      goes : (r : Result ℕ Error) → IsOk r → ExecutesInside 0 sql params (state g a.now) (state g b.now) r → b.now.in_transaction ≡ true
      goes (Ok n) is h = h.1.mode
      goes (Err f) is h = absurd (cc)
  stays_inserted (Ok false) e no_fault ok refused =
      stays_answered (Ok false) (λ inside h. (refused_same sql (state g a.now) (state g b.now) e no_fault params (subst (ExecutesInside 0 sql params (state g a.now) (state g b.now)) (refused refl) h)).0.mode)
  stays_inserted (Err f) e no_fault ok refused = stays_answered (Err f) tt

module _ (old new : State) (sql : List ℕ) (c : Compiled) (params : Row) (rows : List Row) where
  showing_kept : (r : _) → ShowsRows old new sql c params rows r → old.in_transaction ≡ true → KeepsCommit old new
  showing_kept None h inside = kept_unchanged old new h.3
  showing_kept (Some what) h inside = record { was_open = λ _. h.1.shown.was_open; committed = λ _. h.1.shown.committed_is ∙ ap (λ b. cond b old.committed new.now) inside }

  showing_inside : (r : _) → ShowsRows old new sql c params rows r → new.in_transaction ≡ old.in_transaction
  showing_inside None h = h.3.0.mode
  showing_inside (Some what) h = h.1.shown.mode

module _ {S : Type 0} {X : Type 0} (g : Ghosts S) (a b : MutBor (Held S)) (items : X → List Row) (sql : List ℕ) (params : Row) where
  kept_shown : (r : Result X Error) → IfOk r (λ x. Shown sql params (state g a.now) (state g b.now) (items x))
      → IfErr r (λ e. FailsToQuery sql params (state g a.now) (state g b.now) e ⊎ IsTooLate sql params (state g a.now) (state g b.now) e) → IsTrue a.now.in_transaction → KeepsCommit (state g a.now) (state g b.now)
  unfolding Shown
  kept_shown (Ok x) ok err inside = showing_kept (state g a.now) (state g b.now) sql ok.0 _ (items x) ok.0.returning ok.2 inside
  kept_shown (Err e) ok err inside = kept_failed sql params (state g a.now) (state g b.now) e err

  inside_shown : (r : Result X Error) → (HasCleanDisk (state g b.now) → IfOk r (λ x. Shown sql params (state g a.now) (state g b.now) (items x)))
      → OnOk r (HasCleanDisk (state g b.now) → b.now.in_transaction ≡ a.now.in_transaction)
  unfolding Shown
  inside_shown (Ok x) ok = λ clean. let h = ok clean in showing_inside (state g a.now) (state g b.now) sql h.0 _ (items x) h.0.returning h.2
  inside_shown (Err e) ok = tt

  pub stays_shown : (r : Result X Error) → b.ghost_name ≡ a.ghost_name → (HasCleanDisk (state g b.now) → IfOk r (λ x. Shown sql params (state g a.now) (state g b.now) (items x)))
      → (HasCleanDisk (state g b.now) → IfErr r (λ e. FailsToQuery sql params (state g a.now) (state g b.now) e ⊎ IsTooLate sql params (state g a.now) (state g b.now) e))
      → Survives (state g a.now) (state g b.now) (λ _. ⊥) → Stays g a b r
  stays_shown r same_reference ok err survives = record {
    same_reference = same_reference;
    kept = λ clean inside. kept_shown r (ok clean) (err clean) inside;
    survives = survives;
    inside = inside_shown r ok;
    opened = λ clean. opened_shown items sql params (state g a.now) (state g b.now) r (ok clean) (err clean);
  }
