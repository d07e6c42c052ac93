-- A connection while it is being read.
use Rattle.replica.proofs.Names.{◌≡◌, ◌≤◌, ◌⊎◌, ℕ, ◌+◌, Bool, List, [], ◌++◌, length, inr, true, false, Option, None, Some, is_some, MatchOption, unwrap_or, refl, sym, ap, ◌∙◌, subst, append_assoc, Consumes, Keeps, Ghosts, Schema, HasCleanDisk, Names, Content, Store, HoldsAs, EndOfInput, Ended, Session, GoesOn, HasEnded, end_of, room_of, StandsOver, Conn, reported_as, KeepsStore}
use Rattle.std.proofs.Common.{option_map}
use Rattle.std.proofs.KnownBytes.{Consumes-trans, Consumes-kept}
use Rattle.sqlite.specs.Held.{state}
use Rattle.replica.specs.Standing.{Position, parts_of, having_read, reads_on, sends_on, Stands}
use Rattle.replica.specs.Conn.{EndsInLast}
use Rattle.replica.specs.Over.{Taking, HasReadOf}
use Rattle.replica.proofs.Keeps.{store_then}
use Rattle.replica.proofs.Runs.{read_all}
use Rattle.replica.proofs.FollowEnds.{unended}

-- how many more reads there may be
abbrev turns : Option Ended → ℕ → ℕ
turns None room = room + 1
turns (Some end) room = 0

abbrev pub turns_left : Session → ℕ
turns_left session = turns session.ended (room_of session)

-- no bytes were taken
pub Keeps-from_none : (a b : Option (List ℕ)) → Consumes a b [] → Keeps a b
Keeps-from_none None b p = tt
Keeps-from_none (Some x) None p = absurd p
Keeps-from_none (Some x) (Some y) p = sym p

module _ {S : Type 0} (g : Ghosts S) where
  -- these bytes were taken from the reader, and this is the position of the session and its store
  pub record IsTaking (limit : ℕ) (taking : Taking) (entry : Store S g) (session : Session) (store : Store S g) : Type 0 where
    pub read : List ℕ
    pub consumes : Consumes taking.left taking.left_after read
    pub limit_is : session.config.limit ≡ limit
    pub keeps : KeepsStore g entry store
    pub stands : HasCleanDisk (state g store.conn) → (was : Bool) (old : Content) → HoldsAs g was old entry → StandsOver g session store (state g entry.conn).now.schema (having_read was old (taking.first ++ read))
    pub last : HasCleanDisk (state g store.conn) → (was : Bool) (old : Content) → HoldsAs g was old entry → (read ≡ []) ⊎ EndsInLast limit taking.most entry.following was old taking.first read

  -- more bytes were taken, and the session was fed with them
  pub taking_more : (limit : ℕ) (taking : Taking) (entry : Store S g) (session : Session) (store : Store S g) (after : Session) (new : Store S g) (left'' : Option (List ℕ)) (piece : List ℕ)
      → IsTaking limit taking entry session store → session.ended ≡ None → length piece ≤ taking.most → Consumes taking.left_after left'' piece → after.config ≡ session.config → KeepsStore g store new
      → (HasCleanDisk (state g new.conn) → (schema : Schema) (pos : Position) → StandsOver g session store schema pos → StandsOver g after new schema (reads_on pos piece))
      → IsTaking limit (record taking { left_after = left'' }) entry after new
  taking_more limit taking entry session store after new left'' piece t going within consumes config keeps leads = record {
    read = t.read ++ piece;
    consumes = Consumes-trans taking.left taking.left_after left'' t.read piece t.consumes consumes;
    limit_is = ap (λ s. s.limit) config ∙ t.limit_is;
    keeps = store_then g t.keeps keeps;
    stands = λ h was old holds. subst (λ (l : List ℕ). StandsOver g after new (state g entry.conn).now.schema (having_read was old l)) (append_assoc taking.first t.read piece)
        (leads h (state g entry.conn).now.schema (having_read was old (taking.first ++ t.read)) (t.stands (keeps.clean h) was old holds));
    last = λ h was old holds.
        let s = t.stands (keeps.clean h) was old holds in
        inr (record {
          front = t.read;
          last = piece;
          read_is = refl;
          piece = within;
          now = s.now;
          end = end_of session;
          unended = subst (λ (n : ℕ). Conn n entry.following was old (taking.first ++ t.read) s.now (reported_as EndOfInput (end_of session))) t.limit_is
              (unended g session entry store (state g entry.conn).now.schema (having_read was old (taking.first ++ t.read)) t.keeps.following going s);
        });
  }

  -- what has been read so far
  pub taken : (limit : ℕ) (taking : Taking) (entry : Store S g) (session : Session) (store : Store S g) (left'' : Option (List ℕ)) (was : Bool) (old : Content) (end : Ended)
      → IsTaking limit taking entry session store → Keeps taking.left_after left'' → end ≡ end_of session → HasCleanDisk (state g store.conn) → HoldsAs g was old entry
      → HasReadOf g limit entry store was old (record taking { left_after = left'' }) end
  taken limit taking entry session store left'' was old end t keeps end_is clean holds = record {
    read = t.read;
    consumes = Consumes-kept taking.left taking.left_after left'' t.read t.consumes keeps;
    has_read = read_all g session entry store limit (having_read was old (taking.first ++ t.read)) end t.limit_is t.keeps.following end_is (t.stands clean was old holds);
    last = t.last clean was old holds;
  }

-- a session that has ended was not ended by the end of the input
still_some : {A B : Type 0} (f : A → B) (o : Option A) → is_some (option_map f o) ≡ is_some o
still_some f None = refl
still_some f (Some x) = refl

pub is_ended : {A : Type 0} (f : A → Ended) (o : Option A) (ended : Option Ended) → option_map f o ≡ ended → is_some o ≡ true → is_some ended ≡ true
is_ended f o ended same some = subst (λ (v : Option Ended). is_some v ≡ true) same (still_some f o ∙ some)

pub no_end : (session : Session) (names : Names) (pos : Position) (is : Bool) (now : Content) → is_some session.ended ≡ true → Stands session names pos is now → (end_of session).reason ≡ EndOfInput → ⊥
unfolding Stands
no_end session names pos is now some s same =
    elim session.ended as (λ v. is_some v ≡ true
    → MatchOption v
    (GoesOn (parts_of session) names (sends_on pos session.out.items) is now)
    (λ end. HasEnded session.config names (sends_on pos session.out.items) is now end)
    → (unwrap_or v (record { reason = EndOfInput; at = session.at; applied = session.applied })).reason ≡ EndOfInput → ⊥) [
      | None ↦ λ bad _ _. cc
      | Some end ↦ λ _ h same. h.more same
    ] some s same

pub not_ended : {A : Type 0} (f : A → Ended) (o : Option A) (ended : Option Ended) → option_map f o ≡ ended → is_some o ≡ false → is_some ended ≡ false
not_ended f o ended same none = subst (λ (v : Option Ended). is_some v ≡ false) same (still_some f o ∙ none)

-- a session that has not ended would be ended by the end of the input
pub going_on : (session : Session) → is_some session.ended ≡ false → (end_of session).reason ≡ EndOfInput
going_on session none =
    elim session.ended as (λ v. is_some v ≡ false → (unwrap_or v (record { reason = EndOfInput; at = session.at; applied = session.applied })).reason ≡ EndOfInput) [
      | None ↦ λ _. refl
      | Some end ↦ λ bad. cc
    ] none
