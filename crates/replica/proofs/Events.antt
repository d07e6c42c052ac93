-- A payload of the dump.
use Rattle.replica.proofs.Names.{◌≡◌, ◌⊎◌, ◌≤◌, ◌-◌, ℕ, Bool, true, false, List, [], ◌∷◌, take, length, Result, Ok, Err, get_or, inl, inr, refl, sym, ap, subst, ◌∙◌, Ghosts, Trees, true≢false, false≢true, cases_Bool, Names, EventValue, IsEvent, DeliveryValue, Gatherer, Content, is_executed, Applied, StoreFault, Store, HasFailed, HoldsAs, Applies, Reason, SourceEof, SourceError, Greet, Event, Gather, Memory, Halted, Carries, Payload, EndsDump, GathersMore, outcome_of}
use Rattle.std.proofs.Common.{drop}
use Rattle.sqlite.specs.Held.{state}
use Rattle.wire.proofs.Cuts.{begun_by}
use Rattle.gather.specs.Fault.{IsFault}
use Rattle.gather.specs.declared.fault.GatherFault.{GatherFault}
use Rattle.gather.specs.declared.fault.GatherFault.TheVariants as gather
use Rattle.store.specs.declared.fault.Applied.TheVariants as applied
use Rattle.store.specs.declared.fault.StoreFault.TheVariants as fault
use Rattle.store.specs.Store.{Holds, Keeps, IsBroken, Leaves}
use Rattle.replica.specs.PayloadStep.{reason_of_events}
use Rattle.replica.specs.Event.{so_far, GoesFurther, EndsOne, IsAsBefore, EndsSo, TakesEvent}

-- ---- the event
pub carries_event : (names : Names) (payload : List ℕ) (e : EventValue) → 1 ≤ length payload → get_or payload 0 0 ≡ 0 → IsEvent names e (take (length payload - 1) (drop 1 payload)) → Carries names payload e
carries_event names payload e some first is = record { body = take (length payload - 1) (drop 1 payload); payload_is = begun_by 0 payload some first; is_event = is }

pub events_end : (names : Names) (es : List EventValue) (p : Payload) (e : EventValue) (f : GatherFault) (reason : Reason) → Carries names p e → (f ≡ gather.Memory) ⊎ IsFault es e f → reason ≡ reason_of_events f → EndsDump names es p reason
events_end names es p e f reason carries (inl m) is = subst (EndsDump names es p) (sym (is ∙ ap reason_of_events m)) tt
events_end names es p e gather.NoFormat reason carries (inr h) is = subst (EndsDump names es p) (sym is) (tt, e, carries, h)
events_end names es p e (gather.Misplaced n) reason carries (inr h) is = subst (EndsDump names es p) (sym is) (tt, e, carries, h)
events_end names es p e (gather.UnknownTable n) reason carries (inr h) is = subst (EndsDump names es p) (sym is) (tt, e, carries, h)
events_end names es p e (gather.Event f) reason carries (inr h) is = subst (EndsDump names es p) (sym is) (tt, e, carries, h)
events_end names es p e gather.Memory reason carries (inr h) is = subst (EndsDump names es p) (sym is) tt
events_end names es p e gather.Ended reason carries (inr h) is = subst (EndsDump names es p) (sym is) (tt, e, carries, h)

-- ---- the store
module _ {S : Type 0} (g : Ghosts S) (es : List EventValue) (ds : List DeliveryValue) (p : Payload) where
  -- the store is as it was
  pub rested : (is : Bool) (now : Content) (store : Store S g) → HoldsAs g is now store → IsAsBefore g (so_far is now es ds) p store store is
  rested is now store holds = record { holds = holds; schema = λ _. refl }

  pub ends_early : (is : Bool) (now : Content) (store : Store S g) (reason : Reason) → HoldsAs g is now store → EndsDump store.following es p reason → EndsSo g (so_far is now es ds) p store store reason
  ends_early is now store SourceEof holds h = (h, rested is now store holds)
  ends_early is now store (SourceError code state message) holds h = (h, rested is now store holds)
  ends_early is now store (Greet f) holds h = (h, rested is now store holds)
  ends_early is now store (Event f) holds h = (h, rested is now store holds)
  ends_early is now store (Gather f) holds h = (h, rested is now store holds)
  ends_early is now store Memory holds h = (is, (λ b. b), rested is now store holds, λ whole broken. absurd (false≢true (sym whole ∙ broken)))
  ends_early is now store _ holds h = absurd h

  pub goes_on : (is : Bool) (now : Content) (store : Store S g) (gatherer : Gatherer) → HoldsAs g is now store → GathersMore store.following es ds p [] gatherer → GoesFurther g (so_far is now es ds) p store store gatherer false
  goes_on is now store gatherer holds more = record {
    more = [];
    gathered = more;
    after = now;
    applies = (refl, refl);
    holds = holds;
    schema = λ _. refl;
    kept = λ _. refl;
  }

  ends_one : (is : Bool) (now : Content) (old new : Store S g) (d : DeliveryValue) (gatherer : Gatherer) → GathersMore old.following es ds p (d ∷ []) gatherer → EndsOne g (so_far is now es ds) p old new d
  ends_one is now old new d gatherer more = record { event = more.event; carries = more.carries; delivers = more.gathers.given.deliveries }

  -- the observer stops before a new transaction
  pub halts : (is : Bool) (now : Content) (store : Store S g) (d : DeliveryValue) (gatherer : Gatherer) → HoldsAs g is now store → GathersMore store.following es ds p (d ∷ []) gatherer → is_executed now d ≡ false → EndsSo g (so_far is now es ds) p store store Halted
  halts is now store d gatherer holds more new = (d, ends_one is now store store d gatherer more, new, rested is now store holds)

  -- a store that a failure has broken before
  pub over_broken : (now : Content) (old new : Store S g) (d : DeliveryValue) (gatherer : Gatherer) (r : Result Applied StoreFault) (out : Result Bool Reason) → HasFailed g old now → GathersMore old.following es ds p (d ∷ []) gatherer
      → (r ≡ Err fault.Broken) × (new ≡ old) → out ≡ outcome_of r → TakesEvent g (so_far true now es ds) p old new gatherer out
  over_broken now old new d gatherer r out holds more same is =
      subst (λ x. TakesEvent g (so_far true now es ds) p old x gatherer out) (sym same.1)
      (subst (TakesEvent g (so_far true now es ds) p old old gatherer) (sym (is ∙ ap outcome_of same.0)) (
        d,
        ends_one true now old old d gatherer more,
        record {
          rests = record { holds = holds; schema = λ _. refl };
          fails = inr (refl, refl);
          leaves = λ whole. absurd (true≢false whole);
        },
      ))

  -- a whole one
  pub over_whole : (now : Content) (old new : Store S g) (d : DeliveryValue) (gatherer : Gatherer) (r : Result Applied StoreFault) (out : Result Bool Reason) → Holds g old now → GathersMore old.following es ds p (d ∷ []) gatherer
      → Applies g now d old new r → (new.broken ≡ false → (state g new.conn).now.schema ≡ (state g old.conn).now.schema)
      → ((trees : Trees) → (state g new.conn).may_leave trees → Leaves (state g old.conn).now.schema old.following now d r trees)
      → out ≡ outcome_of r → TakesEvent g (so_far false now es ds) p old new gatherer out
  over_whole now old new d gatherer (Ok applied.Done) out holds more it schema leaves is = subst (TakesEvent g (so_far false now es ds) p old new gatherer) (sym is) (record {
    more = d ∷ [];
    gathered = more;
    after = it.after;
    applies = inl (it.after, 0, it.outcome, refl, (refl, refl));
    holds = it.holds;
    schema = λ _. schema it.holds.whole;
    kept = λ b. absurd (false≢true b);
  })
  over_whole now old new d gatherer (Ok applied.Repeat) out holds more it schema leaves is = subst (TakesEvent g (so_far false now es ds) p old new gatherer) (sym is) (record {
    more = d ∷ [];
    gathered = more;
    after = now;
    applies = inr (it.0, (refl, refl));
    holds = subst (λ x. Holds g x now) (sym it.1) holds;
    schema = λ _. ap (λ (x : Store S g). (state g x.conn).now.schema) it.1;
    kept = λ b. refl;
  })
  over_whole now old new d gatherer (Err (fault.NoSuchRow at)) out holds more it schema leaves is = subst (TakesEvent g (so_far false now es ds) p old new gatherer) (sym is)
      (d, ends_one false now old new d gatherer more, it.0, record { holds = it.1; schema = λ _. schema it.1.whole })
  over_whole now old new d gatherer (Err (fault.CountFull at)) out holds more it schema leaves is = subst (TakesEvent g (so_far false now es ds) p old new gatherer) (sym is)
      (d, ends_one false now old new d gatherer more, it.0, record { holds = it.1; schema = λ _. schema it.1.whole })
  over_whole now old new d gatherer (Err (fault.Database e)) out holds more it schema leaves is = subst (TakesEvent g (so_far false now es ds) p old new gatherer) (sym is) (
    d,
    ends_one false now old new d gatherer more,
    record {
      rests = record { holds = it.1; schema = λ b. absurd (true≢false b) };
      fails = inl (e, refl, refl, it.0);
      leaves = λ whole trees left. elim (leaves trees left) [
        | inl same ↦ (now, same, inl refl)
        | inr one ↦ (one.after, one.stands, inr one.outcome)
      ];
    },
  )
  over_whole now old new d gatherer (Err fault.Memory) out holds more it schema leaves is = subst (TakesEvent g (so_far false now es ds) p old new gatherer) (sym is)
      (true, (λ _. refl), record { holds = it.1; schema = λ b. absurd (true≢false b) }, λ whole broken trees left. leaves trees left)
  over_whole now old new d gatherer (Err fault.Damaged) out holds more it schema leaves is = absurd it
  over_whole now old new d gatherer (Err (fault.Layout n)) out holds more it schema leaves is = absurd it
  over_whole now old new d gatherer (Err fault.Broken) out holds more it schema leaves is = absurd it
  over_whole now old new d gatherer (Err fault.Follows) out holds more it schema leaves is = absurd it

-- ---- the observer
module _ {S : Type 0} (g : Ghosts S) where
  -- it has stopped, so the store stays as it is
  pub heeded : (is : Bool) (now : Content) (d : DeliveryValue) (store new : Store S g) (halted stopped : Bool) → HoldsAs g is now store → (is_executed now d ≡ false → halted ≡ stopped) → stopped ≡ true → halted ≡ false
      → (IsBroken g store → new ≡ store) → ((content : Content) → Keeps g store content → is_executed content d ≡ true → new ≡ store) → new ≡ store
  heeded true now d store new halted stopped holds heeds on off broken known = broken holds.broken
  heeded false now d store new halted stopped holds heeds on off broken known = elim (cases_Bool (is_executed now d)) [
    | inl it ↦ known now (record { whole = holds.whole; executed = holds.executed; rest = λ _. holds.rest }) it
    | inr it ↦ absurd (false≢true (sym off ∙ heeds it ∙ on))
  ]
