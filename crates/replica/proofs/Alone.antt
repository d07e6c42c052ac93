-- One transaction that a store takes.
use Rattle.replica.proofs.Names.{◌≡◌, Bool, Result, Ok, Err, IfErr, inl, inr, refl, sym, subst, Ghosts, Trees, DeliveryValue, Content, Applied, StoreFault, Store, Applies, Reason, Halted, IsOwn, outcome_of, TakesAlone}
use Rattle.sqlite.specs.Held.{state}
use Rattle.store.specs.declared.fault.Applied.TheVariants as applied
use Rattle.store.specs.declared.fault.StoreFault.TheVariants as fault
use Rattle.store.specs.Store.{Holds, Leaves}
use Rattle.replica.specs.Alone.{IsOwnOrHalted}

own_or_halted : (reason : Reason) (stopped : Bool) → IsOwn reason → IsOwnOrHalted reason stopped
own_or_halted Halted stopped h = absurd h
own_or_halted _ stopped h = h

pub own_alone : (out : Result Bool Reason) (stopped : Bool) → IfErr out IsOwn → IfErr out (λ reason. IsOwnOrHalted reason stopped)
own_alone (Ok applied) stopped h = tt
own_alone (Err reason) stopped h = own_or_halted reason stopped h

module _ {S : Type 0} (g : Ghosts S) where
  by_answer : (now : Content) (old new : Store S g) (d : DeliveryValue) (r : Result Applied StoreFault) → Holds g old now → Applies g now d old new r
      → ((trees : Trees) → (state g new.conn).may_leave trees → Leaves (state g old.conn).now.schema old.following now d r trees) → TakesAlone g now d old new (outcome_of r)
  by_answer now old new d (Ok applied.Done) holds it leaves = record { after = it.after; applies = inl (it.after, 0, it.outcome, refl, (refl, refl)); holds = it.holds }
  by_answer now old new d (Ok applied.Repeat) holds it leaves = record { after = now; applies = inr (it.0, (refl, refl)); holds = subst (λ (s : Store S g). Holds g s now) (sym it.1) holds }
  by_answer now old new d (Err (fault.NoSuchRow at)) holds it leaves = (it.0, it.1)
  by_answer now old new d (Err (fault.CountFull at)) holds it leaves = (it.0, it.1)
  by_answer now old new d (Err (fault.Database e)) holds it leaves = record {
    fresh = it.0;
    failed = it.1;
    leaves = λ trees may. elim (leaves trees may) [
      | inl same ↦ (now, same, inl refl)
      | inr one ↦ (one.after, one.stands, inr one.outcome)
    ];
  }
  by_answer now old new d (Err fault.Memory) holds it leaves = record { fresh = it.0; failed = it.1; leaves = λ trees may. (now, leaves trees may, refl) }
  by_answer now old new d (Err fault.Damaged) holds it leaves = absurd it
  by_answer now old new d (Err (fault.Layout n)) holds it leaves = absurd it
  by_answer now old new d (Err fault.Broken) holds it leaves = absurd it
  by_answer now old new d (Err fault.Follows) holds it leaves = absurd it

  pub taken_alone : (now : Content) (old new : Store S g) (d : DeliveryValue) (r : Result Applied StoreFault) (out : Result Bool Reason) → Holds g old now → Applies g now d old new r
      → ((trees : Trees) → (state g new.conn).may_leave trees → Leaves (state g old.conn).now.schema old.following now d r trees) → out ≡ outcome_of r → TakesAlone g now d old new out
  taken_alone now old new d r out holds it leaves is = subst (λ (o : Result Bool Reason). TakesAlone g now d old new o) (sym is) (by_answer now old new d r holds it leaves)
