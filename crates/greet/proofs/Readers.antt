-- What every reader of a message has in common.
use Rattle.greet.proofs.Names.{◌≡◌, ℕ, List, Option, None, Result, Ok, Err, subst, refl, IfOk, IfErr, Refusal, GreetFault}
use Rattle.std.specs.Prelude.{⊤, MatchResult}
use Rattle.greet.specs.View.{Refuses}
use Rattle.greet.specs.declared.fault.GreetFault.TheVariants as faults

-- if nothing is refused, the only fault is that memory ran out
pub memory_alone : (fault : GreetFault) → Refuses None fault → fault ≡ faults.Memory
memory_alone faults.Memory is = refl
memory_alone _ is = absurd cc

-- A message is answered, if it is not refused and has one meaning.
pub answered : {X V : Type 0} (Is : V → List ℕ → Type 0) (value : X → V) (refusal : List ℕ → Option Refusal) (payload : List ℕ) →
    ((v : V) → Is v payload → refusal payload ≡ None) → ((a b : V) → Is a payload → Is b payload → a ≡ b) →
    (result : Result X GreetFault) → IfOk result (λ x. Is (value x) payload) → IfErr result (Refuses (refusal payload)) →
    (v : V) → Is v payload → MatchResult result (λ x. value x ≡ v) (λ fault. fault ≡ faults.Memory)
answered Is value refusal payload none one (Ok x) found fault v is = one (value x) v found is
answered Is value refusal payload none one (Err f) found fault v is = memory_alone f (subst (λ r. Refuses r f) (none v is) fault)

pub answered_alone : {X : Type 0} (refusal : Option Refusal) → refusal ≡ None → (result : Result X GreetFault) → IfErr result (Refuses refusal) → MatchResult result (λ _. ⊤) (λ fault. fault ≡ faults.Memory)
answered_alone refusal none (Ok x) fault = tt
answered_alone refusal none (Err f) fault = memory_alone f (subst (λ r. Refuses r f) none fault)
