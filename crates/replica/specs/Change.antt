-- What transactions that no connection carries make of what a replica holds.
use Rattle.std.specs.Prelude.{◌≡◌, ◌⊎◌, ℕ, ◌^◌, ◌-◌, true, false, List, [], ◌++◌, length, Option, None, IsSomeAnd}
use Rattle.std.specs.Option.{option_to_list}
use Rattle.gtid.specs.Identifier.{Ids}
use Rattle.binlog.specs.Filter.{Names}
use Rattle.gather.specs.Transaction.{DeliveryValue}
use Rattle.store.specs.State.{Content}
use Rattle.store.specs.Changes.{HasOutcome, done, is_executed, adopted}
use Rattle.store.specs.Faults.{IsFailure}
use Rattle.store.specs.declared.fault.StoreFault.TheVariants as fault
use Rattle.replica.specs.declared.session.end.Reason.TheVariants.{Refused, Database, Memory, Halted, Until}
use Rattle.replica.specs.declared.change.changing.ChangeEnd.{ChangeEnd}
use Rattle.replica.specs.declared.change.changing.ChangeEnd.TheVariants.{AllGiven, NotGiven, Stopped, TooMany, NotAdopted}
use Rattle.replica.specs.Conn.{AppliesAll, IsRefusedBy, IsOwn}
use Rattle.replica.specs.Noted.{Account}
use Rattle.replica.specs.Missing.{waits_for_none}
use Rattle.gather.specs.Given.{Supply, BeginWith}

-- The set was adopted, so that transactions were asked for.
abbrev pub IsAdopted : {E : Type 0} → ChangeEnd E → Type 0
IsAdopted (NotAdopted fault) = ⊥
IsAdopted _ = Unit {0}

-- What holds if the set was not adopted.
abbrev pub UnlessAdopted : {E : Type 0} → ChangeEnd E → Type 0 → Type 0
UnlessAdopted (NotAdopted fault) P = P
UnlessAdopted _ P = Unit {0}

-- the content that the transactions begin with
abbrev pub begun_with : {E : Type 0} → ChangeEnd E → Content → Ids → Content
begun_with (NotAdopted fault) old ids = old
begun_with _ old ids = adopted old ids

-- It was ended by the observer only if that has stopped before a transaction, or waits for nothing; and by no stream.
abbrev pub MayStop : {E : Type 0} → ChangeEnd E → Account → Type 0
MayStop (Stopped Halted) is = is.has_stopped ≡ true
MayStop (Stopped Until) is = (is.has_stopped ≡ true) × (waits_for_none is.waits ≡ true)
MayStop (Stopped reason) is = IsOwn reason
MayStop _ is = Unit {0}

-- Why it ended, with this content, after these transactions and perhaps a last one that was not applied: they are all; no other
-- one came, or was asked for; or the last one was refused, or is new and failed or was not to be applied.
abbrev pub WhyEnded : {E : Type 0} → Names → Content → List DeliveryValue → Option DeliveryValue → Supply → ChangeEnd E → Type 0
WhyEnded names new taken last left AllGiven = (last ≡ None) × left.are_all taken
WhyEnded names new taken last left (NotGiven cause) = last ≡ None
WhyEnded names new taken last left (Stopped (Refused refusal)) = IsSomeAnd last (λ d. IsRefusedBy names new d refusal)
WhyEnded names new taken last left (Stopped (Database (fault.Database e))) = IsSomeAnd last (λ d. is_executed new d ≡ false)
WhyEnded names new taken last left (Stopped Memory) = IsSomeAnd last (λ d. is_executed new d ≡ false)
WhyEnded names new taken last left (Stopped Halted) = IsSomeAnd last (λ d. is_executed new d ≡ false)
WhyEnded names new taken last left (Stopped Until) = last ≡ None
WhyEnded names new taken last left (Stopped _) = ⊥
WhyEnded names new taken last left TooMany = (last ≡ None) × (length taken ≡ 2 ^ 64 - 1)
WhyEnded names new taken last left (NotAdopted fault) = (taken ≡ []) × (last ≡ None) × IsFailure fault

-- Of the transactions that were to be given the first ones were taken in order, each once, and lead from a
-- content, with the set adopted, to another one; so many of them were applied, and this is the end.
pub record Changes {E : Type 0} (names : Names) (old : Content) (ids : Ids) (left : Supply) (applied : ℕ) (end : ChangeEnd E) : Type 0 where
  -- those that were applied or had been executed, and the one after them that was given and not applied
  pub taken : List DeliveryValue
  pub last : Option DeliveryValue
  pub gives : BeginWith left (taken ++ option_to_list last)
  pub new : Content
  pub applies : AppliesAll names (begun_with end old ids) taken applied new
  pub why : WhyEnded names new taken last left end

-- The database failed, and what is left has the set that was to be adopted, or the transaction that was to be applied.
abbrev pub IsOneStepMore : {E : Type 0} → Names → Content → Ids → Content → Option DeliveryValue → ChangeEnd E → Content → Type 0
IsOneStepMore names old ids new last (Stopped (Database (fault.Database e))) left = IsSomeAnd last (λ d. HasOutcome names new d (done left))
IsOneStepMore names old ids new last (NotAdopted (fault.Database e)) left = left ≡ adopted old ids
IsOneStepMore names old ids new last _ left = ⊥

-- What a crash leaves: the content that was led to, or one step more if the database failed.
abbrev pub IsLeftOfChange : {E : Type 0} (names : Names) (old : Content) (ids : Ids) (left : Supply) (applied : ℕ) (end : ChangeEnd E) → Changes names old ids left applied end → Content → Type 0
IsLeftOfChange names old ids left applied end change content = (content ≡ change.new) ⊎ IsOneStepMore names old ids change.new change.last end content
