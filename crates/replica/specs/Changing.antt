-- Private: a store while transactions that no connection carries are applied to it.
use Rattle.std.specs.Prelude.{◌≡◌, ℕ, Bool, List, [], ◌∷◌, length, Result, Ok, Err}
use Rattle.sqlite_trees.specs.declared.store.Store.{Ghosts}
use Rattle.sqlite_schema.specs.declared.schema.Schema.{Schema}
use Rattle.gtid.specs.Identifier.{Ids}
use Rattle.binlog.specs.Filter.{Names}
use Rattle.gather.specs.Transaction.{DeliveryValue}
use Rattle.store.specs.State.{Content}
use Rattle.store.specs.declared.store.Store.{Store}
use Rattle.store.specs.Store.{Holds, HoldsAs}
use Rattle.replica.specs.declared.change.changing.ChangeEnd.{ChangeEnd}
use Rattle.replica.specs.declared.change.changing.ChangeEnd.TheVariants.{AllGiven, NotGiven, Stopped}
use Rattle.replica.specs.Conn.{AppliesAll}
use Rattle.gather.specs.Given.{Supply, GivesFirst}
use Rattle.replica.specs.Alone.{IsAppliedOrKnown, IsNotApplied}
use Rattle.replica.specs.Over.{LeavesOnly}
use Rattle.replica.specs.Change.{Changes, IsLeftOfChange}

module _ {S : Type 0} (g : Ghosts S) where
  -- The next transaction is given, and applied or not; or none is given.
  abbrev pub TakesNext : {E : Type 0} → Content → Store S g → Store S g → Supply → Supply → Result Bool (ChangeEnd E) → Type 0
  TakesNext now old new left rest (Ok applied) = (d : DeliveryValue) × GivesFirst left (d ∷ []) rest × IsAppliedOrKnown g now d old new applied
  TakesNext now old new left rest (Err AllGiven) = GivesFirst left [] rest × rest.are_all [] × (new ≡ old)
  TakesNext now old new left rest (Err (NotGiven cause)) = GivesFirst left [] rest × (new ≡ old)
  TakesNext now old new left rest (Err (Stopped reason)) = (d : DeliveryValue) × GivesFirst left (d ∷ []) rest × IsNotApplied g now d old new reason
  TakesNext now old new left rest (Err _) = ⊥

  -- So many transactions were taken, none of them refused.
  pub record HasTakenSome (names : Names) (store : Store S g) (old : Content) (left rest : Supply) (count applied : ℕ) : Type 0 where
    pub taken : List DeliveryValue
    pub gives : GivesFirst left taken rest
    pub counted : length taken ≡ count
    pub new : Content
    pub applies : AppliesAll names old taken applied new
    pub holds : Holds g store new

  -- The store holds the content that was led to, and this is what a crash leaves.
  pub record HasChanged {E : Type 0} (names : Names) (store : Store S g) (old : Content) (ids : Ids) (left : Supply) (applied : ℕ) (end : ChangeEnd E) : Type 0 where
    pub change : Changes names old ids left applied end
    pub is : Bool
    pub holds : HoldsAs g is change.new store
    pub schema : Schema
    pub leaves : LeavesOnly g schema store (IsLeftOfChange names old ids left applied end change)
