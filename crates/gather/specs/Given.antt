-- Transactions that are given one at a time.
use Rattle.std.specs.Prelude.{◌≡◌, ◌⊎◌, Bool, true, false, List, [], ◌∷◌, ◌++◌, Option, Some, None, Result, Ok, Err}
use Rattle.gtid.specs.declared.identifier.Gtid.{Gtid}
use Rattle.gather.specs.Transaction.{DeliveryValue}
use Rattle.gather.specs.View.{delivery_value}
use Rattle.gather.specs.declared.transaction.Delivery.{Delivery}

-- What is known of the transactions that are still to be given: what they begin with, and what all of them are.
pub record Supply : Type 1 where
  pub begins : List DeliveryValue → Type 0
  pub are_all : List DeliveryValue → Type 0

-- Those of this list, in order.
abbrev pub listed : List DeliveryValue → Supply
listed all = record {
  begins = λ ds. (more : List DeliveryValue) × (all ≡ ds ++ more);
  are_all = λ ds. all ≡ ds;
}

-- the transaction of a GTID that changes nothing
abbrev pub empty_of : Gtid → DeliveryValue
empty_of gtid = record { source = gtid.source; number = gtid.number; changes = [] }

-- After all of these comes one more, which is the last.
abbrev pub then_last : Supply → DeliveryValue → Supply
then_last left last = record {
  begins = λ ds. left.begins ds ⊎ ((all : List DeliveryValue) × left.are_all all × (ds ≡ all ++ last ∷ []));
  are_all = λ ds. (all : List DeliveryValue) × left.are_all all × (ds ≡ all ++ last ∷ []);
}

-- As then_last, if that one was not given yet; none if it was.
abbrev pub unless_last : Bool → Supply → DeliveryValue → Supply
unless_last true left last = listed []
unless_last false left last = then_last left last

-- They begin with these, or these are none.
abbrev pub BeginWith : Supply → List DeliveryValue → Type 0
BeginWith left [] = Unit {0}
BeginWith left (d ∷ ds) = left.begins (d ∷ ds)

-- These were given as the first ones, and the rest comes after them.
pub record GivesFirst (left : Supply) (ds : List DeliveryValue) (rest : Supply) : Type 0 where
  pub begins : (more : List DeliveryValue) → BeginWith rest more → BeginWith left (ds ++ more)
  pub are_all : (more : List DeliveryValue) → rest.are_all more → left.are_all (ds ++ more)

-- The first of those that are left is given, or none where none is left.
abbrev pub GivesOne : Supply → Supply → Option Delivery → Type 0
GivesOne before after (Some d) = GivesFirst before (delivery_value d ∷ []) after
GivesOne before after None = GivesFirst before [] after × after.are_all []

-- The next transaction is given. An error gives none.
abbrev pub GivesNext : {E : Type 0} → Supply → Supply → Result (Option Delivery) E → Type 0
GivesNext before after (Ok next) = GivesOne before after next
GivesNext before after (Err cause) = GivesFirst before [] after
