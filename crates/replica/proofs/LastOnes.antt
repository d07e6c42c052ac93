-- Transactions after all of which one more is given.
use Rattle.replica.proofs.Names.{◌≡◌, inl, inr, Bool, true, false, List, [], ◌∷◌, ◌++◌, Option, None, Result, Ok, Err, refl, sym, ap, ◌∙◌, append_assoc, subst, true≢false, false≢true, DeliveryValue, Supply}
use Rattle.std.specs.Result.{IsErr}
use Rattle.gather.specs.declared.transaction.Delivery.{Delivery}
use Rattle.gather.specs.Given.{BeginWith, GivesFirst, GivesOne, GivesNext, listed, then_last, unless_last}

module _ (left : Supply) (last : DeliveryValue) where
  lifted : (ds : List DeliveryValue) → BeginWith left ds → BeginWith (then_last left last) ds
  lifted [] begins = tt
  lifted (d ∷ ds) begins = inl begins

  whole : (ds : List DeliveryValue) → (then_last left last).are_all ds → BeginWith (then_last left last) ds
  whole [] all = tt
  whole (d ∷ ds) all = inr all

  module _ (rest : Supply) (ds : List DeliveryValue) (first : GivesFirst left ds rest) where
    all_then : (more : List DeliveryValue) → (then_last rest last).are_all more → (then_last left last).are_all (ds ++ more)
    all_then more all = (ds ++ all.0, first.are_all all.0 all.1, ap (λ l. ds ++ l) all.2 ∙ sym (append_assoc ds all.0 (last ∷ [])))

    begins_then : (more : List DeliveryValue) → BeginWith (then_last rest last) more → BeginWith (then_last left last) (ds ++ more)
    begins_then [] begins = lifted (ds ++ []) (first.begins [] tt)
    begins_then (m ∷ more) (inl begins) = lifted (ds ++ m ∷ more) (first.begins (m ∷ more) begins)
    begins_then (m ∷ more) (inr all) = whole (ds ++ m ∷ more) (all_then (m ∷ more) all)

    -- the first ones are given
    first_ones : GivesFirst (then_last left last) ds (then_last rest last)
    first_ones = record { begins = begins_then; are_all = all_then }

  none_left : (more : List DeliveryValue) → left.are_all [] → BeginWith (listed []) more → BeginWith (then_last left last) (last ∷ more)
  none_left [] all begins = inr ([], all, refl)
  none_left (m ∷ more) all begins = absurd (let is = begins.1 in cc)

  -- the last one is given
  last_one : (rest : Supply) → GivesOne left rest None → GivesFirst (then_last left last) (last ∷ []) (listed [])
  last_one rest (first, all) = record {
    begins = λ more begins. none_left more (first.are_all [] all) begins;
    are_all = λ more is. ([], first.are_all [] all, ap (λ l. last ∷ l) (sym is));
  }

pub gives_first : (is_given : Bool) (left rest : Supply) (last : DeliveryValue) (ds : List DeliveryValue) → is_given ≡ false → GivesFirst left ds rest → GivesFirst (unless_last is_given left last) ds (unless_last is_given rest last)
gives_first false left rest last ds is first = first_ones left last rest ds first
gives_first true left rest last ds is first = absurd (true≢false is)

pub gives_last : (is_given : Bool) (left rest : Supply) (last d : DeliveryValue) → is_given ≡ false → d ≡ last → GivesOne left rest None → GivesFirst (unless_last is_given left last) (d ∷ []) (unless_last true rest last)
gives_last false left rest last d is same none = subst (λ x. GivesFirst (then_last left last) (x ∷ []) (listed [])) (sym same) (last_one left last rest none)
gives_last true left rest last d is same none = absurd (true≢false is)

pub gives_none : (is_given : Bool) (left : Supply) (last : DeliveryValue) → is_given ≡ true → GivesOne (unless_last is_given left last) (unless_last is_given left last) None
gives_none true left last is = (record { begins = λ more begins. begins; are_all = λ more all. all }, refl)
gives_none false left last is = absurd (false≢true is)

-- an error gives none
pub gives_error : {E : Type 0} (is_given : Bool) (left rest : Supply) (last : DeliveryValue) (answer : Result (Option Delivery) E) → is_given ≡ false → IsErr answer → GivesFirst left [] rest
    → GivesNext (unless_last is_given left last) (unless_last is_given rest last) answer
gives_error is_given left rest last (Ok next) is error none = absurd (false≢true error)
gives_error is_given left rest last (Err cause) is error none = gives_first is_given left rest last [] is none
