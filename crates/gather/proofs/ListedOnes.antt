-- The transactions of a list, given one at a time.
use Rattle.gather.proofs.Names.{◌≡◌, List, [], ◌∷◌, ◌++◌, ap, sym, subst, ◌∙◌, map, DeliveryValue}
use Rattle.std.proofs.Common.{IfNone}
use Rattle.std.specs.Prelude.{Option, Some, None}
use Rattle.std.specs.Option.{option_to_list}
use Rattle.gather.specs.View.{delivery_value}
use Rattle.gather.specs.declared.transaction.Delivery.{Delivery}
use Rattle.gather.specs.Given.{listed, BeginWith, GivesOne}

listed_begins : (old new : List Delivery) (d : Delivery) → map delivery_value old ≡ delivery_value d ∷ map delivery_value new
    → (more : List DeliveryValue) → BeginWith (listed (map delivery_value new)) more → BeginWith (listed (map delivery_value old)) (delivery_value d ∷ more)
listed_begins old new d same [] begin = (map delivery_value new, same)
listed_begins old new d same (e ∷ more) begin = (begin.0, same ∙ ap (λ (ds : List DeliveryValue). delivery_value d ∷ ds) begin.1)

-- the first one of a list, or none where it is empty
pub pops : (old new : List Delivery) (first : Option Delivery) → old ≡ option_to_list first ++ new → IfNone first (new ≡ []) → GivesOne (listed (map delivery_value old)) (listed (map delivery_value new)) first
pops old new (Some d) is none =
    let same : map delivery_value old ≡ delivery_value d ∷ map delivery_value new = ap (λ (ds : List Delivery). map delivery_value ds) is in
    record {
      begins = λ more begin. listed_begins old new d same more begin;
      are_all = λ more all. same ∙ ap (λ (ds : List DeliveryValue). delivery_value d ∷ ds) all;
    }
pops old new None is none = (
  record {
    begins = λ more begin. subst (λ (ds : List Delivery). BeginWith (listed (map delivery_value ds)) more) (sym is) begin;
    are_all = λ more all. ap (λ (ds : List Delivery). map delivery_value ds) is ∙ all;
  },
  ap (λ (ds : List Delivery). map delivery_value ds) none,
)
