-- The loop over the changes.
use Rattle.store.proofs.Names.{◌≡◌, ◌+◌, ℕ, zero, suc, List, [], ◌∷◌, ◌++◌, take, Some, None, refl, sym, ap, subst, ◌∙◌, State, Names, AreDone, bag_of, count, held_rows, DoesAll, Refusal}
use Rattle.std.proofs.Common.{drop, add-one}
use Rattle.std.specs.List.{slice_get}
use Rattle.gather.specs.Transaction.{ChangeValue}
use Rattle.store.specs.State.{Bag}
use Rattle.store.specs.Changes.{IsDone}
use Rattle.store.specs.Inside.{Does}
use Rattle.store.proofs.Bags.{goes_after}

done_last : (names : Names) (changes : List ChangeValue) (change : ChangeValue) (old mid new : Bag) → AreDone names changes old mid → IsDone names change mid new → AreDone names (changes ++ change ∷ []) old new
done_last names [] change old mid new all last = (new, subst (λ b. IsDone names change b new) all last, refl)
done_last names (c ∷ changes) change old mid new all last = (all.0, all.1, done_last names changes change all.0 mid new all.2 last)

-- The change is the next one.
pub record IsNext (changes : List ChangeValue) (at : ℕ) (change : ChangeValue) (rest : List ChangeValue) : Type 0 where
  pub there : slice_get changes at ≡ Some change
  pub front : take (suc at) changes ≡ take at changes ++ change ∷ []
  pub left : drop (suc at) changes ≡ rest

is_next : (changes : List ChangeValue) (at : ℕ) (change : ChangeValue) (rest : List ChangeValue) → drop at changes ≡ change ∷ rest → IsNext changes at change rest
is_next changes zero change rest is = record { there = ap (λ cs. slice_get cs 0) is; front = ap (take 1) is; left = ap (drop 1) is }
is_next [] (suc at) change rest is = absurd cc
is_next (c ∷ changes) (suc at) change rest is = let next = is_next changes at change rest is in record { there = next.there; front = ap (λ cs. c ∷ cs) next.front; left = next.left }

module _ (changes left : List ChangeValue) (at : ℕ) (change : ChangeValue) (rest : List ChangeValue) (is : left ≡ drop at changes) (steps : left ≡ change ∷ rest) where
  next : IsNext changes at change rest
  next = is_next changes at change rest (sym is ∙ steps)

  pub left_is : rest ≡ drop (at + 1) changes
  left_is = rw add-one (sym next.left)

  module _ (names : Names) (old mid new : State) (way : DoesAll names (take at changes) old mid None) where
    pub goes_under_way : Does names change mid new None → DoesAll names (take (at + 1) changes) old new None
    goes_under_way one = rw add-one (
      goes_after old mid new way.0 one.0,
      subst (λ cs. AreDone names cs (bag_of (count (held_rows old.now))) (bag_of (count (held_rows new.now)))) (sym next.front)
          (done_last names (take at changes) change (bag_of (count (held_rows old.now))) (bag_of (count (held_rows mid.now))) (bag_of (count (held_rows new.now))) way.1 one.1),
    )

    pub is_refused : (why : Refusal) → Does names change mid new (Some why) → DoesAll names changes old new (Some (at, why))
    is_refused why one = record { change = change; mid = bag_of (count (held_rows mid.now)); there = next.there; before = way.1; admitted = one.0; refused = one.1 }
