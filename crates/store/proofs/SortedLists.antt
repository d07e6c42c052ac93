-- Sorted lists, item by item.
use Rattle.store.proofs.Names.{◌≡◌, ◌+◌, suc, List, [], ◌∷◌, false, subst, arith, is_lt, Ordering}
use Rattle.std.specs.Prelude.{slice_index_or}
use Rattle.std.specs.List.Sorted.{IsSortedBy}
use Rattle.store.specs.Load.{Ascends}

pub ascends_of : {X : Type 0} (cmp : X → X → Ordering) (xs : List X) → IsSortedBy (λ x y. is_lt (cmp x y)) xs → Ascends cmp xs
ascends_of cmp [] s = tt
ascends_of cmp (a ∷ []) s = tt
ascends_of cmp (a ∷ b ∷ xs) s = (
  s 0 a (omega arith) (omega arith),
  ascends_of cmp (b ∷ xs) (λ k d low more.
      let e : suc k + 1 ≡ suc (k + 1) = omega arith in
      subst (λ m. is_lt (cmp (slice_index_or (a ∷ b ∷ xs) m d) (slice_index_or (b ∷ xs) k d)) ≡ false) e (s (suc k) d (omega arith) (omega (arith, more)))),
)
