-- Parts that are appended one after the other.
use Rattle.std.proofs.Common.{ℕ, zero, suc, ◌+◌, ◌<◌, ◌≤◌, List, [], ◌∷◌, length, get_or, take, flat_map, arith}
use Rattle.std.proofs.lemmas.List.{length-append}

-- the parts before one of them, and that one, are no longer than all
pub parts_fit : {X : Type 0} (f : X → List ℕ) (xs : List X) (i : ℕ) (d : X) → i < length xs → length (flat_map f (take i xs)) + length (f (get_or xs i d)) ≤ length (flat_map f xs)
parts_fit f [] i d lt = absurd (omega (arith, lt))
parts_fit f (x ∷ xs) zero d lt = omega (arith, length-append (f x) (flat_map f xs))
parts_fit f (x ∷ xs) (suc i) d lt =
    let h = parts_fit f xs i d (omega (arith, lt)) in
    omega (arith, h, length-append (f x) (flat_map f (take i xs)), length-append (f x) (flat_map f xs))
