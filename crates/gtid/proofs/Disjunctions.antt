-- Laws of disjunctions.
use Rattle.std.proofs.Common.{◌≡◌, Bool, true, false, ◌&&◌, ◌||◌, refl}

pub or_swap : (a b c : Bool) → (a || (b || c)) ≡ (b || (a || c))
or_swap true true c = refl
or_swap true false c = refl
or_swap false b c = refl

pub distribute : (e x y rest : Bool) → ((e && (x || y)) || rest) ≡ ((e && x) || ((e && y) || rest))
distribute true true y rest = refl
distribute true false y rest = refl
distribute false x y rest = refl
