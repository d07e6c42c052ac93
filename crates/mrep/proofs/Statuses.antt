-- The first status that is not 0.
use Rattle.std.proofs.Common.{◌≡◌, ℕ, ◌==◌, ◌<◌, ◌+◌, Bool, false, true, if◌then◌else◌, List, ◌∷◌, length, drop, get_or, refl, sym, ap, ◌∙◌, subst}
use Rattle.std.proofs.lemmas.Bool.{ne_eqb}
use Rattle.std.proofs.lemmas.List.{at_drop_more}
use Rattle.replica.specs.declared.session.end.Ended.{Ended}
use Rattle.mrep.specs.Reason.{status_of, first_status}

if_no : (b : Bool) (x y : ℕ) → b ≡ false → (if b then x else y) ≡ y
if_no b x y other = subst (λ (b : Bool). (if b then x else y) ≡ y) (sym other) refl

if_so : (b : Bool) (x y : ℕ) → b ≡ true → (if b then x else y) ≡ x
if_so b x y so = subst (λ (b : Bool). (if b then x else y) ≡ x) (sym so) refl

-- the ends from here on begin with this one
from_here : (ends : List Ended) (i : ℕ) (end : Ended) → i < length ends → end ≡ get_or ends i end → first_status (drop i ends) ≡ first_status (end ∷ drop (i + 1) ends)
from_here ends i end within is = at_drop_more first_status ends i end within ∙ ap (λ (e : Ended). first_status (e ∷ drop (i + 1) ends)) (sym is)

-- whose status is not 0
pub first_met : (ends : List Ended) (i : ℕ) (end : Ended) (s : ℕ) → i < length ends → end ≡ get_or ends i end → first_status ends ≡ first_status (drop i ends)
    → s ≡ status_of end.reason → (s ≡ 0 → ⊥) → s ≡ first_status ends
unfolding first_status
first_met ends i end s within is so_far status other =
    let test : (status_of end.reason == 0) ≡ false = subst (λ (k : ℕ). (k == 0) ≡ false) status (ne_eqb s 0 other) in
    let here : first_status (end ∷ drop (i + 1) ends) ≡ status_of end.reason = if_no (status_of end.reason == 0) (first_status (drop (i + 1) ends)) (status_of end.reason) test in
    status ∙ sym here ∙ sym (from_here ends i end within is) ∙ sym so_far

-- or is 0
pub first_passed : (ends : List Ended) (i : ℕ) (end : Ended) (s : ℕ) → i < length ends → end ≡ get_or ends i end → first_status ends ≡ first_status (drop i ends)
    → s ≡ status_of end.reason → s ≡ 0 → first_status ends ≡ first_status (drop (i + 1) ends)
unfolding first_status
first_passed ends i end s within is so_far status zero =
    let test : (status_of end.reason == 0) ≡ true = subst (λ (k : ℕ). (k == 0) ≡ true) (sym zero ∙ status) refl in
    let here : first_status (end ∷ drop (i + 1) ends) ≡ first_status (drop (i + 1) ends) = if_so (status_of end.reason == 0) (first_status (drop (i + 1) ends)) (status_of end.reason) test in
    so_far ∙ from_here ends i end within is ∙ here
