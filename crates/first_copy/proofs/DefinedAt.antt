-- Items at one place of two lists that agree.
use Rattle.std.proofs.Common.{◌≡◌, ℕ, ◌<◌, List, length, map, Some, slice_get, get_or, refl, ap, sym, ◌∙◌, arith}
use Rattle.std.proofs.lemmas.List.{length-map}
use Rattle.std.proofs.lemmas.Option.{slice_get-map, slice_get_within, slice_get_read}
use Rattle.std.specs.Option.{option_map}

pub same_item : {A B : Type 0} (f : A → List ℕ) (g : B → List ℕ) (xs : List A) (ys : List B) (place : ℕ) (x : A) (y : B) → map f xs ≡ map g ys → x ≡ get_or xs place x → slice_get ys place ≡ Some y → f x ≡ g y
same_item f g xs ys place x y same at found =
    let within : place < length xs = omega (arith, slice_get_within ys place y found, ap length same, length-map xs f, length-map ys g) in
    let read = slice_get_read xs (length xs) place x refl within at in
    let both : Some (f x) ≡ Some (g y) =
    (λ i. option_map f (sym read i)) ∙ sym (slice_get-map f xs place) ∙ (λ i. slice_get (same i) place) ∙ slice_get-map g ys place ∙ (λ i. option_map g (found i)) in
    cc
