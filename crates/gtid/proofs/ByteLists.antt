-- The bytes of items that are written one after another: those of the items that are left.
use Rattle.std.proofs.Common.{◌≡◌, ℕ, ◌+◌, ◌<◌, ◌≤◌, List, ◌++◌, map, flat_map, [], ◌∷◌, length, get_or, drop, sym, ap, ◌∙◌}
use Rattle.std.proofs.Math.ListN.{drop_of_length-le}
use Rattle.std.proofs.lemmas.List.{drop_more}

abbrev pub bytes_from : {X Y : Type 0} (bytes : Y → List ℕ) (of : X → Y) (items : List X) → ℕ → List ℕ
bytes_from bytes of items at = flat_map bytes (map of (drop at items))

pub item_next : {X Y : Type 0} (bytes : Y → List ℕ) (of : X → Y) (items : List X) (at : ℕ) (x : X) → at < length items → x ≡ get_or items at x → bytes_from bytes of items at ≡ bytes (of x) ++ bytes_from bytes of items (at + 1)
item_next bytes of items at x short is = ap (λ xs. flat_map bytes (map of xs)) (drop_more items at x short ∙ ap (λ y. y ∷ drop (at + 1) items) (sym is))

pub items_end : {X Y : Type 0} (bytes : Y → List ℕ) (of : X → Y) (items : List X) (at : ℕ) → length items ≤ at → bytes_from bytes of items at ≡ []
items_end bytes of items at past = ap (λ xs. flat_map bytes (map of xs)) (drop_of_length-le items past)
