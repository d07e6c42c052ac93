-- Texts that a set has seen.
use Rattle.std.specs.Prelude.{◌≡◌, ℕ, List}
use Rattle.std.proofs.Common.{Bor}
use Rattle.std.specs.List.{list_any}
use Rattle.std.specs.Str.{bytes_eq}

-- A text is equal to a key exactly if it is equal to one of these.
abbrev pub HasSeen : List (Bor (List ℕ)) → List (List ℕ) → Type 0
HasSeen keys texts = (text : List ℕ) → list_any (λ key. bytes_eq text key.now) keys ≡ list_any (bytes_eq text) texts
