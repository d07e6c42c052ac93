-- Private: decimal digits of a text, cut at the point.
use Rattle.std.specs.Prelude.{ℕ, ◌-◌, ◌==◌, if◌then◌else◌, List, [], ◌∷◌, map}

-- without zeros in front
abbrev pub without_zeros : List ℕ → List ℕ
without_zeros [] = []
without_zeros (b ∷ text) = if b == 48 then without_zeros text else (b ∷ text)

-- the digits that the bytes of a text are
abbrev pub digit_values : List ℕ → List ℕ
digit_values text = map (λ b. b - 48) text
