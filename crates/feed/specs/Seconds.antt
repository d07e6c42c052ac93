-- The seconds of the changes of a transaction, by spans: the place of the first change of each, and its seconds.
use Rattle.std.specs.Prelude.{ℕ, List, [], ◌∷◌, Option, None, if◌then◌else◌, nat_le, ◌≤◌}

-- the seconds of the change at this place, where those before the spans are these: those of the last span that begins at
-- the place or before it
abbrev pub seconds_after : Option ℕ → List (ℕ × Option ℕ) → ℕ → Option ℕ
seconds_after known [] place = known
seconds_after known (span ∷ rest) place = seconds_after (if nat_le span.0 place then span.1 else known) rest place

-- the seconds of the change at this place
abbrev pub seconds_at : List (ℕ × Option ℕ) → ℕ → Option ℕ
seconds_at spans place = seconds_after None spans place

-- Spans that begin at this place or later, each at the place of the one before it or later.
abbrev pub BeginAt : ℕ → List (ℕ × Option ℕ) → Type 0
BeginAt place [] = Unit {0}
BeginAt place (span ∷ rest) = (place ≤ span.0) × BeginAt span.0 rest
