-- The names at the front of a line.
use Rattle.columns.proofs.Names.{◌≡◌, ℕ, List, ◌∷◌, ◌++◌, sym, ◌∙◌, append_assoc, Client}
use Rattle.std.proofs.lemmas.List.{append_cancel_left}
use Rattle.columns.specs.Escapes.{escape}
use Rattle.columns.specs.Lines.{field}

-- the field of a name begins with what stands for its first byte
pub field_more : (b : ℕ) (bytes rest : List ℕ) → field (b ∷ bytes) 9 ++ rest ≡ escape Client b ++ (field bytes 9 ++ rest)
field_more b bytes rest = simp append_assoc

-- what follows the first of two parts begins with the second
pub behind_first : (a b line rest more : List ℕ) → line ≡ a ++ rest → line ≡ (a ++ b) ++ more → rest ≡ b ++ more
behind_first a b line rest more one both = append_cancel_left a rest (b ++ more) (sym one ∙ both ∙ append_assoc a b more)
