use Rattle.std.proofs.Common.{◌≡◌, ℕ, List, [], ◌∷◌, length, refl, sym, ap, ◌∙◌, arith, Ok}
use Rattle.hex.specs.Hex.{decode_of, decode_pairs}
use Rattle.columns.proofs.field_bytes.read_hex_field.Goals as goal

no_bytes : (text : List ℕ) → length text ≡ 0 → decode_of text ≡ Ok []
unfolding decode_pairs
no_bytes [] none = refl
no_bytes (b ∷ text) none = absurd (omega (arith, none))

pub returns-then-field-eq0-clause-found : goal.returns-then-field-eq0-clause-found
returns-then-field-eq0-clause-found c = no_bytes c.args.field.now (omega arith) ∙ ap (λ (xs : List ℕ). Ok xs) (sym c.new.ensures.items)
