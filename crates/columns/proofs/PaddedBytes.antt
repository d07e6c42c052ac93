-- Bytes that end with others.
use Rattle.std.proofs.Common.{◌≡◌, ℕ, suc, List, ◌++◌, ◌∙◌, ap, append_assoc}
use Rattle.std.specs.List.{repeat}

-- what a padding is taken off of is padded once more
pub padded_more : (pad whole left front : List ℕ) → (times : ℕ) × (whole ≡ left ++ repeat times pad) → left ≡ front ++ pad → (times : ℕ) × (whole ≡ front ++ repeat times pad)
padded_more pad whole left front (times, is) e = (suc times, is ∙ (ap (λ l. l ++ repeat times pad) e ∙ append_assoc front pad (repeat times pad)))
