-- Messages cut into parts.
use Rattle.greet.proofs.Names.{◌≡◌, ℕ, true, false, ◌==◌, List, [], ◌∷◌, ◌++◌, refl, ◌∙◌, append_assoc, ne_eqb, IsText, before_zero, after_zero}
use Rattle.std.proofs.Math.Bool.{or-true}
use Rattle.std.proofs.lemmas.Bool.{eqb-false, or_parts}
use Rattle.wire.proofs.Cuts.{right_7}
use Rattle.greet.specs.Refusal.{has_zero}

-- ---- Texts that end with a zero byte.

pub has_zero-text : (text rest : List ℕ) → has_zero (text ++ 0 ∷ rest) ≡ true
has_zero-text [] rest = refl
has_zero-text (b ∷ text) rest = rw (has_zero-text text rest) (or-true (b == 0))

pub before_zero-text : (text rest : List ℕ) → IsText text → before_zero (text ++ 0 ∷ rest) ≡ text
before_zero-text [] rest is = refl
before_zero-text (b ∷ text) rest is = rw (ne_eqb b 0 is.0, before_zero-text text rest is.1) refl

pub after_zero-text : (text rest : List ℕ) → IsText text → after_zero (text ++ 0 ∷ rest) ≡ rest
after_zero-text [] rest is = refl
after_zero-text (b ∷ text) rest is = rw (ne_eqb b 0 is.0) (after_zero-text text rest is.1)

pub IsText-by : (text : List ℕ) → has_zero text ≡ false → IsText text
IsText-by [] is = tt
IsText-by (b ∷ text) is = let e = or_parts (b == 0) (has_zero text) is in (λ zero_byte. eqb-false b 0 e.0 zero_byte, IsText-by text e.1)

pub has_zero-none : (text : List ℕ) → IsText text → has_zero text ≡ false
has_zero-none [] is = refl
has_zero-none (b ∷ text) is = rw (ne_eqb b 0 is.0) (has_zero-none text is.1)

pub after_zero-none : (text : List ℕ) → IsText text → after_zero text ≡ []
after_zero-none [] is = refl
after_zero-none (b ∷ text) is = rw (ne_eqb b 0 is.0) (after_zero-none text is.1)

-- ---- Parts joined from the left and from the right.

pub right_9 : (a b c d e f g h i : List ℕ) → a ++ b ++ c ++ d ++ e ++ f ++ g ++ h ++ i ≡ a ++ (b ++ (c ++ (d ++ (e ++ (f ++ (g ++ (h ++ i)))))))
right_9 a b c d e f g h i = append_assoc (a ++ b ++ c ++ d ++ e ++ f ++ g) h i ∙ append_assoc (a ++ b ++ c ++ d ++ e ++ f) g (h ++ i) ∙ right_7 a b c d e f (g ++ (h ++ i))

pub right_10 : (a b c d e f g h i j : List ℕ) → a ++ b ++ c ++ d ++ e ++ f ++ g ++ h ++ i ++ j ≡ a ++ (b ++ (c ++ (d ++ (e ++ (f ++ (g ++ (h ++ (i ++ j))))))))
right_10 a b c d e f g h i j = append_assoc (a ++ b ++ c ++ d ++ e ++ f ++ g ++ h) i j ∙ right_9 a b c d e f g h (i ++ j)
