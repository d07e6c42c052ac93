-- Runs of bytes of one kind.
use Rattle.std.proofs.Common.{◌≡◌, ℕ, zero, suc, ◌<◌, ◌≤◌, Bool, true, false, List, [], ◌∷◌, ◌++◌, length, take, drop, get_or, refl, ap, sym, subst, arith, rules}
use Rattle.columns.specs.Word.{Are, Ends}

-- A text is cut in one way at the end of a run.
pub one_cut : (kind : ℕ → Bool) (a b x y : List ℕ) → Are kind a → Are kind b → Ends kind x → Ends kind y → a ++ x ≡ b ++ y → (a ≡ b) × (x ≡ y)
one_cut kind [] [] x y p q end stop same = (refl, same)
one_cut kind [] (c ∷ b) x y p q end stop same =
    let found : Ends kind (c ∷ (b ++ y)) = subst (λ (text : List ℕ). Ends kind text) same end in
    absurd (grind (arith, found, q.0))
one_cut kind (c ∷ a) [] x y p q end stop same =
    let found : Ends kind (c ∷ (a ++ x)) = subst (λ (text : List ℕ). Ends kind text) (sym same) stop in
    absurd (grind (arith, found, p.0))
one_cut kind (c ∷ a) (d ∷ b) x y p q end stop same =
    let heads : c ≡ d = ap (λ text. get_or text 0 0) same in
    let tails : a ++ x ≡ b ++ y = ap (λ text. drop 1 text) same in
    let rest = one_cut kind a b x y p.1 q.1 end stop tails in
    ((λ i. heads i ∷ rest.0 i), rest.1)

pub are_front : (kind : ℕ → Bool) (text : List ℕ) (n : ℕ) → ((k : ℕ) → k < n → kind (get_or text k 0) ≡ true) → n ≤ length text → Are kind (take n text)
are_front kind [] n each within = search rules
are_front kind (b ∷ text) zero each within = tt
are_front kind (b ∷ text) (suc n) each within = (each 0 (omega arith), are_front kind text n (λ k below. each (suc k) (omega arith)) (omega arith))

pub ends_at : (kind : ℕ → Bool) (text : List ℕ) (n : ℕ) → n < length text → kind (get_or text n 0) ≡ false → Ends kind (drop n text)
ends_at kind [] n within end = absurd (omega arith)
ends_at kind (b ∷ text) zero within end = end
ends_at kind (b ∷ text) (suc n) within end = ends_at kind text n (omega arith) end

pub are_all : (kind : ℕ → Bool) (text : List ℕ) → ((k : ℕ) → k < length text → kind (get_or text k 0) ≡ true) → Are kind text
are_all kind [] each = tt
are_all kind (b ∷ text) each = (each 0 (omega arith), are_all kind text (λ k below. each (suc k) (omega arith)))
