-- Bytes compared with two parts that follow each other.
use Rattle.binlog.proofs.Names.{◌≡◌, ℕ, ◌<◌, List, [], ◌∷◌, ◌++◌, length, refl, sym, ap, ◌∙◌, arith}
use Rattle.std.specs.Ordering.{nat_cmp, ordering_then}
use Rattle.std.specs.declared.cmp.Ordering.{Ordering}
use Rattle.std.specs.declared.cmp.Ordering.TheVariants.{Less, Equal, Greater}
use Rattle.std.specs.Cmp.Lexicographic.{slice_cmp}

-- fewer bytes than the first part are compared with it alone
pub compares_short : (bytes first second : List ℕ) → length bytes < length first → slice_cmp nat_cmp bytes first ≡ slice_cmp nat_cmp bytes (first ++ second)
compares_short bytes [] second short = absurd (omega (arith, short))
compares_short [] (y ∷ first) second short = refl
compares_short (x ∷ bytes) (y ∷ first) second short = ap (ordering_then (nat_cmp x y)) (compares_short bytes first second (omega (arith, short)))

then_then : (a b c : Ordering) → ordering_then (ordering_then a b) c ≡ ordering_then a (ordering_then b c)
then_then Less b c = refl
then_then Equal b c = refl
then_then Greater b c = refl

-- as many bytes as the first part are compared with it, and then the others with the second
pub compares_joined : (front back first second : List ℕ) → length front ≡ length first → slice_cmp nat_cmp (front ++ back) (first ++ second) ≡ ordering_then (slice_cmp nat_cmp front first) (slice_cmp nat_cmp back second)
compares_joined [] back [] second same = refl
compares_joined [] back (y ∷ first) second same = absurd (omega (arith, same))
compares_joined (x ∷ front) back [] second same = absurd (omega (arith, same))
compares_joined (x ∷ front) back (y ∷ first) second same =
    ap (ordering_then (nat_cmp x y)) (compares_joined front back first second (omega (arith, same))) ∙ sym (then_then (nat_cmp x y) (slice_cmp nat_cmp front first) (slice_cmp nat_cmp back second))

-- what is decided by the first part stays so
pub then_unlike : (o after : Ordering) → (o ≡ Equal → ⊥) → ordering_then o after ≡ o
then_unlike Less after unlike = refl
then_unlike Equal after unlike = absurd (unlike refl)
then_unlike Greater after unlike = refl
