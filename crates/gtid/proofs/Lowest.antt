-- The first groups of two lists.
use Rattle.gtid.proofs.Names.{◌≡◌, ℕ, ◌<◌, inl, inr, true, List, [], ◌∷◌, length, refl, ap, sym, ◌∙◌, arith, slice_index_or, take, ◌-◌, Ordering, Less, Equal, Greater, nat_cmp, ordering_reverse, slice_cmp, nat_list_cmp_total, bytes_eq, bytes_eq-Decides, take_all, IsNext, IsNoHigher, Group, Interval}
use Rattle.std.proofs.Common.{drop}
use Rattle.std.specs.FinSet as set
use Rattle.gtid.specs.Group.{Splits}

pub next_at : (groups : List Group) (g : Group) → 0 < length groups → g ≡ slice_index_or groups 0 g → IsNext g.source groups
next_at [] g some is = absurd (omega (arith, some))
next_at (first ∷ groups) g some is = ap (λ x. x.source) (sym is)

-- a source that is no higher than the first group's
pub no_higher : (o : Ordering) (source : List ℕ) (groups : List Group) (g : Group) → o ≡ slice_cmp nat_cmp source g.source → (o ≡ Greater → ⊥) → 0 < length groups → g ≡ slice_index_or groups 0 g →
    IsNoHigher source groups
no_higher o source [] g cmp low some is = absurd (omega (arith, some))
no_higher Less source (first ∷ groups) g cmp low some is = inl (ap (λ x. slice_cmp nat_cmp source x.source) (sym is) ∙ sym cmp)
no_higher Equal source (first ∷ groups) g cmp low some is =
    inr (ap (λ x. x.source) (sym is) ∙ sym (set.slice_cmp-IsAntisymmetric set.nat_cmp-IsAntisymmetric source g.source (sym cmp)))
no_higher Greater source (first ∷ groups) g cmp low some is = absurd (low refl)

-- as above, for two that compare the other way round
pub lower : (o : Ordering) (a b : List ℕ) → o ≡ slice_cmp nat_cmp a b → o ≡ Greater → slice_cmp nat_cmp b a ≡ Less
lower o a b cmp greater = nat_list_cmp_total.antisymm b a ∙ ap ordering_reverse (sym cmp ∙ greater)

-- the first group, where it is the source's
pub splits_first : (groups : List Group) (source : List ℕ) (g : Group) (intervals : List Interval) → 0 < length groups → g ≡ slice_index_or groups 0 g → bytes_eq g.source source ≡ true →
    intervals ≡ g.intervals.items → Splits groups source intervals (take (length groups - 1) (drop 1 groups))
splits_first [] source g intervals some is same of = absurd (omega (arith, some))
splits_first (first ∷ groups) source g intervals some is same of =
    inl (ap (λ x. x.source) (sym is) ∙ (bytes_eq-Decides g.source source).0 same, of ∙ ap (λ x. x.intervals.items) is, take_all (length (first ∷ groups) - 1) groups (omega arith))
