-- Sets of GTIDs without others.
use Rattle.replica.proofs.Names.{◌≡◌, ◌≢◌, Bool, true, false, ◌||◌, ◌&&◌, not, inl, inr, refl, sym, ap, subst, ◌∙◌, Equal-is, eq_by_cmp, cases_Bool, false≢true, false_from_ne_true, Id, Ids, id_cmp, id_cmp_total, id_cmp-same}
use Rattle.std.specs.FinSet as set

not_or : (a b c : Bool) → (not b && (a && not c)) ≡ (a && not (b || c))
not_or true true c = refl
not_or true false c = refl
not_or false true c = refl
not_or false false c = refl

not_twice : (a b : Bool) → ((a && not b) && not b) ≡ (a && not b)
not_twice true true = refl
not_twice true false = refl
not_twice false b = refl

swapped : (a b : Bool) → (not b && a) ≡ (a && not (b || false))
swapped true true = refl
swapped true false = refl
swapped false true = refl
swapped false false = refl

-- without a set and then one more
pub removed : (w s : Ids) (q : Id) → set.remove (set.difference w s) q ≡ set.difference w (set.insert s q)
removed w s q = set.same_set id_cmp_total id_cmp-same (set.remove (set.difference w s) q) (set.difference w (set.insert s q)) (λ x.
    set.contains-remove id_cmp_total (set.difference w s) q x
    ∙ ap (λ b. not (eq_by_cmp id_cmp x q) && b) (set.contains-difference id_cmp_total w s x)
    ∙ not_or (set.contains w x) (eq_by_cmp id_cmp x q) (set.contains s x)
    ∙ ap (λ b. set.contains w x && not b) (sym (set.contains-insert id_cmp_total s q x))
    ∙ sym (set.contains-difference id_cmp_total w (set.insert s q) x))

-- without the same set twice
pub again : (w s : Ids) → set.difference (set.difference w s) s ≡ set.difference w s
again w s = set.same_set id_cmp_total id_cmp-same (set.difference (set.difference w s) s) (set.difference w s) (λ x.
    set.contains-difference id_cmp_total (set.difference w s) s x
    ∙ ap (λ b. b && not (set.contains s x)) (set.contains-difference id_cmp_total w s x)
    ∙ not_twice (set.contains w x) (set.contains s x)
    ∙ sym (set.contains-difference id_cmp_total w s x))

exchanged : (a b c : Bool) → (not b && (a && not c)) ≡ ((not b && a) && not c)
exchanged a true c = refl
exchanged a false c = refl

both_out : (a b c : Bool) → ((a && not b) && not c) ≡ ((a && not c) && not b)
both_out true true true = refl
both_out true true false = refl
both_out true false true = refl
both_out true false false = refl
both_out false b c = refl

-- without one and a set, in either order
pub removed_within : (w s : Ids) (q : Id) → set.remove (set.difference w s) q ≡ set.difference (set.remove w q) s
removed_within w s q = set.same_set id_cmp_total id_cmp-same (set.remove (set.difference w s) q) (set.difference (set.remove w q) s) (λ x.
    set.contains-remove id_cmp_total (set.difference w s) q x
    ∙ ap (λ b. not (eq_by_cmp id_cmp x q) && b) (set.contains-difference id_cmp_total w s x)
    ∙ exchanged (set.contains w x) (eq_by_cmp id_cmp x q) (set.contains s x)
    ∙ ap (λ b. b && not (set.contains s x)) (sym (set.contains-remove id_cmp_total w q x))
    ∙ sym (set.contains-difference id_cmp_total (set.remove w q) s x))

-- without two sets, in either order
pub either_first : (w s t : Ids) → set.difference (set.difference w s) t ≡ set.difference (set.difference w t) s
either_first w s t = set.same_set id_cmp_total id_cmp-same (set.difference (set.difference w s) t) (set.difference (set.difference w t) s) (λ x.
    set.contains-difference id_cmp_total (set.difference w s) t x
    ∙ ap (λ b. b && not (set.contains t x)) (set.contains-difference id_cmp_total w s x)
    ∙ both_out (set.contains w x) (set.contains s x) (set.contains t x)
    ∙ ap (λ b. b && not (set.contains s x)) (sym (set.contains-difference id_cmp_total w t x))
    ∙ sym (set.contains-difference id_cmp_total (set.difference w t) s x))

-- without a set of one
pub without_one : (w : Ids) (q : Id) → set.difference w (set.insert set.empty q) ≡ set.remove w q
without_one w q = set.same_set id_cmp_total id_cmp-same (set.difference w (set.insert set.empty q)) (set.remove w q) (λ x.
    set.contains-difference id_cmp_total w (set.insert set.empty q) x
    ∙ ap (λ b. set.contains w x && not b) (set.contains-insert id_cmp_total set.empty q x ∙ ap (λ b. eq_by_cmp id_cmp x q || b) (set.contains-empty id_cmp x))
    ∙ sym (swapped (set.contains w x) (eq_by_cmp id_cmp x q))
    ∙ sym (set.contains-remove id_cmp_total w q x))

absent : (w : Ids) (q x : Id) → set.contains w q ≡ false → set.contains w x ≡ (not (eq_by_cmp id_cmp x q) && set.contains w x)
absent w q x out = elim (cases_Bool (eq_by_cmp id_cmp x q)) [
  | inl same ↦ (
      let none : set.contains w x ≡ false = sym (set.contains_tied id_cmp_total w x q ((Equal-is (id_cmp x q)).0 same)) ∙ out in
      none ∙ sym (ap (λ b. not b && set.contains w x) same))
  | inr other ↦ sym (ap (λ b. not b && set.contains w x) other)
]

-- without one that is not in it
pub without_absent : (w : Ids) (q : Id) → set.contains w q ≡ false → w ≡ set.remove w q
without_absent w q out = set.same_set id_cmp_total id_cmp-same w (set.remove w q) (λ x. absent w q x out ∙ sym (set.contains-remove id_cmp_total w q x))

first_of : (a b : Bool) → (a && b) ≡ true → a ≡ true
first_of true b h = refl
first_of false b h = h

pub not_both : (a b : Bool) → (a ≡ true → b ≡ true) → (a && not b) ≡ true → ⊥
not_both true true h both = false≢true both
not_both true false h both = false≢true (h refl)
not_both false b h both = false≢true both

pub none_left : (w s : Ids) → set.is_subset w set.empty ≡ true → set.is_subset (set.difference w s) set.empty ≡ true
none_left w s none = set.contains-is_subset id_cmp_total (set.difference w s) set.empty (λ q there.
    set.is_subset-contains id_cmp_total w set.empty none q (first_of (set.contains w q) (not (set.contains s q)) (sym (set.contains-difference id_cmp_total w s q) ∙ there)))

pub none_removed : (w : Ids) (q : Id) → set.is_subset w set.empty ≡ true → set.is_subset (set.remove w q) set.empty ≡ true
none_removed w q none = subst (λ (s : Ids). set.is_subset s set.empty ≡ true) (without_one w q) (none_left w (set.insert set.empty q) none)

-- nothing is left of a set without another one, so it is within it
pub within : (w s : Ids) → set.is_subset (set.difference w s) set.empty ≡ true → set.is_subset w s ≡ true
within w s none = set.contains-is_subset id_cmp_total w s (λ q there. elim (cases_Bool (set.contains s q)) [
  | inl held ↦ held
  | inr out ↦ (
      let left : set.contains (set.difference w s) q ≡ true = set.contains-difference id_cmp_total w s q ∙ (λ i. there i && not (out i)) in
      absurd (false≢true (sym (set.contains-empty id_cmp q) ∙ set.is_subset-contains id_cmp_total (set.difference w s) set.empty none q left)))
])

pub empty_of : (w : Ids) → set.is_subset w set.empty ≡ true → w ≡ set.empty
empty_of w none = set.same_set id_cmp_total id_cmp-same w set.empty (λ q. elim (cases_Bool (set.contains w q)) [
  | inl there ↦ there ∙ sym (set.is_subset-contains id_cmp_total w set.empty none q there)
  | inr out ↦ out ∙ sym (set.contains-empty id_cmp q)
])

pub some_of : (w : Ids) → w ≢ set.empty → set.is_subset w set.empty ≡ false
some_of w some = false_from_ne_true (set.is_subset w set.empty) (λ none. some (empty_of w none))

pub some_with : (w : Ids) (q : Id) → set.contains w q ≡ true → set.is_subset w set.empty ≡ false
some_with w q there = false_from_ne_true (set.is_subset w set.empty) (λ none. false≢true (sym (set.contains-empty id_cmp q) ∙ set.is_subset-contains id_cmp_total w set.empty none q there))
