-- Lists of one set.
use Rattle.binlog.proofs.Names.{◌≡◌, inl, inr, ℕ, zero, suc, ◌+◌, ◌<◌, true, ◌||◌, List, [], ◌∷◌, length, take, arith, ap, sym, subst, ◌∙◌, false≢true, and_parts, and_from, bytes_eq-Decides, Name, name_cmp, is_named_in, AreAmong, name_list}
use Rattle.std.proofs.Common.{Vec, slice_index_or}
use Rattle.std.specs.FinSet as set
use Rattle.std.specs.Cmp.{both_ways}
use Rattle.std.proofs.lemmas.Bool.{or_cases, or_right}
use Rattle.binlog.proofs.TableSets.{name_cmp_total, name_cmp-same, listed, itself}

-- what is listed among the names is listed there
found : (names of : List Name) → AreAmong names of → (q : Name) → is_named_in q names ≡ true → is_named_in q of ≡ true
found [] of all q h = absurd (false≢true h)
found (n ∷ names) of all q h = elim (or_cases _ (is_named_in q names) h) [
  | inl this ↦ let parts = and_parts _ _ this in
      let same : n ≡ q = λ i. ((bytes_eq-Decides n.0 q.0).0 parts.0 i, (bytes_eq-Decides n.1 q.1).0 parts.1 i) in subst (λ x. is_named_in x of ≡ true) same all.0
  | inr more ↦ found names of all.1 q more
]

among : (names of : List Name) → ((q : Name) → is_named_in q names ≡ true → is_named_in q of ≡ true) → AreAmong names of
among [] of h = tt
among (n ∷ names) of h = (h n (ap (λ b. b || is_named_in n names) (and_from _ _ (itself n.0) (itself n.1))), among names of (λ q l. h q (or_right _ _ l)))

pub one_set : (a b : List Name) → AreAmong a b → AreAmong b a → set.from_list {R = name_cmp} a ≡ set.from_list b
one_set a b there back = set.same_set name_cmp_total name_cmp-same (set.from_list a) (set.from_list b) (λ q. listed a q ∙ both_ways _ _ (found a b there q) (found b a back q) ∙ sym (listed b q))

pub of_one_set : (a b : List Name) → set.from_list {R = name_cmp} a ≡ set.from_list b → AreAmong a b
of_one_set a b same = among a b (λ q l. sym (listed b q) ∙ ap (λ s. set.contains s q) (sym same) ∙ listed a q ∙ l)

module _ {A : Type 0} (of : List Name) where
  -- one more of them
  pub among_more : (pairs : List (Vec ℕ A × Vec ℕ A)) (k : ℕ) (x : Vec ℕ A × Vec ℕ A) → k < length pairs → x ≡ slice_index_or pairs k x → AreAmong (name_list (take k pairs)) of
      → is_named_in (x.0.items, x.1.items) of ≡ true → AreAmong (name_list (take (suc k) pairs)) of
  among_more [] k x short at before this = absurd (omega (arith, short))
  among_more (p ∷ pairs) zero x short at before this = (subst (λ (y : Vec ℕ A × Vec ℕ A). is_named_in (y.0.items, y.1.items) of ≡ true) at this, tt)
  among_more (p ∷ pairs) (suc k) x short at before this = (before.0, among_more pairs k x (omega (arith, short)) at before.1 this)

  -- any of them
  pub among_at : (pairs : List (Vec ℕ A × Vec ℕ A)) (k : ℕ) (x : Vec ℕ A × Vec ℕ A) → k < length pairs → x ≡ slice_index_or pairs k x → AreAmong (name_list pairs) of → is_named_in (x.0.items, x.1.items) of ≡ true
  among_at [] k x short at all = absurd (omega (arith, short))
  among_at (p ∷ pairs) zero x short at all = subst (λ (y : Vec ℕ A × Vec ℕ A). is_named_in (y.0.items, y.1.items) of ≡ true) (sym at) all.0
  among_at (p ∷ pairs) (suc k) x short at all = among_at pairs k x (omega (arith, short)) at all.1

pub one_on : (n : ℕ) → suc n ≡ n + 1
one_on n = omega arith
