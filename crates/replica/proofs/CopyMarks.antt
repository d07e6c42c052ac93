-- The marks of first copies in an executed set.
use Rattle.replica.proofs.Names.{◌≡◌, inl, inr, ℕ, Bool, true, false, ◌||◌, ◌&&◌, not, List, [], ◌∷◌, Option, Some, None, refl, sym, ap, subst, ◌∙◌, replicate, false≢true, false_from_ne_true, or_cases, or_right, bytes_eq-Decides, Id, Ids, id_cmp_total}
use Rattle.std.specs.Prelude.{IfSome, IfNone}
use Rattle.std.specs.FinSet as set
use Rattle.std.specs.List.{list_all, list_any}
use Rattle.std.specs.Str.{bytes_eq}
use Rattle.std.proofs.lemmas.Bool.{and_parts, and_from}
use Rattle.gtid.specs.declared.span.Span.{Span}
use Rattle.gtid.specs.Span.{is_in, IsLeastList}
use Rattle.replica.specs.Marks.{is_of_copy, begun_number, ended_number, is_unfinished, NoneUnfinished, NoOtherUnfinished, is_left_open}

-- what an answer says, or the lack of one, says something else
pub some_then : {A : Type 0} (found : Option A) (P Q : A → Type 0) → ((x : A) → P x → Q x) → IfSome found P → IfSome found Q
some_then None P Q f is = tt
some_then (Some x) P Q f is = f x is

pub none_then : {A : Type 0} (found : Option A) (X Y : Type 0) → (X → Y) → IfNone found X → IfNone found Y
none_then None X Y f is = f is
none_then (Some x) X Y f is = tt

-- what is said of the source of each span is said of the source of each GTID
pub of_sources : (p : List ℕ → Bool) (q : Id) (spans : List Span) → list_all (λ (s : Span). p s.source) spans ≡ true → list_any (is_in q) spans ≡ true → p q.0 ≡ true
of_sources p q [] all there = absurd (false≢true there)
of_sources p q (s ∷ spans) all there =
    let parts = and_parts _ _ all in
    elim (or_cases (is_in q s) (list_any (is_in q) spans) there) [
      | inl here ↦ subst (λ source. p source ≡ true) (sym ((bytes_eq-Decides q.0 s.source).0 (and_parts _ _ here).0)) parts.0
      | inr further ↦ of_sources p q spans parts.1 further
    ]

or_same : (b : Bool) → (b || b) ≡ b
or_same true = refl
or_same false = refl

or_turned : (a b : Bool) → (a || b) ≡ (b || a)
or_turned true true = refl
or_turned true false = refl
or_turned false true = refl
or_turned false false = refl

not_left : (a b : Bool) → not (a || b) ≡ true → not a ≡ true
not_left true b is = is
not_left false b is = refl

by_other : (o e : Bool) → o ≡ true → not (o && not e) ≡ true → e ≡ true
by_other true true is h = refl
by_other true false is h = absurd (false≢true h)
by_other false e is h = absurd (false≢true is)

-- with one set
pub is_same : (executed : Ids) (source : List ℕ) → is_left_open executed executed source ≡ is_unfinished executed source
is_same executed source = ap (λ (b : Bool). is_of_copy source && (set.contains executed (source, begun_number) && not b)) (or_same (set.contains executed (source, ended_number)))

-- The source was looked at, since the set has its mark.
looked_at : (ids more : Ids) (but : List ℕ) (spans : List Span) → IsLeastList spans ids → list_all (λ (s : Span). not (is_left_open ids more s.source && not (bytes_eq s.source but))) spans ≡ true
    → (source : List ℕ) → is_left_open ids more source ≡ true → source ≡ but
looked_at ids more but spans least all source is =
    (bytes_eq-Decides source but).0 (by_other (is_left_open ids more source) (bytes_eq source but) is
    (of_sources (λ (s : List ℕ). not (is_left_open ids more s && not (bytes_eq s but))) (source, begun_number) spans all
    (sym (least.covers (source, begun_number)) ∙ (and_parts _ _ (and_parts _ _ is).1).0)))

no_copy : (source : List ℕ) → is_of_copy source ≡ true → source ≡ replicate 16 0 → ⊥
no_copy source is same = false≢true (subst (λ s. is_of_copy s ≡ true) same is)

pub none_unfinished : (executed : Ids) (spans : List Span) → IsLeastList spans executed → list_all (λ (s : Span). not (is_left_open executed executed s.source && not (bytes_eq s.source (replicate 16 0)))) spans ≡ true → NoneUnfinished executed
none_unfinished executed spans least all = λ source. false_from_ne_true _ (λ is.
    no_copy source (and_parts _ _ is).0 (looked_at executed executed (replicate 16 0) spans least all source (is_same executed source ∙ is)))

pub no_other : (executed : Ids) (but : List ℕ) (spans : List Span) → IsLeastList spans executed → list_all (λ (s : Span). not (is_left_open executed executed s.source && not (bytes_eq s.source but))) spans ≡ true → NoOtherUnfinished executed but
no_other executed but spans least all = λ other is. looked_at executed executed but spans least all other (is_same executed other ∙ is)

-- What one set says to have begun, and neither to have ended, is unfinished in both.
pub unfinished_in : (executed ids : Ids) (source : List ℕ) → is_left_open ids executed source ≡ true → is_unfinished (set.union executed ids) source ≡ true
unfinished_in executed ids source is =
    let parts = and_parts _ _ is in
    let marks = and_parts _ _ parts.1 in
    and_from _ _ parts.0 (and_from _ _
    (set.contains-union id_cmp_total executed ids (source, begun_number) ∙ or_right _ _ marks.0)
    (ap not (set.contains-union id_cmp_total executed ids (source, ended_number) ∙ or_turned (set.contains executed (source, ended_number)) (set.contains ids (source, ended_number))) ∙ marks.1))

pub none_with : (executed ids : Ids) (spans : List Span) → IsLeastList spans ids → list_all (λ (s : Span). not (is_left_open ids executed s.source && not (bytes_eq s.source (replicate 16 0)))) spans ≡ true
    → NoneUnfinished executed → NoneUnfinished (set.union executed ids)
none_with executed ids spans least all none = λ source. false_from_ne_true _ (λ is.
    let parts = and_parts _ _ is in
    let marks = and_parts _ _ parts.1 in
    let unended : not (set.contains executed (source, ended_number) || set.contains ids (source, ended_number)) ≡ true = ap not (sym (set.contains-union id_cmp_total executed ids (source, ended_number))) ∙ marks.1 in
    elim (or_cases (set.contains executed (source, begun_number)) (set.contains ids (source, begun_number)) (sym (set.contains-union id_cmp_total executed ids (source, begun_number)) ∙ marks.0)) [
      | inl here ↦ false≢true (sym (none source) ∙ and_from _ _ parts.0 (and_from _ _ here (not_left _ _ unended)))
      | inr there ↦ no_copy source parts.0 (looked_at ids executed (replicate 16 0) spans least all source
          (and_from _ _ parts.0 (and_from _ _ there (ap not (or_turned (set.contains ids (source, ended_number)) (set.contains executed (source, ended_number))) ∙ unended))))
    ])
