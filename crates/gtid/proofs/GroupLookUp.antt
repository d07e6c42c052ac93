-- A group found or missed, and the groups with one more number.
use Rattle.gtid.proofs.Names.{◌≡◌, ℕ, zero, suc, ◌<◌, Bool, true, false, nat_eq, ◌&&◌, ◌||◌, List, [], ◌∷◌, ◌++◌, length, take, slice_index_or, refl, ap, sym, subst, ◌∙◌, Result, Ok, Err, IfOk, arith, Less, nat_cmp, slice_cmp, bytes_eq, and_right, take-append-drop, list_any-append, bytes_eq-Decides, Id, has, Ascend, IsBelow, is_of, is_listed, IsGap, Group, or-false}
use Rattle.std.proofs.Common.{drop, slice_set, OnOk}
use Rattle.gtid.specs.Identifier.{is_one}
use Rattle.gtid.specs.Group.{sources}
use Rattle.gtid.proofs.Disjunctions.{or_swap, distribute}
use Rattle.gtid.proofs.GroupMerge.{ascend_first, ascend_cons, ascend_nil, none_below, none_above}
use Rattle.gtid.proofs.SourcePlace.{below_at}

-- ---- A group that is there, with one more number.

pub sources_set : (groups : List Group) (k : ℕ) (g : Group) → ((d : Group) → (slice_index_or groups k d).source ≡ g.source) → sources (slice_set groups k g) ≡ sources groups
sources_set [] zero g same = refl
sources_set [] (suc k) g same = refl
sources_set (f ∷ groups) zero g same = ap (λ s. s ∷ sources groups) (sym (same f))
sources_set (f ∷ groups) (suc k) g same = ap (λ ss. f.source ∷ ss) (sources_set groups k g same)

-- `extra` are the numbers that the source's group got
pub listed_set : (groups : List Group) (k : ℕ) (old new : Group) (s : List ℕ) (extra : ℕ → Bool) → k < length groups → ((d : Group) → slice_index_or groups k d ≡ old) → old.source ≡ s → new.source ≡ s →
    ((n : ℕ) → has new.intervals.items n ≡ (extra n || has old.intervals.items n)) → (q : Id) → is_listed q (slice_set groups k new) ≡ ((bytes_eq q.0 s && extra q.1) || is_listed q groups)
listed_set [] k old new s extra short at from to adds q = absurd (omega (arith, short))
listed_set (g ∷ groups) zero old new s extra short at from to adds q =
    (λ i. (bytes_eq q.0 (to i) && adds q.1 i) || is_listed q groups)
    ∙ distribute (bytes_eq q.0 s) (extra q.1) (has old.intervals.items q.1) (is_listed q groups)
    ∙ ap (λ b. (bytes_eq q.0 s && extra q.1) || (b || is_listed q groups)) (ap (λ t. bytes_eq q.0 t && has old.intervals.items q.1) (sym from) ∙ ap (is_of q) (sym (at g)))
listed_set (g ∷ groups) (suc k) old new s extra short at from to adds q =
    ap (λ b. is_of q g || b) (listed_set groups k old new s extra (omega (arith, short)) at from to adds q) ∙ or_swap (is_of q g) (bytes_eq q.0 s && extra q.1) (is_listed q groups)

-- the source's numbers are those of its group
pub listed_at : (groups : List Group) (k : ℕ) (g : Group) (s : List ℕ) → Ascend (sources groups) → k < length groups → ((d : Group) → slice_index_or groups k d ≡ g) → g.source ≡ s →
    (n : ℕ) → is_listed (s, n) groups ≡ has g.intervals.items n
listed_at [] k g s ascend short at same n = absurd (omega (arith, short))
listed_at (f ∷ groups) zero g s ascend short at same n =
    let one : f.source ≡ s = ap (λ x. x.source) (at f) ∙ same in
    let q : Id = (s, n) in
    (λ i. (eq_itself one i && has ((at f) i).intervals.items n) || none_above f.source groups q (ascend_first f.source (sources groups) ascend).0 (eq_itself one) i) ∙ or-false (has g.intervals.items n)
  where
    eq_itself : {t : List ℕ} → t ≡ s → bytes_eq s t ≡ true
    eq_itself e = (bytes_eq-Decides s _).1 (sym e)
listed_at (f ∷ groups) (suc k) g s ascend short at same n =
    let split = ascend_first f.source (sources groups) ascend in
    let less = subst (λ t. slice_cmp nat_cmp f.source t ≡ Less) (ap (λ x. x.source) (at g) ∙ same) (below_at f.source groups k g split.0 (omega (arith, short))) in
    let none = sym (or-false (is_of (s, n) f)) ∙ none_below s (f ∷ []) (s, n) ((less, tt), tt) ((bytes_eq-Decides s s).1 refl) in
    (λ i. none i || listed_at groups k g s split.1 (omega (arith, short)) at same n i)

-- ---- A group of one number where the source has none.

pub listed_gap : (groups : List Group) (k : ℕ) (s : List ℕ) → IsGap s groups k → (n : ℕ) → is_listed (s, n) groups ≡ false
listed_gap groups k s gap n =
    let same = (bytes_eq-Decides s s).1 refl in
    ap (is_listed (s, n)) (sym (take-append-drop k groups))
    ∙ list_any-append (is_of (s, n)) (take k groups) (drop k groups)
    ∙ (λ i. none_below s (take k groups) (s, n) gap.1 same i || none_above s (drop k groups) (s, n) gap.2 same i)

pub listed_insert : (groups : List Group) (k : ℕ) (g : Group) (s : List ℕ) (number : ℕ) → g.source ≡ s → ((n : ℕ) → has g.intervals.items n ≡ nat_eq n number) → (now : List Group) → now ≡ take k groups ++ g ∷ drop k groups →
    (q : Id) → is_listed q now ≡ (is_one q (s, number) || is_listed q groups)
listed_insert groups k g s number same numbers now now_is q =
    ap (is_listed q) now_is
    ∙ list_any-append (is_of q) (take k groups) (g ∷ drop k groups)
    ∙ or_swap (is_listed q (take k groups)) (is_of q g) (is_listed q (drop k groups))
    ∙ (λ i. (bytes_eq q.0 (same i) && numbers q.1 i) || (sym (list_any-append (is_of q) (take k groups) (drop k groups)) ∙ ap (is_listed q) (take-append-drop k groups)) i)

below_insert : (t : List ℕ) (groups : List Group) (k : ℕ) (g : Group) → IsBelow t (sources groups) → slice_cmp nat_cmp t g.source ≡ Less → IsBelow t (sources (take k groups ++ g ∷ drop k groups))
below_insert t [] zero g below less = (less, tt)
below_insert t [] (suc k) g below less = (less, tt)
below_insert t (f ∷ groups) zero g below less = (less, below)
below_insert t (f ∷ groups) (suc k) g below less = (below.0, below_insert t groups k g below.1 less)

pub ascend_insert : (groups : List Group) (k : ℕ) (g : Group) (s : List ℕ) → Ascend (sources groups) → IsGap s groups k → g.source ≡ s → Ascend (sources (take k groups ++ g ∷ drop k groups))
ascend_insert [] zero g s ascend gap same = ascend_cons g.source [] tt ascend_nil
ascend_insert [] (suc k) g s ascend gap same = ascend_cons g.source [] tt ascend_nil
ascend_insert (f ∷ groups) zero g s ascend gap same = ascend_cons g.source (sources (f ∷ groups)) (subst (λ t. IsBelow t (sources (f ∷ groups))) (sym same) gap.2) ascend
ascend_insert (f ∷ groups) (suc k) g s ascend gap same =
    let split = ascend_first f.source (sources groups) ascend in
    ascend_cons f.source (sources (take k groups ++ g ∷ drop k groups)) (below_insert f.source groups k g split.0 (subst (λ t. slice_cmp nat_cmp f.source t ≡ Less) (sym same) gap.1.0.0))
    (ascend_insert groups k g s split.1 (omega (arith, gap.0), gap.1.1, gap.2) same)

pub any_default : (groups : List Group) (k : ℕ) (g : Group) → k < length groups → g ≡ slice_index_or groups k g → (d : Group) → slice_index_or groups k d ≡ g
any_default [] k g short is d = absurd (omega (arith, short))
any_default (f ∷ groups) zero g short is d = sym is
any_default (f ∷ groups) (suc k) g short is d = any_default groups k g (omega (arith, short)) is d

-- the same GTIDs, if the source's group has the same numbers
pub listed_same : (groups : List Group) (k : ℕ) (old new : Group) (s : List ℕ) → k < length groups → ((d : Group) → slice_index_or groups k d ≡ old) → old.source ≡ s → new.source ≡ s →
    new.intervals.items ≡ old.intervals.items → (q : Id) → is_listed q (slice_set groups k new) ≡ is_listed q groups
listed_same groups k old new s short at from to same q =
    listed_set groups k old new s (λ n. false) short at from to (λ n. ap (λ is. has is n) same) q ∙ ap (λ b. b || is_listed q groups) (and_right (bytes_eq q.0 s) false refl)

-- another group of the same source in the place of one
pub ascend_set : (groups : List Group) (k : ℕ) (old new : Group) → k < length groups → old ≡ slice_index_or groups k old → new.source ≡ old.source → Ascend (sources groups) → Ascend (sources (slice_set groups k new))
ascend_set groups k old new there is same ascend =
    let at = any_default groups k old there is in
    subst Ascend (sym (sources_set groups k new (λ d. ap (λ g. g.source) (at d) ∙ sym same))) ascend

pub same_set : (groups : List Group) (k : ℕ) (old new : Group) (s : List ℕ) → (k < length groups) × ((d : Group) → (slice_index_or groups k d).source ≡ s) → old ≡ slice_index_or groups k old → new.source ≡ old.source →
    new.intervals.items ≡ old.intervals.items → (q : Id) → is_listed q (slice_set groups k new) ≡ is_listed q groups
same_set groups k old new s found is same =
    let at = any_default groups k old found.0 is in
    let from = ap (λ g. g.source) (sym (at old)) ∙ found.1 old in
    listed_same groups k old new s found.0 at from (same ∙ from)

pub if_ok : {T E P : Type 0} {A B : T → Type 0} (r : Result T E) → IfOk r A → OnOk r P → ((x : T) → A x → P → B x) → IfOk r B
if_ok (Ok x) a p f = f x a p
if_ok (Err e) a p f = tt
