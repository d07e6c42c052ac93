-- What is found in a text, judged interval after interval.
use Rattle.gtid.proofs.Names.{◌≡◌, ℕ, ◌≤◌, ◌&&◌, not, nat_lt, Bool, true, false, if◌then◌else◌, Option, Some, None, Result, Ok, Err, List, [], ◌∷◌, ◌++◌, map, flat_map, refl, ap, sym, subst, ◌∙◌, arith, append_assoc, append-nil, AllByRecursion, nat_tests, SidBlock, first_some, list_fault, written_spans, span_of, judge, IsLawfulSpan, GtidFault, Span}
use Rattle.gtid.specs.Text.{written_fault, is_number}
use Rattle.gtid.specs.Reading.{at_most, Found, judged}
use Rattle.gtid.specs.declared.fault.GtidFault.TheVariants.{Number, Interval}

no_fault : (fault : GtidFault) → Some fault ≡ None → ⊥
no_fault fault e = Prim.cc

no_error : (spans : List Span) (fault : GtidFault) → Ok spans ≡ Err fault → ⊥
no_error spans fault e = Prim.cc

no_value : (spans : List Span) (fault : GtidFault) → Err fault ≡ Ok spans → ⊥
no_value spans fault e = Prim.cc

same_value : (spans out : List Span) → ◌≡◌ {A = Result (List Span) GtidFault} (Ok spans) (Ok out) → spans ≡ out
same_value spans out e = Prim.cc

same_fault : (a b : GtidFault) → ◌≡◌ {A = Result (List Span) GtidFault} (Err a) (Err b) → a ≡ b
same_fault a b e = Prim.cc

abbrev pub faults_of : List Found → List (Option GtidFault)
faults_of fs = map (λ f. written_fault f.1) fs

-- what was judged to be lawful
pub judged_ok : (spans out : List Span) (fs : List Found) → judge spans fs ≡ Ok out → (first_some (faults_of fs) ≡ None) × (out ≡ spans ++ map span_of fs)
judged_ok spans out [] e = (refl, sym (same_value spans out e) ∙ sym (append-nil spans))
judged_ok spans out (f ∷ fs) e = by (written_fault f.1) (judged_ok (spans ++ span_of f ∷ []) out fs) e
  where
    by : (o : Option GtidFault) → (judge (spans ++ span_of f ∷ []) fs ≡ Ok out → (first_some (faults_of fs) ≡ None) × (out ≡ (spans ++ span_of f ∷ []) ++ map span_of fs)) →
        judged o (judge (spans ++ span_of f ∷ []) fs) ≡ Ok out → (first_some (o ∷ faults_of fs) ≡ None) × (out ≡ spans ++ map span_of (f ∷ fs))
    by None next e = ((next e).0, (next e).1 ∙ append_assoc spans (span_of f ∷ []) (map span_of fs))
    by (Some fault) next e = absurd (no_value out fault e)

-- what was judged to be at fault
pub judged_err : (spans : List Span) (fault : GtidFault) (fs : List Found) → judge spans fs ≡ Err fault → first_some (faults_of fs) ≡ Some fault
judged_err spans fault [] e = absurd (no_error spans fault e)
judged_err spans fault (f ∷ fs) e = by (written_fault f.1) (judged_err (spans ++ span_of f ∷ []) fault fs) e
  where
    by : (o : Option GtidFault) → (judge (spans ++ span_of f ∷ []) fs ≡ Err fault → first_some (faults_of fs) ≡ Some fault) →
        judged o (judge (spans ++ span_of f ∷ []) fs) ≡ Err fault → first_some (o ∷ faults_of fs) ≡ Some fault
    by None next e = next e
    by (Some other) next e = ap Some (same_fault other fault e)

-- ---- Numbers that eight bytes do not hold.

abbrev pub saturated : List ℕ → ℕ × ℕ → Found
saturated s i = (s, (at_most i.0, at_most i.1))

number_at_most : (n : ℕ) → is_number (at_most n) ≡ is_number n
number_at_most n = grind (arith, nat_tests)

at_most_number : (n : ℕ) → is_number n ≡ true → at_most n ≡ n
at_most_number n is = grind (arith, nat_tests)

abbrev fault_by : Bool → Bool → ℕ × ℕ → Option GtidFault
fault_by a b i = if not (a && b) then Some Number else if nat_lt i.1 i.0 then Some Interval else None

fault_same : (i j : ℕ × ℕ) (a b : Bool) → (a ≡ true → i.0 ≡ j.0) → (b ≡ true → i.1 ≡ j.1) → fault_by a b i ≡ fault_by a b j
fault_same i j true true e f = ap (λ (k : ℕ). if nat_lt k i.0 then Some Interval else None) (f refl) ∙ ap (λ (k : ℕ). if nat_lt j.1 k then Some Interval else None) (e refl)
fault_same i j true false e f = refl
fault_same i j false b e f = refl

pub fault_at_most : (i : ℕ × ℕ) → written_fault (at_most i.0, at_most i.1) ≡ written_fault i
fault_at_most i =
    ap (λ (a : Bool). fault_by a (is_number (at_most i.1)) (at_most i.0, at_most i.1)) (number_at_most i.0)
    ∙ ap (λ (b : Bool). fault_by (is_number i.0) b (at_most i.0, at_most i.1)) (number_at_most i.1)
    ∙ fault_same (at_most i.0, at_most i.1) i (is_number i.0) (is_number i.1) (at_most_number i.0) (at_most_number i.1)

lawful_numbers : (i : ℕ × ℕ) → written_fault i ≡ None → (is_number i.0 ≡ true) × (is_number i.1 ≡ true) × (i.0 ≤ i.1)
lawful_numbers i e = by (is_number i.0) (is_number i.1) (nat_lt i.1 i.0) refl e
  where
    by : (a b c : Bool) → nat_lt i.1 i.0 ≡ c → ◌≡◌ {A = Option GtidFault} (if not (a && b) then Some Number else if c then Some Interval else None) None → (a ≡ true) × (b ≡ true) × (i.0 ≤ i.1)
    by true true false is e = (refl, refl, grind (arith, nat_tests))
    by true true true is e = absurd (no_fault Interval e)
    by true false c is e = absurd (no_fault Number e)
    by false b c is e = absurd (no_fault Number e)

-- ---- Ranges.

lawful_span : (f : Found) → written_fault f.1 ≡ None → IsLawfulSpan (span_of f)
lawful_span f e =
    let numbers = lawful_numbers f.1 e in
    let a : is_number f.1.0 ≡ true = numbers.0 in
    let b : is_number f.1.1 ≡ true = numbers.1 in
    let c : f.1.0 ≤ f.1.1 = numbers.2 in
    (grind (arith, nat_tests), omega arith, grind (arith, nat_tests))

lawful_push : (spans : List Span) (f : Found) → written_fault f.1 ≡ None → AllByRecursion IsLawfulSpan spans → AllByRecursion IsLawfulSpan (spans ++ span_of f ∷ [])
lawful_push [] f e lawful = (lawful_span f e, tt)
lawful_push (s ∷ spans) f e lawful = (lawful.0, lawful_push spans f e lawful.1)

pub judged_range : (spans out : List Span) (fs : List Found) → judge spans fs ≡ Ok out → AllByRecursion IsLawfulSpan spans → AllByRecursion IsLawfulSpan out
judged_range spans out [] e lawful = subst (AllByRecursion IsLawfulSpan) (same_value spans out e) lawful
judged_range spans out (f ∷ fs) e lawful = by (written_fault f.1) refl (judged_range (spans ++ span_of f ∷ []) out fs) e
  where
    by : (o : Option GtidFault) → written_fault f.1 ≡ o →
        (judge (spans ++ span_of f ∷ []) fs ≡ Ok out → AllByRecursion IsLawfulSpan (spans ++ span_of f ∷ []) → AllByRecursion IsLawfulSpan out) →
        judged o (judge (spans ++ span_of f ∷ []) fs) ≡ Ok out → AllByRecursion IsLawfulSpan out
    by None is next e = next e (lawful_push spans f is lawful)
    by (Some fault) is next e = absurd (no_value out fault e)

-- ---- What is found, and what is written.

abbrev pub exact : List ℕ → ℕ × ℕ → Found
exact s i = (s, i)

span_at_most : (s : List ℕ) (i : ℕ × ℕ) → written_fault i ≡ None → span_of (saturated s i) ≡ span_of (exact s i)
span_at_most s i e =
    let numbers = lawful_numbers i e in
    ap (λ (n : ℕ). span_of (s, (n, at_most i.1))) (at_most_number i.0 numbers.0) ∙ ap (λ (n : ℕ). span_of (s, (i.0, n))) (at_most_number i.1 numbers.1)

-- the intervals of an item, and then those of the items after it
abbrev pub found_in : SidBlock → List Found
found_in item = map (saturated item.source) item.intervals

abbrev all_faults : List SidBlock → List (Option GtidFault)
all_faults items = flat_map (λ item. map written_fault item.intervals) items

interval_faults : (s : List ℕ) (is : List (ℕ × ℕ)) (fs : List Found) → faults_of (map (saturated s) is ++ fs) ≡ map written_fault is ++ faults_of fs
interval_faults s [] fs = refl
interval_faults s (i ∷ is) fs =
    ap (λ (o : Option GtidFault). o ∷ faults_of (map (saturated s) is ++ fs)) (fault_at_most i) ∙ ap (λ os. written_fault i ∷ os) (interval_faults s is fs)

pub item_faults : (items : List SidBlock) → faults_of (flat_map found_in items) ≡ all_faults items
item_faults [] = refl
item_faults (item ∷ items) =
    interval_faults item.source item.intervals (flat_map found_in items) ∙ ap (λ os. map written_fault item.intervals ++ os) (item_faults items)

none_first : (o : Option GtidFault) (os : List (Option GtidFault)) → first_some (o ∷ os) ≡ None → (o ≡ None) × (first_some os ≡ None)
none_first None os e = (refl, e)
none_first (Some fault) os e = absurd (no_fault fault e)

none_later : (xs os : List (Option GtidFault)) → first_some (xs ++ os) ≡ None → first_some os ≡ None
none_later [] os e = e
none_later (x ∷ xs) os e = none_later xs os (none_first x (xs ++ os) e).1

interval_spans : (s : List ℕ) (is : List (ℕ × ℕ)) (os : List (Option GtidFault)) (fs : List Found) → first_some (map written_fault is ++ os) ≡ None →
    map span_of (map (saturated s) is ++ fs) ≡ map (λ i. span_of (exact s i)) is ++ map span_of fs
interval_spans s [] os fs e = refl
interval_spans s (i ∷ is) os fs e =
    let first = none_first (written_fault i) (map written_fault is ++ os) e in
    ap (λ span. span ∷ map span_of (map (saturated s) is ++ fs)) (span_at_most s i first.0)
    ∙ ap (λ spans. span_of (exact s i) ∷ spans) (interval_spans s is os fs first.1)

pub item_spans : (items : List SidBlock) → list_fault items ≡ None → map span_of (flat_map found_in items) ≡ written_spans items
item_spans [] e = refl
item_spans (item ∷ items) e =
    interval_spans item.source item.intervals (all_faults items) (flat_map found_in items) e
    ∙ ap (λ spans. map (λ i. span_of (exact item.source i)) item.intervals ++ spans) (item_spans items (none_later (map written_fault item.intervals) (all_faults items) e))
