-- What is found in a text of the grammar.
use Rattle.gtid.proofs.Names.{◌≡◌, ◌≢◌, ℕ, ◌+◌, ◌*◌, ◌-◌, ◌<◌, ◌==◌, ◌⊎◌, inl, inr, true, false, Some, None, Result, Ok, Err, List, [], ◌∷◌, ◌++◌, length, map, flat_map, fold, refl, ap, sym, subst, ◌∙◌, arith, append_assoc, append-nil, AllByRecursion, IsAsciiDigit, nat_tests, SidBlock, is_digit, IsBlankByte, IsIntervalText, AreIntervalTexts, IsItem, IsList, first_some, list_fault, written_spans, judge, collected, span_of, GtidFault, Memory, Span, Source}
use Rattle.std.proofs.Common.{length-append}
use Rattle.gtid.specs.Reading.{at_most, appended, after_number, Found}
use Rattle.gtid.proofs.TextFaults.{saturated, found_in, judged_ok, judged_err, item_faults, item_spans}
use Rattle.gtid.proofs.ScanComplete.{digit_is}
use Rattle.gtid.proofs.SourceDigits.{read_source}
use Rattle.gtid.specs.Reading.{Part}
use Rattle.gtid.specs.Reading.Part.{First, Second, After}

-- ---- Blanks.

blank_before : (digits b : ℕ) (s bs : List ℕ) → IsBlankByte b → collected (Source digits) s (b ∷ bs) ≡ collected (Source digits) s bs
blank_before digits b s bs (inl is) = subst (λ c. collected (Source digits) s (c ∷ bs) ≡ collected (Source digits) s bs) (sym is) refl
blank_before digits b s bs (inr (inl is)) = subst (λ c. collected (Source digits) s (c ∷ bs) ≡ collected (Source digits) s bs) (sym is) refl
blank_before digits b s bs (inr (inr is)) = subst (λ c. collected (Source digits) s (c ∷ bs) ≡ collected (Source digits) s bs) (sym is) refl

blanks_before : (digits : ℕ) (s blanks rest : List ℕ) → AllByRecursion IsBlankByte blanks → collected (Source digits) s (blanks ++ rest) ≡ collected (Source digits) s rest
blanks_before digits s [] rest h = refl
blanks_before digits s (b ∷ bs) rest h = blank_before digits b s (bs ++ rest) h.0 ∙ blanks_before digits s bs rest h.1

blank_after : (b : ℕ) (s bs : List ℕ) → IsBlankByte b → collected After s (b ∷ bs) ≡ collected After s bs
blank_after b s bs (inl is) = subst (λ c. collected After s (c ∷ bs) ≡ collected After s bs) (sym is) refl
blank_after b s bs (inr (inl is)) = subst (λ c. collected After s (c ∷ bs) ≡ collected After s bs) (sym is) refl
blank_after b s bs (inr (inr is)) = subst (λ c. collected After s (c ∷ bs) ≡ collected After s bs) (sym is) refl

blanks_after : (s blanks rest : List ℕ) → AllByRecursion IsBlankByte blanks → collected After s (blanks ++ rest) ≡ collected After s rest
blanks_after s [] rest h = refl
blanks_after s (b ∷ bs) rest h = blank_after b s (bs ++ rest) h.0 ∙ blanks_after s bs rest h.1

-- ---- Digits.

append_more : (n b : ℕ) → appended (at_most n) b ≡ at_most (n * 10 + (b - 48))
append_more n b = grind (arith, nat_tests)

digit_first : (n b : ℕ) (s bs : List ℕ) → is_digit b ≡ true → collected (First n) s (b ∷ bs) ≡ collected (First (appended n b)) s bs
digit_first n b s bs e = rw e refl

digit_second : (m n b : ℕ) (s bs : List ℕ) → is_digit b ≡ true → collected (Second m n) s (b ∷ bs) ≡ collected (Second m (appended n b)) s bs
digit_second m n b s bs e = rw e refl

abbrev number_from : ℕ → List ℕ → ℕ
number_from n digits = fold (λ so_far digit. so_far * 10 + (digit - 48)) n digits

pub digits_first : (n : ℕ) (s digits rest : List ℕ) → AllByRecursion IsAsciiDigit digits →
    collected (First (at_most n)) s (digits ++ rest) ≡ collected (First (at_most (number_from n digits))) s rest
digits_first n s [] rest h = refl
digits_first n s (b ∷ bs) rest h =
    digit_first (at_most n) b s (bs ++ rest) (digit_is b h.0)
    ∙ ap (λ k. collected (First k) s (bs ++ rest)) (append_more n b)
    ∙ digits_first (n * 10 + (b - 48)) s bs rest h.1

digits_second : (m n : ℕ) (s digits rest : List ℕ) → AllByRecursion IsAsciiDigit digits →
    collected (Second m (at_most n)) s (digits ++ rest) ≡ collected (Second m (at_most (number_from n digits))) s rest
digits_second m n s [] rest h = refl
digits_second m n s (b ∷ bs) rest h =
    digit_second m (at_most n) b s (bs ++ rest) (digit_is b h.0)
    ∙ ap (λ k. collected (Second m k) s (bs ++ rest)) (append_more n b)
    ∙ digits_second m (n * 10 + (b - 48)) s bs rest h.1

-- ---- Intervals.

-- An interval has been read, and not yet been ended.
abbrev Pending : Part → ℕ × ℕ → Type 0
Pending p i = ((p ≡ First (at_most i.0)) × (i.1 ≡ i.0)) ⊎ (p ≡ Second (at_most i.0) (at_most i.1))

close_first : (n b : ℕ) (s bs : List ℕ) → is_digit b ≡ false → (b == 45) ≡ false → collected (First n) s (b ∷ bs) ≡ (s, (n, n)) ∷ collected (after_number b) s bs
close_first n b s bs e f = rw (e, f) refl

close_second : (m n b : ℕ) (s bs : List ℕ) → is_digit b ≡ false → collected (Second m n) s (b ∷ bs) ≡ (s, (m, n)) ∷ collected (after_number b) s bs
close_second m n b s bs e = rw e refl

close : (p : Part) (i : ℕ × ℕ) (b : ℕ) (s bs : List ℕ) → is_digit b ≡ false → (b == 45) ≡ false → Pending p i →
    collected p s (b ∷ bs) ≡ saturated s i ∷ collected (after_number b) s bs
close p i b s bs e f (inl (is, one)) =
    ap (λ (q : Part). collected q s (b ∷ bs)) is
    ∙ close_first (at_most i.0) b s bs e f
    ∙ ap (λ (n : ℕ). (s, (at_most i.0, at_most n)) ∷ collected (after_number b) s bs) (sym one)
close p i b s bs e f (inr is) = ap (λ (q : Part). collected q s (b ∷ bs)) is ∙ close_second (at_most i.0) (at_most i.1) b s bs e

close_end : (p : Part) (i : ℕ × ℕ) (s : List ℕ) → Pending p i → collected p s [] ≡ saturated s i ∷ []
close_end p i s (inl (is, one)) = ap (λ (q : Part). collected q s []) is ∙ ap (λ (n : ℕ). (s, (at_most i.0, at_most n)) ∷ []) (sym one)
close_end p i s (inr is) = ap (λ (q : Part). collected q s []) is

-- What follows an interval ends it, and gives these.
abbrev Closes : List ℕ → List ℕ → List Found → Type 0
Closes s rest fs = (p : Part) (i : ℕ × ℕ) → Pending p i → collected p s rest ≡ saturated s i ∷ fs

-- the text of an interval after its colon
record Body (s first : List ℕ) (i : ℕ × ℕ) : Type 0 where
  pub body : List ℕ
  pub is : first ≡ 58 ∷ body
  pub part : Part
  pub pending : Pending part i
  pub reads : (rest : List ℕ) → collected (First 0) s (body ++ rest) ≡ collected part s rest

body_of : (s first : List ℕ) (i : ℕ × ℕ) → IsIntervalText first i → Body s first i
body_of s first i (digits, numeral, inl (e, one)) = record {
  body = digits;
  is = e;
  part = First (at_most i.0);
  pending = inl (refl, one);
  reads = λ rest. digits_first 0 s digits rest numeral.1 ∙ ap (λ (n : ℕ). collected (First (at_most n)) s rest) (sym numeral.2);
}
body_of s first i (digits, numeral, inr (others, second, e)) = record {
  body = digits ++ 45 ∷ others;
  is = e;
  part = Second (at_most i.0) (at_most i.1);
  pending = inr refl;
  reads = λ rest.
      ap (collected (First 0) s) (append_assoc digits (45 ∷ others) rest)
      ∙ digits_first 0 s digits (45 ∷ others ++ rest) numeral.1
      ∙ ap (λ (n : ℕ). collected (Second (at_most n) 0) s (others ++ rest)) (sym numeral.2)
      ∙ digits_second (at_most i.0) 0 s others rest second.1
      ∙ ap (λ (n : ℕ). collected (Second (at_most i.0) (at_most n)) s rest) (sym second.2);
}

more_intervals : (s rest : List ℕ) (fs : List Found) → Closes s rest fs → (p : Part) (i : ℕ × ℕ) → Pending p i → (text : List ℕ) (js : List (ℕ × ℕ)) → AreIntervalTexts text js →
    collected p s (text ++ rest) ≡ saturated s i ∷ (map (saturated s) js ++ fs)
more_intervals s rest fs closes p i pending text [] h = ap (λ (t : List ℕ). collected p s (t ++ rest)) h ∙ closes p i pending
more_intervals s rest fs closes p i pending text (j ∷ js) (first, others, e, one, later) =
    let b = body_of s first j one in
    ap (λ (t : List ℕ). collected p s (t ++ rest)) e
    ∙ ap (collected p s) (append_assoc first others rest)
    ∙ ap (λ (t : List ℕ). collected p s (t ++ (others ++ rest))) b.is
    ∙ close p i 58 s (b.body ++ (others ++ rest)) refl refl pending
    ∙ ap (λ gs. saturated s i ∷ gs) (b.reads (others ++ rest) ∙ more_intervals s rest fs closes b.part j b.pending others js later)

some_intervals : (s rest : List ℕ) (fs : List Found) → Closes s rest fs → (digits : ℕ) (text : List ℕ) (js : List (ℕ × ℕ)) → 0 < length js → AreIntervalTexts text js →
    collected (Source digits) s (text ++ rest) ≡ map (saturated s) js ++ fs
some_intervals s rest fs closes digits text [] some h = absurd (omega arith)
some_intervals s rest fs closes digits text (j ∷ js) some (first, others, e, one, later) =
    let b = body_of s first j one in
    ap (λ (t : List ℕ). collected (Source digits) s (t ++ rest)) e
    ∙ ap (collected (Source digits) s) (append_assoc first others rest)
    ∙ ap (λ (t : List ℕ). collected (Source digits) s (t ++ (others ++ rest))) b.is
    ∙ b.reads (others ++ rest)
    ∙ more_intervals s rest fs closes b.part j b.pending others js later

-- What follows an item: the end of the text, or a comma and the next item.
record Tail (s tail : List ℕ) (fs : List Found) : Type 0 where
  pub closes : Closes s tail fs
  pub after : collected After s tail ≡ fs

tail_end : (s : List ℕ) → Tail s [] []
tail_end s = record { closes = λ p i pending. close_end p i s pending; after = refl }

tail_comma : (s others : List ℕ) → Tail s (44 ∷ others) (collected (Source 0) s others)
tail_comma s others = record { closes = λ p i pending. close p i 44 s others refl refl pending; after = refl }

close_blank : (p : Part) (i : ℕ × ℕ) (b : ℕ) (s bs : List ℕ) → IsBlankByte b → Pending p i → collected p s (b ∷ bs) ≡ saturated s i ∷ collected After s bs
close_blank p i b s bs (inl is) pending = ap (λ (c : ℕ). collected p s (c ∷ bs)) is ∙ close p i 0x20 s bs refl refl pending
close_blank p i b s bs (inr (inl is)) pending = ap (λ (c : ℕ). collected p s (c ∷ bs)) is ∙ close p i 0x0A s bs refl refl pending
close_blank p i b s bs (inr (inr is)) pending = ap (λ (c : ℕ). collected p s (c ∷ bs)) is ∙ close p i 0x0D s bs refl refl pending

closes_after : (s tail : List ℕ) (fs : List Found) → Tail s tail fs → (bs : List ℕ) → AllByRecursion IsBlankByte bs → Closes s (bs ++ tail) fs
closes_after s tail fs t [] h = t.closes
closes_after s tail fs t (b ∷ bs) h = λ p i pending.
    close_blank p i b s (bs ++ tail) h.0 pending ∙ ap (λ gs. saturated s i ∷ gs) (blanks_after s bs tail h.1 ∙ t.after)

-- ---- Items.

read_item : (s text tail : List ℕ) (fs : List Found) (item : SidBlock) → length s ≡ 16 → IsItem text item → Tail item.source tail fs →
    collected (Source 0) s (text ++ tail) ≡ found_in item ++ fs
read_item s text tail fs item long h t =
    ap (λ (bs : List ℕ). collected (Source 0) s (bs ++ tail)) h.text_is
    ∙ ap (collected (Source 0) s)
    (append_assoc (h.before ++ h.uuid ++ h.numbers) h.after tail
    ∙ append_assoc (h.before ++ h.uuid) h.numbers (h.after ++ tail)
    ∙ append_assoc h.before h.uuid (h.numbers ++ (h.after ++ tail)))
    ∙ blanks_before 0 s h.before (h.uuid ++ (h.numbers ++ (h.after ++ tail))) h.blanks.0
    ∙ read_source h.uuid item.source s (h.numbers ++ (h.after ++ tail)) h.a_source h.a_uuid long
    ∙ some_intervals item.source (h.after ++ tail) fs (closes_after item.source tail fs t h.after h.blanks.1) 32 h.numbers item.intervals h.some h.intervals

-- What is found in a text is what its items are.
pub read_list : (items : List SidBlock) (text s : List ℕ) → length s ≡ 16 → IsList text items → collected (Source 0) s text ≡ flat_map found_in items
read_list [] text s long h = ap (collected (Source 0) s) (sym (append-nil text)) ∙ blanks_before 0 s text [] h
read_list (item ∷ []) text s long h = ap (collected (Source 0) s) (sym (append-nil text)) ∙ read_item s text [] [] item long h (tail_end item.source)
read_list (item ∷ next ∷ items) text s long (first, others, e, one, rest) =
    ap (collected (Source 0) s) e
    ∙ read_item s first (44 ∷ others) (collected (Source 0) item.source others) item long one (tail_comma item.source others)
    ∙ ap (λ gs. found_in item ++ gs) (read_list (next ∷ items) others item.source one.a_source.0 rest)

-- ---- The reading as a whole.

-- sixteen zero bytes, before any source is read
abbrev pub zeros : List ℕ
zeros = 0 ∷ 0 ∷ 0 ∷ 0 ∷ 0 ∷ 0 ∷ 0 ∷ 0 ∷ 0 ∷ 0 ∷ 0 ∷ 0 ∷ 0 ∷ 0 ∷ 0 ∷ 0 ∷ []

-- The spans that the reading gives are those of the items.
pub reads_list : (text s : List ℕ) (out : List Span) → length s ≡ 16 → judge [] (collected (Source 0) s text) ≡ Ok out → (items : List SidBlock) → IsList text items →
    (list_fault items ≡ None) × (out ≡ written_spans items)
reads_list text s out long h items is_list =
    let both = judged_ok [] out (flat_map found_in items) (sym (ap (judge []) (read_list items text s long is_list)) ∙ h) in
    let lawful : list_fault items ≡ None = sym (ap first_some (item_faults items)) ∙ both.0 in
    (lawful, both.1 ∙ item_spans items lawful)

-- The fault that the reading reports is that of the first interval at fault.
pub faults_list : (text s : List ℕ) (fault : GtidFault) → length s ≡ 16 → judge [] (collected (Source 0) s text) ≡ Err fault → (items : List SidBlock) → IsList text items →
    list_fault items ≡ Some fault
faults_list text s fault long h items is_list =
    sym (ap first_some (item_faults items))
    ∙ judged_err [] fault (flat_map found_in items) (sym (ap (judge []) (read_list items text s long is_list)) ∙ h)

-- The exit with what is wrong with an interval, or with memory.
pub err_exit : (text s : List ℕ) (r : Result (List Span) GtidFault) (fault : GtidFault) → length s ≡ 16 → (fault ≡ Memory) ⊎ (r ≡ Err fault) →
    (r ≡ Err fault → judge [] (collected (Source 0) s text) ≡ Err fault) →
    (fault ≡ Memory) ⊎ ((items : List SidBlock) → IsList text items → list_fault items ≡ Some fault)
err_exit text s r fault long (inl memory) whole = inl memory
err_exit text s r fault long (inr is) whole = inr (faults_list text s fault long (whole is))

nothing_judged : (spans : List Span) (fs : List Found) → judge spans fs ≡ Ok [] → fs ≢ [] → ⊥
nothing_judged spans [] e some = some refl
nothing_judged spans (f ∷ fs) e some =
    let is = (judged_ok spans [] (f ∷ fs) e).1 in
    absurd (omega (arith, ap length is, length-append spans (map span_of (f ∷ fs))))

-- A text of which something is left to judge has an item.
pub some_items : (text : List ℕ) (spans : List Span) (fs : List Found) (items : List SidBlock) → IsList text items → judge [] (collected (Source 0) zeros text) ≡ judge spans fs → fs ≢ [] → 0 < length items
some_items text spans fs [] is_list same some = absurd (nothing_judged spans fs (sym same ∙ ap (judge []) (read_list [] text zeros refl is_list)) some)
some_items text spans fs (item ∷ items) is_list same some = omega arith
