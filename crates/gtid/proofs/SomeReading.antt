-- Each text is read or has a fault.
use Rattle.gtid.proofs.Names.{◌≡◌, ℕ, zero, suc, ◌+◌, ◌<◌, ◌==◌, ◌⊎◌, ◌||◌, inl, inr, Bool, true, false, if◌then◌else◌, Option, Some, None, List, [], ◌∷◌, length, take, get_or, flat_map, refl, sym, ◌∙◌, arith, nat_tests, take-append-drop, list_any-append, list_any, eq_by_cmp, Id, id_cmp, Ids, IsInGrammar, list_fault, written_spans, IsOutsideFrom, outside, written, ends, stands_at, is_digit, IsPlaced, IsPassed, GtidFault, Text, State, Start, Item, First, Lo, Second, Hi, After, Span}
use Rattle.std.proofs.Common.{drop}
use Rattle.std.proofs.lemmas.List.{length-drop}
use Rattle.std.specs.FinSet as set
use Rattle.uuid.specs.Text.{is_hex_digit}
use Rattle.gtid.specs.Span.{is_in, Covers}
use Rattle.gtid.specs.Group.{ids_of_interval}
use Rattle.gtid.specs.Text.{HasReading, HasParseFault}
use Rattle.gtid.specs.Scan.{step, begin, end_number, is_blank, run}
use Rattle.gtid.specs.declared.grammar.State.TheVariants.{Source}
use Rattle.gtid.proofs.ScanComplete.{run_on}
use Rattle.gtid.proofs.ScanSound.{choose, nothing}
use Rattle.gtid.proofs.Outside.{outside_at, outside_end, in_grammar_end}
use Rattle.gtid.proofs.Sets.{id_cmp_total, listed_in_interval}

-- ---- The set of spans.

abbrev ids_of_span : Span → List Id
ids_of_span s = ids_of_interval s.source (record { lo = s.lo; hi = s.hi })

abbrev pub set_of : List Span → Ids
set_of spans = set.from_list (flat_map ids_of_span spans)

listed_in_spans : (q : Id) (spans : List Span) → list_any (eq_by_cmp id_cmp q) (flat_map ids_of_span spans) ≡ list_any (is_in q) spans
listed_in_spans q [] = refl
listed_in_spans q (s ∷ spans) =
    list_any-append (eq_by_cmp id_cmp q) (ids_of_span s) (flat_map ids_of_span spans)
    ∙ (λ i. listed_in_interval q s.source (record { lo = s.lo; hi = s.hi }) i || listed_in_spans q spans i)

pub covers_set : (spans : List Span) → Covers spans (set_of spans)
covers_set spans q = set.contains-from_list id_cmp_total (flat_map ids_of_span spans) q ∙ listed_in_spans q spans

-- ---- The states of the scan.

placed_begin : (s : State) (b : ℕ) → IsPlaced s → (t : State) → begin s b ≡ Some t → IsPlaced t
placed_begin s b placed =
    choose (is_hex_digit b) (Source 1) (if is_blank b then Some s else None) IsPlaced (λ is. omega arith)
    (choose (is_blank b) s None IsPlaced (λ is. placed) (nothing IsPlaced))

placed_end : (b : ℕ) (t : State) → end_number b ≡ Some t → IsPlaced t
placed_end b =
    choose (b == 58) First (if is_blank b then Some After else if b == 44 then Some Item else None) IsPlaced (λ is. tt)
    (choose (is_blank b) After (if b == 44 then Some Item else None) IsPlaced (λ is. tt)
    (choose (b == 44) Item None IsPlaced (λ is. tt) (nothing IsPlaced)))

placed_step : (s : State) (b : ℕ) → IsPlaced s → (t : State) → step s b ≡ Some t → IsPlaced t
placed_step Start b placed = placed_begin Start b placed
placed_step Item b placed = placed_begin Item b placed
placed_step (Source place) b placed = by (place == 36) refl
  where
    by : (last : Bool) → (place == 36) ≡ last → (t : State) →
        (if last then (if b == 58 then Some First else None) else if stands_at place b then Some (Source (place + 1)) else None) ≡ Some t → IsPlaced t
    by true e = choose (b == 58) First None IsPlaced (λ is. tt) (nothing IsPlaced)
    by false e = choose (stands_at place b) (Source (place + 1)) None IsPlaced (λ is. grind (arith, nat_tests)) (nothing IsPlaced)
placed_step First b placed = choose (is_digit b) Lo None IsPlaced (λ is. tt) (nothing IsPlaced)
placed_step Lo b placed =
    choose (is_digit b) Lo (if b == 45 then Some Second else end_number b) IsPlaced (λ is. tt)
    (choose (b == 45) Second (end_number b) IsPlaced (λ is. tt) (placed_end b))
placed_step Second b placed = choose (is_digit b) Hi None IsPlaced (λ is. tt) (nothing IsPlaced)
placed_step Hi b placed = choose (is_digit b) Hi (end_number b) IsPlaced (λ is. tt) (placed_end b)
placed_step After b placed =
    choose (is_blank b) After (if b == 44 then Some Item else None) IsPlaced (λ is. tt)
    (choose (b == 44) Item None IsPlaced (λ is. tt) (nothing IsPlaced))

-- ---- The scan of a text.

record IsOutside (text : List ℕ) : Type 0 where
  pub offset : ℕ
  pub is : IsOutsideFrom text offset

abbrev IsScanned : List ℕ → Type 0
IsScanned text = IsInGrammar text ⊎ IsOutside text

passed : (text : List ℕ) (i : ℕ) (s : State) → run (Some Start) (take i text) ≡ Some s → IsPassed Start text s (drop i text)
passed text i s ran = record { front = take i text; is = sym (take-append-drop i text); ran = ran }

scanned_end : (text : List ℕ) (i : ℕ) (s : State) (e : Bool) → ends s ≡ e → i ≡ length text → run (Some Start) (take i text) ≡ Some s → IsPlaced s → IsScanned text
scanned_end text i s true end long ran placed = inl (in_grammar_end text (drop i text) s (passed text i s ran) (omega (arith, long, length-drop i text)) end)
scanned_end text i s false end long ran placed = inr (record { offset = length text; is = outside_end text (drop i text) s (passed text i s ran) placed (omega (arith, long, length-drop i text)) end })

scanned_on : (text : List ℕ) (i : ℕ) (s : State) (o : Option State) → step s (get_or text i 0) ≡ o → i < length text → run (Some Start) (take i text) ≡ Some s → IsPlaced s →
    ((t : State) → run (Some Start) (take (i + 1) text) ≡ Some t → IsPlaced t → IsScanned text) → IsScanned text
scanned_on text i s None e short ran placed next = inr (record { offset = i; is = outside_at text i (get_or text i 0) s short refl ran placed e })
scanned_on text i s (Some t) e short ran placed next = next t (run_on text i (get_or text i 0) s (Some t) short refl ran e) (placed_step s (get_or text i 0) placed t e)

scanned_from : (left : ℕ) (text : List ℕ) (i : ℕ) (s : State) → i + left ≡ length text → run (Some Start) (take i text) ≡ Some s → IsPlaced s → IsScanned text
scanned_from zero text i s long ran placed = scanned_end text i s (ends s) refl (omega arith) ran placed
scanned_from (suc left) text i s long ran placed =
    scanned_on text i s (step s (get_or text i 0)) refl (omega arith) ran placed (λ t now there. scanned_from left text (i + 1) t (omega arith) now there)

scanned : (text : List ℕ) → IsScanned text
scanned text = scanned_from (length text) text 0 Start (omega arith) refl tt

-- ---- What is read.

by_fault : (text : List ℕ) (g : IsInGrammar text) (o : Option GtidFault) → list_fault g.items ≡ o → HasReading text ⊎ HasParseFault text
by_fault text g None e = inl (record {
  ids = set_of (written_spans g.items);
  is_read = record { items = g.items; is_list = g.is_list; lawful = e; union = covers_set (written_spans g.items) };
})
by_fault text g (Some fault) e = inr (record { fault = fault; is_fault = written fault (record { items = g.items; is_list = g.is_list; faulty = e }) })

pub some_reading : (text : List ℕ) → HasReading text ⊎ HasParseFault text
some_reading text = by (scanned text)
  where
    by : IsScanned text → HasReading text ⊎ HasParseFault text
    by (inl g) = by_fault text g (list_fault g.items) refl
    by (inr o) = inr (record { fault = Text o.offset; is_fault = outside o.offset o.is })
