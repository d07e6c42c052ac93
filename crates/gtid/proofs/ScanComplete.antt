-- The scan, byte after byte: each text of the grammar brings it to an end.
use Rattle.gtid.proofs.Names.{◌≡◌, ℕ, ◌+◌, ◌<◌, ◌==◌, inl, inr, Bool, true, false, if◌then◌else◌, Option, Some, None, List, [], ◌∷◌, ◌++◌, length, take, get_or, ◌-◌, ◌≤◌, append_assoc, refl, ap, sym, subst, ◌∙◌, arith, AllByRecursion, IsAsciiDigit, nat_tests, SidBlock, IsBlankByte, IsNumeral, IsIntervalText, AreIntervalTexts, IsItem, IsList, ends, stands_at, is_digit, IsPassed, State, Start, Item, First, Lo, Second, Hi, After}
use Rattle.std.proofs.Common.{drop, take_all}
use Rattle.std.proofs.lemmas.List.{take_more}
use Rattle.uuid.specs.Text.{is_hex_digit}
use Rattle.gtid.specs.Text.{BeginsText}
use Rattle.gtid.specs.Scan.{step, stepped, run}
use Rattle.gtid.specs.declared.grammar.State.TheVariants.{Source}
use Rattle.gtid.proofs.SourceText.{StandFrom, source_length, source_stands}

pub run_append : (o : Option State) (xs ys : List ℕ) → run o (xs ++ ys) ≡ run (run o xs) ys
run_append o [] ys = refl
run_append o (x ∷ xs) ys = run_append (stepped o x) xs ys

pub run_none : (bs : List ℕ) → run None bs ≡ None
run_none [] = refl
run_none (b ∷ bs) = run_none bs

-- one byte more of the text
run_more : (o : Option State) (text : List ℕ) (i b : ℕ) → i < length text → b ≡ get_or text i 0 → run o (take (i + 1) text) ≡ stepped (run o (take i text)) b
run_more o text i b short is = ap (run o) (take_more text i 0 short) ∙ run_append o (take i text) (get_or text i 0 ∷ []) ∙ ap (stepped (run o (take i text))) (sym is)

-- one step on
pub run_on : (text : List ℕ) (i b : ℕ) (s : State) (o : Option State) → i < length text → b ≡ get_or text i 0 → run (Some Start) (take i text) ≡ Some s → step s b ≡ o →
    run (Some Start) (take (i + 1) text) ≡ o
run_on text i b s o short is ran e = run_more (Some Start) text i b short is ∙ ap (λ p. stepped p b) ran ∙ e

tested : (test : Bool) (s : State) (o : Option State) → test ≡ true → (if test then Some s else o) ≡ Some s
tested true s o e = refl
tested false s o e = Prim.cc

pub tested_second : (first second : Bool) (s : State) (o p : Option State) → first ≡ false → second ≡ true → (if first then o else if second then Some s else p) ≡ Some s
tested_second false true s o p e f = refl
tested_second false false s o p e f = Prim.cc
tested_second true second s o p e f = Prim.cc

blank_step : (s t : State) → step s 0x20 ≡ Some t → step s 0x0A ≡ Some t → step s 0x0D ≡ Some t → (b : ℕ) → IsBlankByte b → step s b ≡ Some t
blank_step s t e f g b (inl is) = subst (λ c. step s c ≡ Some t) (sym is) e
blank_step s t e f g b (inr (inl is)) = subst (λ c. step s c ≡ Some t) (sym is) f
blank_step s t e f g b (inr (inr is)) = subst (λ c. step s c ≡ Some t) (sym is) g

run_stays : (s : State) (P : ℕ → Type 0) → ((b : ℕ) → P b → step s b ≡ Some s) → (bs : List ℕ) → AllByRecursion P bs → run (Some s) bs ≡ Some s
run_stays s P stays [] h = refl
run_stays s P stays (b ∷ bs) h = ap (λ o. run o bs) (stays b h.0) ∙ run_stays s P stays bs h.1

-- ---- Digits and intervals.

pub digit_is : (b : ℕ) → IsAsciiDigit b → is_digit b ≡ true
digit_is b h = grind (arith, nat_tests)

run_digits : (s t : State) → ((b : ℕ) → is_digit b ≡ true → step s b ≡ Some t) → ((b : ℕ) → is_digit b ≡ true → step t b ≡ Some t) →
    (digits : List ℕ) (n : ℕ) → IsNumeral digits n → run (Some s) digits ≡ Some t
run_digits s t first stays [] n h = absurd (omega arith)
run_digits s t first stays (b ∷ bs) n h =
    ap (λ o. run o bs) (first b (digit_is b h.1.0)) ∙ run_stays t IsAsciiDigit (λ c is. stays c (digit_is c is)) bs h.1.1

run_first : (digits : List ℕ) (n : ℕ) → IsNumeral digits n → run (Some First) digits ≡ Some Lo
run_first = run_digits First Lo (λ b is. tested (is_digit b) Lo _ is) (λ b is. tested (is_digit b) Lo _ is)

run_second : (digits : List ℕ) (n : ℕ) → IsNumeral digits n → run (Some Second) digits ≡ Some Hi
run_second = run_digits Second Hi (λ b is. tested (is_digit b) Hi _ is) (λ b is. tested (is_digit b) Hi _ is)

-- The scan is after an item, or after the blanks that follow it.
record Closed (o : Option State) : Type 0 where
  pub state : State
  pub is : o ≡ Some state
  pub end : ends state ≡ true
  pub comma : step state 44 ≡ Some Item

-- The scan is after an interval.
record Numbered (o : Option State) : Type 0 where
  pub closed : Closed o
  pub colon : step closed.state 58 ≡ Some First
  pub blank : (b : ℕ) → IsBlankByte b → step closed.state b ≡ Some After

numbered_lo : (o : Option State) → o ≡ Some Lo → Numbered o
numbered_lo o is = record { closed = record { state = Lo; is = is; end = refl; comma = refl }; colon = refl; blank = blank_step Lo After refl refl refl }

numbered_hi : (o : Option State) → o ≡ Some Hi → Numbered o
numbered_hi o is = record { closed = record { state = Hi; is = is; end = refl; comma = refl }; colon = refl; blank = blank_step Hi After refl refl refl }

run_interval : (s : State) → step s 58 ≡ Some First → (text : List ℕ) (i : ℕ × ℕ) → IsIntervalText text i → Numbered (run (Some s) text)
run_interval s colon text i (digits, numeral, inl (e, one)) =
    numbered_lo _ (ap (run (Some s)) e ∙ ap (λ o. run o digits) colon ∙ run_first digits i.0 numeral)
run_interval s colon text i (digits, numeral, inr (others, second, e)) =
    numbered_hi _ (
    ap (run (Some s)) e
    ∙ ap (λ o. run o (digits ++ 45 ∷ others)) colon
    ∙ run_append (Some First) digits (45 ∷ others)
    ∙ ap (λ o. run o (45 ∷ others)) (run_first digits i.0 numeral)
    ∙ run_second others i.1 second)

more_intervals : (o : Option State) → Numbered o → (text : List ℕ) (is : List (ℕ × ℕ)) → AreIntervalTexts text is → Numbered (run o text)
more_intervals o n text [] h = subst (λ t. Numbered (run o t)) (sym h) n
more_intervals o n text (i ∷ is) (first, others, e, one, rest) =
    let now : Numbered (run o first) = subst (λ p. Numbered (run p first)) (sym n.closed.is) (run_interval n.closed.state n.colon first i one) in
    subst Numbered (sym (ap (run o) e ∙ run_append o first others)) (more_intervals (run o first) now others is rest)

some_intervals : (text : List ℕ) (is : List (ℕ × ℕ)) → 0 < length is → AreIntervalTexts text is → Numbered (run (Some (Source 36)) text)
some_intervals text [] some h = absurd (omega arith)
some_intervals text (i ∷ is) some (first, others, e, one, rest) =
    subst Numbered (sym (ap (run (Some (Source 36))) e ∙ run_append (Some (Source 36)) first others))
    (more_intervals (run (Some (Source 36)) first) (run_interval (Source 36) refl first i one) others is rest)

-- ---- Items.

-- An item may begin in this state of the scan.
record Opening (s : State) : Type 0 where
  pub blank : (b : ℕ) → IsBlankByte b → step s b ≡ Some s
  pub hex : (b : ℕ) → is_hex_digit b ≡ true → step s b ≡ Some (Source 1)

opening_start : Opening Start
opening_start = record { blank = blank_step Start Start refl refl refl; hex = λ b is. tested (is_hex_digit b) (Source 1) _ is }

opening_item : Opening Item
opening_item = record { blank = blank_step Item Item refl refl refl; hex = λ b is. tested (is_hex_digit b) (Source 1) _ is }

run_source : (bs : List ℕ) (place : ℕ) → StandFrom place bs → length bs + place ≡ 36 → run (Some (Source place)) bs ≡ Some (Source 36)
run_source [] place stand long = let same : place ≡ 36 = omega arith in ap (λ p. Some (Source p)) same
run_source (b ∷ bs) place stand long =
    let before : (place == 36) ≡ false = grind (arith, nat_tests) in
    ap (λ o. run o bs) (tested_second (place == 36) (stands_at place b) (Source (place + 1)) _ _ before stand.0) ∙ run_source bs (place + 1) stand.1 (omega arith)

run_uuid : (s : State) → Opening s → (text : List ℕ) → length text ≡ 36 → StandFrom 0 text → run (Some s) text ≡ Some (Source 36)
run_uuid s open_here [] long stand = absurd (omega arith)
run_uuid s open_here (b ∷ bs) long stand = ap (λ o. run o bs) (open_here.hex b stand.0) ∙ run_source bs 1 stand.1 (omega arith)

run_after : (o : Option State) → Numbered o → (bs : List ℕ) → AllByRecursion IsBlankByte bs → Closed (run o bs)
run_after o n [] h = n.closed
run_after o n (b ∷ bs) h = record {
  state = After;
  is =
      ap (λ p. run (stepped p b) bs) n.closed.is
      ∙ ap (λ p. run p bs) (n.blank b h.0)
      ∙ run_stays After IsBlankByte (blank_step After After refl refl refl) bs h.1;
  end = refl;
  comma = refl;
}

run_item : (s : State) → Opening s → (text : List ℕ) (item : SidBlock) → IsItem text item → Closed (run (Some s) text)
run_item s open_here text item h =
    let uuid : run (Some s) (h.before ++ h.uuid) ≡ Some (Source 36) =
    run_append (Some s) h.before h.uuid
    ∙ ap (λ o. run o h.uuid) (run_stays s IsBlankByte open_here.blank h.before h.blanks.0)
    ∙ run_uuid s open_here h.uuid (source_length h.uuid item.source h.a_uuid) (source_stands h.uuid item.source h.a_uuid) in
    let numbers : run (Some s) (h.before ++ h.uuid ++ h.numbers) ≡ run (Some (Source 36)) h.numbers =
    run_append (Some s) (h.before ++ h.uuid) h.numbers ∙ ap (λ o. run o h.numbers) uuid in
    let whole : run (Some s) text ≡ run (run (Some (Source 36)) h.numbers) h.after =
    ap (run (Some s)) h.text_is
    ∙ run_append (Some s) (h.before ++ h.uuid ++ h.numbers) h.after
    ∙ ap (λ o. run o h.after) numbers in
    subst Closed (sym whole) (run_after _ (some_intervals h.numbers item.intervals h.some h.intervals) h.after h.blanks.1)

-- ---- Texts.

-- The text may end in this state of the scan.
pub record Ended (o : Option State) : Type 0 where
  pub state : State
  pub is : o ≡ Some state
  pub end : ends state ≡ true

run_items : (s : State) → Opening s → (text : List ℕ) (item : SidBlock) (items : List SidBlock) → IsList text (item ∷ items) → Ended (run (Some s) text)
run_items s open_here text item [] h =
    let closed = run_item s open_here text item h in
    record { state = closed.state; is = closed.is; end = closed.end }
run_items s open_here text item (next ∷ items) (first, others, e, one, rest) =
    let closed = run_item s open_here first item one in
    let whole : run (Some s) text ≡ run (Some Item) others =
    ap (run (Some s)) e
    ∙ run_append (Some s) first (44 ∷ others)
    ∙ ap (λ o. run o (44 ∷ others)) closed.is
    ∙ ap (λ o. run o others) closed.comma in
    subst Ended (sym whole) (run_items Item opening_item others next items rest)

pub run_list : (text : List ℕ) (items : List SidBlock) → IsList text items → Ended (run (Some Start) text)
run_list text [] h = record { state = Start; is = run_stays Start IsBlankByte (blank_step Start Start refl refl refl) text h; end = refl }
run_list text (item ∷ items) h = run_items Start opening_start text item items h

pub no_state : (o : Option State) (s : State) → o ≡ None → o ≡ Some s → ⊥
no_state o s none some = Prim.cc

-- No text begins with what the scan stops at.
pub begins_none : (front : List ℕ) → run (Some Start) front ≡ None → BeginsText front → ⊥
begins_none front none (rest, items, is_list) =
    let ended = run_list (front ++ rest) items is_list in
    no_state _ ended.state (run_append (Some Start) front rest ∙ ap (λ o. run o rest) none ∙ run_none rest) ended.is

-- ---- The scan's own steps.

pub passed_on : {s t u : State} {text left rest : List ℕ} → IsPassed s text t left → IsPassed t left u rest → IsPassed s text u rest
passed_on {s} {t} {u} {text} {left} {rest} p q = record {
  front = p.front ++ q.front;
  is = p.is ∙ ap (λ l. p.front ++ l) q.is ∙ sym (append_assoc p.front q.front rest);
  ran = run_append (Some s) p.front q.front ∙ ap (λ o. run o q.front) p.ran ∙ q.ran;
}

pub passed_byte : {s t u : State} {text : List ℕ} (left : List ℕ) (d : ℕ) → IsPassed s text t left → 1 ≤ length left → step t (get_or left 0 d) ≡ Some u → IsPassed s text u (take (length left - 1) (drop 1 left))
passed_byte [] d p some leads = absurd (omega arith)
passed_byte {s} {t} {u} {text} (b ∷ rest) d p some leads =
    subst (λ l. IsPassed s text u l) (sym (take_all (length (b ∷ rest) - 1) rest (omega arith))) (passed_on p (record { front = b ∷ []; is = refl; ran = leads }))

digit_stays : (b : ℕ) → is_digit b ≡ true → (step Lo b ≡ Some Lo) × (step Hi b ≡ Some Hi)
digit_stays b is = (tested (is_digit b) Lo _ is, tested (is_digit b) Hi _ is)

pub passed_lo : {text : List ℕ} {left rest : List ℕ} (b : ℕ) → IsPassed Lo text Lo left → left ≡ b ∷ rest → is_digit b ≡ true → IsPassed Lo text Lo rest
passed_lo {left = left} {rest = rest} b p e is = passed_on p (record { front = b ∷ []; is = e; ran = (digit_stays b is).0 })

pub passed_hi : {text : List ℕ} {left rest : List ℕ} (b : ℕ) → IsPassed Hi text Hi left → left ≡ b ∷ rest → is_digit b ≡ true → IsPassed Hi text Hi rest
passed_hi {left = left} {rest = rest} b p e is = passed_on p (record { front = b ∷ []; is = e; ran = (digit_stays b is).1 })
