-- What the scan brings to an end is in the grammar.
use Rattle.gtid.proofs.Names.{◌≡◌, ℕ, ◌+◌, ◌*◌, ◌-◌, ◌<◌, ◌≤◌, ◌==◌, ◌⊎◌, ◌||◌, inl, inr, Bool, true, false, if◌then◌else◌, Option, Some, None, List, [], ◌∷◌, ◌++◌, length, fold, refl, ap, sym, subst, ◌∙◌, arith, append_assoc, append-nil, AllByRecursion, IsAsciiDigit, nat_tests, SidBlock, IsBlankByte, IsIntervalText, AreIntervalTexts, IsItem, IsList, IsInGrammar, ends, stands_at, is_digit, State, Start, Item, First, Lo, Second, Hi, After}
use Rattle.std.proofs.Common.{true≢false}
use Rattle.uuid.specs.Text.{is_hex_digit}
use Rattle.gtid.specs.Scan.{step, is_blank, end_number}
use Rattle.gtid.specs.declared.grammar.State.TheVariants.{Source}
use Rattle.gtid.proofs.SourceText.{StandFrom, spells}
use Rattle.gtid.specs.Scan.{run}
use Rattle.gtid.proofs.ScanComplete.{run_none, no_state}

-- ---- What may follow each state, as the pieces of the grammar.

-- at least one item
record Listed (text : List ℕ) : Type 0 where
  pub first : SidBlock
  pub others : List SidBlock
  pub is_list : IsList text (first ∷ others)

-- a comma and at least one item
record Next (text : List ℕ) : Type 0 where
  pub others : List ℕ
  pub text_is : text ≡ 44 ∷ others
  pub listed : Listed others

-- blanks after an item, and what follows them
record Trail (text : List ℕ) : Type 0 where
  pub blanks : List ℕ
  pub rest : List ℕ
  pub text_is : text ≡ blanks ++ rest
  pub are_blank : AllByRecursion IsBlankByte blanks
  pub next : (rest ≡ []) ⊎ Next rest

-- at least this many intervals, and what follows them
record Numbers (least : ℕ) (text : List ℕ) : Type 0 where
  pub numbers : List ℕ
  pub intervals : List (ℕ × ℕ)
  pub rest : List ℕ
  pub text_is : text ≡ numbers ++ rest
  pub are_texts : AreIntervalTexts numbers intervals
  pub some : least ≤ length intervals
  pub trail : Trail rest

-- at least this many digits, and what follows them
record Digits (least : ℕ) (P : List ℕ → Type 0) (text : List ℕ) : Type 0 where
  pub digits : List ℕ
  pub rest : List ℕ
  pub text_is : text ≡ digits ++ rest
  pub are_digits : AllByRecursion IsAsciiDigit digits
  pub some : least ≤ length digits
  pub follows : P rest

-- a hyphen and a second number
record Upto (text : List ℕ) : Type 0 where
  pub others : List ℕ
  pub text_is : text ≡ 45 ∷ others
  pub second : Digits 1 (Numbers 0) others

abbrev AfterFirst : List ℕ → Type 0
AfterFirst text = Numbers 0 text ⊎ Upto text

-- the bytes of a UUID from a place on, and its intervals
record Places (place : ℕ) (text : List ℕ) : Type 0 where
  pub bytes : List ℕ
  pub rest : List ℕ
  pub text_is : text ≡ bytes ++ rest
  pub long : length bytes + place ≡ 36
  pub stand : StandFrom place bytes
  pub numbers : Numbers 1 rest

abbrev Completes : State → List ℕ → Type 0
Completes Start text = IsInGrammar text
Completes Item text = Listed text
Completes (Source place) text = Places place text
Completes First text = Digits 1 AfterFirst text
Completes Lo text = Digits 0 AfterFirst text
Completes Second text = Digits 1 (Numbers 0) text
Completes Hi text = Digits 0 (Numbers 0) text
Completes After text = Trail text

-- ---- Bytes.

blank_is : (b : ℕ) → is_blank b ≡ true → IsBlankByte b
blank_is b e = by (b == 0x20) refl (b == 0x0A) refl e
  where
    by : (x : Bool) → (b == 0x20) ≡ x → (y : Bool) → (b == 0x0A) ≡ y → (x || y || (b == 0x0D)) ≡ true → IsBlankByte b
    by true is y other e = inl (grind (arith, nat_tests))
    by false first true is e = inr (inl (grind (arith, nat_tests)))
    by false first false second e = inr (inr (grind (arith, nat_tests)))

digit_is : (b : ℕ) → is_digit b ≡ true → IsAsciiDigit b
digit_is b e = (grind (arith, nat_tests), grind (arith, nat_tests))

same_byte : (b c : ℕ) → (b == c) ≡ true → c ≡ b
same_byte b c e = grind (arith, nat_tests)

-- ---- One byte more in front.

blank_trail : (b : ℕ) (text : List ℕ) → IsBlankByte b → Trail text → Trail (b ∷ text)
blank_trail b text blank t = record { blanks = b ∷ t.blanks; rest = t.rest; text_is = ap (λ bs. b ∷ bs) t.text_is; are_blank = (blank, t.are_blank); next = t.next }

comma_trail : (text : List ℕ) → Listed text → Trail (44 ∷ text)
comma_trail text l = record { blanks = []; rest = 44 ∷ text; text_is = refl; are_blank = tt; next = inr (record { others = text; text_is = refl; listed = l }) }

no_numbers : (text : List ℕ) → Trail text → Numbers 0 text
no_numbers text t = record { numbers = []; intervals = []; rest = text; text_is = refl; are_texts = refl; some = omega arith; trail = t }

fewer_numbers : (text : List ℕ) → Numbers 1 text → Numbers 0 text
fewer_numbers text n = record { numbers = n.numbers; intervals = n.intervals; rest = n.rest; text_is = n.text_is; are_texts = n.are_texts; some = omega arith; trail = n.trail }

digit_more : (least : ℕ) (P : List ℕ → Type 0) (b : ℕ) (text : List ℕ) → least ≤ 1 → is_digit b ≡ true → Digits 0 P text → Digits least P (b ∷ text)
digit_more least P b text few is d = record {
  digits = b ∷ d.digits;
  rest = d.rest;
  text_is = ap (λ bs. b ∷ bs) d.text_is;
  are_digits = (digit_is b is, d.are_digits);
  some = omega arith;
  follows = d.follows;
}

no_digits : (P : List ℕ → Type 0) (text : List ℕ) → P text → Digits 0 P text
no_digits P text p = record { digits = []; rest = text; text_is = refl; are_digits = tt; some = omega arith; follows = p }

abbrev number_of : List ℕ → ℕ
number_of digits = fold (λ so_far digit. so_far * 10 + (digit - 48)) 0 digits

interval_more : (text first others rest : List ℕ) (i : ℕ × ℕ) → IsIntervalText first i → text ≡ first ++ others → Numbers 0 others → Numbers 1 text
interval_more text first others rest i one e n = record {
  numbers = first ++ n.numbers;
  intervals = i ∷ n.intervals;
  rest = n.rest;
  text_is = e ∙ ap (λ bs. first ++ bs) n.text_is ∙ sym (append_assoc first n.numbers n.rest);
  are_texts = (first, n.numbers, refl, one, n.are_texts);
  some = omega arith;
  trail = n.trail;
}

colon_first : (text : List ℕ) → Digits 1 AfterFirst text → Numbers 1 (58 ∷ text)
colon_first text d = by d.follows
  where
    by : AfterFirst d.rest → Numbers 1 (58 ∷ text)
    by (inl n) = interval_more (58 ∷ text) (58 ∷ d.digits) d.rest [] (number_of d.digits, number_of d.digits)
        (d.digits, (d.some, d.are_digits, refl), inl (refl, refl))
        (ap (λ bs. 58 ∷ bs) d.text_is) n
    by (inr u) = interval_more (58 ∷ text) (58 ∷ d.digits ++ 45 ∷ u.second.digits) u.second.rest [] (number_of d.digits, number_of u.second.digits)
        (d.digits, (d.some, d.are_digits, refl), inr (u.second.digits, (u.second.some, u.second.are_digits, refl), refl))
        (ap (λ bs. 58 ∷ bs) (
        d.text_is
        ∙ ap (λ bs. d.digits ++ bs) (u.text_is ∙ ap (λ bs. 45 ∷ bs) u.second.text_is)
        ∙ sym (append_assoc d.digits (45 ∷ u.second.digits) u.second.rest)))
        u.second.follows

hyphen_first : (text : List ℕ) → Digits 1 (Numbers 0) text → AfterFirst (45 ∷ text)
hyphen_first text d = inr (record { others = text; text_is = refl; second = d })

-- ---- Items.

blank_item : (b : ℕ) (text : List ℕ) (item : SidBlock) → IsBlankByte b → IsItem text item → IsItem (b ∷ text) item
blank_item b text item blank h = record {
  before = b ∷ h.before;
  uuid = h.uuid;
  numbers = h.numbers;
  after = h.after;
  text_is = ap (λ bs. b ∷ bs) h.text_is;
  blanks = ((blank, h.blanks.0), h.blanks.1);
  a_source = h.a_source;
  a_uuid = h.a_uuid;
  some = h.some;
  intervals = h.intervals;
}

blank_list : (b : ℕ) (text : List ℕ) (first : SidBlock) (others : List SidBlock) → IsBlankByte b → IsList text (first ∷ others) → IsList (b ∷ text) (first ∷ others)
blank_list b text first [] blank h = blank_item b text first blank h
blank_list b text first (next ∷ others) blank (front, back, e, one, rest) = (b ∷ front, back, ap (λ bs. b ∷ bs) e, blank_item b front first blank one, rest)

blank_listed : (b : ℕ) (text : List ℕ) → IsBlankByte b → Listed text → Listed (b ∷ text)
blank_listed b text blank l = record { first = l.first; others = l.others; is_list = blank_list b text l.first l.others blank l.is_list }

in_grammar : (text : List ℕ) → Listed text → IsInGrammar text
in_grammar text l = record { items = l.first ∷ l.others; is_list = l.is_list }

blank_grammar : (b : ℕ) (text : List ℕ) → IsBlankByte b → IsInGrammar text → IsInGrammar (b ∷ text)
blank_grammar b text blank g = by g.items g.is_list
  where
    by : (items : List SidBlock) → IsList text items → IsInGrammar (b ∷ text)
    by [] h = record { items = []; is_list = (blank, h) }
    by (first ∷ others) h = record { items = first ∷ others; is_list = blank_list b text first others blank h }

-- the text is an item's
record SomeItem (text : List ℕ) : Type 0 where
  pub item : SidBlock
  pub is_item : IsItem text item

some_item : (uuid numbers blanks : List ℕ) (intervals : List (ℕ × ℕ)) → length uuid ≡ 36 → StandFrom 0 uuid → 0 < length intervals →
    AreIntervalTexts numbers intervals → AllByRecursion IsBlankByte blanks → SomeItem (uuid ++ numbers ++ blanks)
some_item uuid numbers blanks intervals long stand some are_texts are_blank =
    let s = spells uuid long stand in
    record {
      item = record { source = s.source; intervals = intervals };
      is_item = record {
        before = [];
        uuid = uuid;
        numbers = numbers;
        after = blanks;
        text_is = refl;
        blanks = (tt, are_blank);
        a_source = s.is_source;
        a_uuid = s.lowered;
        some = some;
        intervals = are_texts;
      };
    }

item_listed : (text front rest : List ℕ) → text ≡ front ++ rest → SomeItem front → (rest ≡ []) ⊎ Next rest → Listed text
item_listed text front rest e s (inl none) = record {
  first = s.item;
  others = [];
  is_list = subst (λ t. IsItem t s.item) (sym (e ∙ ap (λ bs. front ++ bs) none ∙ append-nil front)) s.is_item;
}
item_listed text front rest e s (inr next) = record {
  first = s.item;
  others = next.listed.first ∷ next.listed.others;
  is_list = (front, next.others, e ∙ ap (λ bs. front ++ bs) next.text_is, s.is_item, next.listed.is_list);
}

hex_listed : (b : ℕ) (text : List ℕ) → is_hex_digit b ≡ true → Places 1 text → Listed (b ∷ text)
hex_listed b text hex p =
    let n = p.numbers in
    let t = p.numbers.trail in
    let whole : b ∷ text ≡ ((b ∷ p.bytes) ++ p.numbers.numbers ++ p.numbers.trail.blanks) ++ p.numbers.trail.rest =
    ap (λ bs. b ∷ bs) (p.text_is ∙ ap (λ bs. p.bytes ++ bs) (n.text_is ∙ ap (λ bs. n.numbers ++ bs) t.text_is))
    ∙ sym (append_assoc ((b ∷ p.bytes) ++ n.numbers) t.blanks t.rest ∙ append_assoc (b ∷ p.bytes) n.numbers (t.blanks ++ t.rest)) in
    let long : length (b ∷ p.bytes) ≡ 36 = omega (arith, p.long) in
    item_listed (b ∷ text) ((b ∷ p.bytes) ++ n.numbers ++ t.blanks) t.rest whole
    (some_item (b ∷ p.bytes) n.numbers t.blanks n.intervals long (hex, p.stand) (omega (arith, n.some)) n.are_texts t.are_blank) t.next

-- ---- One step back.

-- the choice of the first test that holds
pub choose : (test : Bool) (s : State) (o : Option State) (P : State → Type 0) → (test ≡ true → P s) → ((t : State) → o ≡ Some t → P t) →
    (t : State) → (if test then Some s else o) ≡ Some t → P t
choose true s o P holds other t e = let same : s ≡ t = Prim.cc in subst P same (holds refl)
choose false s o P holds other t e = other t e

pub nothing : (P : State → Type 0) (t : State) → None ≡ Some t → P t
nothing P t e = absurd (no_state None t refl e)

end_back : (b : ℕ) (text : List ℕ) (t : State) → end_number b ≡ Some t → Completes t text → Numbers 0 (b ∷ text)
end_back b text =
    choose (b == 58) First (if is_blank b then Some After else if b == 44 then Some Item else None) P
    (λ is h. subst (λ c. Numbers 0 (c ∷ text)) (same_byte b 58 is) (fewer_numbers (58 ∷ text) (colon_first text h)))
    (choose (is_blank b) After (if b == 44 then Some Item else None) P
    (λ is h. no_numbers (b ∷ text) (blank_trail b text (blank_is b is) h))
    (choose (b == 44) Item None P
    (λ is h. no_numbers (b ∷ text) (subst (λ c. Trail (c ∷ text)) (same_byte b 44 is) (comma_trail text h)))
    (nothing P)))
  where
    P : State → Type 0
    P t = Completes t text → Numbers 0 (b ∷ text)

place_back : (place b : ℕ) (text : List ℕ) → stands_at place b ≡ true → Places (place + 1) text → Places place (b ∷ text)
place_back place b text stands p = record {
  bytes = b ∷ p.bytes;
  rest = p.rest;
  text_is = ap (λ bs. b ∷ bs) p.text_is;
  long = omega (arith, p.long);
  stand = (stands, p.stand);
  numbers = p.numbers;
}

colon_back : (place b : ℕ) (text : List ℕ) → (place == 36) ≡ true → (b == 58) ≡ true → Digits 1 AfterFirst text → Places place (b ∷ text)
colon_back place b text last colon h = record {
  bytes = [];
  rest = b ∷ text;
  text_is = refl;
  long = grind (arith, nat_tests);
  stand = tt;
  numbers = subst (λ c. Numbers 1 (c ∷ text)) (same_byte b 58 colon) (colon_first text h);
}

-- What completes a state completes the state before, with the byte between them in front.
back : (s : State) (b : ℕ) (text : List ℕ) (t : State) → step s b ≡ Some t → Completes t text → Completes s (b ∷ text)
back Start b text =
    choose (is_hex_digit b) (Source 1) (if is_blank b then Some Start else None) (λ t. Completes t text → IsInGrammar (b ∷ text))
    (λ is h. in_grammar (b ∷ text) (hex_listed b text is h))
    (choose (is_blank b) Start None (λ t. Completes t text → IsInGrammar (b ∷ text))
    (λ is h. blank_grammar b text (blank_is b is) h)
    (nothing (λ t. Completes t text → IsInGrammar (b ∷ text))))
back Item b text =
    choose (is_hex_digit b) (Source 1) (if is_blank b then Some Item else None) (λ t. Completes t text → Listed (b ∷ text))
    (λ is h. hex_listed b text is h)
    (choose (is_blank b) Item None (λ t. Completes t text → Listed (b ∷ text))
    (λ is h. blank_listed b text (blank_is b is) h)
    (nothing (λ t. Completes t text → Listed (b ∷ text))))
back (Source place) b text = source_back (place == 36) refl
  where
    other : (t : State) → (if stands_at place b then Some (Source (place + 1)) else None) ≡ Some t → Completes t text → Places place (b ∷ text)
    other =
        choose (stands_at place b) (Source (place + 1)) None (λ t. Completes t text → Places place (b ∷ text))
        (λ is h. place_back place b text is h)
        (nothing (λ t. Completes t text → Places place (b ∷ text)))

    source_back : (last : Bool) → (place == 36) ≡ last → (t : State) →
        (if last then (if b == 58 then Some First else None) else if stands_at place b then Some (Source (place + 1)) else None) ≡ Some t →
        Completes t text → Places place (b ∷ text)
    source_back true last =
        choose (b == 58) First None (λ t. Completes t text → Places place (b ∷ text))
        (λ is h. colon_back place b text last is h)
        (nothing (λ t. Completes t text → Places place (b ∷ text)))
    source_back false last = other
back First b text =
    choose (is_digit b) Lo None (λ t. Completes t text → Digits 1 AfterFirst (b ∷ text))
    (λ is h. digit_more 1 AfterFirst b text (omega arith) is h)
    (nothing (λ t. Completes t text → Digits 1 AfterFirst (b ∷ text)))
back Lo b text =
    choose (is_digit b) Lo (if b == 45 then Some Second else end_number b) (λ t. Completes t text → Digits 0 AfterFirst (b ∷ text))
    (λ is h. digit_more 0 AfterFirst b text (omega arith) is h)
    (choose (b == 45) Second (end_number b) (λ t. Completes t text → Digits 0 AfterFirst (b ∷ text))
    (λ is h. no_digits AfterFirst (b ∷ text) (subst (λ c. AfterFirst (c ∷ text)) (same_byte b 45 is) (hyphen_first text h)))
    (λ t e h. no_digits AfterFirst (b ∷ text) (inl (end_back b text t e h))))
back Second b text =
    choose (is_digit b) Hi None (λ t. Completes t text → Digits 1 (Numbers 0) (b ∷ text))
    (λ is h. digit_more 1 (Numbers 0) b text (omega arith) is h)
    (nothing (λ t. Completes t text → Digits 1 (Numbers 0) (b ∷ text)))
back Hi b text =
    choose (is_digit b) Hi (end_number b) (λ t. Completes t text → Digits 0 (Numbers 0) (b ∷ text))
    (λ is h. digit_more 0 (Numbers 0) b text (omega arith) is h)
    (λ t e h. no_digits (Numbers 0) (b ∷ text) (end_back b text t e h))
back After b text =
    choose (is_blank b) After (if b == 44 then Some Item else None) (λ t. Completes t text → Trail (b ∷ text))
    (λ is h. blank_trail b text (blank_is b is) h)
    (choose (b == 44) Item None (λ t. Completes t text → Trail (b ∷ text))
    (λ is h. subst (λ c. Trail (c ∷ text)) (same_byte b 44 is) (comma_trail text h))
    (nothing (λ t. Completes t text → Trail (b ∷ text))))

-- ---- All the way back.

no_trail : Trail []
no_trail = record { blanks = []; rest = []; text_is = refl; are_blank = tt; next = inl refl }

at_end : (s : State) → ends s ≡ true → Completes s []
at_end Start end = record { items = []; is_list = tt }
at_end Lo end = no_digits AfterFirst [] (inl (no_numbers [] no_trail))
at_end Hi end = no_digits (Numbers 0) [] (no_numbers [] no_trail)
at_end After end = no_trail
at_end _ end = absurd (true≢false (sym end))

pub same_state : (s t : State) → Some s ≡ Some t → s ≡ t
same_state s t e = Prim.cc

by_step : (s e : State) (b : ℕ) (text : List ℕ) → ((t : State) → run (Some t) text ≡ Some e → Completes t text) → (o : Option State) → step s b ≡ o → run o text ≡ Some e → Completes s (b ∷ text)
by_step s e b text completes None is ran = absurd (no_state (run None text) e (run_none text) ran)
by_step s e b text completes (Some t) is ran = back s b text t is (completes t ran)

completed : (text : List ℕ) (s e : State) → ends e ≡ true → run (Some s) text ≡ Some e → Completes s text
completed [] s e end ran = at_end s (ap ends (same_state s e ran) ∙ end)
completed (b ∷ text) s e end ran = by_step s e b text (λ t. completed text t e end) (step s b) refl ran

-- The scan brings the text to an end.
pub recognized : (text : List ℕ) (e : State) → run (Some Start) text ≡ Some e → ends e ≡ true → IsInGrammar text
recognized text e ran end = completed text Start e end ran
