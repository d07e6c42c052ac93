-- Some text of the grammar continues what the scan has read. None continues what it stops at.
use Rattle.gtid.proofs.Names.{◌≡◌, ℕ, zero, suc, ◌+◌, ◌-◌, ◌<◌, ◌≤◌, ◌==◌, Bool, true, false, if◌then◌else◌, Some, None, List, [], ◌∷◌, ◌++◌, length, take, get_or, refl, ap, sym, subst, ◌∙◌, arith, append-nil, nat_tests, is_hyphen_place, SidBlock, IsList, IsInGrammar, IsOutsideFrom, ends, stands_at, IsPlaced, IsPassed, State, Start, Item, First, Lo, Second, Hi}
use Rattle.std.proofs.Common.{drop, length-append, true≢false, take-add, take_all}
use Rattle.uuid.specs.Text.{is_hex_digit}
use Rattle.gtid.specs.Text.{BeginsText}
use Rattle.gtid.specs.Scan.{step, run}
use Rattle.gtid.specs.declared.grammar.State.TheVariants.{Source}
use Rattle.gtid.proofs.ScanComplete.{run_none, run_append, run_on, run_list, begins_none, tested_second, Ended}
use Rattle.gtid.proofs.ScanSound.{recognized, same_state}

-- the rest of a UUID from a place on, and an interval
abbrev filling : ℕ → ℕ → List ℕ
filling place zero = 58 ∷ 49 ∷ []
filling place (suc n) = (if is_hyphen_place place then 45 else 48) ∷ filling (place + 1) n

-- what a text may go on with
abbrev ending : State → List ℕ
ending Item = 48 ∷ filling 1 35
ending (Source place) = filling place (36 - place)
ending First = 49 ∷ []
ending Second = 49 ∷ []
ending _ = []

filling_stands : (place : ℕ) → stands_at place (if is_hyphen_place place then 45 else 48) ≡ true
filling_stands place = by (is_hyphen_place place)
  where
    by : (hyphen : Bool) → (if hyphen then (if hyphen then 45 else 48) == 45 else is_hex_digit (if hyphen then 45 else 48)) ≡ true
    by true = refl
    by false = refl

filled : (n place : ℕ) → place + n ≡ 36 → run (Some (Source place)) (filling place n) ≡ Some Lo
filled zero place long =
    let same : place ≡ 36 = omega arith in
    ap (λ p. run (Some (Source p)) (58 ∷ 49 ∷ [])) same
filled (suc n) place long =
    let before : (place == 36) ≡ false = grind (arith, nat_tests) in
    ap (λ o. run o (filling (place + 1) n)) (tested_second (place == 36) (stands_at place (if is_hyphen_place place then 45 else 48)) (Source (place + 1)) _ _ before (filling_stands place))
    ∙ filled n (place + 1) (omega arith)

ended : (s : State) → IsPlaced s → Ended (run (Some s) (ending s))
ended Item placed = record { state = Lo; is = filled 35 1 refl; end = refl }
ended (Source place) placed = record { state = Lo; is = filled (36 - place) place (omega arith); end = refl }
ended First placed = record { state = Lo; is = refl; end = refl }
ended Second placed = record { state = Hi; is = refl; end = refl }
ended s placed = record { state = s; is = refl; end = refl }

begins_some : (front : List ℕ) (s : State) → run (Some Start) front ≡ Some s → IsPlaced s → BeginsText front
begins_some front s ran placed =
    let e = ended s placed in
    let whole : run (Some Start) (front ++ ending s) ≡ Some e.state =
    run_append (Some Start) front (ending s) ∙ ap (λ o. run o (ending s)) ran ∙ e.is in
    let g = recognized (front ++ ending s) e.state whole e.end in
    (ending s, g.items, g.is_list)

not_listed : (text : List ℕ) → (BeginsText text → ⊥) → (items : List SidBlock) → IsList text items → ⊥
not_listed text begins_not items is_list = begins_not ([], items, subst (λ t. IsList t items) (sym (append-nil text)) is_list)

-- what goes beyond a place where the scan stops
stopped : (text : List ℕ) (i n : ℕ) → run (Some Start) (take i text) ≡ None → i ≤ n → run (Some Start) (take n text) ≡ None
stopped text i n none more =
    let same : n ≡ i + (n - i) = omega arith in
    ap (λ (k : ℕ). run (Some Start) (take k text)) same
    ∙ ap (run (Some Start)) (take-add i (n - i) text)
    ∙ run_append (Some Start) (take i text) (take (n - i) (drop i text))
    ∙ ap (λ o. run o (take (n - i) (drop i text))) none
    ∙ run_none (take (n - i) (drop i text))

pub outside_at : (text : List ℕ) (i b : ℕ) (s : State) → i < length text → b ≡ get_or text i 0 → run (Some Start) (take i text) ≡ Some s → IsPlaced s → step s b ≡ None →
    IsOutsideFrom text i
outside_at text i b s short is ran placed none =
    let here : run (Some Start) (take (i + 1) text) ≡ None = run_on text i b s None short is ran none in
    let whole : take (length text) text ≡ text = take_all (length text) text (omega arith) in
    record {
      outside = not_listed text (begins_none text (ap (run (Some Start)) (sym whole) ∙ stopped text (i + 1) (length text) here (omega arith)));
      within = omega arith;
      begins = begins_some (take i text) s ran placed;
      no_longer = λ n longer within. begins_none (take n text) (stopped text (i + 1) n here (omega arith));
    }

take_front : (front left : List ℕ) → take (length front) (front ++ left) ≡ front
take_front [] left = refl
take_front (b ∷ front) left = ap (λ bs. b ∷ bs) (take_front front left)

get_after : (front left : List ℕ) (b : ℕ) → b ≡ get_or (front ++ b ∷ left) (length front) 0
get_after [] left b = refl
get_after (c ∷ front) left b = get_after front left b

-- No step leads on.
pub outside_here : (text left : List ℕ) (d : ℕ) (s : State) → IsPassed Start text s left → IsPlaced s → 1 ≤ length left → step s (get_or left 0 d) ≡ None → IsOutsideFrom text (length text - length left)
outside_here text [] d s p placed some none = absurd (omega arith)
outside_here text (b ∷ rest) d s p placed some none =
    let long : length text ≡ length p.front + length (b ∷ rest) = ap length p.is ∙ length-append p.front (b ∷ rest) in
    let same : length p.front ≡ length text - length (b ∷ rest) = omega (arith, long) in
    subst (IsOutsideFrom text) same
    (outside_at text (length p.front) b s (omega (arith, long)) (get_after p.front rest b ∙ ap (λ t. get_or t (length p.front) 0) (sym p.is))
    (ap (λ t. run (Some Start) (take (length p.front) t)) p.is ∙ ap (run (Some Start)) (take_front p.front (b ∷ rest)) ∙ p.ran) placed none)

passed_all : {s : State} (text left : List ℕ) → IsPassed Start text s left → length left < 1 → run (Some Start) text ≡ Some s
passed_all {s} text [] p none = ap (run (Some Start)) (p.is ∙ append-nil p.front) ∙ p.ran
passed_all text (b ∷ rest) p none = absurd (omega arith)

-- The text may not end in this state of the scan.
pub outside_end : (text left : List ℕ) (s : State) → IsPassed Start text s left → IsPlaced s → length left < 1 → ends s ≡ false → IsOutsideFrom text (length text)
outside_end text left s p placed none open_end =
    let here : run (Some Start) text ≡ Some s = passed_all text left p none in
    record {
      outside = λ items is_list.
          let e = run_list text items is_list in
          true≢false (sym e.end ∙ ap ends (same_state e.state s (sym e.is ∙ here)) ∙ open_end);
      within = omega arith;
      begins = begins_some (take (length text) text) s (ap (run (Some Start)) (take_all (length text) text (omega arith)) ∙ here) placed;
      no_longer = λ n longer within begins. absurd (omega arith);
    }

-- The text ends where it may.
pub in_grammar_end : (text left : List ℕ) (s : State) → IsPassed Start text s left → length left < 1 → ends s ≡ true → IsInGrammar text
in_grammar_end text left s p none end = recognized text s (passed_all text left p none) end
