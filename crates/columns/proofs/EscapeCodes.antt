-- What stands for a byte is cut off in one way.
use Rattle.columns.proofs.Names.{◌≡◌, ℕ, suc, ◌<◌, ◌/◌, ◌%◌, ◌⊎◌, inl, inr, Bool, true, false, if◌then◌else◌, List, [], ◌∷◌, ◌++◌, length, get_or, refl, ap, sym, ◌∙◌, Option, Some, None, arith, length-append, append-nil, append_assoc, ◌+◌, ◌-◌, ◌≤◌, take, AllByRecursion, eqb-true, take-append-drop, length-drop, flat_map-append, Client, Quoted}
use Rattle.std.proofs.Common.{drop, add-one}
use Rattle.std.specs.Prelude.{◌==◌, IfNone}
use Rattle.std.specs.Char.{digit_char}
use Rattle.std.proofs.lemmas.List.{take_rest, get_or-take, get_or-drop, length-take}
use Rattle.std.proofs.Math.Seq.{take-add, take-suc}
use Rattle.columns.specs.Escapes.{escape, escaped, hex_pair, BeginsWithCode, BeginsWithNone}
use Rattle.columns.specs.declared.escape.Layer.{Layer}
use Rattle.columns.proofs.Codes.{IsCode, one_way}

either : (t : Bool) (x y : List ℕ) (P : List ℕ → Type 0) → P x → P y → P (if t then x else y)
either true x y P p q = p
either false x y P p q = q

where_equal : (a n : ℕ) (x y : List ℕ) (P : List ℕ → Type 0) → (a ≡ n → P x) → P y → P (if a == n then x else y)
where_equal a n x y P p q = by (a == n) refl
  where
    by : (t : Bool) → (a == n) ≡ t → P (if t then x else y)
    by true h = p (eqb-true a n h)
    by false h = q

-- the byte itself, or two
pub one_or_two : (layer : Layer) (b : ℕ) → (escape layer b ≡ b ∷ []) ⊎ (length (escape layer b) ≡ 2)
one_or_two Client b =
    let P : List ℕ → Type 0 = λ text. (text ≡ b ∷ []) ⊎ (length text ≡ 2) in
    either (b == 9) _ _ P (inr refl) (either (b == 10) _ _ P (inr refl) (either (b == 92) _ _ P (inr refl) (either (b == 0) _ _ P (inr refl) (inl refl))))
one_or_two Quoted b =
    let P : List ℕ → Type 0 = λ text. (text ≡ b ∷ []) ⊎ (length text ≡ 2) in
    either (b == 39) _ _ P (inr refl) (either (b == 10) _ _ P (inr refl) (either (b == 13) _ _ P (inr refl) (either (b == 92) _ _ P (inr refl) (either (b == 0) _ _ P (inr refl) (inl refl)))))

-- the first of two stands for no byte by itself
first_of_two : (layer : Layer) (b : ℕ) → length (escape layer b) ≡ 2 → length (escape layer (get_or (escape layer b) 0 0)) ≡ 2
first_of_two Client b =
    let P : List ℕ → Type 0 = λ text. length text ≡ 2 → length (escape Client (get_or text 0 0)) ≡ 2 in
    either (b == 9) _ _ P (λ _. refl) (either (b == 10) _ _ P (λ _. refl) (either (b == 92) _ _ P (λ _. refl) (either (b == 0) _ _ P (λ _. refl) (λ two. absurd (omega (arith, two))))))
first_of_two Quoted b =
    let P : List ℕ → Type 0 = λ text. length text ≡ 2 → length (escape Quoted (get_or text 0 0)) ≡ 2 in
    either (b == 39) _ _ P (λ _. refl) (either (b == 10) _ _ P (λ _. refl) (either (b == 13) _ _ P (λ _. refl) (either (b == 92) _ _ P (λ _. refl) (either (b == 0) _ _ P (λ _. refl) (λ two. absurd (omega (arith, two)))))))

-- the byte that they stand for
abbrev meant : List ℕ → ℕ
meant [] = 0
meant (a ∷ []) = a
meant (a ∷ (b ∷ bytes)) = if b == 116 then 9 else if b == 110 then 10 else if b == 114 then 13 else if b == 48 then 0 else b

meant_is : (layer : Layer) (b : ℕ) → meant (escape layer b) ≡ b
meant_is Client b =
    let P : List ℕ → Type 0 = λ text. meant text ≡ b in
    where_equal b 9 _ _ P (λ e. sym e) (where_equal b 10 _ _ P (λ e. sym e) (where_equal b 92 _ _ P (λ e. sym e) (where_equal b 0 _ _ P (λ e. sym e) refl)))
meant_is Quoted b =
    let P : List ℕ → Type 0 = λ text. meant text ≡ b in
    where_equal b 39 _ _ P (λ e. sym e) (where_equal b 10 _ _ P (λ e. sym e) (where_equal b 13 _ _ P (λ e. sym e) (where_equal b 92 _ _ P (λ e. sym e) (where_equal b 0 _ _ P (λ e. sym e) refl))))

-- two bytes in front
pub two_ahead : (a x : List ℕ) (f s : ℕ) (rest : List ℕ) → length a ≡ 2 → f ∷ s ∷ rest ≡ a ++ x → (a ≡ f ∷ s ∷ []) × (x ≡ rest)
two_ahead [] x f s rest two e = absurd (omega (arith, two))
two_ahead (b ∷ []) x f s rest two e = absurd (omega (arith, two))
two_ahead (b ∷ (c ∷ [])) x f s rest two e =
    ((λ i. ap (λ text. get_or text 0 0) (sym e) i ∷ ap (λ text. get_or text 1 0) (sym e) i ∷ []), ap (λ text. drop 2 text) (sym e))
two_ahead (b ∷ (c ∷ (d ∷ more))) x f s rest two e = absurd (omega (arith, two))

some_ahead : (a x : List ℕ) → length a ≡ 2 → get_or (a ++ x) 0 0 ≡ get_or a 0 0
some_ahead [] x two = absurd (omega (arith, two))
some_ahead (b ∷ a) x two = refl

differ : (layer : Layer) (a b : ℕ) (x y : List ℕ) → escape layer a ≡ a ∷ [] → length (escape layer b) ≡ 2 → escape layer a ++ x ≡ escape layer b ++ y → ⊥
differ layer a b x y one two e =
    let heads : a ≡ get_or (escape layer b) 0 0 =
    ap (λ (text : List ℕ). get_or (text ++ x) 0 0) (sym one) ∙ ap (λ text. get_or text 0 0) e ∙ some_ahead (escape layer b) y two in
    omega (arith, ap length one, ap (λ (n : ℕ). length (escape layer n)) heads, first_of_two layer b two)

pub escape_cut : (layer : Layer) (a b : ℕ) (x y : List ℕ) → escape layer a ++ x ≡ escape layer b ++ y → (a ≡ b) × (x ≡ y)
escape_cut layer a b x y e = by (one_or_two layer a) (one_or_two layer b)
  where
    by : (escape layer a ≡ a ∷ []) ⊎ (length (escape layer a) ≡ 2) → (escape layer b ≡ b ∷ []) ⊎ (length (escape layer b) ≡ 2) → (a ≡ b) × (x ≡ y)
    by (inl p) (inl q) =
        let whole : a ∷ x ≡ b ∷ y = ap (λ (text : List ℕ). text ++ x) (sym p) ∙ e ∙ ap (λ (text : List ℕ). text ++ y) q in
        (ap (λ text. get_or text 0 0) whole, ap (λ text. drop 1 text) whole)
    by (inl p) (inr q) = absurd (differ layer a b x y p q e)
    by (inr p) (inl q) = absurd (differ layer b a y x q p (sym e))
    by (inr p) (inr q) = pairs (escape layer a) (escape layer b) p q e (meant_is layer a) (meant_is layer b)
      where
        pairs : (s t : List ℕ) → length s ≡ 2 → length t ≡ 2 → s ++ x ≡ t ++ y → meant s ≡ a → meant t ≡ b → (a ≡ b) × (x ≡ y)
        pairs [] t p q e h k = absurd (omega (arith, p))
        pairs (c ∷ []) t p q e h k = absurd (omega (arith, p))
        pairs (c ∷ (d ∷ [])) t p q e h k =
            let both = two_ahead t y c d x q e in
            (sym h ∙ ap meant (sym both.0) ∙ k, sym both.1)
        pairs (c ∷ (d ∷ (f ∷ more))) t p q e h k = absurd (omega (arith, p))

pub escapes : (layer : Layer) → IsCode ℕ (λ _. Unit {0}) (λ _. Unit {0}) (escape layer)
escapes layer = record {
  starts = λ a x. tt;
  cut = λ a b x y _ _ _ _ e. escape_cut layer a b x y e;
}

any_bytes : (bytes : List ℕ) → AllByRecursion (λ (_ : ℕ). Unit {0}) bytes
any_bytes [] = tt
any_bytes (b ∷ bytes) = (tt, any_bytes bytes)

-- bytes that were read as far as there are any are those of the text
pub same_bytes : (layer : Layer) (done whole x y : List ℕ) → BeginsWithNone layer x → BeginsWithNone layer y → escaped layer done ++ x ≡ escaped layer whole ++ y → (done ≡ whole) × (x ≡ y)
same_bytes layer done whole x y stops none e =
    one_way ℕ (λ _. Unit {0}) (λ _. Unit {0}) (escape layer) (escapes layer) done whole x y (any_bytes done) (any_bytes whole) tt tt
    (λ a rest _ _ is. stops a rest is) (λ a rest _ _ is. none a rest is) e

some_more : (layer : Layer) (b : ℕ) (rest : List ℕ) → [] ≡ escape layer b ++ rest → ⊥
some_more layer b rest e = by (one_or_two layer b)
  where
    by : (escape layer b ≡ b ∷ []) ⊎ (length (escape layer b) ≡ 2) → ⊥
    by (inl one) = omega (arith, ap length e, length-append (escape layer b) rest, ap length one)
    by (inr two) = omega (arith, ap length e, length-append (escape layer b) rest, two)

pub none_at_end : (layer : Layer) → BeginsWithNone layer []
none_at_end layer b rest e = some_more layer b rest e

-- a byte that does not stand for itself, and nothing else
pub none_of_one : (layer : Layer) (text : List ℕ) → length text ≡ 1 → length (escape layer (get_or text 0 0)) ≡ 2 → BeginsWithNone layer text
none_of_one layer text alone two b rest e = by (one_or_two layer b)
  where
    by : (escape layer b ≡ b ∷ []) ⊎ (length (escape layer b) ≡ 2) → ⊥
    by (inl one) =
        let heads : get_or text 0 0 ≡ b = ap (λ text. get_or text 0 0) (e ∙ ap (λ (text : List ℕ). text ++ rest) one) in
        omega (arith, two, ap (λ (n : ℕ). length (escape layer n)) heads, ap length one)
    by (inr more) = omega (arith, ap length e, length-append (escape layer b) rest, more, alone)

-- two that stand for no byte together
pub none_of_two : (layer : Layer) (text : List ℕ) (first second : ℕ) → get_or text 0 0 ≡ first → get_or text 1 0 ≡ second → length (escape layer first) ≡ 2 →
    ((b : ℕ) → escape layer b ≡ first ∷ second ∷ [] → ⊥) → BeginsWithNone layer text
none_of_two layer text first second is also two never b rest e = by (one_or_two layer b)
  where
    by : (escape layer b ≡ b ∷ []) ⊎ (length (escape layer b) ≡ 2) → ⊥
    by (inl one) =
        let heads : first ≡ b = sym is ∙ ap (λ text. get_or text 0 0) (e ∙ ap (λ (text : List ℕ). text ++ rest) one) in
        omega (arith, two, ap (λ (n : ℕ). length (escape layer n)) heads, ap length one)
    by (inr more) = pair (escape layer b) more refl (sym is ∙ ap (λ text. get_or text 0 0) e) (sym also ∙ ap (λ text. get_or text 1 0) e)
      where
        pair : (s : List ℕ) → length s ≡ 2 → escape layer b ≡ s → first ≡ get_or (s ++ rest) 0 0 → second ≡ get_or (s ++ rest) 1 0 → ⊥
        pair [] long same h k = omega (arith, long)
        pair (x ∷ []) long same h k = omega (arith, long)
        pair (x ∷ (y ∷ [])) long same h k = never b (same ∙ (λ i. sym h i ∷ sym k i ∷ []))
        pair (x ∷ (y ∷ (z ∷ more'))) long same h k = omega (arith, long)

pub second_of : (text : List ℕ) → get_or text 1 0 ≡ get_or (take (length text - 1) (drop 1 text)) 0 0
second_of [] = refl
second_of (a ∷ text) = ap (λ (xs : List ℕ). get_or xs 0 0) (sym (take_rest (a ∷ text) 1))

-- a quote in front of two is one of two quotes
pub quote_twice : (b : ℕ) → length (escape Quoted b) ≡ 2 → get_or (escape Quoted b) 0 0 ≡ 39 → get_or (escape Quoted b) 1 0 ≡ 39
quote_twice b =
    let P : List ℕ → Type 0 = λ text. length text ≡ 2 → get_or text 0 0 ≡ 39 → get_or text 1 0 ≡ 39 in
    either (b == 39) _ _ P (λ _ _. refl) (either (b == 10) _ _ P (λ _ e. absurd (omega (arith, e))) (either (b == 13) _ _ P (λ _ e. absurd (omega (arith, e)))
    (either (b == 92) _ _ P (λ _ e. absurd (omega (arith, e))) (either (b == 0) _ _ P (λ _ e. absurd (omega (arith, e))) (λ two _. absurd (omega (arith, two)))))))

pub none_of_none : {A : Type 0} (P : Type 0) (r : Option A) → P → IfNone r P
none_of_none P None p = p
none_of_none P (Some a) p = tt

-- a text that is read up to its end, or to what stands for nothing
pub whole_text : (layer : Layer) (done whole rest text : List ℕ) → text ≡ escaped layer done ++ rest → BeginsWithNone layer rest → text ≡ escaped layer whole →
    (done ≡ whole) × (rest ≡ [])
whole_text layer done whole rest text read none is =
    same_bytes layer done whole rest [] none (none_at_end layer) (sym read ∙ is ∙ sym (append-nil (escaped layer whole)))

-- each byte from one place to another stands for itself
abbrev pub ArePlain : Layer → List ℕ → ℕ → ℕ → Type 0
ArePlain layer text from to = (k : ℕ) → from ≤ k → k < to → escape layer (get_or text k 0) ≡ get_or text k 0 ∷ []

plain_bytes : (layer : Layer) (text : List ℕ) → ((k : ℕ) → k < length text → escape layer (get_or text k 0) ≡ get_or text k 0 ∷ []) → escaped layer text ≡ text
plain_bytes layer [] each = refl
plain_bytes layer (b ∷ text) each = (λ i. each 0 (omega arith) i ++ plain_bytes layer text (λ k below. each (suc k) (omega arith)) i)

-- a run is written as it stands
pub run_written : (layer : Layer) (text : List ℕ) (from to : ℕ) → from ≤ to → to ≤ length text → ArePlain layer text from to →
    escaped layer (take from text) ++ take (to - from) (drop from text) ≡ escaped layer (take to text)
run_written layer text from to ordered within plain =
    let sum : from + (to - from) ≡ to = omega arith in
    let run : escaped layer (take (to - from) (drop from text)) ≡ take (to - from) (drop from text) =
    plain_bytes layer (take (to - from) (drop from text)) (λ k below.
    let inside : k < to - from = omega (arith, below, length-take (to - from) (drop from text)) in
    let same : get_or (take (to - from) (drop from text)) k 0 ≡ get_or text (from + k) 0 = get_or-take (to - from) (drop from text) k 0 inside ∙ get_or-drop from text k 0 in
    rw same (plain (from + k) (omega arith) (omega arith))) in
    (λ i. escaped layer (take from text) ++ sym run i) ∙ sym (flat_map-append (escape layer) (take from text) (take (to - from) (drop from text))) ∙
    ap (escaped layer) (sym (take-add from (to - from) text)) ∙ ap (λ (n : ℕ). escaped layer (take n text)) sum

-- and the last one
pub rest_written : (layer : Layer) (text : List ℕ) (from : ℕ) → from ≤ length text → ArePlain layer text from (length text) →
    escaped layer (take from text) ++ drop from text ≡ escaped layer text
rest_written layer text from within plain =
    let run : escaped layer (drop from text) ≡ drop from text =
    plain_bytes layer (drop from text) (λ k below.
    let inside : from + k < length text = omega (arith, below, length-drop from text) in
    rw (get_or-drop from text k 0) (plain (from + k) (omega arith) inside)) in
    (λ i. escaped layer (take from text) ++ sym run i) ∙ sym (flat_map-append (escape layer) (take from text) (drop from text)) ∙
    ap (escaped layer) (take-append-drop from text)

-- a run, and what stands for the byte after it
pub pair_written : (layer : Layer) (text : List ℕ) (from at : ℕ) (run pair : List ℕ) → from ≤ at → at < length text → ArePlain layer text from at →
    run ≡ take (at - from) (drop from text) → escape layer (get_or text at 0) ≡ pair →
    (escaped layer (take from text) ++ run) ++ pair ≡ escaped layer (take (at + 1) text)
pair_written layer text from at run pair ordered within plain run_is pair_is =
    let before : escaped layer (take from text) ++ run ≡ escaped layer (take at text) =
    (λ i. escaped layer (take from text) ++ run_is i) ∙ run_written layer text from at ordered (omega arith) plain in
    let last : escaped layer (get_or text at 0 ∷ []) ≡ pair = append-nil (escape layer (get_or text at 0)) ∙ pair_is in
    (λ i. before i ++ sym last i) ∙ sym (flat_map-append (escape layer) (take at text) (get_or text at 0 ∷ [])) ∙
    ap (escaped layer) (sym (take-suc text at 0 within)) ∙ ap (λ (n : ℕ). escaped layer (take n text)) (sym (add-one at))

-- two stand for an ASCII character alone
pub pair_small : (layer : Layer) (b : ℕ) → length (escape layer b) ≡ 2 → b < 128
pair_small Client b =
    let P : List ℕ → Type 0 = λ text. length text ≡ 2 → b < 128 in
    where_equal b 9 _ _ P (λ e _. omega (arith, e)) (where_equal b 10 _ _ P (λ e _. omega (arith, e)) (where_equal b 92 _ _ P (λ e _. omega (arith, e)) (where_equal b 0 _ _ P (λ e _. omega (arith, e)) (λ two. absurd (omega (arith, two))))))
pair_small Quoted b =
    let P : List ℕ → Type 0 = λ text. length text ≡ 2 → b < 128 in
    where_equal b 39 _ _ P (λ e _. omega (arith, e)) (where_equal b 10 _ _ P (λ e _. omega (arith, e)) (where_equal b 13 _ _ P (λ e _. omega (arith, e)) (where_equal b 92 _ _ P (λ e _. omega (arith, e)) (where_equal b 0 _ _ P (λ e _. omega (arith, e)) (λ two. absurd (omega (arith, two)))))))

-- hexadecimal digits
digit_same : (c d : ℕ) → digit_char c ≡ digit_char d → c ≡ d
digit_same c d e = grind (arith, e)

pub hex_cut : (a b : ℕ) (x y : List ℕ) → hex_pair a ++ x ≡ hex_pair b ++ y → (a ≡ b) × (x ≡ y)
hex_cut a b x y e =
    let high : a / 16 ≡ b / 16 = digit_same (a / 16) (b / 16) (ap (λ text. get_or text 0 0) e) in
    let low : a % 16 ≡ b % 16 = digit_same (a % 16) (b % 16) (ap (λ text. get_or text 1 0) e) in
    (omega (arith, high, low), ap (λ text. drop 2 text) e)

-- a text of bytes in front of one more begins with a byte
pub begins_there : (layer : Layer) (bytes left text : List ℕ) → text ≡ escaped layer bytes ++ left → BeginsWithCode layer left → BeginsWithCode layer text
begins_there layer [] left text is begins = (begins.0, begins.1, is ∙ begins.2)
begins_there layer (b ∷ bytes) left text is begins = (b, escaped layer bytes ++ left, is ∙ append_assoc (escape layer b) (escaped layer bytes) left)
