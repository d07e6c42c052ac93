-- The number that a text begins with.
use Rattle.std.proofs.Common.{◌≡◌, ℕ, ◌+◌, ◌-◌, ◌*◌, ◌/◌, ◌%◌, ◌<◌, ◌≤◌, ◌^◌, ◌⊎◌, inl, inr, Bool, true, false, List, [], ◌∷◌, ◌++◌, length, drop, get_or, if◌then◌else◌, decimal, refl, ap, sym, subst, ◌∙◌, arith, append_assoc, length-append}
use Rattle.std.proofs.lemmas.Bool.{le-leb, cases_lt}
use Rattle.std.proofs.lemmas.Fmt.{decimal_by_steps, decimal_nonempty, decimal_digit, decimal_step, first_decimal}
use Rattle.columns.specs.Word.{Ends, is_decimal_digit}

-- the number that the digits at the front continue, and what follows them
abbrev pub front : ℕ → List ℕ → ℕ × List ℕ
front n [] = (n, [])
front n (b ∷ bytes) = if is_decimal_digit b then front (n * 10 + (b - 48)) bytes else (n, b ∷ bytes)

pub digit_is : (d : ℕ) → d < 10 → is_decimal_digit (48 + d) ≡ true
digit_is d small = rw (le-leb 48 (48 + d) (omega arith), le-leb (48 + d) 57 (omega arith)) refl

pub front_digit : (n d : ℕ) (bytes : List ℕ) → d < 10 → front n ((48 + d) ∷ bytes) ≡ front (n * 10 + d) bytes
front_digit n d bytes small =
    let same : 48 + d - 48 ≡ d = omega arith in
    rw (digit_is d small) (ap (λ (k : ℕ). front (n * 10 + k) bytes) same)

pub front_decimal : (n : ℕ) → n < 2 ^ 64 → (rest : List ℕ) → front 0 (decimal n ++ rest) ≡ front n rest
front_decimal = decimal_by_steps (λ n digits. (rest : List ℕ) → front 0 (digits ++ rest) ≡ front n rest)
    (λ n small rest. let same : 0 * 10 + n ≡ n = omega arith in front_digit 0 n rest small ∙ ap (λ (k : ℕ). front k rest) same)
    (λ n digits large h rest.
    let last : n / 10 * 10 + n % 10 ≡ n = omega arith in
    ap (front 0) (append_assoc digits ((48 + n % 10) ∷ []) rest) ∙ h ((48 + n % 10) ∷ rest) ∙ front_digit (n / 10) (n % 10) rest (omega arith) ∙ ap (λ (k : ℕ). front k rest) last)

pub front_end : (n : ℕ) (rest : List ℕ) → Ends is_decimal_digit rest → front n rest ≡ (n, rest)
front_end n [] end = refl
front_end n (b ∷ rest) end = rw end refl

-- a number with its digits at the front is that number
pub front_is : (n : ℕ) (rest text : List ℕ) → n < 100000 → Ends is_decimal_digit rest → text ≡ decimal n ++ rest → front 0 text ≡ (n, rest)
front_is n rest text small end e = ap (front 0) e ∙ front_decimal n (omega arith) rest ∙ front_end n rest end

-- digits make a number no smaller
pub front_grows : (n : ℕ) (bytes : List ℕ) → n ≤ (front n bytes).0
front_grows n [] = omega arith
front_grows n (b ∷ bytes) = by (is_decimal_digit b) (front_grows (n * 10 + (b - 48)) bytes)
  where
    by : (digit : Bool) → n * 10 + (b - 48) ≤ (front (n * 10 + (b - 48)) bytes).0 → n ≤ (if digit then front (n * 10 + (b - 48)) bytes else (n, b ∷ bytes)).0
    by true more = omega (arith, more)
    by false more = omega arith

pub absent : (text : List ℕ) (n : ℕ) (rest : List ℕ) → n < 100000 → Ends is_decimal_digit rest → text ≡ decimal n ++ rest → Ends is_decimal_digit text → ⊥
absent text n rest small end e none =
    let same : text ≡ rest = ap (λ (pair : ℕ × List ℕ). pair.1) (sym (front_end 0 text none) ∙ front_is n rest text small end e) in
    omega (arith, ap length e, ap length same, length-append (decimal n) rest, decimal_nonempty n (omega arith))

first_of_two : (a b : List ℕ) → 0 < length a → get_or (a ++ b) 0 0 ≡ get_or a 0 0
first_of_two [] b some = absurd (omega arith)
first_of_two (c ∷ a) b some = refl

-- a zero in front of another digit
pub leading_zero : (text : List ℕ) (no_digit d : ℕ) (left more : List ℕ) → no_digit ≡ 0 → text ≡ decimal no_digit ++ left → left ≡ (48 + d) ∷ more → d < 10 →
    (n : ℕ) (rest : List ℕ) → n < 100000 → Ends is_decimal_digit rest → text ≡ decimal n ++ rest → ⊥
leading_zero text no_digit d left more none is left_is small n rest few end e = by (cases_lt 0 n)
  where
    zero_text : text ≡ 48 ∷ left
    zero_text = is ∙ ap (λ (k : ℕ). decimal k ++ left) none ∙ ap (λ (xs : List ℕ). xs ++ left) (decimal_digit 0 (omega arith))

    by : (0 < n) ⊎ (n ≤ 0) → ⊥
    by (inl above) =
        let first = first_decimal n above (omega arith) in
        omega (arith, first, ap (λ (xs : List ℕ). get_or xs 0 0) (sym zero_text ∙ e), first_of_two (decimal n) rest (decimal_nonempty n (omega arith)))
    by (inr none') =
        let n_is : n ≡ 0 = omega arith in
        let same : left ≡ rest = ap (λ (xs : List ℕ). drop 1 xs) (sym zero_text ∙ e ∙ ap (λ (k : ℕ). decimal k ++ rest) n_is ∙ ap (λ (xs : List ℕ). xs ++ rest) (decimal_digit 0 (omega arith))) in
        let ends : Ends is_decimal_digit ((48 + d) ∷ more) = subst (Ends is_decimal_digit) (sym same ∙ left_is) end in
        grind (arith, ends, digit_is d small)

-- another digit after five of them
pub too_great : (text : List ℕ) (so_far d : ℕ) (left more : List ℕ) → 10000 ≤ so_far → front 0 text ≡ front so_far left → left ≡ (48 + d) ∷ more → d < 10 →
    (n : ℕ) (rest : List ℕ) → n < 100000 → Ends is_decimal_digit rest → text ≡ decimal n ++ rest → ⊥
too_great text so_far d left more great same left_is small n rest few end e =
    let is : (n, rest) ≡ front (so_far * 10 + d) more = sym (front_is n rest text few end e) ∙ same ∙ ap (front so_far) left_is ∙ front_digit so_far d more small in
    omega (arith, ap (λ pair. pair.0) is, front_grows (so_far * 10 + d) more)

-- one more digit is read
pub one_more : (text : List ℕ) (so_far d : ℕ) (left more : List ℕ) → 0 < so_far → so_far < 10000 → text ≡ decimal so_far ++ left → left ≡ (48 + d) ∷ more → d < 10 →
    text ≡ decimal (so_far * 10 + d) ++ more
one_more text so_far d left more some few is left_is small =
    let tens : (so_far * 10 + d) / 10 ≡ so_far = omega arith in
    let ones : (so_far * 10 + d) % 10 ≡ d = omega arith in
    let longer : decimal (so_far * 10 + d) ≡ decimal so_far ++ (48 + d) ∷ [] =
    decimal_step (so_far * 10 + d) (omega arith) (omega arith) ∙ (λ i. decimal (tens i) ++ (48 + ones i) ∷ []) in
    is ∙ ap (λ (xs : List ℕ). decimal so_far ++ xs) left_is ∙ sym (append_assoc (decimal so_far) ((48 + d) ∷ []) more) ∙ ap (λ (xs : List ℕ). xs ++ more) (sym longer)

pub more_same : (text : List ℕ) (so_far d : ℕ) (left more : List ℕ) → front 0 text ≡ front so_far left → left ≡ (48 + d) ∷ more → d < 10 → front 0 text ≡ front (so_far * 10 + d) more
more_same text so_far d left more same left_is small = same ∙ ap (front so_far) left_is ∙ front_digit so_far d more small

pub first_digit : (text : List ℕ) (d : ℕ) (more : List ℕ) → text ≡ (48 + d) ∷ more → d < 10 → (text ≡ decimal d ++ more) × (front 0 text ≡ front d more)
first_digit text d more is small = (
  is ∙ ap (λ (xs : List ℕ). xs ++ more) (sym (decimal_digit d small)),
  (let plain : 0 * 10 + d ≡ d = omega arith in more_same text 0 d text more refl is small ∙ ap (λ (k : ℕ). front k more) plain),
)

pub whole_number : (text : List ℕ) (so_far : ℕ) (left : List ℕ) → front 0 text ≡ front so_far left → Ends is_decimal_digit left →
    (n : ℕ) (rest : List ℕ) → n < 100000 → Ends is_decimal_digit rest → text ≡ decimal n ++ rest → (so_far ≡ n) × (left ≡ rest)
whole_number text so_far left same stop n rest small end e =
    let is : (so_far, left) ≡ (n, rest) = sym (front_end so_far left stop) ∙ sym same ∙ front_is n rest text small end e in
    (ap (λ pair. pair.0) is, ap (λ pair. pair.1) is)
