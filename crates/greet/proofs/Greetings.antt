-- Greetings: what they say, and that anything else is refused.
use Rattle.greet.proofs.Names.{◌≡◌, ℕ, suc, ◌+◌, ◌*◌, ◌-◌, ◌<◌, ◌≤◌, ◌^◌, max, List, [], ◌∷◌, ◌++◌, length, get_or, take, Some, None, bit_and, refl, sym, ap, ◌∙◌, arith, le-ltb, lt-ltb, drop-drop, length-append, length-drop, length-take, take_at, take-append-drop, little_bytes, little_number, little_from-lt, IsText, needed, GreetingValue, IsGreeting, truncated, before_zero, after_zero, IsBytes, IsBytes-drop}
use Rattle.std.proofs.Common.{zero, drop}
use Rattle.std.proofs.lemmas.List.{take-append-le}
use Rattle.greet.specs.Refusal.{fields_refusal, greeting_refusal}
use Rattle.wire.proofs.Cuts.{number_at_front, number_is, first_left, cut, one, after}
use Rattle.greet.proofs.Cuts.{after_zero-text, after_zero-none, before_zero-text, right_9}

-- what a greeting says
abbrev pub greeting_of : List ℕ → List ℕ → GreetingValue
greeting_of version fields = record {
  version = version;
  thread = little_number 4 fields;
  scramble = take 8 (drop 4 fields) ++ take 12 (drop 31 fields);
  capabilities = little_number 2 (drop 13 fields) + 2 ^ 16 * little_number 2 (drop 18 fields);
  charset = get_or fields 15 0;
  status = little_number 2 (drop 16 fields);
}

take_take : (n m : ℕ) (xs : List ℕ) → n ≤ m → take n (take m xs) ≡ take n xs
take_take zero m xs le = refl
take_take (suc n) zero xs le = absurd (omega (arith, le))
take_take (suc n) (suc m) [] le = refl
take_take (suc n) (suc m) (x ∷ xs) le = ap (λ t. x ∷ t) (take_take n m xs (omega (arith, le)))

pub no_fields : (body : List ℕ) → IsText body → fields_refusal (after_zero body) ≡ Some truncated
unfolding fields_refusal
no_fields body text = rw (after_zero-none body text) refl

pub short_second : (fields : List ℕ) → 31 ≤ length fields → bit_and (little_number 2 (drop 13 fields) + 2 ^ 16 * little_number 2 (drop 18 fields)) needed ≡ needed →
    length fields < 31 + max 13 (get_or fields 20 0 - 8) → fields_refusal fields ≡ Some truncated
unfolding fields_refusal
short_second fields long has short = rw (le-ltb _ _ long, has, lt-ltb _ _ short) refl

pub is_greeting : (version fields : List ℕ) → IsText version → IsBytes fields → 31 + max 13 (get_or fields 20 0 - 8) ≤ length fields →
    bit_and (little_number 2 (drop 13 fields) + 2 ^ 16 * little_number 2 (drop 18 fields)) needed ≡ needed →
    IsGreeting (greeting_of version fields) (10 ∷ version ++ 0 ∷ fields)
is_greeting version fields text fits long has =
    let f4 : 4 ≤ length fields = omega (arith, long) in
    let f13 : 2 ≤ length (drop 13 fields) = omega (arith, long, length-drop 13 fields) in
    let f16 : 2 ≤ length (drop 16 fields) = omega (arith, long, length-drop 16 fields) in
    let f18 : 2 ≤ length (drop 18 fields) = omega (arith, long, length-drop 18 fields) in
    let c20 : drop 20 fields ≡ get_or fields 20 0 ∷ (take 10 (drop 21 fields) ++ (take (max 13 (get_or fields 20 0 - 8)) (drop 31 fields) ++ drop (max 13 (get_or fields 20 0 - 8)) (drop 31 fields))) =
    one 20 fields (omega (arith, long)) ∙ ap (λ t. get_or fields 20 0 ∷ t) (cut 21 10 fields ∙ ap (λ t. take 10 (drop 21 fields) ++ t) (sym (take-append-drop (max 13 (get_or fields 20 0 - 8)) (drop 31 fields)))) in
    let c18 = number_at_front 2 (drop 18 fields) f18 (IsBytes-drop 18 fields fits) ∙ ap (λ t. little_bytes 2 (little_number 2 (drop 18 fields)) ++ t) (drop-drop 2 18 fields ∙ c20) in
    let c16 = number_at_front 2 (drop 16 fields) f16 (IsBytes-drop 16 fields fits) ∙ ap (λ t. little_bytes 2 (little_number 2 (drop 16 fields)) ++ t) (drop-drop 2 16 fields ∙ c18) in
    let c15 = one 15 fields (omega (arith, long)) ∙ ap (λ t. get_or fields 15 0 ∷ t) c16 in
    let c13 = number_at_front 2 (drop 13 fields) f13 (IsBytes-drop 13 fields fits) ∙ ap (λ t. little_bytes 2 (little_number 2 (drop 13 fields)) ++ t) (drop-drop 2 13 fields ∙ c15) in
    let c12 = one 12 fields (omega (arith, long)) ∙ ap (λ t. get_or fields 12 0 ∷ t) c13 in
    let c4 = cut 4 8 fields ∙ ap (λ t. take 8 (drop 4 fields) ++ t) c12 in
    let c0 = number_at_front 4 fields f4 fits ∙ ap (λ t. little_bytes 4 (little_number 4 fields) ++ t) c4 in
    record {
      first = take 8 (drop 4 fields);
      filler = get_or fields 12 0;
      low = little_number 2 (drop 13 fields);
      high = little_number 2 (drop 18 fields);
      size = get_or fields 20 0;
      reserved = take 10 (drop 21 fields);
      second = take (max 13 (get_or fields 20 0 - 8)) (drop 31 fields);
      ignored = drop (max 13 (get_or fields 20 0 - 8)) (drop 31 fields);
      payload_is = ap (λ t. 10 ∷ version ++ 0 ∷ t) c0
          ∙ sym (right_9 (10 ∷ version) (0 ∷ little_bytes 4 (little_number 4 fields)) (take 8 (drop 4 fields)) (get_or fields 12 0 ∷ little_bytes 2 (little_number 2 (drop 13 fields))) (get_or fields 15 0 ∷ little_bytes 2 (little_number 2 (drop 16 fields)))
          (little_bytes 2 (little_number 2 (drop 18 fields))) (get_or fields 20 0 ∷ take 10 (drop 21 fields)) (take (max 13 (get_or fields 20 0 - 8)) (drop 31 fields)) (drop (max 13 (get_or fields 20 0 - 8)) (drop 31 fields)));
      sizes = (
        omega (arith, long, length-take 8 (drop 4 fields), length-drop 4 fields),
        omega (arith, long, length-take 10 (drop 21 fields), length-drop 21 fields),
        omega (arith, long, length-take (max 13 (get_or fields 20 0 - 8)) (drop 31 fields), length-drop 31 fields),
      );
      ranges = (little_from-lt 0 4 fields fits, little_from-lt 0 2 (drop 13 fields) (IsBytes-drop 13 fields fits), little_from-lt 0 2 (drop 18 fields) (IsBytes-drop 18 fields fits), little_from-lt 0 2 (drop 16 fields) (IsBytes-drop 16 fields fits));
      a_version = text;
      scramble = ap (λ t. take 8 (drop 4 fields) ++ t) (sym (take_take 12 (max 13 (get_or fields 20 0 - 8)) (drop 31 fields) (omega arith)));
      capabilities = refl;
      has_needed = has;
    }

-- ---- What a greeting says is determined by its bytes, and it is not refused.

pub record Reported (g : GreetingValue) (payload : List ℕ) : Type 0 where
  pub fields : List ℕ
  pub payload_is : payload ≡ 10 ∷ g.version ++ 0 ∷ fields
  pub value : g ≡ greeting_of g.version fields
  pub lawful : fields_refusal fields ≡ None

pub reported : (g : GreetingValue) (payload : List ℕ) → IsGreeting g payload → Reported g payload
unfolding fields_refusal
reported g payload is =
    let r31 = is.second ++ is.ignored in
    let r20 = is.size ∷ (is.reserved ++ r31) in
    let r18 = little_bytes 2 is.high ++ r20 in
    let r16 = little_bytes 2 g.status ++ r18 in
    let r15 = g.charset ∷ r16 in
    let r13 = little_bytes 2 is.low ++ r15 in
    let r12 = is.filler ∷ r13 in
    let r4 = is.first ++ r12 in
    let fields = little_bytes 4 g.thread ++ r4 in
    let d13 : drop 13 fields ≡ r13 = after 8 1 is.first r12 is.sizes.0 in
    let d15 : drop 15 fields ≡ r15 = after 8 3 is.first r12 is.sizes.0 in
    let d16 : drop 16 fields ≡ r16 = after 8 4 is.first r12 is.sizes.0 in
    let d18 : drop 18 fields ≡ r18 = after 8 6 is.first r12 is.sizes.0 in
    let d20 : drop 20 fields ≡ r20 = after 8 8 is.first r12 is.sizes.0 in
    let d31 : drop 31 fields ≡ r31 = after 8 19 is.first r12 is.sizes.0 ∙ after 10 0 is.reserved r31 is.sizes.1 in
    let thread : little_number 4 fields ≡ g.thread = number_is 4 g.thread fields r4 (omega (arith, is.ranges.0)) refl in
    let low : little_number 2 (drop 13 fields) ≡ is.low = number_is 2 is.low (drop 13 fields) r15 (omega (arith, is.ranges.1)) d13 in
    let status : little_number 2 (drop 16 fields) ≡ g.status = number_is 2 g.status (drop 16 fields) r18 (omega (arith, is.ranges.3)) d16 in
    let high : little_number 2 (drop 18 fields) ≡ is.high = number_is 2 is.high (drop 18 fields) r20 (omega (arith, is.ranges.2)) d18 in
    let size : get_or fields 20 0 ≡ is.size = first_left 20 is.size fields (is.reserved ++ r31) d20 in
    let first : take 8 (drop 4 fields) ≡ is.first = take_at is.first r12 8 is.sizes.0 in
    let second : take 12 (drop 31 fields) ≡ take 12 is.second = ap (take 12) d31 ∙ take-append-le 12 is.second is.ignored (omega (arith, is.sizes.2)) in
    let has : little_number 2 (drop 13 fields) + 2 ^ 16 * little_number 2 (drop 18 fields) ≡ g.capabilities = omega (arith, low, high, is.capabilities) in
    let long : length fields ≡ 13 + length is.first + length is.reserved + length is.second + length is.ignored =
    omega (arith, length-append is.first r12, length-append is.reserved r31, length-append is.second is.ignored) in
    let needs : bit_and (little_number 2 (drop 13 fields) + 2 ^ 16 * little_number 2 (drop 18 fields)) needed ≡ needed = ap (λ n. bit_and n needed) has ∙ is.has_needed in
    let enough : 31 + max 13 (get_or fields 20 0 - 8) ≤ length fields = rw size (omega (arith, long, is.sizes.0, is.sizes.1, is.sizes.2)) in
    let few : 31 ≤ length fields = omega (arith, enough) in
    let t = sym thread in
    let s = is.scramble ∙ sym (ap (λ a. a ++ take 12 (drop 31 fields)) first ∙ ap (λ b. is.first ++ b) second) in
    let p = sym has in
    let c = sym (first_left 15 g.charset fields r16 d15) in
    let u = sym status in
    record {
      fields = fields;
      payload_is = is.payload_is ∙ right_9 (10 ∷ g.version) (0 ∷ little_bytes 4 g.thread) is.first (is.filler ∷ little_bytes 2 is.low) (g.charset ∷ little_bytes 2 g.status) (little_bytes 2 is.high) (is.size ∷ is.reserved) is.second is.ignored;
      value = λ i. record { version = g.version; thread = t i; scramble = s i; capabilities = p i; charset = c i; status = u i };
      lawful = rw (le-ltb _ _ few, needs, le-ltb _ _ enough) refl;
    }

-- A greeting is not refused,
pub not_refused : (g : GreetingValue) (payload : List ℕ) → IsGreeting g payload → greeting_refusal payload ≡ None
unfolding greeting_refusal
not_refused g payload is =
    let t = reported g payload is in
    rw (t.payload_is, after_zero-text g.version t.fields is.a_version) t.lawful

-- and has one meaning.
pub one_value : (a b : GreetingValue) (payload : List ℕ) → IsGreeting a payload → IsGreeting b payload → a ≡ b
one_value a b payload is_a is_b =
    let x = reported a payload is_a in
    let y = reported b payload is_b in
    let same : a.version ++ 0 ∷ x.fields ≡ b.version ++ 0 ∷ y.fields = ap (drop 1) (sym x.payload_is ∙ y.payload_is) in
    let version = sym (before_zero-text a.version x.fields is_a.a_version) ∙ ap before_zero same ∙ before_zero-text b.version y.fields is_b.a_version in
    let fields = sym (after_zero-text a.version x.fields is_a.a_version) ∙ ap after_zero same ∙ after_zero-text b.version y.fields is_b.a_version in
    x.value ∙ (λ i. greeting_of (version i) (fields i)) ∙ sym y.value

pub nothing : (payload : List ℕ) → length payload < 1 → greeting_refusal payload ≡ Some truncated
unfolding greeting_refusal
nothing [] few = refl
nothing (b ∷ payload) few = absurd (omega (arith, few))
