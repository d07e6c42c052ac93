-- The source's replies: what they say, and that anything else is refused.
use Rattle.greet.proofs.Names.{◌≡◌, ℕ, ◌<◌, ◌≤◌, ◌^◌, ◌==◌, Bool, true, false, cond, List, [], ◌∷◌, ◌++◌, length, get_or, take, Option, Some, None, Result, Ok, Err, refl, sym, ap, subst, ◌∙◌, append_assoc, arith, inl, inr, nat_le, ◌⊎◌, OnOk, IfErr, GreetFault, le-leb, lt-leb, eqb-true, le-ltb, lt-ltb, ne_eqb, length-append, length-take, take-append-drop, take_at, bytes_eq, little_bytes, little_number, little_from-lt, plugin_name, IsText, IsOkPacket, IsEofPacket, IsSwitch, truncated, plugin, IsBytes, IsBytes-after, IsBytes-rest}
use Rattle.std.proofs.Common.{◌&&◌, drop}
use Rattle.std.specs.Prelude.{IfNone, OnErr}
use Rattle.greet.specs.View.{Refuses}
use Rattle.greet.specs.declared.fault.GreetFault.TheVariants as faults
use Rattle.std.proofs.Math.Seq.{take-append_seam}
use Rattle.std.proofs.lemmas.Bool.{and_parts, false≢true, leb-true}
use Rattle.std.proofs.lemmas.Slice.Eq.{bytes_eq-Decides}
use Rattle.wire.specs.Integer.{IsLengthEncoded}
use Rattle.greet.specs.Refusal.{after_int, has_counters, has_insert_id, ok_refusal, eof_refusal, switch_refusal, reply_refusal}
use Rattle.wire.proofs.Cuts.{number_at_front, right_4}
use Rattle.greet.proofs.Cuts.{IsText-by, has_zero-none, has_zero-text, before_zero-text, after_zero-text}

-- ---- Length-encoded integers.

enough : (k : ℕ) (front rest : List ℕ) → length front ≡ k → nat_le k (length (front ++ rest)) ≡ true
enough k front rest long = le-leb k _ (omega (arith, long, length-append front rest))

pub int_after : (n : ℕ) (front rest : List ℕ) → IsLengthEncoded n front → after_int (front ++ rest) ≡ Some rest
int_after n front rest (inl (fits, is)) = (λ i. after_int (is i ++ rest)) ∙ rw (le-leb n 250 fits) refl
int_after n front rest (inr (inl (fits, is))) = (λ i. after_int (is i ++ rest)) ∙ rw (enough 2 (little_bytes 2 n) rest refl) refl
int_after n front rest (inr (inr (inl (fits, is)))) = (λ i. after_int (is i ++ rest)) ∙ rw (enough 3 (little_bytes 3 n) rest refl) refl
int_after n front rest (inr (inr (inr (fits, is)))) = (λ i. after_int (is i ++ rest)) ∙ rw (enough 8 (little_bytes 8 n) rest refl) refl

pub record HasInt (bytes rest : List ℕ) : Type 0 where
  pub value : ℕ
  pub front : List ℕ
  pub is_int : IsLengthEncoded value front
  pub bytes_are : bytes ≡ front ++ rest

-- an if whose result is known
chosen : {X : Type 0} (b : Bool) (x y z : X) → cond b x y ≡ z → ((b ≡ true) × (x ≡ z)) ⊎ ((b ≡ false) × (y ≡ z))
chosen true x y z is = inl (refl, is)
chosen false x y z is = inr (refl, is)

same_rest : {X : Type 0} {x y : X} → Some x ≡ Some y → x ≡ y
same_rest is = cc

wide : (k first : ℕ) (bytes rest : List ℕ) → IsBytes bytes → k ≤ length bytes → ((n : ℕ) → n < 256 ^ k → IsLengthEncoded n (first ∷ little_bytes k n)) → drop k bytes ≡ rest → HasInt (first ∷ bytes) rest
wide k first bytes rest fits long encoded is = record {
  value = little_number k bytes;
  front = first ∷ little_bytes k (little_number k bytes);
  is_int = encoded (little_number k bytes) (little_from-lt 0 k bytes fits);
  bytes_are = ap (λ l. first ∷ l) (number_at_front k bytes long fits ∙ ap (λ l. little_bytes k (little_number k bytes) ++ l) is);
}

pub has_int : (bytes rest : List ℕ) → IsBytes bytes → after_int bytes ≡ Some rest → HasInt bytes rest
has_int [] rest fits is = absurd cc
has_int (first ∷ bytes) rest fits is =
    let of = IsBytes-rest first bytes fits in
    elim (chosen (nat_le first 250) _ _ (Some rest) is) [
      | inl (small, same) ↦ record { value = first; front = first ∷ []; is_int = inl (leb-true first 250 small, refl); bytes_are = ap (λ l. first ∷ l) (same_rest same) }
      | inr (_, is2) ↦ elim (chosen ((first == 0xFC) && nat_le 2 (length bytes)) _ _ (Some rest) is2) [
        | inl (two, same) ↦ let b = and_parts _ _ two in subst (λ f. HasInt (f ∷ bytes) rest) (sym (eqb-true _ _ b.0)) (wide 2 0xFC bytes rest of (leb-true _ _ b.1) (λ n lt. inr (inl (lt, refl))) (same_rest same))
        | inr (_, is3) ↦ elim (chosen ((first == 0xFD) && nat_le 3 (length bytes)) _ _ (Some rest) is3) [
          | inl (three, same) ↦ let b = and_parts _ _ three in subst (λ f. HasInt (f ∷ bytes) rest) (sym (eqb-true _ _ b.0)) (wide 3 0xFD bytes rest of (leb-true _ _ b.1) (λ n lt. inr (inr (inl (lt, refl)))) (same_rest same))
          | inr (_, is4) ↦ elim (chosen ((first == 0xFE) && nat_le 8 (length bytes)) _ _ (Some rest) is4) [
            | inl (eight, same) ↦ let b = and_parts _ _ eight in subst (λ f. HasInt (f ∷ bytes) rest) (sym (eqb-true _ _ b.0)) (wide 8 0xFE bytes rest of (leb-true _ _ b.1) (λ n lt. inr (inr (inr (lt, refl)))) (same_rest same))
            | inr (_, is5) ↦ absurd cc
          ]
        ]
      ]
    ]

none_of : {X : Type 0} (o : Option X) → ((x : X) → o ≡ Some x → ⊥) → o ≡ None
none_of None not = refl
none_of (Some x) not = absurd (not x refl)

pub no_int : (bytes : List ℕ) → IsBytes bytes → ((n len : ℕ) → IsLengthEncoded n (take len bytes) → ⊥) → after_int bytes ≡ None
no_int bytes fits not = none_of (after_int bytes) (λ rest is.
    let h = has_int bytes rest fits is in
    not h.value (length h.front) (subst (IsLengthEncoded h.value) (sym (ap (take (length h.front)) h.bytes_are ∙ take-append_seam h.front rest)) h.is_int))

pub some_int : (n len : ℕ) (bytes : List ℕ) → IsLengthEncoded n (take len bytes) → after_int bytes ≡ Some (drop len bytes)
some_int n len bytes is = ap after_int (sym (take-append-drop len bytes)) ∙ int_after n (take len bytes) (drop len bytes) is

pub if_none : {X P : Type 0} (o : Option X) → P → IfNone o P
if_none None p = p
if_none (Some x) p = tt

-- ---- The switch.

some_bytes : (name rest : List ℕ) → (length (name ++ 0 ∷ rest) == 0) ≡ false
some_bytes name rest = ne_eqb _ _ (λ none. omega (arith, none, length-append name (0 ∷ rest)))

pub no_name : (body : List ℕ) → (length body == 0) ≡ false → IsText body → switch_refusal body ≡ Some truncated
unfolding switch_refusal
no_name body some text = rw (some, has_zero-none body text) refl

pub other_plugin : (name rest : List ℕ) → IsText name → bytes_eq name plugin_name ≡ false → switch_refusal (name ++ 0 ∷ rest) ≡ Some plugin
unfolding switch_refusal
other_plugin name rest text other = rw (some_bytes name rest, has_zero-text name rest, before_zero-text name rest text, other) refl

pub short_data : (name rest : List ℕ) → IsText name → bytes_eq name plugin_name ≡ true → length rest < 20 → switch_refusal (name ++ 0 ∷ rest) ≡ Some truncated
unfolding switch_refusal
short_data name rest text same short = rw (some_bytes name rest, has_zero-text name rest, before_zero-text name rest text, same, after_zero-text name rest text, lt-ltb _ _ short) refl

pub no_fault : (name rest : List ℕ) → IsText name → bytes_eq name plugin_name ≡ true → 20 ≤ length rest → switch_refusal (name ++ 0 ∷ rest) ≡ None
unfolding switch_refusal
no_fault name rest text same long = rw (some_bytes name rest, has_zero-text name rest, before_zero-text name rest text, same, after_zero-text name rest text, le-ltb _ _ long) refl

pub is_switch : (name rest : List ℕ) → name ≡ plugin_name → 20 ≤ length rest → IsSwitch (take 20 rest) (0xFE ∷ (name ++ 0 ∷ rest))
is_switch name rest same long = record {
  ignored = drop 20 rest;
  payload_is = (let cut_rest = sym (take-append-drop 20 rest) in λ i. 0xFE ∷ (same i ++ 0 ∷ cut_rest i)) ∙ sym (append_assoc (0xFE ∷ plugin_name) (0 ∷ take 20 rest) (drop 20 rest));
  size = omega (arith, long, length-take 20 rest);
}

plugin_is_text : IsText plugin_name
plugin_is_text = IsText-by plugin_name refl

pub switch_parts : (scramble payload : List ℕ) (is : IsSwitch scramble payload) → payload ≡ 0xFE ∷ (plugin_name ++ 0 ∷ (scramble ++ is.ignored))
switch_parts scramble payload is = is.payload_is ∙ append_assoc (0xFE ∷ plugin_name) (0 ∷ scramble) is.ignored

pub switch_not_refused : (scramble payload : List ℕ) → IsSwitch scramble payload → reply_refusal payload ≡ None
unfolding reply_refusal
switch_not_refused scramble payload is =
    rw (switch_parts scramble payload is) (no_fault plugin_name (scramble ++ is.ignored) plugin_is_text refl (omega (arith, is.size, length-append scramble is.ignored)))

pub one_switch : (a b payload : List ℕ) → IsSwitch a payload → IsSwitch b payload → a ≡ b
one_switch a b payload is_a is_b =
    let same : a ++ is_a.ignored ≡ b ++ is_b.ignored = ap (drop 23) (sym (switch_parts a payload is_a) ∙ switch_parts b payload is_b) in
    sym (take_at a is_a.ignored 20 is_a.size) ∙ ap (take 20) same ∙ take_at b is_b.ignored 20 is_b.size

-- whether a name is the plugin's
pub same_name : (name : List ℕ) → bytes_eq name plugin_name ≡ true → name ≡ plugin_name
same_name name is = (bytes_eq-Decides name plugin_name).0 is

-- ---- OK.

option_is : {X : Type 0} (o : Option X) → (o ≡ None) ⊎ ((x : X) × (o ≡ Some x))
option_is None = inl refl
option_is (Some x) = inr (x, refl)

four_more : (affected_rows insert_id : ℕ) (a b rest : List ℕ) → IsLengthEncoded affected_rows a → IsLengthEncoded insert_id b → 4 ≤ length rest → IsOkPacket (0x00 ∷ (a ++ (b ++ rest)))
four_more affected_rows insert_id a b rest is_a is_b long = record {
  affected_rows = affected_rows;
  insert_id = insert_id;
  affected_bytes = a;
  insert_bytes = b;
  counters = take 4 rest;
  ignored = drop 4 rest;
  payload_is = ap (λ l. 0x00 ∷ (a ++ (b ++ l))) (sym (take-append-drop 4 rest)) ∙ sym (right_4 (0x00 ∷ a) b (take 4 rest) (drop 4 rest));
  affected = is_a;
  inserted = is_b;
  size = omega (arith, long, length-take 4 rest);
}

pub is_ok : (body : List ℕ) → IsBytes body → has_insert_id (after_int body) ≡ true → IsOkPacket (0x00 ∷ body)
is_ok body fits is = elim (option_is (after_int body)) [
  | inl none ↦ absurd (false≢true (sym (ap has_insert_id none) ∙ is))
  | inr (rest, some) ↦ let a = has_int body rest fits some in
      elim (option_is (after_int rest)) [
        | inl none ↦ absurd (false≢true (sym (ap has_counters none) ∙ sym (ap has_insert_id some) ∙ is))
        | inr (counters, more) ↦ let b = has_int rest counters (IsBytes-after a.front rest (subst IsBytes a.bytes_are fits)) more in
            subst (λ l. IsOkPacket (0x00 ∷ l)) (sym (a.bytes_are ∙ ap (λ l. a.front ++ l) b.bytes_are))
            (four_more a.value b.value a.front b.front counters a.is_int b.is_int (leb-true _ _ (sym (ap has_counters more) ∙ sym (ap has_insert_id some) ∙ is)))
      ]
]

pub ok_not_refused : (payload : List ℕ) → IsOkPacket payload → ok_refusal payload ≡ None
unfolding ok_refusal
ok_not_refused payload is =
    let rest = is.counters ++ is.ignored in
    let parts : payload ≡ 0x00 ∷ (is.affected_bytes ++ (is.insert_bytes ++ rest)) = is.payload_is ∙ right_4 (0x00 ∷ is.affected_bytes) is.insert_bytes is.counters is.ignored in
    let whole : has_insert_id (after_int (is.affected_bytes ++ (is.insert_bytes ++ rest))) ≡ true =
    ap has_insert_id (int_after is.affected_rows is.affected_bytes (is.insert_bytes ++ rest) is.affected)
    ∙ ap has_counters (int_after is.insert_id is.insert_bytes rest is.inserted)
    ∙ enough 4 is.counters is.ignored is.size in
    rw (parts, whole) refl

pub ok_nothing : (payload : List ℕ) → length payload < 1 → ok_refusal payload ≡ Some truncated
unfolding ok_refusal
ok_nothing [] few = refl
ok_nothing (b ∷ payload) few = absurd (omega (arith, few))

-- ---- EOF.

pub is_eof : (body : List ℕ) → 4 ≤ length body → length body < 8 → IsEofPacket (0xFE ∷ body)
is_eof body long short = record {
  counters = take 4 body;
  ignored = drop 4 body;
  payload_is = ap (λ l. 0xFE ∷ l) (sym (take-append-drop 4 body));
  size = omega (arith, long, length-take 4 body);
  short = omega (arith, short);
}

pub eof_not_refused : (payload : List ℕ) → IsEofPacket payload → eof_refusal payload ≡ None
unfolding eof_refusal
eof_not_refused payload is =
    let parts : payload ≡ 0xFE ∷ (is.counters ++ is.ignored) = is.payload_is in
    let few : length (is.counters ++ is.ignored) < 8 = omega (arith, is.short, ap length parts) in
    let long : 4 ≤ length (is.counters ++ is.ignored) = omega (arith, is.size, length-append is.counters is.ignored) in
    rw (parts, lt-leb _ _ few, le-ltb _ _ long) refl

pub eof_nothing : (payload : List ℕ) → length payload < 1 → eof_refusal payload ≡ Some truncated
unfolding eof_refusal
eof_nothing [] few = refl
eof_nothing (b ∷ payload) few = absurd (omega (arith, few))

-- the bytes after the first of an OK decide
pub counted_ok : {X F : Type 0} (body : List ℕ) (result : Result X F) → IsBytes body → OnOk result (has_insert_id (after_int body) ≡ true) → OnOk result (IsOkPacket (0x00 ∷ body))
counted_ok body (Ok x) fits is = is_ok body fits is
counted_ok body (Err f) fits is = tt

abbrev of_fault : (X : Type 0) → GreetFault → Result X GreetFault
of_fault X f = Err f

same_fault : {X : Type 0} {f g : GreetFault} → of_fault X f ≡ of_fault X g → f ≡ g
same_fault is = cc

pub counted_fault : {X : Type 0} (body : List ℕ) (result : Result X GreetFault) → OnErr result ((result ≡ Err faults.Truncated) × (has_insert_id (after_int body) ≡ false)) → IfErr result (Refuses (ok_refusal (0x00 ∷ body)))
unfolding ok_refusal
counted_fault body (Ok x) is = tt
counted_fault body (Err f) is = let truncation : f ≡ faults.Truncated = same_fault (is.0) in rw (is.1) (subst (Refuses (Some truncated)) (sym truncation) refl)

-- ---- Both replies.

pub same_refusal : (payload : List ℕ) → (1 ≤ length payload → get_or payload 0 0 ≡ 0xFE → ⊥) → reply_refusal payload ≡ ok_refusal payload
unfolding reply_refusal ok_refusal
same_refusal [] other = refl
same_refusal (first ∷ body) other = rw (ne_eqb first 0xFE (λ is. other (omega arith) is)) refl

pub as_switch : (fault : GreetFault) (payload body : List ℕ) → payload ≡ 0xFE ∷ body → Refuses (switch_refusal body) fault → Refuses (reply_refusal payload) fault
unfolding reply_refusal
as_switch fault payload body parts is = rw parts is

pub reply_nothing : (payload : List ℕ) → length payload < 1 → reply_refusal payload ≡ Some truncated
unfolding reply_refusal
reply_nothing [] few = refl
reply_nothing (b ∷ payload) few = absurd (omega (arith, few))

pub ok_reply_not_refused : (payload : List ℕ) → IsOkPacket payload → reply_refusal payload ≡ None
ok_reply_not_refused payload is =
    same_refusal payload (λ some first. let zero_first : get_or payload 0 0 ≡ 0 = ap (λ p. get_or p 0 0) (is.payload_is ∙ right_4 (0x00 ∷ is.affected_bytes) is.insert_bytes is.counters is.ignored) in omega (arith, zero_first, first))
    ∙ ok_not_refused payload is

pub apart : (scramble payload : List ℕ) → IsSwitch scramble payload → IsOkPacket payload → ⊥
apart scramble payload a b =
    let is : 0xFE ≡ 0x00 = ap (λ p. get_or p 0 0) (sym (switch_parts scramble payload a) ∙ b.payload_is ∙ right_4 (0x00 ∷ b.affected_bytes) b.insert_bytes b.counters b.ignored) in
    omega (arith, is)
