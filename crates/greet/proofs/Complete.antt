-- Each payload is the expected message or is refused.
use Rattle.greet.proofs.Names.{◌≡◌, ℕ, ◌+◌, ◌*◌, ◌-◌, ◌<◌, ◌≤◌, ◌^◌, ◌==◌, max, Bool, true, false, cond, List, [], ◌∷◌, ◌++◌, length, get_or, take, Option, Some, None, bit_and, refl, sym, ap, subst, ◌∙◌, arith, inl, inr, nat_le, ◌⊎◌, bytes_eq, not-false, eqb-true, drop-drop, nil_from_length, length-append, length-drop, length-take, take-append-drop, little_number, IsText, needed, plugin_name, response_lead, IsGreeting, IsSwitch, IsOkPacket, IsEofPacket, IsDump, Refusal, truncated, protocol, plugin, before_zero, after_zero, dump_name_size, dump_set_size, HasGreeting, IsBytes, IsBytes-rest, IsBytes-after, IsBytes-drop}
use Rattle.std.proofs.Common.{drop}
use Rattle.std.specs.Prelude.{nat_lt, not}
use Rattle.std.proofs.lemmas.Bool.{cases_Bool, eqb-false, ltb-false, leb-false}
use Rattle.std.proofs.Math.Seq.{drop-cons}
use Rattle.greet.specs.Refusal.{old_auth, unexpected, capabilities, has_zero, has_insert_id, after_int, error_of, fields_refusal, greeting_refusal, end_refusal, response_refusal, switch_refusal, reply_refusal, ok_refusal, eof_refusal, dump_refusal}
use Rattle.greet.specs.Complete.{HasResponse, HasSwitch, HasDump}
use Rattle.greet.proofs.Greetings.{greeting_of, is_greeting}
use Rattle.greet.proofs.Replies.{is_switch, is_ok, is_eof, same_name}
use Rattle.greet.proofs.Responses.{is_response, no_difference}
use Rattle.greet.proofs.Dumps.{dump_of, is_dump}

-- a line that does not hold, if nothing is refused
passes : (b : Bool) (r : Refusal) (others : Option Refusal) → cond b (Some r) others ≡ None → (b ≡ false) × (others ≡ None)
passes true r others is = absurd cc
passes false r others is = (refl, is)

-- ---- Texts that end with a zero byte.

pub record IsSplit (bytes : List ℕ) : Type 0 where
  pub text : IsText (before_zero bytes)
  pub bytes_are : bytes ≡ before_zero bytes ++ 0 ∷ after_zero bytes

split_at_zero : (bytes : List ℕ) → has_zero bytes ≡ true → IsSplit bytes
split_at_zero [] is = absurd cc
split_at_zero (b ∷ bytes) is = elim (cases_Bool (b == 0)) [
  | inl zero_byte ↦ record {
    text = rw zero_byte tt;
    bytes_are = rw zero_byte (ap (λ c. c ∷ bytes) (eqb-true b 0 zero_byte));
  }
  | inr other ↦
      let rest = split_at_zero bytes (let e : has_zero bytes ≡ true = rw other at is in e) in
      record {
        text = rw other ((λ e. eqb-false b 0 other e), rest.text);
        bytes_are = rw other (ap (λ l. b ∷ l) rest.bytes_are);
      }
]

-- if there are bytes after a zero byte, there is a zero byte
zero_before : (bytes : List ℕ) → 0 < length (after_zero bytes) → has_zero bytes ≡ true
zero_before [] some = absurd (omega (arith, some))
zero_before (b ∷ bytes) some = elim (cases_Bool (b == 0)) [
  | inl zero_byte ↦ rw zero_byte refl
  | inr other ↦ rw other (zero_before bytes (let s : 0 < length (after_zero bytes) = rw other at some in s))
]

-- ---- The greeting.

pub some_greeting : (payload : List ℕ) → IsBytes payload → greeting_refusal payload ≡ None → HasGreeting payload
unfolding greeting_refusal fields_refusal
some_greeting [] fits none = absurd cc
some_greeting (first ∷ body) fits none =
    let fields = after_zero body in
    let has = little_number 2 (drop 13 fields) + 2 ^ 16 * little_number 2 (drop 18 fields) in
    let a = passes (first == 0xFF) (error_of body) _ none in
    let b = passes (not (first == 10)) (protocol first) _ a.1 in
    let c = passes (nat_lt (length fields) 31) truncated _ b.1 in
    let d = passes (not (bit_and has needed == needed)) (capabilities (needed - bit_and has needed)) _ c.1 in
    let e = passes (nat_lt (length fields) (31 + max 13 (get_or fields 20 0 - 8))) truncated _ d.1 in
    let is_first : 10 ≡ first = sym (eqb-true first 10 (not-false _ b.0)) in
    let few : 31 ≤ length fields = ltb-false _ _ c.0 in
    let split = split_at_zero body (zero_before body (omega (arith, few))) in
    let of_fields : IsBytes fields = IsBytes-rest 0 fields (IsBytes-after (before_zero body) (0 ∷ fields) (subst IsBytes split.bytes_are (IsBytes-rest first body fits))) in
    let whole = sym split.bytes_are in
    record {
      value = greeting_of (before_zero body) fields;
      is = subst (λ p. IsGreeting (greeting_of (before_zero body) fields) p) (λ i. is_first i ∷ whole i)
          (is_greeting (before_zero body) fields split.text of_fields (ltb-false _ _ e.0) (eqb-true _ _ (not-false _ d.0)));
    }

-- ---- The response.

pub some_response : (payload : List ℕ) → IsBytes payload → response_refusal payload ≡ None → HasResponse payload
unfolding response_refusal end_refusal
some_response payload fits none =
    let user = drop 32 payload in
    let auth = after_zero user in
    let size = get_or auth 0 0 in
    let name = drop (1 + size) auth in
    let a = passes (not (has_zero user)) truncated _ none in
    let b = passes (nat_lt (length auth) (1 + size)) truncated _ a.1 in
    let c = passes (not (has_zero name)) truncated _ b.1 in
    let d = passes (not (length (after_zero name) == 0)) truncated _ c.1 in
    let e = passes (not (bytes_eq (before_zero name) plugin_name)) plugin _ d.1 in
    let split = split_at_zero user (not-false _ a.0) in
    let split_name = split_at_zero name (not-false _ c.0) in
    let long : 1 + size ≤ length auth = ltb-false _ _ b.0 in
    let answer = take size (drop 1 auth) in
    let answer_long : size ≡ length answer = omega (arith, long, length-take size (drop 1 auth), length-drop 1 auth) in
    let plugin_is : before_zero name ≡ plugin_name = same_name (before_zero name) (not-false _ e.0) in
    let nothing_more : after_zero name ≡ [] = nil_from_length (after_zero name) (eqb-true _ _ (not-false _ d.0)) in
    let end : drop size (drop 1 auth) ≡ plugin_name ++ 0 ∷ [] = drop-drop size 1 auth ∙ split_name.bytes_are ∙ (λ i. plugin_is i ++ 0 ∷ nothing_more i) in
    let after : drop 1 auth ≡ answer ++ (plugin_name ++ 0 ∷ []) = sym (take-append-drop size (drop 1 auth)) ∙ ap (λ l. answer ++ l) end in
    let counted : auth ≡ length answer ∷ (answer ++ (plugin_name ++ 0 ∷ [])) = drop-cons auth 0 0 (omega (arith, long)) ∙ (λ i. answer_long i ∷ after i) in
    let rest = split.bytes_are ∙ ap (λ l. before_zero user ++ 0 ∷ l) counted in
    let small : size < 256 = IsBytes-after (before_zero user) (0 ∷ auth) (subst IsBytes split.bytes_are (IsBytes-drop 32 payload fits)) 1 in
    let lead_long : length (take 32 payload) ≡ length response_lead =
    omega (arith, length-take 32 payload, length-drop 32 payload, ap length split.bytes_are, length-append (before_zero user) (0 ∷ auth)) in
    record {
      value = record { user = before_zero user; auth = answer };
      is = is_response payload (before_zero user) answer (no_difference (take 32 payload) response_lead lead_long e.1) rest split.text (omega (arith, small, answer_long));
    }

-- ---- The source's replies.

pub some_ok : (payload : List ℕ) → IsBytes payload → ok_refusal payload ≡ None → IsOkPacket payload
unfolding ok_refusal
some_ok [] fits none = absurd cc
some_ok (first ∷ body) fits none =
    let a = passes (first == 0xFF) (error_of body) _ none in
    let b = passes (not (first == 0x00)) (unexpected first) _ a.1 in
    let c = passes (not (has_insert_id (after_int body))) truncated _ b.1 in
    let is_first : 0 ≡ first = sym (eqb-true first 0 (not-false _ b.0)) in
    subst (λ f. IsOkPacket (f ∷ body)) is_first (is_ok body (IsBytes-rest first body fits) (not-false _ c.0))

pub some_eof : (payload : List ℕ) → eof_refusal payload ≡ None → IsEofPacket payload
unfolding eof_refusal
some_eof [] none = absurd cc
some_eof (first ∷ body) none =
    let a = passes (first == 0xFF) (error_of body) _ none in
    let b = passes (not (first == 0xFE)) (unexpected first) _ a.1 in
    let c = passes (nat_le 8 (length body)) (unexpected 0xFE) _ b.1 in
    let d = passes (nat_lt (length body) 4) truncated _ c.1 in
    let is_first : 0xFE ≡ first = sym (eqb-true first 0xFE (not-false _ b.0)) in
    subst (λ f. IsEofPacket (f ∷ body)) is_first (is_eof body (ltb-false _ _ d.0) (leb-false _ _ c.0))

some_switch : (body : List ℕ) → switch_refusal body ≡ None → HasSwitch (0xFE ∷ body)
unfolding switch_refusal
some_switch body none =
    let a = passes (length body == 0) old_auth _ none in
    let b = passes (not (has_zero body)) truncated _ a.1 in
    let c = passes (not (bytes_eq (before_zero body) plugin_name)) plugin _ b.1 in
    let d = passes (nat_lt (length (after_zero body)) 20) truncated _ c.1 in
    let split = split_at_zero body (not-false _ b.0) in
    record {
      scramble = take 20 (after_zero body);
      is = subst (λ l. IsSwitch (take 20 (after_zero body)) (0xFE ∷ l)) (sym split.bytes_are) (is_switch (before_zero body) (after_zero body) (same_name (before_zero body) (not-false _ c.0)) (ltb-false _ _ d.0));
    }

pub some_reply : (payload : List ℕ) → IsBytes payload → reply_refusal payload ≡ None → IsOkPacket payload ⊎ HasSwitch payload
unfolding reply_refusal
some_reply [] fits none = absurd cc
some_reply (first ∷ body) fits none = elim (cases_Bool (first == 0xFE)) [
  | inl same ↦ inr (subst (λ f. HasSwitch (f ∷ body)) (sym (eqb-true first 0xFE same)) (some_switch body (let e : switch_refusal body ≡ None = rw same at none in e)))
  | inr other ↦ inl (some_ok (first ∷ body) fits (let e : ok_refusal (first ∷ body) ≡ None = rw other at none in e))
]

-- ---- The dump command.

pub some_dump : (payload : List ℕ) → IsBytes payload → dump_refusal payload ≡ None → HasDump payload
unfolding dump_refusal
some_dump [] fits none = absurd cc
some_dump (first ∷ body) fits none =
    let a = passes (not (first == 0x1E)) (unexpected first) _ none in
    let b = passes (not (length body == 22 + dump_name_size body + dump_set_size body)) truncated _ a.1 in
    let is_first : 0x1E ≡ first = sym (eqb-true first 0x1E (not-false _ a.0)) in
    record {
      value = dump_of body;
      is = subst (λ f. IsDump (dump_of body) (f ∷ body)) is_first (is_dump body (IsBytes-rest first body fits) (eqb-true _ _ (not-false _ b.0)));
    }
