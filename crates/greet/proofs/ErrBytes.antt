-- What is reported as an error of the source is an ERR.
use Rattle.greet.proofs.Names.{◌≡◌, ◌≢◌, ℕ, ◌<◌, ◌≤◌, ◌==◌, Bool, true, false, cond, List, [], ◌∷◌, length, get_or, take, Option, Some, None, refl, sym, ap, ◌∙◌, subst, arith, inl, inr, ◌⊎◌, nat_le, le-leb, eqb-true, le-ltb, lt-ltb, length-take, take-append-drop, little_number, little_from-lt, IsBytes, IsBytes-rest, Refusal, server_error, protocol, truncated, plugin, state_of, message_of, after_zero}
use Rattle.std.proofs.Common.{drop}
use Rattle.std.proofs.lemmas.Bool.{and_parts, false≢true, leb-true, cases_lt}
use Rattle.wire.proofs.Cuts.{number_at_front}
use Rattle.greet.specs.Message.{IsErrorText, IsErrPacket}
use Rattle.greet.specs.Complete.{HasErr, IsErrOf}
use Rattle.greet.specs.Refusal.{capabilities, old_auth, unexpected, has_state, error_of, fields_refusal, greeting_refusal, ok_refusal, switch_refusal, reply_refusal, eof_refusal}

-- ---- The text of an ERR.

with_state : (text : List ℕ) → 6 ≤ length text → get_or text 0 0 ≡ 0x23 → IsErrorText (Some (take 5 (drop 1 text))) (drop 6 text) text
with_state [] long first = absurd (omega (arith, long))
with_state (b ∷ text) long first = (omega (arith, long, length-take 5 text), λ i. first i ∷ sym (take-append-drop 5 text) i)

first_of : (text : List ℕ) → take 1 text ≡ 0x23 ∷ [] → get_or text 0 0 ≡ 0x23
first_of [] is = absurd cc
first_of (b ∷ text) is = ap (λ l. get_or l 0 0) is

marked : (text : List ℕ) → 6 ≤ length text → take 1 text ≡ 0x23 ∷ [] → has_state text ≡ true
marked text long first = rw (le-leb 6 (length text) long, first_of text first) refl

unmarked : (text : List ℕ) → has_state text ≡ false → (length text < 6) ⊎ (take 1 text ≢ 0x23 ∷ [])
unmarked text is = elim (cases_lt (length text) 6) [
  | inl short ↦ inl short
  | inr long ↦ inr (λ first. false≢true (sym is ∙ marked text long first))
]

by_mark : (text : List ℕ) (b : Bool) → has_state text ≡ b → IsErrorText (cond b (Some (take 5 (drop 1 text))) None) (cond b (drop 6 text) text) text
by_mark text true is = let b = and_parts (nat_le 6 (length text)) _ is in with_state text (leb-true 6 (length text) b.0) (eqb-true _ _ b.1)
by_mark text false is = (refl, unmarked text is)

-- ---- An ERR, from the bytes after its first.

err_packet : (body : List ℕ) → IsBytes body → 2 ≤ length body → IsErrPacket (little_number 2 body) (state_of (drop 2 body)) (message_of (drop 2 body)) (0xFF ∷ body)
err_packet body fits long = record {
  text = drop 2 body;
  payload_is = ap (λ l. 0xFF ∷ l) (number_at_front 2 body long fits);
  a_code = omega (arith, little_from-lt 0 2 body fits);
  text_is = by_mark (drop 2 body) (has_state (drop 2 body)) refl;
}

pub some_err : (body payload : List ℕ) → payload ≡ 0xFF ∷ body → IsBytes payload → 2 ≤ length body → HasErr payload
some_err body payload is fits long = subst HasErr (sym is) (record {
  code = little_number 2 body;
  state = state_of (drop 2 body);
  message = message_of (drop 2 body);
  is = err_packet body (IsBytes-rest 0xFF body (subst IsBytes is fits)) long;
})

-- ---- No other refusal is an error of the source.

Means : Refusal → List ℕ → Type 0
Means (server_error code state kept) payload = IsErrOf code state kept payload
Means _ payload = Unit {0}

MayMean : Option Refusal → List ℕ → Type 0
MayMean None payload = Unit {0}
MayMean (Some refusal) payload = Means refusal payload

either : (b : Bool) (x y : Option Refusal) (payload : List ℕ) → MayMean x payload → MayMean y payload → MayMean (cond b x y) payload
unfolding MayMean
either true x y payload h k = h
either false x y payload h k = k

of_error : (body : List ℕ) → IsBytes body → Means (error_of body) (0xFF ∷ body)
unfolding error_of Means
of_error body fits = elim (cases_lt (length body) 2) [
  | inl short ↦ rw (lt-ltb (length body) 2 short) tt
  | inr long ↦ rw (le-ltb (length body) 2 long) (record { message = message_of (drop 2 body); is = err_packet body fits long; kept_is = refl })
]

err_or : (first : ℕ) (body : List ℕ) (other : Option Refusal) → IsBytes body → MayMean other (first ∷ body) → MayMean (cond (first == 0xFF) (Some (error_of body)) other) (first ∷ body)
unfolding MayMean
err_or first body other fits h = by_first (first == 0xFF) refl
  where
    by_first : (b : Bool) → (first == 0xFF) ≡ b → MayMean (cond b (Some (error_of body)) other) (first ∷ body)
    by_first true is = subst (λ f. Means (error_of body) (f ∷ body)) (sym (eqb-true _ _ is)) (of_error body fits)
    by_first false is = h

nothing : (payload : List ℕ) → MayMean None payload
unfolding MayMean
nothing payload = tt

as_protocol : (byte : ℕ) (payload : List ℕ) → MayMean (Some (protocol byte)) payload
unfolding MayMean Means
as_protocol byte payload = tt

as_truncated : (payload : List ℕ) → MayMean (Some truncated) payload
unfolding MayMean Means
as_truncated payload = tt

as_capabilities : (bits : ℕ) (payload : List ℕ) → MayMean (Some (capabilities bits)) payload
unfolding MayMean Means
as_capabilities bits payload = tt

as_plugin : (payload : List ℕ) → MayMean (Some plugin) payload
unfolding MayMean Means
as_plugin payload = tt

as_old_auth : (payload : List ℕ) → MayMean (Some old_auth) payload
unfolding MayMean Means
as_old_auth payload = tt

as_unexpected : (byte : ℕ) (payload : List ℕ) → MayMean (Some (unexpected byte)) payload
unfolding MayMean Means
as_unexpected byte payload = tt

in_fields : (fields payload : List ℕ) → MayMean (fields_refusal fields) payload
unfolding fields_refusal
in_fields fields payload = either _ _ _ payload (as_truncated payload) (either _ _ _ payload (as_capabilities _ payload) (either _ _ _ payload (as_truncated payload) (nothing payload)))

in_greeting : (payload : List ℕ) → IsBytes payload → MayMean (greeting_refusal payload) payload
unfolding greeting_refusal
in_greeting [] fits = as_truncated []
in_greeting (first ∷ body) fits = err_or first body _ (IsBytes-rest first body fits) (either _ _ _ (first ∷ body) (as_protocol first (first ∷ body)) (in_fields (after_zero body) (first ∷ body)))

in_ok : (payload : List ℕ) → IsBytes payload → MayMean (ok_refusal payload) payload
unfolding ok_refusal
in_ok [] fits = as_truncated []
in_ok (first ∷ body) fits = err_or first body _ (IsBytes-rest first body fits)
    (either _ _ _ (first ∷ body) (as_unexpected first (first ∷ body)) (either _ _ _ (first ∷ body) (as_truncated (first ∷ body)) (nothing (first ∷ body))))

in_switch : (body payload : List ℕ) → MayMean (switch_refusal body) payload
unfolding switch_refusal
in_switch body payload =
    either _ _ _ payload (as_old_auth payload) (either _ _ _ payload (as_truncated payload) (either _ _ _ payload (as_plugin payload) (either _ _ _ payload (as_truncated payload) (nothing payload))))

in_reply : (payload : List ℕ) → IsBytes payload → MayMean (reply_refusal payload) payload
unfolding reply_refusal
in_reply [] fits = as_truncated []
in_reply (first ∷ body) fits = either _ _ _ (first ∷ body) (in_switch body (first ∷ body)) (in_ok (first ∷ body) fits)

in_eof : (payload : List ℕ) → IsBytes payload → MayMean (eof_refusal payload) payload
unfolding eof_refusal
in_eof [] fits = as_truncated []
in_eof (first ∷ body) fits = err_or first body _ (IsBytes-rest first body fits)
    (either _ _ _ (first ∷ body) (as_unexpected first (first ∷ body)) (either _ _ _ (first ∷ body) (as_unexpected 0xFE (first ∷ body)) (either _ _ _ (first ∷ body) (as_truncated (first ∷ body)) (nothing (first ∷ body)))))

-- ---- So what is reported is an ERR.

reported : (refusal : Option Refusal) (code : ℕ) (state : Option (List ℕ)) (kept payload : List ℕ) → MayMean refusal payload → refusal ≡ Some (server_error code state kept) → IsErrOf code state kept payload
unfolding MayMean Means
reported refusal code state kept payload means is = subst (λ r. MayMean r payload) is means

pub greeting_err : (code : ℕ) (state : Option (List ℕ)) (kept payload : List ℕ) → IsBytes payload → greeting_refusal payload ≡ Some (server_error code state kept) → IsErrOf code state kept payload
greeting_err code state kept payload fits = reported _ code state kept payload (in_greeting payload fits)

pub reply_err : (code : ℕ) (state : Option (List ℕ)) (kept payload : List ℕ) → IsBytes payload → reply_refusal payload ≡ Some (server_error code state kept) → IsErrOf code state kept payload
reply_err code state kept payload fits = reported _ code state kept payload (in_reply payload fits)

pub ok_err : (code : ℕ) (state : Option (List ℕ)) (kept payload : List ℕ) → IsBytes payload → ok_refusal payload ≡ Some (server_error code state kept) → IsErrOf code state kept payload
ok_err code state kept payload fits = reported _ code state kept payload (in_ok payload fits)

pub eof_err : (code : ℕ) (state : Option (List ℕ)) (kept payload : List ℕ) → IsBytes payload → eof_refusal payload ≡ Some (server_error code state kept) → IsErrOf code state kept payload
eof_err code state kept payload fits = reported _ code state kept payload (in_eof payload fits)
