-- ERR packets of a source: what they say, and that they are reported instead of any message.
use Rattle.greet.proofs.Names.{◌≡◌, ◌≢◌, ℕ, ◌<◌, true, false, List, [], ◌∷◌, ◌++◌, length, take, Option, Some, None, refl, sym, ap, ◌∙◌, arith, inl, inr, nat_le, le-leb, lt-leb, ne_eqb, le-ltb, length-append, take_at, little_bytes, little_number, server_error, state_of, message_of}
use Rattle.std.proofs.Common.{drop}
use Rattle.std.proofs.Math.Bool.{and-false}
use Rattle.std.proofs.lemmas.List.{drop_at}
use Rattle.byteorder.specs.Numbers.{little_number-reads_back}
use Rattle.greet.specs.Message.{IsErrorText, IsErrPacket}
use Rattle.greet.specs.Refusal.{has_state, kept_message, error_of, greeting_refusal, reply_refusal, ok_refusal, eof_refusal}

-- the text has a state, and which; or it has none
marked : (state message : List ℕ) → length state ≡ 5 → has_state (0x23 ∷ (state ++ message)) ≡ true
marked state message long = rw (le-leb 6 (length (0x23 ∷ (state ++ message))) (omega (arith, long, length-append state message))) refl

bare : (text : List ℕ) → length text < 6 → has_state text ≡ false
bare text short = rw (lt-leb 6 (length text) short) refl

unmarked : (text : List ℕ) → take 1 text ≢ 0x23 ∷ [] → has_state text ≡ false
unmarked [] other = refl
unmarked (b ∷ text) other = rw (ne_eqb b 0x23 (λ is. other (ap (λ c. c ∷ []) is))) (and-false (nat_le 6 (length (b ∷ text))))

pub state_is : (state : Option (List ℕ)) (message text : List ℕ) → IsErrorText state message text → state_of text ≡ state
state_is (Some state) message text is = ap state_of is.1 ∙ rw (marked state message is.0) (ap Some (take_at state message 5 is.0))
state_is None message text (is, inl short) = rw (bare text short) refl
state_is None message text (is, inr other) = rw (unmarked text other) refl

pub message_is : (state : Option (List ℕ)) (message text : List ℕ) → IsErrorText state message text → message_of text ≡ message
message_is (Some state) message text is = ap message_of is.1 ∙ rw (marked state message is.0) (drop_at state message 5 is.0)
message_is None message text (is, inl short) = rw (bare text short) is
message_is None message text (is, inr other) = rw (unmarked text other) is

-- an ERR, from the bytes after its first
pub reported : (code : ℕ) (state : Option (List ℕ)) (message payload : List ℕ) (is : IsErrPacket code state message payload) → error_of (little_bytes 2 code ++ is.text) ≡ server_error code state (take kept_message message)
unfolding error_of
reported code state message payload is =
    let c = little_number-reads_back 2 code is.text (omega (arith, is.a_code)) in
    let s = state_is state message is.text is.text_is in
    let m = ap (take kept_message) (message_is state message is.text is.text_is) in
    rw (le-ltb (length (little_bytes 2 code ++ is.text)) 2 (omega arith)) (λ i. server_error (c i) (s i) (m i))

pub in_greeting : (code : ℕ) (state : Option (List ℕ)) (message payload : List ℕ) → IsErrPacket code state message payload → greeting_refusal payload ≡ Some (server_error code state (take kept_message message))
unfolding greeting_refusal
in_greeting code state message payload is = ap greeting_refusal is.payload_is ∙ ap Some (reported code state message payload is)

pub in_ok : (code : ℕ) (state : Option (List ℕ)) (message payload : List ℕ) → IsErrPacket code state message payload → ok_refusal payload ≡ Some (server_error code state (take kept_message message))
unfolding ok_refusal
in_ok code state message payload is = ap ok_refusal is.payload_is ∙ ap Some (reported code state message payload is)

pub in_reply : (code : ℕ) (state : Option (List ℕ)) (message payload : List ℕ) → IsErrPacket code state message payload → reply_refusal payload ≡ Some (server_error code state (take kept_message message))
unfolding reply_refusal ok_refusal
in_reply code state message payload is = ap reply_refusal is.payload_is ∙ ap Some (reported code state message payload is)

pub in_eof : (code : ℕ) (state : Option (List ℕ)) (message payload : List ℕ) → IsErrPacket code state message payload → eof_refusal payload ≡ Some (server_error code state (take kept_message message))
unfolding eof_refusal
in_eof code state message payload is = ap eof_refusal is.payload_is ∙ ap Some (reported code state message payload is)

-- ---- An ERR has one meaning.

code_of : (code : ℕ) (state : Option (List ℕ)) (message payload : List ℕ) → IsErrPacket code state message payload → little_number 2 (drop 1 payload) ≡ code
code_of code state message payload is = ap (λ p. little_number 2 (drop 1 p)) is.payload_is ∙ little_number-reads_back 2 code is.text (omega (arith, is.a_code))

state_from : (code : ℕ) (state : Option (List ℕ)) (message payload : List ℕ) → IsErrPacket code state message payload → state_of (drop 3 payload) ≡ state
state_from code state message payload is = ap (λ p. state_of (drop 3 p)) is.payload_is ∙ state_is state message is.text is.text_is

message_from : (code : ℕ) (state : Option (List ℕ)) (message payload : List ℕ) → IsErrPacket code state message payload → message_of (drop 3 payload) ≡ message
message_from code state message payload is = ap (λ p. message_of (drop 3 p)) is.payload_is ∙ message_is state message is.text is.text_is

pub one_error : (m n : ℕ) (s t : Option (List ℕ)) (a b payload : List ℕ) → IsErrPacket m s a payload → IsErrPacket n t b payload → (m ≡ n) × (s ≡ t) × (a ≡ b)
one_error m n s t a b payload x y = (
  sym (code_of m s a payload x) ∙ code_of n t b payload y,
  sym (state_from m s a payload x) ∙ state_from n t b payload y,
  sym (message_from m s a payload x) ∙ message_from n t b payload y,
)
