-- What is sent before the dump opens a connection.
use Rattle.std.proofs.Common.{◌≡◌, ℕ, ◌^◌, ◌<◌, List, [], ◌∷◌, length, codes, refl, inl, arith}
use Rattle.greet.specs.Message.{GreetingValue, IsGreeting, FitsGreeting, greeting_bytes, IsText, IsOkPacket}
use Rattle.scripted_source.specs.Source.{greeting_payload, ok_payload, IsOpening, OpensWith}

sent_ok : IsOkPacket ok_payload
sent_ok = record {
  affected_rows = 0;
  insert_id = 0;
  affected_bytes = 0 ∷ [];
  insert_bytes = 0 ∷ [];
  counters = 2 ∷ 0 ∷ 0 ∷ 0 ∷ [];
  ignored = [];
  payload_is = refl;
  affected = inl (omega arith, refl);
  inserted = inl (omega arith, refl);
  size = refl;
}

abbrev greeting_of : List ℕ → GreetingValue
greeting_of scramble = record { version = codes "8.0.36"; thread = 8; scramble = scramble; capabilities = 0x8A205; charset = 0x21; status = 2 }

a_text : IsText (codes "8.0.36")
a_text = (omega arith, (omega arith, (omega arith, (omega arith, (omega arith, (omega arith, tt))))))

pub opens : ((g : GreetingValue) → FitsGreeting g → length g.scramble ≡ 20 → g.thread < 2 ^ 32 → g.capabilities < 2 ^ 32 → g.status < 2 ^ 16 → IsGreeting g (greeting_bytes g)) → (scramble bytes : List ℕ) → length scramble ≡ 20
    → IsOpening scramble bytes → OpensWith (greeting_payload scramble) ok_payload ok_payload bytes
opens written scramble bytes size is = record {
  first = is.greeting;
  second = is.login;
  third = is.query;
  after_greeting = is.after_greeting;
  after_login = is.after_login;
  after_query = is.after_query;
  greets = record { value = greeting_of scramble; is = written (greeting_of scramble) (a_text, refl) size (omega arith) (omega arith) (omega arith) };
  lets_in = sent_ok;
  confirms = sent_ok;
  packs_greeting = is.packs_greeting;
  packs_login = is.packs_login;
  packs_query = is.packs_query;
  bytes_are = is.bytes_are;
}
