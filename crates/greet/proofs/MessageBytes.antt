-- What is written is the message.
use Rattle.greet.proofs.Names.{◌≡◌, ◌<◌, ◌^◌, [], ◌∷◌, ◌++◌, length, take, refl, sym, ap, ◌∙◌, append_assoc, arith, length-append, length-drop, length-take, take-append-drop, take_at, little_bytes, plugin_name, GreetingValue, IsGreeting, IsDump}
use Rattle.std.proofs.Common.{◌/◌, ◌%◌, drop, replicate}
use Rattle.greet.specs.Message.{FitsGreeting, greeting_bytes, DumpValue, FitsDump, dump_bytes}
use Rattle.greet.proofs.Cuts.{right_9, right_10}

pub written_greeting : (g : GreetingValue) → FitsGreeting g → length g.scramble ≡ 20 → g.thread < 2 ^ 32 → g.capabilities < 2 ^ 32 → g.status < 2 ^ 16 → IsGreeting g (greeting_bytes g)
written_greeting g fits long thread capabilities status =
    let n = g.capabilities in
    let first = take 8 g.scramble in
    let rest = drop 8 g.scramble in
    let end = plugin_name ++ 0 ∷ [] in
    let rest_long : length rest ≡ 12 = omega (arith, long, length-drop 8 g.scramble) in
    let low : n % 256 ≡ n % 65536 % 256 = omega arith in
    let next : n / 256 % 256 ≡ n % 65536 / 256 % 256 = omega arith in
    let split = sym (append_assoc rest (0 ∷ []) end) in
    record {
      first = first;
      filler = 0;
      low = n % 65536;
      high = n / 65536;
      size = 21;
      reserved = replicate 10 0;
      second = rest ++ 0 ∷ [];
      ignored = end;
      payload_is =
          right_10 (10 ∷ g.version) (0 ∷ little_bytes 4 g.thread) first (0 ∷ little_bytes 2 n) (g.charset ∷ little_bytes 2 g.status) (little_bytes 2 (n / 65536)) (21 ∷ replicate 10 0) rest (0 ∷ plugin_name) (0 ∷ [])
          ∙ (λ i. 10 ∷ (g.version ++ (0 ∷ (little_bytes 4 g.thread ++ (first ++ (0 ∷ low i ∷ next i ∷ g.charset ∷ (little_bytes 2 g.status ++ (little_bytes 2 (n / 65536) ++ (21 ∷ (replicate 10 0 ++ split i))))))))))
          ∙ sym (right_9 (10 ∷ g.version) (0 ∷ little_bytes 4 g.thread) first (0 ∷ little_bytes 2 (n % 65536)) (g.charset ∷ little_bytes 2 g.status) (little_bytes 2 (n / 65536)) (21 ∷ replicate 10 0) (rest ++ 0 ∷ []) end);
      sizes = (omega (arith, long, length-take 8 g.scramble), refl, omega (arith, rest_long, length-append rest (0 ∷ [])));
      ranges = (thread, omega arith, omega (arith, capabilities), status);
      a_version = fits.0;
      scramble = sym (take-append-drop 8 g.scramble) ∙ ap (λ t. first ++ t) (sym (take_at rest (0 ∷ []) 12 rest_long));
      capabilities = omega arith;
      has_needed = fits.1;
    }

pub written_dump : (d : DumpValue) → FitsDump d → d.flags < 2 ^ 16 → d.server_id < 2 ^ 32 → IsDump d (dump_bytes d [] (little_bytes 8 4))
written_dump d fits flags server_id = record {
  name = [];
  position = little_bytes 8 4;
  payload_is = refl;
  sizes = (omega arith, refl);
  ranges = (flags, server_id);
  fits = fits;
}
