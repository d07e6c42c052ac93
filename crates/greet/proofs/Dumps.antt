-- Dump commands: what they say, and that anything else is refused.
use Rattle.greet.proofs.Names.{◌≡◌, ◌≢◌, ℕ, ◌+◌, ◌<◌, ◌≤◌, List, [], ◌∷◌, ◌++◌, length, take, Some, None, Result, Ok, Err, refl, sym, ap, subst, ◌∙◌, arith, ne_eqb, drop-drop, length-append, length-drop, length-take, IfOk, IfErr, little_bytes, little_number, little_from-lt, IsDump, truncated, dump_name_size, dump_set_size, GreetFault, IsBytes, IsBytes-drop}
use Rattle.std.proofs.Common.{drop}
use Rattle.std.proofs.lemmas.Bool.{eq-eqb}
use Rattle.std.specs.Prelude.{MatchResult}
use Rattle.greet.specs.Message.{DumpValue}
use Rattle.greet.specs.Refusal.{dump_refusal}
use Rattle.greet.specs.View.{dump_value, Refuses}
use Rattle.greet.specs.declared.command.Dump.{Dump}
use Rattle.greet.specs.declared.fault.GreetFault.TheVariants as faults
use Rattle.wire.proofs.Cuts.{number_at_front, number_is, cut, after, right_7}

-- what a dump command says, from the bytes after its first
abbrev pub dump_of : List ℕ → DumpValue
dump_of body = record { flags = little_number 2 body; server_id = little_number 4 (drop 2 body); set = drop (22 + dump_name_size body) body }

pub is_dump : (body : List ℕ) → IsBytes body → length body ≡ 22 + dump_name_size body + dump_set_size body → IsDump (dump_of body) (0x1E ∷ body)
is_dump body fits whole =
    let n = dump_name_size body in
    let m = dump_set_size body in
    let name = take n (drop 10 body) in
    let position = take 8 (drop (10 + n) body) in
    let set = drop (22 + n) body in
    let name_long : n ≡ length name = omega (arith, whole, length-take n (drop 10 body), length-drop 10 body) in
    let set_long : m ≡ length set = omega (arith, whole, length-drop (22 + n) body) in
    let l6 : 4 ≤ length (drop 6 body) = omega (arith, whole, length-drop 6 body) in
    let l2 : 4 ≤ length (drop 2 body) = omega (arith, whole, length-drop 2 body) in
    let l18 : 4 ≤ length (drop (18 + n) body) = omega (arith, whole, length-drop (18 + n) body) in
    let e18 : 10 + n + 8 ≡ 18 + n = omega arith in
    let e22 : 18 + n + 4 ≡ 22 + n = omega arith in
    let c18 : drop (18 + n) body ≡ little_bytes 4 (length set) ++ set =
    number_at_front 4 (drop (18 + n) body) l18 (IsBytes-drop (18 + n) body fits) ∙ (λ i. little_bytes 4 (set_long i) ++ drop-drop 4 (18 + n) body i) ∙ ap (λ k. little_bytes 4 (length set) ++ drop k body) e22 in
    let c10n : drop (10 + n) body ≡ position ++ (little_bytes 4 (length set) ++ set) = cut (10 + n) 8 body ∙ ap (λ k. position ++ drop k body) e18 ∙ ap (λ t. position ++ t) c18 in
    let c10 = cut 10 n body ∙ ap (λ t. name ++ t) c10n in
    let c6 : drop 6 body ≡ little_bytes 4 (length name) ++ (name ++ (position ++ (little_bytes 4 (length set) ++ set))) =
    number_at_front 4 (drop 6 body) l6 (IsBytes-drop 6 body fits) ∙ (λ i. little_bytes 4 (name_long i) ++ drop-drop 4 6 body i) ∙ ap (λ t. little_bytes 4 (length name) ++ t) c10 in
    let c2 = number_at_front 4 (drop 2 body) l2 (IsBytes-drop 2 body fits) ∙ ap (λ t. little_bytes 4 (little_number 4 (drop 2 body)) ++ t) (drop-drop 4 2 body ∙ c6) in
    let c0 = number_at_front 2 body (omega (arith, whole)) fits ∙ ap (λ t. little_bytes 2 (little_number 2 body) ++ t) c2 in
    record {
      name = name;
      position = position;
      payload_is = ap (λ t. 0x1E ∷ t) c0
          ∙ sym (right_7 (0x1E ∷ little_bytes 2 (little_number 2 body)) (little_bytes 4 (little_number 4 (drop 2 body))) (little_bytes 4 (length name)) name position (little_bytes 4 (length set)) set);
      sizes = (let small = little_from-lt 0 4 (drop 6 body) (IsBytes-drop 6 body fits) in omega (arith, small, name_long), omega (arith, whole, length-take 8 (drop (10 + n) body), length-drop (10 + n) body));
      ranges = (little_from-lt 0 2 body fits, little_from-lt 0 4 (drop 2 body) (IsBytes-drop 2 body fits));
      fits = let small = little_from-lt 0 4 (drop (18 + n) body) (IsBytes-drop (18 + n) body fits) in omega (arith, small, set_long);
    }

pub record Reported (d : DumpValue) (payload : List ℕ) : Type 0 where
  pub body : List ℕ
  pub payload_is : payload ≡ 0x1E ∷ body
  pub value : d ≡ dump_of body
  pub whole : length body ≡ 22 + dump_name_size body + dump_set_size body

pub reported : (d : DumpValue) (payload : List ℕ) → IsDump d payload → Reported d payload
reported d payload is =
    let r18 = little_bytes 4 (length d.set) ++ d.set in
    let r10 = is.position ++ r18 in
    let r6 = little_bytes 4 (length is.name) ++ (is.name ++ r10) in
    let r2 = little_bytes 4 d.server_id ++ r6 in
    let body = little_bytes 2 d.flags ++ r2 in
    let n : dump_name_size body ≡ length is.name = number_is 4 (length is.name) r6 (is.name ++ r10) (omega (arith, is.sizes.0)) refl in
    let e18 : 18 + length is.name ≡ 10 + (length is.name + 8) = omega arith in
    let e22 : 22 + length is.name ≡ 10 + (length is.name + 12) = omega arith in
    let d18 : drop (18 + length is.name) body ≡ r18 =
    ap (λ k. drop k body) e18 ∙ sym (drop-drop (length is.name + 8) 10 body) ∙ after (length is.name) 8 is.name r10 refl ∙ after 8 0 is.position r18 is.sizes.1 in
    let d22 : drop (22 + length is.name) body ≡ d.set =
    ap (λ k. drop k body) e22 ∙ sym (drop-drop (length is.name + 12) 10 body) ∙ after (length is.name) 12 is.name r10 refl ∙ after 8 4 is.position r18 is.sizes.1 in
    let m : dump_set_size body ≡ length d.set = ap (λ k. little_number 4 (drop (18 + k) body)) n ∙ number_is 4 (length d.set) (drop (18 + length is.name) body) d.set (omega (arith, is.fits)) d18 in
    let f = sym (number_is 2 d.flags body r2 (omega (arith, is.ranges.0)) refl) in
    let s = sym (number_is 4 d.server_id r2 r6 (omega (arith, is.ranges.1)) refl) in
    let t = sym (ap (λ k. drop (22 + k) body) n ∙ d22) in
    record {
      body = body;
      payload_is = is.payload_is ∙ right_7 (0x1E ∷ little_bytes 2 d.flags) (little_bytes 4 d.server_id) (little_bytes 4 (length is.name)) is.name is.position (little_bytes 4 (length d.set)) d.set;
      value = λ i. record { flags = f i; server_id = s i; set = t i };
      whole = omega (arith, n, m, is.sizes.1, length-append is.name r10, length-append is.position r18);
    }

-- A dump command is not refused,
pub not_refused : (d : DumpValue) (payload : List ℕ) → IsDump d payload → dump_refusal payload ≡ None
unfolding dump_refusal
not_refused d payload is =
    let t = reported d payload is in
    rw (t.payload_is, eq-eqb _ _ t.whole) refl

-- and has one meaning.
pub one_value : (a b : DumpValue) (payload : List ℕ) → IsDump a payload → IsDump b payload → a ≡ b
one_value a b payload is_a is_b =
    let x = reported a payload is_a in
    let y = reported b payload is_b in
    x.value ∙ ap dump_of (ap (drop 1) (sym x.payload_is ∙ y.payload_is)) ∙ sym y.value

pub nothing : (payload : List ℕ) → length payload < 1 → dump_refusal payload ≡ Some truncated
unfolding dump_refusal
nothing [] few = refl
nothing (b ∷ payload) few = absurd (omega (arith, few))

-- ---- The fields that were read.

pub found : (body : List ℕ) (result : Result Dump GreetFault) → IsBytes body → IfOk result (λ dump. dump.flags ≡ little_number 2 body) → IfOk result (λ dump. dump.server_id ≡ little_number 4 (drop 2 body)) →
    IfOk result (λ dump. dump.set.now ≡ drop (22 + dump_name_size body) body) → IfOk result (λ _. length body ≡ 22 + dump_name_size body + dump_set_size body) →
    IfOk result (λ dump. IsDump (dump_value dump) (0x1E ∷ body))
found body (Ok dump) fits flags server_id set whole =
    let f = sym flags in
    let s = sym server_id in
    let t = sym set in
    subst (λ d. IsDump d (0x1E ∷ body)) (λ i. record { flags = f i; server_id = s i; set = t i }) (is_dump body fits whole)
found body (Err fault) fits flags server_id set whole = tt

pub refused : (body : List ℕ) (result : Result Dump GreetFault) → IfErr result (λ fault. (fault ≡ faults.Truncated) × (length body ≢ 22 + dump_name_size body + dump_set_size body)) → IfErr result (Refuses (dump_refusal (0x1E ∷ body)))
unfolding dump_refusal
refused body (Ok dump) is = tt
refused body (Err fault) is = rw (is.0, ne_eqb _ _ is.1) refl

pub answered : (payload body : List ℕ) (result : Result Dump GreetFault) → payload ≡ 0x1E ∷ body → IfOk result (λ dump. IsDump (dump_value dump) payload) → IfErr result (λ fault. (fault ≡ faults.Truncated) × (length body ≢ 22 + dump_name_size body + dump_set_size body)) →
    (d : DumpValue) → IsDump d payload → MatchResult result (λ dump. dump_value dump ≡ d) (λ _. ⊥)
answered payload body (Ok dump) parts found fault d is = one_value (dump_value dump) d payload found is
answered payload body (Err fault) parts found is_fault d is =
    let t = reported d payload is in
    is_fault.1 (subst (λ b. length b ≡ 22 + dump_name_size b + dump_set_size b) (ap (drop 1) (sym t.payload_is ∙ parts)) t.whole)
