-- What is appended for a payload.
use Rattle.replica.proofs.Names.{◌≡◌, ◌≤◌, ◌+◌, ℕ, List, [], length, Result, Ok, Err, sym, ap, subst, ◌∙◌, arith, little_bytes, Ids, IsEncoding, Reason, Settings, IsDumpTooLong, Sends}
use Rattle.std.proofs.Common.{OnOk}
use Rattle.wire.specs.Packet.{largest_payload}
use Rattle.greet.specs.Message.{dump_bytes}
use Rattle.gtid.proofs.OneLeastList.{one_least_list}
use Rattle.gtid.specs.Encoding.{blocks_bytes, grouped}
use Rattle.replica.specs.Conn.{dump_lead}
use Rattle.replica.specs.Sent.{flags_of}
use Rattle.replica.specs.PayloadStep.{SendsDump}

pub on_ok : {A : Type 0} (r : Result A Reason) (P Q : Type 0) → (P → Q) → OnOk r P → OnOk r Q
on_ok (Ok a) P Q f p = f p
on_ok (Err e) P Q f p = p

pub sends_other : (id : ℕ) (p q old new : List ℕ) → q ≡ p → Sends id q old new → Sends id p old new
sends_other id p q old new is s = subst (λ x. Sends id x old new) is s

pub asks_for : (settings : Settings) (executed : Ids) (set payload old new : List ℕ) → IsEncoding executed set
    → payload ≡ dump_bytes (record { flags = flags_of settings.once; server_id = settings.server_id; set = set }) [] (little_bytes 8 4)
    → Sends 0 payload old new → SendsDump settings executed old new
asks_for settings executed set payload old new encodes is s = record {
  set = set;
  encodes = encodes;
  sends = subst (λ x. Sends 0 x old new) is s;
}

pub one_encoding : (ids : Ids) (a b : List ℕ) → IsEncoding ids a → IsEncoding ids b → a ≡ b
one_encoding ids a b is_a is_b = is_a.spelled ∙ ap (λ spans. blocks_bytes (grouped spans)) (one_least_list ids is_a.spans is_b.spans is_a.least is_b.least) ∙ sym is_b.spelled

pub short_enough : (executed : Ids) (set : List ℕ) → IsEncoding executed set → dump_lead + length set ≤ largest_payload → IsDumpTooLong executed → ⊥
short_enough executed set encodes short too_long =
    let same : length set ≡ length too_long.set = ap length (one_encoding executed set too_long.set encodes too_long.encodes) in
    omega (arith, same, short, too_long.long)
