use Rattle.wire.proofs.Names.{◌≡◌, ◌+◌, ◌%◌, ap, sym, subst, arith, IsWholePayload}
use Rattle.wire.specs.Held.{held_of}
use Rattle.wire.proofs.UnpackerState.{whole_payload}
use Rattle.wire.proofs.unpacker.Unpacker.hand_out.Goals as goal

pub returns-clause-payload : goal.returns-clause-payload
returns-clause-payload c =
    let old = c.args.self.now in
    let next : (old.due + old.full + 1) % 256 ≡ c.replace-payload.new.dest.due = omega (arith, ap (λ u. u.due) c.replace-payload.ensures.after, c.new-fresh.ensures.due) in
    subst (λ n. IsWholePayload old.due old.limit (held_of old) c.replace-payload.result.payload.items n) next
    (subst (λ p. IsWholePayload old.due old.limit (held_of old) p ((old.due + old.full + 1) % 256)) (ap (λ u. u.payload.items) (sym c.replace-payload.ensures.value))
    (whole_payload old c.requires.chunk c.requires.complete))
