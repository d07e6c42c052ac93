use Rattle.std.proofs.Common.{◌≡◌, vec_len, arith}
use Rattle.wire.proofs.UnpackerState.{held_of-empty, nothing_held}
use Rattle.wire.proofs.unpacker.Unpacker.is_empty.Goals as goal

pub returns-then-self-eq0 : goal.returns-then-self-eq0
returns-then-self-eq0 c =
    let u = c.args.self.now in (
      (λ e. let none : vec_len u.payload ≡ 0 = grind (arith, e, c.is_empty.ensures) in held_of-empty u c.requires c.if-self-eq0.true (omega (arith, none, u.payload.ok))),
      (λ e. let none : vec_len u.payload ≡ 0 = omega (arith, (nothing_held u c.requires e).1, u.payload.ok) in grind (arith, none, c.is_empty.ensures)),
    )

pub returns-else-self-eq0 : goal.returns-else-self-eq0
returns-else-self-eq0 c =
    ((λ e. absurd (c.if-self-eq0.false (grind (arith, e)))), (λ e. absurd (c.if-self-eq0.false (nothing_held c.args.self.now c.requires e).0)))
