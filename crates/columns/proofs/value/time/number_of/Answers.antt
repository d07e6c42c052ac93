use Rattle.std.proofs.Common.{arith}
use Rattle.columns.proofs.SpanNumbers.{amount_of}
use Rattle.columns.proofs.value.time.number_of.Goals as goal

pub join_sign-requires-clause-amount : goal.join_sign-requires-clause-amount
join_sign-requires-clause-amount c =
    let whole = amount_of c.args.size c.args.time c.requires.size in
    rw (c.from.ensures, c.from-2.ensures, c.from-3.ensures, c.from-4.ensures, c.stored.ensures, c.unit_of-unit.ensures.value) (omega (arith, whole.below))
