use Rattle.columns.proofs.Names.{length, ap, arith, Client}
use Rattle.columns.proofs.EscapeCodes.{whole_text}
use Rattle.columns.proofs.escape.unescape.Goals as goal

pub returns-then-rest-gt0-clause-only : goal.returns-then-rest-gt0-clause-only
returns-then-rest-gt0-clause-only c bytes is =
    let same = whole_text Client c.in_ok-bytes.bytes.items bytes c.in_ok-bytes.rest.now c.args.field.now c.in_ok-bytes.ensures.found c.in_ok-bytes.ensures.end is in
    absurd (omega (arith, ap length same.1, c.if-rest-gt0.true))

pub returns-clause-only : goal.returns-clause-only
returns-clause-only c bytes is =
    let same = whole_text Client c.in_ok-bytes.bytes.items bytes c.in_ok-bytes.rest.now c.args.field.now c.in_ok-bytes.ensures.found c.in_ok-bytes.ensures.end is in
    same.0
