use Rattle.columns.proofs.EscapeCodes.{begins_there}
use Rattle.columns.proofs.Refusals.{refused}
use Rattle.columns.proofs.escape.unescape_front.Goals as goal

pub returns-in_err-push-clause-full : goal.returns-in_err-push-clause-full
returns-in_err-push-clause-full c =
    refused c.from_residual.result (begins_there c.args.layer c.loop-byte.bytes.items c.loop-byte.left.now c.args.text.now c.loop-byte.invariant.text (c.in-Some.byte, c.in-Some.rest.now, c.in-Some.ensures.found))
