use Rattle.std.proofs.Common.{◌∙◌}
use Rattle.replica.proofs.Copies.{one_of}
use Rattle.replica.proofs.change.loading.is_one_of.Goals as goal

pub returns-then-is_empty : goal.returns-then-is_empty
returns-then-is_empty c = (one_of c.names.result.now c.args.tables.now c.names.ensures.set c.args.schema.now c.args.table.now c.is_empty.result c.is_empty.ensures).0 c.if-is_empty.true

pub returns : goal.returns
returns c = c.follows.ensures ∙ (one_of c.names.result.now c.args.tables.now c.names.ensures.set c.args.schema.now c.args.table.now c.is_empty.result c.is_empty.ensures).1 c.if-is_empty.false
