use Rattle.std.proofs.lemmas.Str.{IsUtf8-from_is_utf8}
use Rattle.columns.proofs.Types.{never}
use Rattle.columns.proofs.fields.name_of.Goals as goal

pub returns-clause-none : goal.returns-clause-none
returns-clause-none c name = never (c.in-Err.ensures.succeeds (IsUtf8-from_is_utf8 c.args.bytes.items name.text))
