use Rattle.std.proofs.Common.{◌≡◌, drop, None}
use Rattle.store.specs.Judge.{apart_from}
use Rattle.store.proofs.table.spans.are_apart.Given as goal

abbrev pub invariant-loop-span : goal.invariant-loop-span
invariant-loop-span l = apart_from None l.spans ≡ apart_from l.last (drop l.span-index l.spans)
