use Rattle.std.proofs.Common.{drop}
use Rattle.scripted_source.specs.Script.{part_values}
use Rattle.scripted_source.proofs.Packings.{Sending}
use Rattle.scripted_source.proofs.sending.send_parts.Given as goal

abbrev pub invariant-loop-part : goal.invariant-loop-part
invariant-loop-part l = Sending l.fn.sequence l.next l.fn.out.items l.out.items l.at (part_values l.parts) (part_values (drop l.part-index l.parts))
