use Rattle.std.proofs.Common.{length}
use Rattle.mrep.proofs.payloads.lines.list_piece.Given as goal

abbrev pub decreases-loop-rest : goal.decreases-loop-rest
decreases-loop-rest g l = length l.rest
