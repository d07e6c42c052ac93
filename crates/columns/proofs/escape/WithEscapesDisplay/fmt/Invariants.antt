use Rattle.columns.proofs.Names.{◌≤◌, take, HasWritten, IsPlainFormatter}
use Rattle.std.specs.Str.{IsCharBoundary}
use Rattle.columns.specs.Escapes.{escaped}
use Rattle.columns.proofs.EscapeCodes.{ArePlain}
use Rattle.columns.proofs.escape.WithEscapesDisplay.fmt.Given as goal

abbrev pub invariant-loop-i : goal.invariant-loop-i
invariant-loop-i g l = record {
  within : l.start ≤ l.i;
  cut : IsCharBoundary l.text l.start;
  plain : ArePlain l.layer l.text l.start l.i;
  written : IsPlainFormatter l.initial.f → HasWritten g.W.Write.write_str_gives l.initial.f (escaped l.layer (take l.start l.text)) l.f;
}
