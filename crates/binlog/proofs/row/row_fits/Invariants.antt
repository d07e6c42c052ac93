use Rattle.binlog.proofs.Names.{◌≡◌, owned_values, kinds, row_fits}
use Rattle.std.proofs.Common.{drop}
use Rattle.binlog.proofs.row.row_fits.Given as goal

abbrev pub invariant-loop-i : goal.invariant-loop-i
invariant-loop-i l = row_fits (kinds l.types) (owned_values l.cells) ≡ row_fits (drop l.i (kinds l.types)) (drop l.i (owned_values l.cells))
