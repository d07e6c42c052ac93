use Rattle.std.proofs.Common.{◌-◌, ◌/◌, ◌%◌, arith}
use Rattle.columns.proofs.DigitGroups.{sizes_made}
use Rattle.columns.proofs.value.decimal.groups.Goals as goal

pub returns-clause-sizes : goal.returns-clause-sizes
returns-clause-sizes c =
    sizes_made ((c.args.precision - c.args.scale) % 9) (c.args.scale % 9) ((c.args.precision - c.args.scale) / 9) (c.args.scale / 9) c.from-nines.result
    c.from-nines.ensures (omega (arith, c.from-nines.ensures, c.requires.few, c.requires.within))
