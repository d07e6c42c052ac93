use Rattle.gtid.proofs.GroupText.{all_bytes}
use Rattle.gtid.proofs.text.print_source.Goals as goal

pub returns-clause-source : goal.returns-clause-source
returns-clause-source c = (c.told-source, all_bytes c.args.source.now c.fits-source)
