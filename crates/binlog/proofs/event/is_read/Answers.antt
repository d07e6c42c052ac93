use Rattle.binlog.proofs.Names.{◌∙◌, sym, ap, is_read}
use Rattle.binlog.specs.EventView.{filter_of}
use Rattle.binlog.proofs.TableSets.{all_read}
use Rattle.binlog.proofs.event.is_read.Goals as goal

pub returns-in-None : goal.returns-in-None
returns-in-None c = sym (ap (λ o. is_read (filter_of o) c.args.schema.now c.args.table.now) c.in-None.is ∙ all_read c.args.schema.now c.args.table.now)
