use Rattle.binlog.proofs.Names.{ap, ◌∙◌, flat_map, metadata}
use Rattle.gtid.proofs.Appending.{first_write, next_fits, next_write, last_write}
use Rattle.binlog.proofs.column.list.write_all_metadata.Goals as goal

pub loop-column-init : goal.loop-column-init
loop-column-init c = first_write c.args.out.now _ _ (ap (λ l. flat_map metadata l) (c.into_iter-column-iterator.ensures.into_iter_gives ∙ c.iter-column-items.ensures))

pub write_metadata-requires : goal.write_metadata-requires
write_metadata-requires c = next_fits (metadata c.in-Some.column.kind) (flat_map metadata c.next.new.self) c.loop-column.invariant (ap (λ l. flat_map metadata l) c.in-Some.ensures.steps) c.requires

pub loop-column-preserved : goal.loop-column-preserved
loop-column-preserved c = next_write (metadata c.in-Some.column.kind) (flat_map metadata c.next.new.self) c.loop-column.invariant (ap (λ l. flat_map metadata l) c.in-Some.ensures.steps) c.write_metadata.ensures

pub returns : goal.returns
returns c = last_write c.loop-column.invariant (ap (λ l. flat_map metadata l) c.in-None.ensures.steps.0)
