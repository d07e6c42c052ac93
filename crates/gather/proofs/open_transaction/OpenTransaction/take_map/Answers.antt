use Rattle.gather.proofs.Names.{[], Some, refl, table_map, table_value}
use Rattle.gather.proofs.Maps.{maps_more, no_changes, map_says, copied}
use Rattle.gather.proofs.open_transaction.OpenTransaction.take_map.Goals as goal

pub returns-clause-keeps : goal.returns-clause-keeps
returns-clause-keeps c = λ body keeps.
    let t = table_value c.args.map.now in
    let kept = c.in_ok-table-in-Ok.table in
    let says = map_says t kept (copied t kept c.in-Ok.table c.in_ok-table-in-Ok.ensures.ok c.in-Ok.ensures.ok) in
    record {
      maps = maps_more c.args.self.now.maps c.insert.new.self c.args.map.now.id (Some kept) (table_map t) body c.in_ok-insert.ensures.updates says keeps.maps;
      changes = no_changes [] body (table_map t) c.args.self.now.changes keeps.changes refl;
    }
