use Rattle.gather.proofs.Names.{◌++◌, ◌∷◌, [], ap, ◌∙◌, on_ok_weaker}
use Rattle.gather.proofs.ImagePacking.{own_image, inserts}
use Rattle.gather.proofs.changes.Changes.insert.Goals as goal

pub add-requires-clause-after : goal.add-requires-clause-after
add-requires-clause-after c = (own_image c.args.after.now c.bytes.result.now c.bytes.ensures).absent_or

pub returns-clause-ok : goal.returns-clause-ok
returns-clause-ok c = on_ok_weaker c.add.result (λ e. e ∙ ap (λ change. c.args.self.now ++ change ∷ []) (inserts c.args.table.now.value c.args.after.now c.bytes.result.now c.bytes.ensures)) c.add.ensures.ok
