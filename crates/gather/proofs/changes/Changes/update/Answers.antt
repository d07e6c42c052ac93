use Rattle.gather.proofs.Names.{◌++◌, ◌∷◌, [], ap, ◌∙◌, on_ok_weaker}
use Rattle.gather.proofs.ImagePacking.{own_image, updates}
use Rattle.gather.proofs.changes.Changes.update.Goals as goal

pub add-requires-clause-before : goal.add-requires-clause-before
add-requires-clause-before c = (own_image c.args.before.now c.bytes.result.now c.bytes.ensures).absent_or

pub add-requires-clause-after : goal.add-requires-clause-after
add-requires-clause-after c = (own_image c.args.after.now c.bytes-2.result.now c.bytes-2.ensures).absent_or

pub returns-clause-ok : goal.returns-clause-ok
returns-clause-ok c =
    on_ok_weaker c.add.result
    (λ e. e ∙ ap (λ change. c.args.self.now ++ change ∷ []) (updates c.args.table.now.value c.args.before.now c.args.after.now c.bytes.result.now c.bytes-2.result.now c.bytes.ensures c.bytes-2.ensures)) c.add.ensures.ok
