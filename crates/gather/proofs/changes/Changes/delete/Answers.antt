use Rattle.gather.proofs.Names.{◌++◌, ◌∷◌, [], ap, ◌∙◌, on_ok_weaker}
use Rattle.gather.proofs.ImagePacking.{own_image, deletes}
use Rattle.gather.proofs.changes.Changes.delete.Goals as goal

pub add-requires-clause-before : goal.add-requires-clause-before
add-requires-clause-before c = (own_image c.args.before.now c.bytes.result.now c.bytes.ensures).absent_or

pub returns-clause-ok : goal.returns-clause-ok
returns-clause-ok c = on_ok_weaker c.add.result (λ e. e ∙ ap (λ change. c.args.self.now ++ change ∷ []) (deletes c.args.table.now.value c.args.before.now c.bytes.result.now _ c.bytes.ensures)) c.add.ensures.ok
