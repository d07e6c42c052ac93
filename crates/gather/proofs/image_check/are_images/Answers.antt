use Rattle.gather.proofs.Names.{◌+◌, ◌-◌, sym, ap, ◌∙◌, take_rest, cell_value, are_images}
use Rattle.gather.proofs.ImageParts.{one_left}
use Rattle.gather.proofs.image_check.are_images.Goals as goal

pub loop-preserved : goal.loop-preserved
loop-preserved c =
    let left = c.loop.left.now in
    c.loop.invariant
    ∙ one_left left c.args.count c.loop.counter c.in-Some.size (cell_value c.in-Some.field-0-0) c.loop-test.true (sym c.in-Some.ensures.front)
    ∙ ap (are_images (c.args.count - (c.loop.counter + 1))) (sym (take_rest left c.in-Some.size))
