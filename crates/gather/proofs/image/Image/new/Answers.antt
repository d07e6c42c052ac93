use Rattle.gather.proofs.Names.{ap, ◌∙◌, ◌++◌, image, cell_values}
use Rattle.gather.proofs.WholeImages.{is_written}
use Rattle.gather.proofs.image.Image.new.Goals as goal

pub invariant_of-result : goal.invariant_of-result
invariant_of-result c =
    let values = cell_values c.args.cells.now in
    (is_written values c.write_cells.new.out.items c.in-Some.ensures.1 (c.in_ok-write_cells.ensures.ok ∙ ap (λ l. l ++ image values) c.in_ok-bytes.ensures.items)).0

pub returns-clause-found : goal.returns-clause-found
returns-clause-found c =
    let values = cell_values c.args.cells.now in
    ((is_written values c.write_cells.new.out.items c.in-Some.ensures.1 (c.in_ok-write_cells.ensures.ok ∙ ap (λ l. l ++ image values) c.in_ok-bytes.ensures.items)).1, c.in-Some.ensures.1)
