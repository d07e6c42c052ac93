use Rattle.first_copy.proofs.Names.{◌≡◌, List, ap, sym, subst, ◌∙◌, err_from_is_err_and, CellValue, placed_cells, AreFields}
use Rattle.gather.specs.Image.{HasImage}
use Rattle.gather.specs.ImageCells.{cell_values}
use Rattle.first_copy.specs.RowLines.{IsRefusal}
use Rattle.first_copy.proofs.TablePlaces.{here, fields_here, row_here, wrong_here}
use Rattle.first_copy.proofs.row_reader.RowReader.read.Goals as goal

pub returns-in_err-read_fields-clause-only : goal.returns-in_err-read_fields-clause-only
returns-in_err-read_fields-clause-only c place cells row =
    let p = err_from_is_err_and c.from_residual.result c.from_residual.ensures.1 in
    let tables = c.args.description.now.tables.items in
    let it = here tables c.deref.result.now c.in-Some.place c.args.line.now c.in-Some.fields.now c.deref-2.result.now c.index.result.now c.deref.ensures.value c.in-Some.ensures.found c.index.ensures c.deref-2.ensures.value in
    let found = fields_here tables c.in-Some.place place c.args.line.now c.in-Some.fields.now c.deref-2.result.now cells c.args.description.now.lawful it row in
    rw p.1 (subst IsRefusal (sym (p.2 ∙ c.in_err-read_fields.ensures.only cells found.1)) tt)

pub returns-in_err-read_fields-clause-fault : goal.returns-in_err-read_fields-clause-fault
returns-in_err-read_fields-clause-fault c =
    let p = err_from_is_err_and c.from_residual.result c.from_residual.ensures.1 in
    let tables = c.args.description.now.tables.items in
    let it = here tables c.deref.result.now c.in-Some.place c.args.line.now c.in-Some.fields.now c.deref-2.result.now c.index.result.now c.deref.ensures.value c.in-Some.ensures.found c.index.ensures c.deref-2.ensures.value in
    rw (p.1, p.2) (wrong_here tables c.in-Some.place c.args.line.now c.in-Some.fields.now c.deref-2.result.now _ it c.in_err-read_fields.ensures.fault)

pub returns-in-Ok-Some-clause-found : goal.returns-in-Ok-Some-clause-found
returns-in-Ok-Some-clause-found c =
    let tables = c.args.description.now.tables.items in
    let it = here tables c.deref.result.now c.in-Some.place c.args.line.now c.in-Some.fields.now c.deref-2.result.now c.index.result.now c.deref.ensures.value c.in-Some.ensures.found c.index.ensures c.deref-2.ensures.value in
    let cells : c.in-Ok-Some.image ≡ placed_cells c.read_fields.new.places.items c.read_fields.new.bytes.items =
    (rw c.in-Ok-Some.field-0-is at c.in-Ok-Some.ensures.found).0 ∙ ap cell_values c.deref-5.ensures.value ∙ c.in_ok-cells.ensures ∙ (λ i. placed_cells (c.deref-3.ensures.value i) (c.deref-4.ensures.value i)) in
    row_here tables c.in-Some.place c.args.line.now c.in-Some.fields.now c.deref-2.result.now c.in-Ok-Some.image it
    (subst (λ (those : List CellValue). AreFields c.deref-2.result.now c.in-Some.fields.now those) (sym cells) c.in_ok-read_fields.ensures.found)

pub returns-in-Ok-Some-clause-only : goal.returns-in-Ok-Some-clause-only
returns-in-Ok-Some-clause-only c place cells row =
    let tables = c.args.description.now.tables.items in
    let it = here tables c.deref.result.now c.in-Some.place c.args.line.now c.in-Some.fields.now c.deref-2.result.now c.index.result.now c.deref.ensures.value c.in-Some.ensures.found c.index.ensures c.deref-2.ensures.value in
    (fields_here tables c.in-Some.place place c.args.line.now c.in-Some.fields.now c.deref-2.result.now cells c.args.description.now.lawful it row).0

pub returns-in-Ok-None-clause-fault : goal.returns-in-Ok-None-clause-fault
returns-in-Ok-None-clause-fault c =
    let tables = c.args.description.now.tables.items in
    let it = here tables c.deref.result.now c.in-Some.place c.args.line.now c.in-Some.fields.now c.deref-2.result.now c.index.result.now c.deref.ensures.value c.in-Some.ensures.found c.index.ensures c.deref-2.ensures.value in
    let cells : cell_values c.deref-5.result.now ≡ placed_cells c.read_fields.new.places.items c.read_fields.new.bytes.items =
    ap cell_values c.deref-5.ensures.value ∙ c.in_ok-cells.ensures ∙ (λ i. placed_cells (c.deref-3.ensures.value i) (c.deref-4.ensures.value i)) in
    record {
      place = c.in-Some.place;
      cells = placed_cells c.read_fields.new.places.items c.read_fields.new.bytes.items;
      row = row_here tables c.in-Some.place c.args.line.now c.in-Some.fields.now c.deref-2.result.now _ it c.in_ok-read_fields.ensures.found;
      none = λ has. (rw c.in-Ok-None.field-0-is at c.in-Ok-None.ensures.found) (subst HasImage (sym cells) has);
    }
