use Rattle.first_copy.proofs.Names.{◌∷◌, [], ◌++◌, refl, ◌∙◌, subst, string_bytes}
use Rattle.gather.specs.Transaction.{insert}
use Rattle.columns.specs.declared.description.Description.{Description}
use Rattle.first_copy.specs.RowLines.{IsRowAt}
use Rattle.first_copy.proofs.DefinedAt.{same_item}
use Rattle.first_copy.proofs.row_taker.RowTaker.take.Goals as goal

pub returns-in-Ok-clause-taken : goal.returns-in-Ok-clause-taken
returns-in-Ok-clause-taken c =
    let row : IsRowAt c.args.self.now.description.value.tables.items c.in_ok-place.place c.args.line.now c.in_ok-place.image = subst (λ (d : Description). IsRowAt d.tables.items c.in_ok-place.place c.args.line.now c.in_ok-place.image) c.deref.ensures c.in_ok-place.ensures.found in
    let schema = same_item _ _ c.args.self.now.tables.items c.args.self.now.description.value.tables.items c.in_ok-place.place c.index.result.now row.table c.args.self.now.schemas c.index.ensures row.at in
    let name = same_item _ _ c.args.self.now.tables.items c.args.self.now.description.value.tables.items c.in_ok-place.place c.index.result.now row.table c.args.self.now.names c.index.ensures row.at in
    record {
      change = insert (string_bytes row.table.schema) (string_bytes row.table.name) c.in_ok-place.image;
      is_row = record { place = c.in_ok-place.place; cells = c.in_ok-place.image; row = row; change_is = refl };
      added = c.in-Ok.ensures.ok ∙ (λ i. c.args.changes.now ++ insert (schema i) (name i) c.in_ok-place.image ∷ []);
    }
