use Rattle.store.proofs.Names.{◌≡◌, ◌++◌, [], ◌∷◌, map, subst, sym, ap, ◌∙◌, map-append, AddsRows}
use Rattle.gather.specs.View.{change_value}
use Rattle.store.specs.AnyOrder.{AddsRow}
use Rattle.store.proofs.AnyOrder.{row_more}
use Rattle.store.proofs.inserts.images_of.Goals as goal

pub loop-change-preserved : goal.loop-change-preserved
loop-change-preserved c =
    let schema = c.args.schema.now in
    let table = c.args.table.now in
    let before = map (λ r. r.now) c.loop-change.images.items in
    let bytes = c.in_ok-bytes.bytes in
    let steps : c.loop-change.change-iterator ≡ change_value c.in-Some.change ∷ c.next.new.self = c.in-Some.ensures.steps in
    let row : AddsRow schema table bytes.now (change_value c.in-Some.change) = c.in_ok-bytes.ensures in
    let images : map (λ r. r.now) c.push.new.self.items ≡ before ++ bytes.now ∷ [] = ap (map (λ r. r.now)) (rw c.if-is_err.ensures.negation at c.push.ensures.items) ∙ map-append (λ r. r.now) c.loop-change.images.items (bytes ∷ []) in
    subst (λ bs. AddsRows schema table c.args.changes.now c.next.new.self bs) (sym images) (row_more schema table c.args.changes.now c.loop-change.change-iterator c.next.new.self before (change_value c.in-Some.change) bytes.now c.loop-change.invariant steps row)
