use Rattle.std.proofs.Common.{refl}
use Rattle.store.specs.Listing.{entry_of}
use Rattle.replica.proofs.ClearStore.{read_same, row_taken}
use Rattle.replica.proofs.change.clearing.TableRowsVisitor.row.Goals as goal

pub returns-in-Ok-Some : goal.returns-in-Ok-Some
returns-in-Ok-Some c =
    row_taken (entry_of c.args.row.now) c.args.self.now _ c.delete_copies.result c.in-Ok-Some.image c.deref.result.now c.is_of.result c.deref.ensures c.is_of.ensures c.if-not-is_of.false refl
    (read_same c.in-Ok-Some.field-0 c.in-Ok-Some.image c.args.row.now.image c.bytes.result.now c.in-Ok-Some.ensures.found c.in-Ok-Some.field-0-is c.bytes.ensures) c.delete_copies.ensures.ok
