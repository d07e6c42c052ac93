use Rattle.std.proofs.Common.{◌||◌, sym, subst}
use Rattle.std.specs.Io.KnownBytes.{prepend_known}
use Rattle.std.proofs.lemmas.Bool.{or_from, false_from_ne_true}
use Rattle.gather.specs.Given.{GivesOne}
use Rattle.first_copy.specs.Supplied.{supply_of}
use Rattle.first_copy.specs.declared.copy_fault.CopyFault.TheVariants.{Failed}
use Rattle.first_copy.proofs.Supplies.{gives_next, one_within, not_err}
use Rattle.first_copy.proofs.copied_rows.CopiedRowsDeliveries.next.Goals as goal

pub returns : goal.returns
returns g c =
    let old = c.args.self.now in
    let new = c.next.new.self in
    let it = c.in-Ok.ensures in
    let tables = old.loader.taker.description.value.tables.items in
    let text = prepend_known old.loader.line.items (g.R.Read.remaining old.loader.reader) in
    let left = prepend_known new.line.items (g.R.Read.remaining new.reader) in
    let before = supply_of (old.changed || old.loader.failed) old.loader.ended tables old.loader.source old.loader.given old.loader.rows text in
    let after = supply_of (old.changed || new.failed) new.ended new.taker.description.value.tables.items new.source new.given new.rows left in
    record {
      gives = one_within old.names before after c.in-Ok.next (subst (λ source. GivesOne before (supply_of (old.changed || new.failed) new.ended new.taker.description.value.tables.items source new.given new.rows left) c.in-Ok.next) (sym it.kept.1)
          (subst (λ description. GivesOne before (supply_of (old.changed || new.failed) new.ended description.value.tables.items old.loader.source new.given new.rows left) c.in-Ok.next) (sym it.kept.0)
          (gives_next tables old.loader.source (old.changed || old.loader.failed) old.loader.ended (old.changed || new.failed) new.ended old.loader.given old.loader.rows new.given new.rows old.loader.hasher new.hasher text left c.in-Ok.next
          (or_from _ _ c.if-self.false (false_from_ne_true _ (λ has. not_err c.in-Ok.next Failed (it.again has)))) (or_from _ _ c.if-self.false it.goes_on) it.given it.going it.finished it.ended))) (c.is_of_tables.ensures c.if-not-is_of_tables.false);
    }
