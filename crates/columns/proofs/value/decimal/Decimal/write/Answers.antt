use Rattle.columns.proofs.Names.{replicate, ◌∙◌, ap, sym, arith, length-take-le, groups_size}
use Rattle.columns.proofs.DigitGroups.{size_is}
use Rattle.columns.proofs.value.decimal.Decimal.write.Goals as goal

pub write_groups-requires-clause-bytes : goal.write_groups-requires-clause-bytes
write_groups-requires-clause-bytes c =
    length-take-le c.size-size.result (replicate 30 0) (omega (arith, c.size-size.ensures.small)) ∙ c.size-size.ensures.size ∙ sym (size_is c.args.self.precision c.args.self.scale)
    ∙ ap groups_size (sym c.groups-count.ensures.sizes)
