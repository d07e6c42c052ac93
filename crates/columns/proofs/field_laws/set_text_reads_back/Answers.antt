use Rattle.columns.proofs.Names.{subst, sym, IsDigitsOf}
use Rattle.columns.proofs.FieldDigits.{decimal_is}
use Rattle.columns.proofs.field_laws.set_text_reads_back.Goals as goal

pub returns : goal.returns
returns c =
    let number = c.args.bits in
    c.read_set_field.ensures.only number c.requires.small (subst (IsDigitsOf number) (sym c.requires.text) (decimal_is number c.ranges.bits.fits))
