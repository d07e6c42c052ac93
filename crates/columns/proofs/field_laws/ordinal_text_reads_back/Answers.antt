use Rattle.columns.proofs.Names.{subst, sym, arith, IsDigitsOf}
use Rattle.columns.proofs.FieldDigits.{decimal_is}
use Rattle.columns.proofs.field_laws.ordinal_text_reads_back.Goals as goal

pub returns : goal.returns
returns c =
    let number = c.args.ordinal in
    c.read_ordinal_field.ensures.only number c.requires.few (subst (IsDigitsOf number) (sym c.requires.text) (decimal_is number (omega (arith, c.ranges.ordinal.fits))))
