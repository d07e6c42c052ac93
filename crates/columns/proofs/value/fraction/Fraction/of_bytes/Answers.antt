use Rattle.columns.proofs.Names.{◌≡◌, length, ◌∙◌, rules, even_digits, fraction_size}
use Rattle.columns.proofs.Fractions.{even_fits}
use Rattle.columns.proofs.value.fraction.Fraction.of_bytes.Goals as goal

pub returns-clause-only : goal.returns-clause-only
returns-clause-only c number lawful is =
    let size : length c.args.bytes.now ≡ fraction_size c.args.digits = c.if-bytes-size.false ∙ c.size.ensures in
    let same = c.read_big.ensures.only (even_digits c.args.digits number) (rw size (even_fits c.args.digits number lawful)) (rw size is) in
    let value : c.in_ok-stored.stored ≡ c.read_big.result = search rules in
    c.of_stored.ensures.only number lawful (value ∙ same)
