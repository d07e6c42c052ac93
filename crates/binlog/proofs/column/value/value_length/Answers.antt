use Rattle.binlog.proofs.Names.{◌∙◌, sym, ap, arith, owned_value}
use Rattle.binlog.proofs.RowWriting.{number_long, prefixed_long}
use Rattle.binlog.proofs.column.value.value_length.Goals as goal

pub returns-in-Number : goal.returns-in-Number
returns-in-Number c = c.from.ensures ∙ sym (number_long c.args.shape (owned_value c.args.cell.now) c.in-Number.value c.in-Number.width c.requires.fits (ap owned_value c.in-Number.is))

pub returns-in-Prefixed : goal.returns-in-Prefixed
returns-in-Prefixed c =
    let long = prefixed_long c.args.shape c.in-Prefixed.size (owned_value c.args.cell.now) c.in-Bytes.bytes.items c.in-Prefixed.is (ap owned_value c.in-Bytes.is) in
    omega (arith, long, c.from-in-Prefixed.ensures, c.len.ensures, c.in-Bytes.bytes.ok)
