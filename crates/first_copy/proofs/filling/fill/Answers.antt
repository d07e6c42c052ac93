use Rattle.first_copy.proofs.Names.{arith, ◌∙◌, nil_from_length}
use Rattle.first_copy.proofs.FaultsAfter.{cut_line, read_other}
use Rattle.first_copy.proofs.filling.fill.Goals as goal

pub returns-in_default-clause-fault : goal.returns-in_default-clause-fault
returns-in_default-clause-fault g c =
    cut_line c.args.line.now.items c.read_until.new.buf.items (g.R.Read.remaining c.args.reader.now) c.args.number
    (nil_from_length c.args.line.now.items (omega (arith, c.args.line.now.ok.0, c.len.ensures, c.if-len-gt0.false))) c.in-Ok.ensures.bytes
    (λ front e. c.in_default.ensures.none front (c.deref.ensures.value ∙ e))

pub returns-in-Err-clause-other : goal.returns-in-Err-clause-other
returns-in-Err-clause-other g c = read_other c.read_fault.result _ c.read_fault.ensures
