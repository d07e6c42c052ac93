use Rattle.binlog.proofs.Names.{sym, ap, ◌∙◌, arith, Ok, take_rest, little_number}
use Rattle.binlog.proofs.Headers.{is_framed, reported}
use Rattle.binlog.proofs.header.Header.read.Goals as goal

pub returns-then-size-bytes-clause-only : goal.returns-then-size-bytes-clause-only
returns-then-size-bytes-clause-only c code may_ignore body is =
    let t = reported code may_ignore body c.args.bytes.now is in
    absurd (c.if-size-bytes.true (c.read_u32-size.ensures ∙ ap (little_number 4) (take_rest c.args.bytes.now 9) ∙ t.size_is))

pub returns-clause-found : goal.returns-clause-found
returns-clause-found c = is_framed c.args.bytes.now (λ i. omega (arith, c.type_inv.bytes i)) (omega arith) (sym (ap (little_number 4) (take_rest c.args.bytes.now 9)) ∙ sym c.read_u32-size.ensures ∙ c.if-size-bytes.false)

pub returns-clause-only : goal.returns-clause-only
returns-clause-only c code may_ignore body is =
    let t = reported code may_ignore body c.args.bytes.now is in
    let a = sym t.code_is in
    let m = sym t.mark_is in
    λ i. Ok (record { code = a i; size = c.if-size-bytes.false i; may_ignore = m i })
