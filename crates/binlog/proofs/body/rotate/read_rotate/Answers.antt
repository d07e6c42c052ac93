use Rattle.binlog.proofs.Names.{◌≡◌, ◌∙◌, ◌++◌, sym, ap, arith, take_rest, little_bytes, little_number}
use Rattle.std.proofs.Common.{drop}
use Rattle.binlog.proofs.Bodies.{long_number}
use Rattle.binlog.proofs.body.rotate.read_rotate.Goals as goal

pub returns-clause-found : goal.returns-clause-found
returns-clause-found c =
    let number : c.read_u64.result ≡ little_number 8 (drop 19 c.args.bytes.now) = c.read_u64.ensures ∙ ap (little_number 8) (take_rest c.args.bytes.now 19) in
    let name = take_rest c.args.bytes.now 27 in
    (c.read_u64.type_inv, long_number c.args.bytes.now (λ i. omega (arith, c.type_inv.bytes i)) (omega arith) ∙ (λ i. little_bytes 8 (sym number i) ++ sym name i))
