use Rattle.binlog.proofs.Names.{◌≡◌, ◌∙◌, ◌++◌, [], sym, ap, arith, drop_of_length-le, take_rest, append-nil, little_bytes, little_number}
use Rattle.std.proofs.Common.{drop}
use Rattle.binlog.proofs.Bodies.{long_number}
use Rattle.binlog.proofs.body.xid.read_xid.Goals as goal

pub returns-clause-found : goal.returns-clause-found
returns-clause-found c =
    let number : c.read_u64.result ≡ little_number 8 (drop 19 c.args.bytes.now) = c.read_u64.ensures ∙ ap (little_number 8) (take_rest c.args.bytes.now 19) in
    let none : drop 27 c.args.bytes.now ≡ [] = drop_of_length-le c.args.bytes.now c.if-bytes-gt27.false in
    (c.read_u64.type_inv, long_number c.args.bytes.now (λ i. omega (arith, c.type_inv.bytes i)) (omega arith) ∙ (λ i. little_bytes 8 (sym number i) ++ none i) ∙ append-nil (little_bytes 8 c.read_u64.result))
