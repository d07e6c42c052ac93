use Rattle.store.proofs.SpanRows.{lawful_ids, ids_judged}
use Rattle.store.proofs.table.executed.executed_from.Goals as goal

pub union_of-requires : goal.union_of-requires
union_of-requires c = let got = rw c.in-Some.is at c.in_ok-spans.ensures in lawful_ids c.args.rows.now _ got.0 got.1

pub returns : goal.returns
returns c =
    let got = rw c.in-Some.is at c.in_ok-spans.ensures in
    ids_judged c.args.rows.now _ c.union_of.result got.0 got.1 c.union_of.ensures.ok c.union_of.ensures.err
