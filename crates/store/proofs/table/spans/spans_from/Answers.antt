use Rattle.store.proofs.SpanRows.{lawful_spans, spans_judged}
use Rattle.store.proofs.table.spans.spans_from.Goals as goal

pub set_of-requires : goal.set_of-requires
set_of-requires c = let got = rw c.in-Some.is at c.in_ok-spans.ensures in lawful_spans c.args.rows.now _ got.0 got.1

pub returns : goal.returns
returns c =
    let got = rw c.in-Some.is at c.in_ok-spans.ensures in
    spans_judged c.args.rows.now _ c.set_of.result got.0 c.in_ok-check_rowids.ensures got.1 c.set_of.ensures.apart c.set_of.ensures.judged
