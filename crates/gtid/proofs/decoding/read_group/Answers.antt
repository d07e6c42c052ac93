use Rattle.gtid.proofs.Names.{inl, inr, err_from_is_err_and}
use Rattle.gtid.proofs.BytesSoFar.{lawful_block, faults_within}
use Rattle.gtid.proofs.decoding.read_group.Goals as goal

pub returns-in_err-heading-clause-err : goal.returns-in_err-heading-clause-err
returns-in_err-heading-clause-err c =
    let p = err_from_is_err_and c.from_residual.result c.from_residual.ensures.1 in
    rw (p.1, p.2) (inr (inl c.in_err-heading.ensures.err))

pub returns-in_err-intervals-clause-err : goal.returns-in_err-intervals-clause-err
returns-in_err-intervals-clause-err c =
    let p = err_from_is_err_and c.from_residual-in_err-intervals.result c.from_residual-in_err-intervals.ensures.1 in
    let h = c.in_ok-heading.heading in
    rw (p.1, p.2) (faults_within c.args.before h.source h.size h.rest.now c.args.bytes.now _ c.in_ok-heading.ensures.long c.in_ok-heading.ensures.above c.in_ok-heading.ensures.some.1 c.in_ok-heading.ensures.split c.in_err-intervals.ensures.err)

pub returns-clause-lawful : goal.returns-clause-lawful
returns-clause-lawful c =
    let h = c.in_ok-heading.heading in
    lawful_block c.args.before h.source c.in_ok-intervals.intervals.items h.size c.in_ok-heading.ensures.long c.in_ok-heading.ensures.above c.in_ok-heading.ensures.some.0 c.in_ok-heading.ensures.some.1 c.in_ok-intervals.ensures.count c.in_ok-intervals.ensures.least

pub returns-in_err-heading-clause-memory : goal.returns-in_err-heading-clause-memory
returns-in_err-heading-clause-memory c =
    let p = err_from_is_err_and c.from_residual.result c.from_residual.ensures.1 in
    rw (p.1, p.2) (λ memory. absurd (c.in_err-heading.ensures.no_memory memory))

pub returns-in_err-intervals-clause-memory : goal.returns-in_err-intervals-clause-memory
returns-in_err-intervals-clause-memory c =
    let p = err_from_is_err_and c.from_residual-in_err-intervals.result c.from_residual-in_err-intervals.ensures.1 in
    let h = c.in_ok-heading.heading in
    rw (p.1, p.2) (λ memory. record {
      source = h.source;
      size = h.size;
      rest = h.rest.now;
      long = c.in_ok-heading.ensures.long;
      some = c.in_ok-heading.ensures.some.0;
      bytes_are = c.in_ok-heading.ensures.split;
      first = c.in_err-intervals.ensures.memory memory;
    })
