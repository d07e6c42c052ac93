use Rattle.std.proofs.Common.{◌++◌, ◌∙◌, sym}
use Rattle.std.proofs.lemmas.List.{drop_all}
use Rattle.columns.specs.Lines.{field}
use Rattle.columns.proofs.table_front.after_name.Goals as goal

pub returns-clause-some : goal.returns-clause-some
returns-clause-some c =
    let none = drop_all c.loop-byte.byte-index c.args.name.now c.loop-byte-test.false in
    c.loop-byte.invariant.some c.in_ok-rest.rest.now (c.in_ok-rest.ensures.some ∙ (λ i. field (sym none i) 9 ++ c.in_ok-rest.rest.now))
