use Rattle.std.proofs.Common.{sym, ◌∙◌}
use Rattle.gtid.proofs.ScanComplete.{passed_byte, passed_on}
use Rattle.gtid.proofs.Outside.{outside_here, outside_end, in_grammar_end}
use Rattle.gtid.proofs.grammar.scan.Goals as goal

pub loop-left-preserved : goal.loop-left-preserved
loop-left-preserved c = (
  passed_on (passed_byte c.loop-left.left.now 0 c.loop-left.invariant.0 c.in-len1-up.len_at_least (sym c.step.ensures.step ∙ c.in-Some.is)) c.pass-next.ensures.passed,
  c.pass-next.ensures.placed,
)

pub returns-in_default-step-clause-err : goal.returns-in_default-step-clause-err
returns-in_default-step-clause-err c =
    outside_here c.args.text.now c.loop-left.left.now 0 c.loop-left.state c.loop-left.invariant.0 c.loop-left.invariant.1 c.in-len1-up.len_at_least (sym c.step.ensures.step ∙ c.in_default-step.is)

pub returns-then-ends-clause-ok : goal.returns-then-ends-clause-ok
returns-then-ends-clause-ok c = in_grammar_end c.args.text.now c.loop-left.left.now c.loop-left.state c.loop-left.invariant.0 c.in_default.len_below (sym c.ends.ensures ∙ c.if-ends.true)

pub returns-else-ends-clause-err : goal.returns-else-ends-clause-err
returns-else-ends-clause-err c =
    outside_end c.args.text.now c.loop-left.left.now c.loop-left.state c.loop-left.invariant.0 c.loop-left.invariant.1 c.in_default.len_below (sym c.ends.ensures ∙ c.if-ends.false)
