use Rattle.greet.proofs.Names.{◌≡◌, [], ◌∙◌, arith, response_lead, first_difference}
use Rattle.std.proofs.Common.{drop}
use Rattle.std.proofs.Math.ListN.{drop_of_length-le}
use Rattle.greet.proofs.Responses.{differs, agrees, no_difference}
use Rattle.greet.proofs.response.difference.Goals as goal

pub returns-then-lead-at-clause-some : goal.returns-then-lead-at-clause-some
returns-then-lead-at-clause-some c = c.loop-at.invariant ∙ differs c.args.lead.now response_lead c.loop-at.at (omega (arith, c.requires, c.loop-at-test.true)) c.loop-at-test.true c.if-lead-at.true

pub loop-at-preserved : goal.loop-at-preserved
loop-at-preserved c = c.loop-at.invariant ∙ agrees c.args.lead.now response_lead c.loop-at.at (omega (arith, c.requires, c.loop-at-test.true)) c.loop-at-test.true c.if-lead-at.false

pub returns-clause-none : goal.returns-clause-none
returns-clause-none c =
    let lead : drop c.loop-at.at c.args.lead.now ≡ [] = drop_of_length-le c.args.lead.now (omega (arith, c.requires, c.loop-at-test.false)) in
    let layout : drop c.loop-at.at response_lead ≡ [] = drop_of_length-le response_lead c.loop-at-test.false in
    no_difference c.args.lead.now response_lead c.requires (c.loop-at.invariant ∙ (λ i. first_difference (lead i) (layout i)))
