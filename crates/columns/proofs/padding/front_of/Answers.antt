use Rattle.std.proofs.lemmas.Bool.Decides.{Decides-eqb}
use Rattle.std.proofs.lemmas.Slice.Eq.{strip_suffix_is}
use Rattle.columns.proofs.PaddedBytes.{padded_more}
use Rattle.columns.proofs.padding.front_of.Goals as goal

pub loop-front-preserved : goal.loop-front-preserved
loop-front-preserved c =
    let cut = rw c.in-Some.is at (strip_suffix_is Decides-eqb c.loop-front.left.now c.args.pad.now c.strip_suffix.result c.strip_suffix.ensures.cases) in
    padded_more c.args.pad.now c.args.bytes.now c.loop-front.left.now c.in-Some.front.now c.loop-front.invariant cut

pub returns-clause-sent : goal.returns-clause-sent
returns-clause-sent c = rw c.in_default.is at (strip_suffix_is Decides-eqb c.loop-front.left.now c.args.pad.now c.strip_suffix.result c.strip_suffix.ensures.cases)
