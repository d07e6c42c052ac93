use Rattle.std.proofs.Common.{subst}
use Rattle.store.specs.Listing.{IsListed}
use Rattle.rows.specs.TextLines.{WritesLine, AsksForRows}
use Rattle.rows.proofs.TextLines.{written}
use Rattle.rows.proofs.laws.written.Goals as goal

pub returns : goal.returns
returns g c names content it whole =
    written g.W.Write.contents _ names content c.args._before.now c.args._after.now
    (subst (λ l. IsListed AsksForRows (WritesLine g.W.Write.contents) names content c.args._before.now c.args._after.now l) whole it)
