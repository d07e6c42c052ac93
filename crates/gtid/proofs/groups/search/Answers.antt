use Rattle.std.proofs.Common.{rules}
use Rattle.std.proofs.lemmas.Fn.{always_returns_same}
use Rattle.gtid.proofs.SourcePlace.{compares, found, missed}
use Rattle.gtid.proofs.groups.search.Goals as goal

pub returns-clause-found : goal.returns-clause-found
returns-clause-found c =
    let s = c.args.source.now in
    found s c.args.groups.now c.binary_search_by.result c.binary_search_by.ensures.bound (c.binary_search_by.ensures.position (compares s) (always_returns_same _ _ _ (λ a r f k. search rules)))

pub returns-clause-absent : goal.returns-clause-absent
returns-clause-absent c =
    let s = c.args.source.now in
    missed s c.args.groups.now c.binary_search_by.result c.requires c.binary_search_by.ensures.bound
    (c.binary_search_by.ensures.position (compares s) (always_returns_same _ _ _ (λ a r f k. search rules)))
