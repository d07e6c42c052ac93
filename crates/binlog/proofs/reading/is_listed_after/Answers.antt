use Rattle.binlog.proofs.Names.{rules, ◌∙◌, ◌++◌, Name}
use Rattle.std.proofs.lemmas.Fn.{always_returns_same}
use Rattle.binlog.proofs.NamePlaces.{compares, searched}
use Rattle.binlog.proofs.reading.is_listed_after.Goals as goal

pub returns : goal.returns
returns c =
    let q : Name = (c.args.lead.now ++ c.args.schema.now, c.args.table.now) in
    c.is_ok.ensures.value
    ∙ searched q c.args.names.now c.binary_search_by.result c.requires c.binary_search_by.ensures.bound (c.binary_search_by.ensures.position (compares q) (always_returns_same _ _ _ (λ a r f k. search rules)))
