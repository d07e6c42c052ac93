use Rattle.std.proofs.Common.{ap, sym, ◌∙◌}
use Rattle.std.specs.Prelude.{option_map}
use Rattle.feed.proofs.stamps.seconds_of.Goals as goal

pub returns-in-None : goal.returns-in-None
returns-in-None c = record {
  found = tt;
  only = λ seconds server at. ap (option_map (λ o. o.seconds)) (sym c.in-None.is ∙ c.read.ensures.only seconds server at);
}
