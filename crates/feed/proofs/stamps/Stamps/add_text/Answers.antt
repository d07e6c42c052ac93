use Rattle.std.proofs.Common.{◌∙◌, Some, ap}
use Rattle.feed.proofs.stamps.Stamps.add_text.Goals as goal

pub returns-in_ok-add-clause-text : goal.returns-in_ok-add-clause-text
returns-in_ok-add-clause-text c text is = c.in_ok-add.ensures.there ∙ ap Some (c.in-Some.ensures.only text is)

pub returns-in_default-clause-text : goal.returns-in_default-clause-text
returns-in_default-clause-text c text is = absurd (c.in_default.ensures.only text is)
