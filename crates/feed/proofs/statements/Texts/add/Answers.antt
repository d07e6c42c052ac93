use Rattle.std.proofs.Common.{◌∙◌, [], ◌∷◌, None, Some, ap}
use Rattle.std.specs.Prelude.{map}
use Rattle.std.proofs.lemmas.List.{map-append}
use Rattle.feed.specs.Statements.{text_at}
use Rattle.feed.proofs.Threads.{last_there, last_elsewhere}
use Rattle.feed.proofs.statements.Texts.add.Goals as goal

pub returns-clause-there : goal.returns-clause-there
returns-clause-there c =
    ap (λ xs. text_at (map (λ x. (x.0, x.1.items)) xs) c.args.place) c.in_ok-push.ensures.items
    ∙ ap (λ xs. text_at xs c.args.place) (map-append (λ x. (x.0, x.1.items)) c.self.inside.texts.items ((c.args.place, c.in_ok-text.text) ∷ []))
    ∙ last_there None (map (λ x. (x.0, x.1.items)) c.self.inside.texts.items) c.args.place c.in_ok-text.text.items
    ∙ ap Some c.in_ok-text.ensures.items

pub returns-clause-others : goal.returns-clause-others
returns-clause-others c n other =
    ap (λ xs. text_at (map (λ x. (x.0, x.1.items)) xs) n) c.in_ok-push.ensures.items
    ∙ ap (λ xs. text_at xs n) (map-append (λ x. (x.0, x.1.items)) c.self.inside.texts.items ((c.args.place, c.in_ok-text.text) ∷ []))
    ∙ last_elsewhere None (map (λ x. (x.0, x.1.items)) c.self.inside.texts.items) c.args.place n c.in_ok-text.text.items other
    ∙ ap (λ xs. text_at xs n) c.self.view_is
