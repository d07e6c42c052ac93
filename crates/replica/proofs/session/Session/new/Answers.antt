use Rattle.replica.proofs.Names.{ap, ◌∙◌, ReaderState}
use Rattle.replica.specs.Standing.{Stands}
use Rattle.replica.proofs.Positions.{begun}
use Rattle.replica.proofs.session.Session.new.Goals as goal

pub returns-clause-stands : goal.returns-clause-stands
unfolding Stands
returns-clause-stands c names broken content =
    begun c.args.config c.new.result c.new-2.result names broken content _ (ap (λ (a : ReaderState). a.held) c.new.ensures)
    (ap (λ (a : ReaderState). a.limit) c.new.ensures ∙ c.limit-limit.ensures.value) (ap (λ (a : ReaderState). a.due) c.new.ensures)
    (ap (λ (a : ReaderState). a.ended) c.new.ensures) c.new-2.ensures c.new-3.ensures.items
