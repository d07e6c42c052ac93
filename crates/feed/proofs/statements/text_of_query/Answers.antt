use Rattle.std.proofs.Common.{◌∙◌, List, ℕ, sym, subst, arith}
use Rattle.std.proofs.lemmas.List.{take_rest}
use Rattle.feed.specs.Statements.{IsStatementText}
use Rattle.feed.proofs.Threads.{is_text_of, text_is}
use Rattle.feed.proofs.statements.text_of_query.Goals as goal

pub returns-clause-found : goal.returns-clause-found
returns-clause-found c = subst (λ (t : List ℕ). IsStatementText t c.args.event.now) (sym (take_rest c.args.event.now 20)) (is_text_of c.args.event.now (omega arith) c.if-event-ne-ROWS_QUERY.false)

pub returns-clause-only : goal.returns-clause-only
returns-clause-only c text is = take_rest c.args.event.now 20 ∙ (text_is text c.args.event.now is).1
