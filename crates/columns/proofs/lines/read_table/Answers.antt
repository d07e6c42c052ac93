use Rattle.columns.proofs.Names.{List, ℕ, ◌++◌, sym, subst, ◌∙◌, lines_text, BeginsNot}
use Rattle.columns.specs.Lines.{field}
use Rattle.columns.proofs.lines.read_table.Goals as goal

pub returns-in-Ok-clause-only : goal.returns-in-Ok-clause-only
returns-in-Ok-clause-only c table rest lawful schema name ends e =
    let front = c.requires.front ∙ (λ i. field (schema i) 9 ++ field (name i) 9) in
    let columns = c.in-Ok.ensures.only table.columns rest lawful.columns (subst (λ (f : List ℕ). BeginsNot f rest) (sym front) ends)
    (e ∙ (λ i. lines_text (sym front i) table.columns ++ rest)) in
    ((λ i. record { schema = schema i; name = name i; columns = columns.0 i }), columns.1)

pub returns-in-Err-clause-only : goal.returns-in-Err-clause-only
returns-in-Err-clause-only c table rest lawful schema name ends e =
    let front = c.requires.front ∙ (λ i. field (schema i) 9 ++ field (name i) 9) in
    c.in-Err.ensures.only table.columns rest lawful.columns (subst (λ (f : List ℕ). BeginsNot f rest) (sym front) ends)
    (e ∙ (λ i. lines_text (sym front i) table.columns ++ rest))
