use Rattle.columns.proofs.Names.{List, ℕ, Some, None, ap, ◌∙◌, codes, bytes_eq, set_text}
use Rattle.columns.proofs.Types.{never}
use Rattle.columns.proofs.FieldCuts.{name_of_set}
use Rattle.columns.proofs.fields.read_set.Goals as goal

pub returns-in-Err-clause-only : goal.returns-in-Err-clause-only
returns-in-Err-clause-only c set rest lawful e = c.in-Err.ensures.only (set_text set) rest (name_of_set set lawful) e

pub returns-else-eq-clause-only : goal.returns-else-eq-clause-only
returns-else-eq-clause-only c None rest lawful e =
    let read = c.in-Ok.ensures.only (codes "NULL") rest (name_of_set None tt) e in
    absurd (never (c.if-eq.ensures ∙ ap (λ (xs : List ℕ). bytes_eq xs (codes "NULL")) (c.as_bytes.ensures.value ∙ read.0)))
returns-else-eq-clause-only c (Some name) rest lawful e =
    let read = c.in-Ok.ensures.only name rest (name_of_set (Some name) lawful) e in
    (ap Some read.0, read.1)
