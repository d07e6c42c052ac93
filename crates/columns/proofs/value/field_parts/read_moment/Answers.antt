use Rattle.columns.proofs.Names.{ℕ, List, ◌∷◌, ◌++◌, ap, ◌∙◌, clock_text, fraction_text}
use Rattle.columns.specs.FieldForms.{clock_front}
use Rattle.columns.proofs.ClockTexts.{clock_split}
use Rattle.columns.proofs.value.field_parts.read_moment.Goals as goal

pub returns-in_err-minute-clause-only : goal.returns-in_err-minute-clause-only
returns-in_err-minute-clause-only c year month day hour minute second number dated early clocked lawful e =
    let date = c.in_ok-date.ensures.only year month day (32 ∷ clock_text hour minute second c.args.digits number) dated e in
    let time = c.in_ok-hour.ensures.only hour (clock_front minute second ++ fraction_text c.args.digits number) early (date.3 ∙ ap (λ (xs : List ℕ). 32 ∷ xs) (clock_split hour minute second c.args.digits number)) in
    absurd (c.in_err-minute.ensures.only minute second number clocked lawful time.1)

pub returns-clause-only : goal.returns-clause-only
returns-clause-only c year month day hour minute second number dated early clocked lawful e =
    let date = c.in_ok-date.ensures.only year month day (32 ∷ clock_text hour minute second c.args.digits number) dated e in
    let time = c.in_ok-hour.ensures.only hour (clock_front minute second ++ fraction_text c.args.digits number) early (date.3 ∙ ap (λ (xs : List ℕ). 32 ∷ xs) (clock_split hour minute second c.args.digits number)) in
    let last = c.in_ok-minute.ensures.only minute second number clocked lawful time.1 in
    (date.0, date.1, date.2, time.0, last.0, last.1, last.2)
