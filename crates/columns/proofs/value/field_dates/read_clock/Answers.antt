use Rattle.std.proofs.Common.{◌∙◌}
use Rattle.columns.proofs.ClockTexts.{clock_split, after_minute}
use Rattle.columns.proofs.value.field_dates.read_clock.Goals as goal

pub returns-in_err-minute-clause-only : goal.returns-in_err-minute-clause-only
returns-in_err-minute-clause-only c hour minute second number early clocked lawful e =
    let time = c.in_ok-hour.ensures.only hour (after_minute minute second c.args.digits number) early (e ∙ clock_split hour minute second c.args.digits number) in
    absurd (c.in_err-minute.ensures.only minute second number clocked lawful time.1)

pub returns-clause-only : goal.returns-clause-only
returns-clause-only c hour minute second number early clocked lawful e =
    let time = c.in_ok-hour.ensures.only hour (after_minute minute second c.args.digits number) early (e ∙ clock_split hour minute second c.args.digits number) in
    let last = c.in_ok-minute.ensures.only minute second number clocked lawful time.1 in
    (time.0, last.0, last.1, last.2)
