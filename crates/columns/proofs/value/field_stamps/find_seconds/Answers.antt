use Rattle.std.proofs.Common.{◌≡◌, ◌+◌, ◌*◌, ◌/◌, ◌%◌, sym, ◌∙◌, arith}
use Rattle.columns.proofs.Types.{never}
use Rattle.columns.proofs.StampTexts.{later_of, seconds_of}
use Rattle.columns.proofs.value.field_stamps.find_seconds.Goals as goal

pub returns-in_err-days-clause-only : goal.returns-in_err-days-clause-only
returns-in_err-days-clause-only c seconds small is =
    let parts = c.args.parts in
    let later = later_of seconds parts.date.year parts.date.month parts.date.day parts.hour parts.minute parts.second (λ none. never (sym c.if-is_none.false ∙ c.is_none.ensures.1 none)) is in
    absurd (c.in_err-days.ensures.only (seconds / 86400) later.day_is)

pub returns-in_err-clock-clause-only : goal.returns-in_err-clock-clause-only
returns-in_err-clock-clause-only c seconds small is =
    let parts = c.args.parts in
    let later = later_of seconds parts.date.year parts.date.month parts.date.day parts.hour parts.minute parts.second (λ none. never (sym c.if-is_none.false ∙ c.is_none.ensures.1 none)) is in
    absurd (c.in_err-clock.ensures.only (seconds % 86400) (omega arith) later.clock_is)

pub returns-then-seconds-eq0-clause-only : goal.returns-then-seconds-eq0-clause-only
returns-then-seconds-eq0-clause-only c seconds small is =
    let parts = c.args.parts in
    let later = later_of seconds parts.date.year parts.date.month parts.date.day parts.hour parts.minute parts.second (λ none. never (sym c.if-is_none.false ∙ c.is_none.ensures.1 none)) is in
    let days = c.in_ok-days.ensures.only (seconds / 86400) later.day_is in
    let clock = c.in_ok-clock.ensures.only (seconds % 86400) (omega arith) later.clock_is in
    omega (arith, days, clock, later.some, c.if-seconds-eq0.true, c.from.ensures, c.from-2.ensures)

pub returns-then-seconds-clause-only : goal.returns-then-seconds-clause-only
returns-then-seconds-clause-only c seconds small is =
    let parts = c.args.parts in
    let later = later_of seconds parts.date.year parts.date.month parts.date.day parts.hour parts.minute parts.second (λ none. never (sym c.if-is_none.false ∙ c.is_none.ensures.1 none)) is in
    let days = c.in_ok-days.ensures.only (seconds / 86400) later.day_is in
    let clock = c.in_ok-clock.ensures.only (seconds % 86400) (omega arith) later.clock_is in
    omega (arith, days, clock, small, c.if-seconds.true, c.from.ensures, c.from-2.ensures)

pub returns-clause-found : goal.returns-clause-found
returns-clause-found c =
    let parts = c.args.parts in
    let is : c.from.result * 86400 + c.from-2.result ≡ c.in_ok-days.days * 86400 + c.in_ok-clock.clock = omega (arith, c.from.ensures, c.from-2.ensures) in
    seconds_of c.in_ok-days.days c.in_ok-clock.clock (c.from.result * 86400 + c.from-2.result) parts.date.year parts.date.month parts.date.day parts.hour parts.minute parts.second is
    c.in_ok-clock.ensures.small (omega (arith, c.if-seconds-eq0.false)) c.in_ok-days.ensures.found c.in_ok-clock.ensures.found

pub returns-clause-only : goal.returns-clause-only
returns-clause-only c seconds small is =
    let parts = c.args.parts in
    let later = later_of seconds parts.date.year parts.date.month parts.date.day parts.hour parts.minute parts.second (λ none. never (sym c.if-is_none.false ∙ c.is_none.ensures.1 none)) is in
    let days = c.in_ok-days.ensures.only (seconds / 86400) later.day_is in
    let clock = c.in_ok-clock.ensures.only (seconds % 86400) (omega arith) later.clock_is in
    omega (arith, days, clock, c.from.ensures, c.from-2.ensures)
