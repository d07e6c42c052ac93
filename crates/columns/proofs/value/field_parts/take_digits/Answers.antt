use Rattle.std.proofs.Common.{sym, ◌∙◌, arith}
use Rattle.columns.proofs.DigitCuts.{number_small, digits_cut, cut_digits}
use Rattle.columns.proofs.value.field_parts.take_digits.Goals as goal

pub overflow_cast-result : goal.overflow_cast-result
overflow_cast-result c =
    let cut = c.in_ok-front.ensures.cases in
    let found = cut_digits c.args.count c.in-Ok.number c.args.text.now c.in_ok-front.front.now c.in_ok-front.rest.now c.requires.few cut.3 cut.1 cut.2 c.in-Ok.ensures.found in
    omega (arith, number_small c.args.count c.in-Ok.number c.requires.few found.0)

pub returns-in-Ok-clause-small : goal.returns-in-Ok-clause-small
returns-in-Ok-clause-small c =
    let cut = c.in_ok-front.ensures.cases in
    (cut_digits c.args.count c.in-Ok.number c.args.text.now c.in_ok-front.front.now c.in_ok-front.rest.now c.requires.few cut.3 cut.1 cut.2 c.in-Ok.ensures.found).0

pub returns-in-Ok-clause-found : goal.returns-in-Ok-clause-found
returns-in-Ok-clause-found c =
    let cut = c.in_ok-front.ensures.cases in
    (cut_digits c.args.count c.in-Ok.number c.args.text.now c.in_ok-front.front.now c.in_ok-front.rest.now c.requires.few cut.3 cut.1 cut.2 c.in-Ok.ensures.found).1

pub returns-in-Ok-clause-only : goal.returns-in-Ok-clause-only
returns-in-Ok-clause-only c n rest small e =
    let cut = c.in_ok-front.ensures.cases in
    let is = digits_cut c.args.count n rest c.args.text.now c.in_ok-front.front.now c.in_ok-front.rest.now c.requires.some c.requires.few small e cut.1 cut.2 in
    (sym c.in-Ok.ensures.found.1 ∙ is.0.1, is.1)

pub returns-in-Err-clause-only : goal.returns-in-Err-clause-only
returns-in-Err-clause-only c n rest small e =
    let cut = c.in_ok-front.ensures.cases in
    let is = digits_cut c.args.count n rest c.args.text.now c.in_ok-front.front.now c.in_ok-front.rest.now c.requires.some c.requires.few small e cut.1 cut.2 in
    let other = c.in-Err.ensures.only n (omega (arith, number_small c.args.count n c.requires.few small)) is.0 in
    absurd (grind (arith, other))
