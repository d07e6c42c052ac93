use Rattle.columns.proofs.Names.{◌≡◌, sym, ap, ◌∙◌, Option, IsTrue, is_type, Sign, sign_text}
use Rattle.std.proofs.Common.{unwrap_or}
use Rattle.columns.proofs.Types.{small, no_opening, none_some, some_and}
use Rattle.columns.proofs.data_type.read_rest.Goals as goal

pub returns-in_err-sign-clause-only : goal.returns-in_err-sign-clause-only
returns-in_err-sign-clause-only c numbers sign lawful e =
    let read = c.in_ok-numbers.ensures.only numbers (sign_text sign) (small c.args.name numbers sign lawful) (no_opening sign) e in
    absurd (none_some sign (c.in_err-sign.ensures.only sign (sym read.1)))

pub returns-clause-only : goal.returns-clause-only
returns-clause-only c numbers sign lawful e =
    let read = c.in_ok-numbers.ensures.only numbers (sign_text sign) (small c.args.name numbers sign lawful) (no_opening sign) e in
    let same = c.in_ok-sign.ensures.only sign (sym read.1) in
    let sign_is : c.in_ok-sign.sign ≡ sign = ap (λ (o : Option Sign). unwrap_or o sign) same in
    let as_read : IsTrue (is_type c.args.name c.in_ok-numbers.numbers c.in_ok-sign.sign) = rw (read.0, sign_is) lawful in
    some_and _ _ c.new.result (c.new.ensures.lawful.1 as_read) c.new.ensures.parts (λ made parts. (parts.1 ∙ read.0, parts.2 ∙ sign_is))
