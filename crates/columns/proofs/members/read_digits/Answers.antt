use Rattle.std.proofs.Common.{ap, sym, ◌∙◌, ◌≡◌, false}
use Rattle.std.specs.Str.{is_utf8}
use Rattle.columns.proofs.MemberLists.{digits_first, same_hex, no_digits, some_then, tail_of}
use Rattle.columns.proofs.members.read_digits.Goals as goal

pub returns-clause-only : goal.returns-clause-only
returns-clause-only c bytes rest small end e =
    let first = digits_first c.args.text.now bytes rest e in
    let read = same_hex c.in_ok-bytes.bytes.items bytes c.in_ok-bytes.rest.now _ c.in_ok-bytes.ensures.bytes small c.in_ok-bytes.ensures.end (no_digits rest)
    (sym c.in_ok-bytes.ensures.found ∙ tail_of c.args.text.now _ _ first.0) in
    let digits : is_utf8 c.in_ok-bytes.bytes.items ≡ false = ap is_utf8 read.0 ∙ first.1 in
    some_then _ _ c.end_member.result (c.end_member.ensures.only rest digits read.1 end) (λ made both. (ap (λ v. v.items) both.0 ∙ read.0, both.1))
