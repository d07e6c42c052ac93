use Rattle.std.proofs.Common.{ap, ◌∙◌, ◌≡◌, true}
use Rattle.std.specs.Str.{is_utf8}
use Rattle.columns.proofs.MemberLists.{quoted_only, some_then}
use Rattle.columns.proofs.members.read_quoted.Goals as goal

pub returns-clause-only : goal.returns-clause-only
returns-clause-only c bytes rest small end e =
    let read = quoted_only c.args.text.now bytes rest c.in_ok-bytes.bytes.items c.in_ok-bytes.rest.now small end e c.in_ok-bytes.ensures.found c.in_ok-bytes.ensures.end in
    let text : is_utf8 c.in_ok-bytes.bytes.items ≡ true = ap is_utf8 read.0 ∙ read.2 in
    some_then _ _ c.end_member.result (c.end_member.ensures.only rest text read.1 end) (λ made both. (ap (λ v. v.items) both.0 ∙ read.0, both.1))
