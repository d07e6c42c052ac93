use Rattle.std.specs.Prelude.{◌++◌, codes}
use Rattle.std.specs.List.{join_by}
use Rattle.std.specs.String.{string_bytes, string_len, string_capacity}
use Rattle.std.proofs.Common.{ap, ◌∙◌, arith}
use Rattle.std.proofs.lemmas.Result.{err_from_is_err_and}
use Rattle.gtid.specs.Text.{block_text}
use Rattle.gtid.specs.Blocks.{blocks}
use Rattle.gtid.proofs.GroupText.{appends_text, lacks_text}
use Rattle.gtid.proofs.set.GtidSet.print.Goals as goal

pub returns-in_err-reserve-clause-full : goal.returns-in_err-reserve-clause-full
returns-in_err-reserve-clause-full c =
    rw (err_from_is_err_and c.from_residual.result c.from_residual.ensures.1).1
    (lacks_text c.deref.result.now c.self.inside.groups.items c.args.self.now (string_len c.args.out.now) (string_capacity c.args.out.now)
    c.self.invariant c.deref.ensures.value c.self.view_is (omega (arith, c.in_err-reserve.ensures.full, c.text_length.ensures)))

pub returns-clause-ok : goal.returns-clause-ok
returns-clause-ok c =
    appends_text c.deref-2.result.now c.self.inside.groups.items c.args.self.now (string_bytes c.args.out.now) (string_bytes c.print_groups.new.out)
    c.self.invariant c.deref-2.ensures.value c.self.view_is
    (c.print_groups.ensures.text.items ∙ ap (λ bs. bs ++ join_by block_text (codes ",") (blocks c.deref-2.result.now)) c.in_ok-reserve.ensures.bytes) c.print_groups.ensures.sources
