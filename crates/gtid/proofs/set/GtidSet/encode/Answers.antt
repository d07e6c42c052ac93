use Rattle.std.specs.Prelude.{◌++◌, vec_len, vec_capacity}
use Rattle.std.proofs.Common.{ap, ◌∙◌, arith}
use Rattle.std.proofs.lemmas.Result.{err_from_is_err_and}
use Rattle.gtid.specs.Encoding.{blocks_bytes}
use Rattle.gtid.specs.Blocks.{blocks}
use Rattle.gtid.proofs.SpansBySource.{appends, lacks}
use Rattle.gtid.proofs.set.GtidSet.encode.Goals as goal

pub returns-in_err-reserve-clause-full : goal.returns-in_err-reserve-clause-full
returns-in_err-reserve-clause-full c =
    rw (err_from_is_err_and c.from_residual.result c.from_residual.ensures.1).1
    (lacks c.deref.result.now c.self.inside.groups.items c.args.self.now (vec_len c.args.out.now) (vec_capacity c.args.out.now)
    c.self.invariant (omega arith) c.deref.ensures.value c.self.view_is (omega (arith, c.in_err-reserve.ensures.full, c.encoded_length.ensures)))

pub returns-clause-ok : goal.returns-clause-ok
returns-clause-ok c =
    appends c.deref-2.result.now c.self.inside.groups.items c.args.self.now c.args.out.now.items c.write_groups.new.out.items
    c.self.invariant (omega arith) c.deref-2.ensures.value c.self.view_is (c.write_groups.ensures.items ∙ ap (λ bs. bs ++ blocks_bytes (blocks c.deref-2.result.now)) c.in_ok-reserve.ensures.items)
