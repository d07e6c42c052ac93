use Rattle.scripted_source.proofs.Names.{◌≡◌, ◌∙◌, length, ap, sym, subst, arith, IsEncoding}
use Rattle.std.proofs.Math.Seq.{take-length}
use Rattle.scripted_source.specs.Source.{set_fault}
use Rattle.scripted_source.proofs.answering.read_set.Goals as goal

pub returns-then-used-bytes-clause-only : goal.returns-then-used-bytes-clause-only
returns-then-used-bytes-clause-only c ids is =
    let bytes = c.args.bytes.now in
    let both = c.in-Ok.ensures.only ids (length bytes) (omega arith) (subst (IsEncoding ids) (sym (take-length bytes)) is) in
    let used : c.in-Ok.used ≡ length bytes = ap (λ p. p.1) both in
    absurd (omega (arith, used, c.if-used-bytes.true))

pub returns-else-used-bytes-clause-only : goal.returns-else-used-bytes-clause-only
returns-else-used-bytes-clause-only c ids is =
    let bytes = c.args.bytes.now in
    ap (λ p. p.0) (c.in-Ok.ensures.only ids (length bytes) (omega arith) (subst (IsEncoding ids) (sym (take-length bytes)) is))

pub returns-in-Err-clause-only : goal.returns-in-Err-clause-only
returns-in-Err-clause-only c ids is =
    let bytes = c.args.bytes.now in
    c.set_fault.ensures ∙ ap set_fault (c.in-Err.ensures.only ids (length bytes) (omega arith) (subst (IsEncoding ids) (sym (take-length bytes)) is))
