use Rattle.std.proofs.lemmas.List.{take_rest}
use Rattle.std.proofs.Common.{◌∙◌, ap, drop, Err}
use Rattle.scripted_source.proofs.Front.{starts, one_taken, taken, not_unfinished, only_memory}
use Rattle.scripted_source.proofs.checking.take.Goals as goal

pub returns-in-Some-clause-only : goal.returns-in-Some-clause-only
returns-in-Some-clause-only c payload rest t =
    let s = starts c.new-assembler.result c.expect.new.self c.args.sequence c.new-assembler.ensures c.expect.ensures in
    let whole = rw c.in-Some.is at c.in-Ok.ensures.payload in
    rw take_rest (one_taken c.args.sequence c.args.bytes.now c.in-Some.payload.items (drop c.in-Ok.step.used c.args.bytes.now) payload rest
    (taken c.expect.new.self c.args.sequence c.args.bytes.now c.in-Some.payload.items c.in-Ok.step.used c.step.new.self.due s whole.0) t)

pub returns-in-Ok-clause-only : goal.returns-in-Ok-clause-only
returns-in-Ok-clause-only c payload rest t =
    let s = starts c.new-assembler.result c.expect.new.self c.args.sequence c.new-assembler.ensures c.expect.ensures in
    let u = rw c.in-None.is at c.in-Ok.ensures.unfinished in
    absurd (not_unfinished c.expect.new.self c.args.sequence c.args.bytes.now payload rest s u.1 t)

pub returns-clause-only : goal.returns-clause-only
returns-clause-only c payload rest t =
    let s = starts c.new-assembler.result c.expect.new.self c.args.sequence c.new-assembler.ensures c.expect.ensures in
    c.packets_fault.ensures ∙ only_memory c.expect.new.self c.args.sequence c.args.bytes.now payload rest c.in-Err.fault s (λ want got e. c.in-Err.ensures.sequence want got (ap Err e)) (λ e. c.in-Err.ensures.too_large (ap Err e)) (λ e. c.in-Err.ensures.ended.0 (ap Err e)) t
