use Rattle.std.proofs.Common.{Err, map, ap, ◌∙◌, arith}
use Rattle.std.proofs.lemmas.List.{take_rest, map_push, drop_all}
use Rattle.wire.proofs.Reader.{hands_out, holds_all, stops, breaks_sequence, breaks_limit}
use Rattle.scripted_source.proofs.reading.payloads.Goals as goal

pub loop-step-preserved : goal.loop-step-preserved
loop-step-preserved c =
    let old = c.loop-step in
    let whole = rw c.in-Some.is at c.in-Ok.ensures.payload in
    record {
      goes_on = hands_out old.assembler.limit c.in-Ok.step.used c.in-Some.payload.items c.step.new.self.due _ c.step.new.self.held _
          old.invariant.goes_on old.invariant.limit whole.0
          (ap (map (λ payload. payload.items)) c.in_ok-push.ensures.items ∙ map_push (λ payload. payload.items) old.payloads.items c.in-Some.payload)
          (ap (λ state. state.held) whole.1) (take_rest old.rest.now c.in-Ok.step.used);
      limit = ap (λ state. state.limit) whole.1 ∙ old.invariant.limit;
      goes = c.in-Ok.ensures.ok;
    }

pub loop-piece-preserved : goal.loop-piece-preserved
loop-piece-preserved c =
    let old = c.loop-step in
    let unfinished = rw c.in_default.is at c.in-Ok.ensures.unfinished in
    record {
      goes_on = holds_all old.assembler.limit c.step.new.self.due c.step.new.self.held old.invariant.goes_on old.invariant.limit unfinished.1
          (ap (λ state. state.due) unfinished.2) (ap (λ state. state.held) unfinished.2);
      limit = ap (λ state. state.limit) unfinished.2 ∙ old.invariant.limit;
      goes = c.in-Ok.ensures.ok;
    }

pub returns-clause-whole : goal.returns-clause-whole
returns-clause-whole c =
    let none_left = drop_all c.loop-piece.piece-index c.args.pieces.now (omega (arith, c.loop-piece-test.false)) in
    let invariant = c.loop-piece.invariant.goes_on in
    (c.loop-piece.assembler.due, c.loop-piece.assembler.held, stops (rw none_left at invariant))

pub returns-in-Err-Sequence-clause-sequence : goal.returns-in-Err-Sequence-clause-sequence
returns-in-Err-Sequence-clause-sequence c want got is =
    let old = c.loop-step in
    let fault = c.in-Err-Sequence.is in
    let which = c.in-Err-Sequence.field-0-is in
    breaks_sequence old.assembler.limit want got old.invariant.goes_on old.invariant.limit (c.step.ensures.sequence want got (cc))

pub returns-in-Err-TooLarge-clause-too_large : goal.returns-in-Err-TooLarge-clause-too_large
returns-in-Err-TooLarge-clause-too_large c is =
    let old = c.loop-step in
    breaks_limit old.assembler.limit old.invariant.goes_on old.invariant.limit (c.step.ensures.too_large (c.in-Err-TooLarge.is ∙ ap Err c.in-Err-TooLarge.field-0-is))
