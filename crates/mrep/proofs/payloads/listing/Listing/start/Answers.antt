use Rattle.std.proofs.Common.{◌≡◌, ◌++◌, [], take, ap, sym, subst, ◌∙◌, append-nil, Err, refl, arith, inr, slice_index_or}
use Rattle.std.proofs.lemmas.Grind.{common_steps}
use Rattle.std.proofs.lemmas.Result.{err_from_is_err_and}
use Rattle.std.proofs.lemmas.List.{take_all}
use Rattle.mrep.specs.Listing.{IsWrongPayload, held_bytes, first_id}
use Rattle.wire.specs.Packet.{largest_payload}
use Rattle.mrep.proofs.Entries.{wrong_from, by_payload, whole_from, unfinished_from}
use Rattle.mrep.proofs.payloads.listing.Listing.start.Goals as goal

pub returns-in_err-step-clause-refuses : goal.returns-in_err-step-clause-refuses
returns-in_err-step-clause-refuses c =
    let p = err_from_is_err_and c.from_residual.result c.from_residual.ensures.1 in
    let old = c.args.self.now in
    let bytes = c.args.bytes.now in
    let fault = c.in_err-step.field-0.0 in
    let reader = c.expect.new.self in
    let held : reader.held ≡ held_bytes old = ap (λ state. state.held) c.expect.ensures ∙ sym (append-nil old.assembler.held) ∙ ap (λ h. old.assembler.held ++ h) (sym c.requires.fresh) in
    let nil : reader.held ≡ [] = ap (λ state. state.held) c.expect.ensures ∙ c.requires.between.0 in
    let first : reader.due ≡ first_id (reader.held ++ bytes) = ap (λ state. state.due) c.expect.ensures ∙ ap (λ h. first_id (h ++ bytes)) (sym nil) in
    rw (p.1, p.2)
    (record {
      begin = refl;
      seen = refl;
      wrong = λ goes_on. subst (λ h. IsWrongPayload (h ++ bytes) fault) held
          (wrong_from (reader.held ++ bytes) fault first
          (ap (λ state. state.limit) c.expect.ensures ∙ old.limit goes_on)
          (λ e. let over = c.in_err-step.ensures.ended.0 (ap Err e) in let same = ap (λ state. state.ended) c.expect.ensures in cc)
          (λ want got e. c.in_err-step.ensures.sequence want got (ap Err e))
          (λ e. c.in_err-step.ensures.too_large (ap Err e)));
    })

pub returns-clause-takes : goal.returns-clause-takes
returns-clause-takes c =
    let old = c.args.self.now in
    let bytes = c.args.bytes.now in
    let reader = c.expect.new.self in
    let new = c.step.new.self in
    let step = c.in_ok-step.step in
    let nil : reader.held ≡ [] = ap (λ state. state.held) c.expect.ensures ∙ c.requires.between.0 in
    let held : reader.held ≡ held_bytes old = ap (λ state. state.held) c.expect.ensures ∙ sym (append-nil old.assembler.held) ∙ ap (λ h. old.assembler.held ++ h) (sym c.requires.fresh) in
    let limit : reader.limit ≡ largest_payload = ap (λ state. state.limit) c.expect.ensures ∙ old.limit c.requires.between.1 in
    let due : reader.due ≡ slice_index_or bytes 3 0 = ap (λ state. state.due) c.expect.ensures in
    let first : reader.due ≡ first_id (reader.held ++ bytes) = due ∙ ap (λ h. first_id (h ++ bytes)) (sym nil) in
    let now : new.held ++ old.header.items ≡ new.held = ap (λ h. new.held ++ h) c.requires.fresh ∙ append-nil new.held in
    record {
      in_range = c.in_ok-step.ensures.used;
      progress = grind (arith, common_steps, c.requires);
      begin = refl;
      seen = refl;
      goes_on = c.in_ok-step.ensures.ok;
      taken = by_payload step.payload c.in_ok-step.ensures.unfinished c.in_ok-step.ensures.payload c.in_ok-step.ensures.progress
          (λ none.
          let all : reader.held ++ bytes ≡ held_bytes old ++ take step.used bytes = (λ i. held i ++ sym (take_all step.used bytes (omega (arith, none.0))) i) in
          let same : new.held ++ old.header.items ≡ held_bytes old ++ take step.used bytes = now ∙ ap (λ state. state.held) none.2 ∙ all in
          (same, inr (unfinished_from none.1 (first ∙ ap first_id (all ∙ sym same)) limit (all ∙ sym same))))
          (λ payload whole some. (_, whole_from whole.0 due limit (ap (λ h. h ++ take step.used bytes) held), now ∙ ap (λ state. state.held) whole.1));
    }
