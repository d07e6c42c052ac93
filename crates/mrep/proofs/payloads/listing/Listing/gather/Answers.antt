use Rattle.std.proofs.Common.{◌≡◌, ◌++◌, [], take, drop, length, ◌≤◌, ◌<◌, ap, sym, subst, ◌∙◌, append_assoc, append-nil, Err, refl, arith, inr, slice_index_or}
use Rattle.std.proofs.lemmas.Grind.{common_steps}
use Rattle.std.proofs.lemmas.Result.{err_from_is_err_and}
use Rattle.std.proofs.lemmas.List.{take-append-drop, take_all}
use Rattle.mrep.specs.Listing.{IsWrongPayload, held_bytes, first_id}
use Rattle.wire.specs.Packet.{largest_payload}
use Rattle.mrep.proofs.Entries.{wrong_from, IsWrong-more, by_payload, whole_from, unfinished_from}
use Rattle.mrep.proofs.payloads.listing.Listing.gather.Goals as goal

pub returns-in_err-payload-clause-refuses : goal.returns-in_err-payload-clause-refuses
returns-in_err-payload-clause-refuses c =
    let p = err_from_is_err_and c.from_residual.result c.from_residual.ensures.1 in
    let old = c.args.self.now in
    let bytes = c.args.bytes.now in
    let used = c.min-used.result in
    let fault = c.in_err-payload.field-0.0 in
    let reader = c.expect.new.self in
    let header = c.as_slice-2.result.now in
    let gathered = rw c.unwrap.ensures at c.try_extend_from_slice.ensures.ok in
    let is : header ≡ old.header.items ++ take used bytes = c.as_slice-2.ensures.value ∙ gathered in
    let held : reader.held ≡ old.assembler.held = ap (λ state. state.held) c.expect.ensures in
    let nil : reader.held ≡ [] = held ∙ c.requires.between.0 in
    let long : 3 < length header = grind (arith, common_steps, c.requires) in
    let first : reader.due ≡ first_id (reader.held ++ header) =
    ap (λ state. state.due) c.expect.ensures ∙ ap (λ items. slice_index_or items 3 0) (c.as_slice.ensures.value ∙ sym c.as_slice-2.ensures.value) ∙ ap (λ h. first_id (h ++ header)) (sym nil) in
    let all : reader.held ++ header ++ drop used bytes ≡ held_bytes old ++ bytes =
    (λ i. held i ++ is i ++ drop used bytes)
    ∙ ap (λ front. front ++ drop used bytes) (sym (append_assoc old.assembler.held old.header.items (take used bytes)))
    ∙ append_assoc (held_bytes old) (take used bytes) (drop used bytes)
    ∙ ap (λ more. held_bytes old ++ more) (take-append-drop used bytes) in
    rw (p.1, p.2)
    (record {
      begin = refl;
      seen = refl;
      wrong = λ goes_on. subst (λ b. IsWrongPayload b fault) all
          (IsWrong-more (reader.held ++ header) (drop used bytes) fault (subst (λ h. 3 < length (h ++ header)) (sym nil) long)
          (wrong_from (reader.held ++ header) fault first
          (ap (λ state. state.limit) c.expect.ensures ∙ old.limit goes_on)
          (λ e. let over = c.in_err-payload.ensures.ended.0 (ap Err e) in let same = ap (λ state. state.ended) c.expect.ensures in cc)
          (λ want got e. c.in_err-payload.ensures.sequence want got (ap Err e))
          (λ e. c.in_err-payload.ensures.too_large (ap Err e))));
    })

pub returns-clause-takes : goal.returns-clause-takes
returns-clause-takes c =
    let old = c.args.self.now in
    let bytes = c.args.bytes.now in
    let used = c.min-used.result in
    let reader = c.expect.new.self in
    let new = c.step-step.new.self in
    let header = c.as_slice-2.result.now in
    let step = c.in_ok-payload.field-0 in
    let gathered = rw c.unwrap.ensures at c.try_extend_from_slice.ensures.ok in
    let is : header ≡ old.header.items ++ take used bytes = c.as_slice-2.ensures.value ∙ gathered in
    let held : reader.held ≡ old.assembler.held = ap (λ state. state.held) c.expect.ensures in
    let nil : reader.held ≡ [] = held ∙ c.requires.between.0 in
    let first : reader.due ≡ first_id (reader.held ++ header) =
    ap (λ state. state.due) c.expect.ensures ∙ ap (λ items. slice_index_or items 3 0) (c.as_slice.ensures.value ∙ sym c.as_slice-2.ensures.value) ∙ ap (λ h. first_id (h ++ header)) (sym nil) in
    let all : reader.held ++ header ≡ held_bytes old ++ take used bytes =
    (λ i. held i ++ is i) ∙ sym (append_assoc old.assembler.held old.header.items (take used bytes)) in
    let limit : reader.limit ≡ largest_payload = ap (λ state. state.limit) c.expect.ensures ∙ old.limit c.requires.between.1 in
    let due : reader.due ≡ slice_index_or c.as_slice.result.now 3 0 = ap (λ state. state.due) c.expect.ensures in
    let cleared : new.held ++ c.clear.new.self.items ≡ new.held = ap (λ h. new.held ++ h) c.clear.ensures ∙ append-nil new.held in
    record {
      in_range = grind (arith, common_steps, old.open_header, c.requires.some);
      progress = grind (arith, common_steps, old.open_header, c.requires.some);
      begin = refl;
      seen = refl;
      goes_on = c.in_ok-payload.ensures.ok;
      taken = by_payload step.payload c.in_ok-payload.ensures.unfinished c.in_ok-payload.ensures.payload c.in_ok-payload.ensures.length
          (λ none. let now : new.held ++ c.clear.new.self.items ≡ held_bytes old ++ take used bytes = cleared ∙ ap (λ state. state.held) none.2 ∙ all in
          (now, inr (unfinished_from none.1 (first ∙ ap first_id (all ∙ sym now)) limit (all ∙ sym now))))
          (λ payload whole long.
          let all_used : length header ≤ step.used = grind (arith, common_steps, whole, long, held, c.requires.between.0) in
          (_, whole_from whole.0 due limit (ap (λ h. reader.held ++ h) (take_all step.used header all_used) ∙ all), cleared ∙ ap (λ state. state.held) whole.1));
    }
