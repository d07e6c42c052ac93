use Rattle.std.proofs.Common.{◌≡◌, ◌++◌, [], take, ap, sym, subst, ◌∙◌, Err, false, refl, arith, inr}
use Rattle.std.proofs.Math.ListN.{get_or-append}
use Rattle.std.proofs.lemmas.Bool.{false_from_ne_true}
use Rattle.std.proofs.lemmas.Grind.{common_steps}
use Rattle.std.proofs.lemmas.Result.{err_from_is_err_and}
use Rattle.std.proofs.lemmas.List.{append-nil, take_all}
use Rattle.mrep.specs.Listing.{IsWrongPayload, held_bytes, first_id}
use Rattle.wire.specs.Packet.{largest_payload}
use Rattle.mrep.proofs.Entries.{wrong_from, nil_from, by_payload, whole_from, unfinished_from}
use Rattle.mrep.proofs.payloads.listing.Listing.take.Goals as goal

pub returns-in_err-step-clause-refuses : goal.returns-in_err-step-clause-refuses
returns-in_err-step-clause-refuses c =
    let p = err_from_is_err_and c.from_residual.result c.from_residual.ensures.1 in
    let old = c.args.self.now in
    let fault = c.in_err-step.field-0.0 in
    let nothing : old.header.items ≡ [] = nil_from old.header.items (λ some. let t = c.between.ensures.1 (old.gathering some) in cc) in
    let held : held_bytes old ≡ old.assembler.held = ap (λ h. old.assembler.held ++ h) nothing ∙ append-nil old.assembler.held in
    rw (p.1, p.2)
    (record {
      begin = refl;
      seen = refl;
      wrong = λ goes_on.
          let first = old.first goes_on (λ e. let t = c.between.ensures.1 (e, goes_on) in cc) in
          subst (λ h. IsWrongPayload (h ++ c.args.bytes.now) fault) (sym held)
          (wrong_from (old.assembler.held ++ c.args.bytes.now) fault
          (first.0 ∙ sym first.2 ∙ sym (get_or-append old.assembler.held c.args.bytes.now 0 3 first.1))
          (old.limit goes_on)
          (λ e. let over = c.in_err-step.ensures.ended.0 (ap Err e) in cc)
          (λ want got e. c.in_err-step.ensures.sequence want got (ap Err e))
          (λ e. c.in_err-step.ensures.too_large (ap Err e)));
    })

pub returns-in_ok-step-clause-takes : goal.returns-in_ok-step-clause-takes
returns-in_ok-step-clause-takes c =
    let old = c.args.self.now in
    let bytes = c.args.bytes.now in
    let new = c.step.new.self in
    let step = c.in_ok-step.step in
    let nothing : old.header.items ≡ [] = nil_from old.header.items (λ some. let t = c.between.ensures.1 (old.gathering some) in cc) in
    let held : held_bytes old ≡ old.assembler.held = ap (λ h. old.assembler.held ++ h) nothing ∙ append-nil old.assembler.held in
    let goes_on : old.assembler.ended ≡ false = false_from_ne_true old.assembler.ended (λ over. let is = c.step.ensures.ended.1 over in let was = c.in_ok-step.was in cc) in
    let limit : old.assembler.limit ≡ largest_payload = old.limit goes_on in
    let first = old.first goes_on (λ e. let t = c.between.ensures.1 (e, goes_on) in cc) in
    let now : new.held ++ old.header.items ≡ new.held = ap (λ h. new.held ++ h) nothing ∙ append-nil new.held in
    record {
      in_range = c.in_ok-step.ensures.used;
      progress = grind (arith, common_steps, c.requires, nothing, first);
      begin = refl;
      seen = refl;
      goes_on = c.in_ok-step.ensures.ok;
      taken = by_payload step.payload c.in_ok-step.ensures.unfinished c.in_ok-step.ensures.payload c.in_ok-step.ensures.progress
          (λ none.
          let all : old.assembler.held ++ bytes ≡ held_bytes old ++ take step.used bytes = (λ i. sym held i ++ sym (take_all step.used bytes (omega (arith, none.0))) i) in
          let same : new.held ++ old.header.items ≡ held_bytes old ++ take step.used bytes = now ∙ ap (λ state. state.held) none.2 ∙ all in
          (same, inr (unfinished_from none.1 (first.0 ∙ sym first.2 ∙ sym (get_or-append old.assembler.held bytes 0 3 first.1) ∙ ap first_id (all ∙ sym same)) limit (all ∙ sym same))))
          (λ payload whole some. (_, whole_from whole.0 first.0 limit (ap (λ h. h ++ take step.used bytes) (sym held)), now ∙ ap (λ state. state.held) whole.1));
    }
