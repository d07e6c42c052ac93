use Rattle.std.proofs.Common.{arith, refl}
use Rattle.std.proofs.lemmas.Grind.{common_steps}
use Rattle.std.proofs.lemmas.List.{take_rest}
use Rattle.std.proofs.lemmas.Result.{err_from_is_err_and}
use Rattle.mrep.specs.declared.payloads.listing.PayloadEntry.{PayloadEntry}
use Rattle.mrep.proofs.Entries.{listed_held, listed_payload, listed_used, listed_fault}
use Rattle.mrep.proofs.payloads.listing.Listing.feed.Goals as goal

pub loop-rest-preserved : goal.loop-rest-preserved
loop-rest-preserved c =
    let t = c.in_ok-used.ensures.takes in
    let held = rw c.in_default.is at t.taken in
    rw take_rest
    (listed_held _ c.in_ok-used.field-0.used c.loop-rest.invariant t.in_range held.0 held.1 t.goes_on t.begin (λ h. omega (arith, c.saturating_add-self.ensures, t.seen, h)))

pub returns-in_err-used-clause-stands : goal.returns-in_err-used-clause-stands
returns-in_err-used-clause-stands c stream entries short at =
    let p = err_from_is_err_and c.from_residual.result c.from_residual.ensures.1 in
    let r = c.in_err-used.ensures.refuses in
    rw (p.1, p.2) (listed_fault c.take.new.self c.in_err-used.field-0.0 c.loop-rest.invariant r.begin r.wrong stream entries short at)

pub returns-in-Some-clause-stands : goal.returns-in-Some-clause-stands
returns-in-Some-clause-stands c =
    let t = c.in_ok-used.ensures.takes in
    let whole = rw c.in-Some.is at t.taken in
    let entry : PayloadEntry = record { offset = c.take.new.self.begin; sequence = c.take.new.self.sequence; payload = c.in-Some.payload } in
    let listed = listed_payload _ c.in_ok-used.field-0.used entry c.in-Some.payload.items whole.0 c.loop-rest.invariant t.in_range whole.1 whole.2
    t.begin refl (λ h. omega (arith, c.saturating_add-self.ensures, t.seen, h)) refl t.goes_on in
    listed_used _ listed (grind (arith, common_steps, c.loop-rest.invariant.cut))

pub returns-clause-stands : goal.returns-clause-stands
returns-clause-stands c = listed_used _ c.loop-rest.invariant (grind (arith, common_steps))
