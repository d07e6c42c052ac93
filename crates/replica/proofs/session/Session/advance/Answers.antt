use Rattle.replica.proofs.Names.{◌≡◌, ◌+◌, ◌++◌, ℕ, [], take, length, sym, ap, ◌∙◌, Some, Err, refl, Vec, Global, ◌<◌, ◌^◌, arith, length-append, ReaderState, IsWholePayload, Reason, Session}
use Rattle.replica.proofs.Advance.{over-append, over-fault, over-unfinished, over-payload, none_after, at_some, at_none}
use Rattle.replica.specs.Standing.{reads_on}
use Rattle.replica.proofs.Keeps.{keeps_same}
use Rattle.replica.proofs.session.Session.advance.Goals as goal

pub returns-then-is_some-clause-stands : goal.returns-then-is_some-clause-stands
returns-then-is_some-clause-stands g c clean schema pos s =
    over-append g.S.Store c.args.store.now schema pos c.args.self.now c.args.bytes.now (sym c.is_some.ensures ∙ c.if-is_some.true) s

pub returns-in-Err-clause-stands : goal.returns-in-Err-clause-stands
returns-in-Err-clause-stands g c clean schema pos s =
    let self = c.args.self.now in
    over-fault g.S.Store c.args.store.now schema pos self c.end.new.self c.args.bytes.now c.in-Err.fault (none_after self.ended (sym c.is_some.ensures ∙ c.if-is_some.false))
    (ap (λ (s : Session). s.config) c.end.ensures) (ap (λ (s : Session). s.out) c.end.ensures)
    (ap (λ (s : Session). s.ended) c.end.ensures ∙ ap (λ (r : Reason). Some (record { reason = r; at = self.at; applied = self.applied })) c.reason_for.ensures)
    (λ want got e. c.in-Err.ensures.sequence want got (ap Err e)) (λ e. c.in-Err.ensures.too_large (ap Err e)) (λ e. c.in-Err.ensures.ended.0 (ap Err e)) s

pub returns-in_err-payload-clause-stands : goal.returns-in_err-payload-clause-stands
returns-in_err-payload-clause-stands g c clean schema pos s =
    let self = c.args.self.now in
    let u = at_none _ c.in-Ok.step.payload c.in_err-payload.was c.in-Ok.ensures.unfinished in
    rw c.from_residual.ensures
    (over-unfinished g.S.Store c.args.store.now schema pos self _ c.args.bytes.now (none_after self.ended (sym c.is_some.ensures ∙ c.if-is_some.false)) (none_after self.ended (sym c.is_some.ensures ∙ c.if-is_some.false))
    refl u.2 refl refl refl refl refl u.1 s)

pub returns-in_err-payload-clause-room : goal.returns-in_err-payload-clause-room
returns-in_err-payload-clause-room g c still =
    let u = at_none _ c.in-Ok.step.payload c.in_err-payload.was c.in-Ok.ensures.unfinished in
    let short : length c.step.new.self.held < 2 ^ 31 = c.in-Ok.ensures.held in
    let held : length c.step.new.self.held ≡ length c.args.self.now.assembler.held + length c.args.bytes.now =
    ap (λ (a : ReaderState). length a.held) u.2 ∙ length-append c.args.self.now.assembler.held c.args.bytes.now in
    (still, rw c.from_residual.ensures (omega (arith, short, held)))

pub returns-clause-stands : goal.returns-clause-stands
returns-clause-stands g c clean schema pos s =
    let self = c.args.self.now in
    let used = c.in-Ok.step.used in
    let w = at_some (λ (v : Vec ℕ Global). IsWholePayload self.assembler.due self.assembler.limit (self.assembler.held ++ take used c.args.bytes.now) v.items c.step.new.self.due × (c.step.new.self ≡ record self.assembler { due = c.step.new.self.due; held = [] })) c.in-Ok.step.payload c.in_ok-payload.payload c.in_ok-payload.was c.in-Ok.ensures.payload in
    c.take.ensures.takes clean schema (reads_on pos (take used c.args.bytes.now))
    (rw c.deref.ensures.value
    (over-payload g.S.Store c.args.store.now schema pos self _ (take used c.args.bytes.now) c.in_ok-payload.payload.items c.step.new.self.due (none_after self.ended (sym c.is_some.ensures ∙ c.if-is_some.false))
    refl w.1 refl refl refl refl refl w.0 s))

pub returns-then-is_some-clause-keeps : goal.returns-then-is_some-clause-keeps
returns-then-is_some-clause-keeps g c = keeps_same g.S.Store

pub returns-in-Err-clause-keeps : goal.returns-in-Err-clause-keeps
returns-in-Err-clause-keeps g c = keeps_same g.S.Store

pub returns-in_err-payload-clause-keeps : goal.returns-in_err-payload-clause-keeps
returns-in_err-payload-clause-keeps g c = keeps_same g.S.Store
