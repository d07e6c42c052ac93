use Rattle.wire.proofs.Names.{◌≡◌, ◌<◌, ◌++◌, length, ap, sym, subst, ◌∙◌, arith, IsUnfinished, IsComplete}
use Rattle.std.proofs.lemmas.List.{take_all}
use Rattle.std.proofs.lemmas.Bool.{false≢true}
use Rattle.wire.specs.Held.{held_of}
use Rattle.wire.proofs.UnpackerState.{held_unfinished, short_held}
use Rattle.wire.proofs.OnePacking.{length_packing-held}
use Rattle.wire.proofs.assembler.Assembler.step.Goals as goal

pub returns-then-not-is_complete-clause-unfinished : goal.returns-then-not-is_complete-clause-unfinished
returns-then-not-is_complete-clause-unfinished c =
    let u = c.advance.new.self in
    let t = c.in_ok-used.ensures.ok in
    let view = c.self.view_is in
    let open_end : IsComplete u → ⊥ = λ k. false≢true (c.if-not-is_complete.ensures.1 k) in
    let no : c.in_ok-used.used < length c.args.bytes.now → ⊥ = λ h. open_end (c.in_ok-used.ensures.end h) in
    let all : c.in_ok-used.used ≡ length c.args.bytes.now = omega (arith, no, t.in_range) in
    let limit = t.limit ∙ ap (λ r. r.limit) view in
    let due = t.due ∙ ap (λ r. r.due) view in
    let held : held_of u ≡ c.args.self.now.held ++ c.args.bytes.now =
    t.held ∙ (λ i. (ap (λ r. r.held) view) i ++ take_all c.in_ok-used.used c.args.bytes.now (omega (arith, all)) i) in (
      all,
      subst (λ d. IsUnfinished d c.args.self.now.limit (c.args.self.now.held ++ c.args.bytes.now)) due
          (subst (λ l. IsUnfinished u.due l (c.args.self.now.held ++ c.args.bytes.now)) limit
          (subst (λ b. IsUnfinished u.due u.limit b) held (held_unfinished u t.stands open_end))),
      λ i. record { limit = limit i; due = due i; held = held i; ended = (sym c.if-self.false ∙ ap (λ r. r.ended) view) i },
    )

pub returns-then-not-is_complete-clause-held : goal.returns-then-not-is_complete-clause-held
returns-then-not-is_complete-clause-held c =
    let t = c.in_ok-used.ensures.ok in short_held c.advance.new.self t.stands (omega (arith, t.limit, c.self.invariant.0))

pub returns-clause-length : goal.returns-clause-length
returns-clause-length c =
    let t = c.in_ok-used.ensures.ok in
    let used = c.in_ok-used.used in
    let bytes = c.args.bytes.now in
    length_packing-held (held_of c.self.inside.unpacker) c.args.self.now.held (held_of c.advance.new.self) bytes used (ap (λ r. r.held) c.self.view_is) t.held t.in_range
    c.hand_out-payload.ensures.payload.packing
