use Rattle.std.proofs.Common.{ap, sym, ◌∙◌, arith, inl}
use Rattle.wire.proofs.UnpackerState.{held_of-empty, nothing_held, in_header}
use Rattle.wire.proofs.assembler.Assembler.expect.Goals as goal

pub invariant_of-self : goal.invariant_of-self
invariant_of-self c = (
  c.self.invariant.0,
  λ e.
      let u = c.self.inside.unpacker in
      let stands = (c.self.invariant.1 e).0 in
      let none = nothing_held u stands (ap (λ r. r.held) c.self.view_is ∙ c.requires.0) in
      let h = in_header u stands (omega (arith, none.0)) in
      (inl (record { sized = h.sized; open_header = h.open_header; whole_chunks = h.whole_chunks; within = h.within }), λ k. omega (arith, k.0, none.0)),
)

pub returns : goal.returns
returns c =
    let u = c.self.inside.unpacker in
    let view = c.self.view_is in
    let ended = ap (λ r. r.ended) view in
    let stands = (c.self.invariant.1 (ended ∙ c.requires.1)).0 in
    let none = nothing_held u stands (ap (λ r. r.held) view ∙ c.requires.0) in
    let h = in_header u stands (omega (arith, none.0)) in
    let empty = held_of-empty (record u { due = c.args.sequence }) (inl (record { sized = h.sized; open_header = h.open_header; whole_chunks = h.whole_chunks; within = h.within })) none.0 none.1 in
    λ i. record { limit = ap (λ r. r.limit) view i; due = c.args.sequence; held = (empty ∙ sym c.requires.0) i; ended = ended i }
