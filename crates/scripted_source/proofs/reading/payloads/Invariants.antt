use Rattle.std.proofs.Common.{◌≡◌, ◌+◌, ◌∷◌, false, drop, map, length}
use Rattle.wire.proofs.Reader.{GoesOn}
use Rattle.scripted_source.proofs.reading.payloads.Given as goal

abbrev pub invariant-loop-piece : goal.invariant-loop-piece
invariant-loop-piece l = record {
  goes_on : GoesOn l.limit (map (λ piece. piece.now) l.pieces) (map (λ payload. payload.items) l.payloads.items)
      l.assembler.due l.assembler.held (map (λ piece. piece.now) (drop l.piece-index l.pieces));
  limit : l.assembler.limit ≡ l.limit;
  goes : l.assembler.ended ≡ false;
}

abbrev pub invariant-loop-step : goal.invariant-loop-step
invariant-loop-step l = record {
  goes_on : GoesOn l.limit (map (λ piece. piece.now) l.pieces) (map (λ payload. payload.items) l.payloads.items)
      l.assembler.due l.assembler.held (l.rest ∷ map (λ piece. piece.now) (drop (l.piece-index + 1) l.pieces));
  limit : l.assembler.limit ≡ l.limit;
  goes : l.assembler.ended ≡ false;
}

abbrev pub decreases-loop-step : goal.decreases-loop-step
decreases-loop-step l = length l.rest
