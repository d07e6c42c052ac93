use Rattle.binlog.proofs.Names.{◌≡◌, ◌∙◌, ℕ, sym, ap, subst, arith, take_rest, little_number}
use Rattle.std.proofs.Common.{drop}
use Rattle.binlog.specs.Origin.{IsWrittenAt}
use Rattle.binlog.proofs.Origins.{is_written_at}
use Rattle.binlog.proofs.origin.Origin.read.Goals as goal

pub returns-clause-found : goal.returns-clause-found
returns-clause-found c =
    let bytes = c.args.event.now in
    let seconds : little_number 4 bytes ≡ c.read_u32.result = sym c.read_u32.ensures in
    let server : little_number 4 (drop 5 bytes) ≡ c.read_u32-2.result = sym (c.read_u32-2.ensures ∙ ap (little_number 4) (take_rest bytes 5)) in
    subst (λ (q : ℕ × ℕ). IsWrittenAt q.0 q.1 bytes) (λ i. (seconds i, server i)) (is_written_at bytes (λ i. omega (arith, c.type_inv.event i)) (omega arith))
