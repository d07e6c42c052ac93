use Rattle.byteorder.specs.Endian.{little_number}
use Rattle.std.proofs.Common.{◌≡◌, ◌∙◌, ℕ, Some, sym, ap, subst, arith}
use Rattle.std.proofs.lemmas.List.{take_rest}
use Rattle.std.proofs.Common.{drop}
use Rattle.feed.specs.Statements.{IsSentBy}
use Rattle.feed.proofs.Threads.{is_sent_by, sent_by}
use Rattle.feed.proofs.statements.thread_of.Goals as goal

pub returns : goal.returns
returns c =
    let bytes = c.args.event.now in
    let thread : little_number 4 (drop 19 bytes) ≡ c.read_u32.result = sym (c.read_u32.ensures ∙ ap (little_number 4) (take_rest bytes 19)) in
    record {
      found = subst (λ (t : ℕ). IsSentBy t bytes) thread (is_sent_by bytes (λ i. omega (arith, c.type_inv.event i)) (omega arith));
      only = λ other is. ap Some (sym thread ∙ (sent_by other bytes is).1);
    }
