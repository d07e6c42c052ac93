use Rattle.binlog.proofs.Names.{◌≡◌, ◌∙◌, ℕ, List, take, sym, ap, subst, arith, take_rest, little_number, IsGtidBody}
use Rattle.std.proofs.Common.{drop}
use Rattle.binlog.proofs.Bodies.{is_gtid, gtid_reported}
use Rattle.binlog.proofs.body.gtid_event.read_gtid.Goals as goal

pub returns-in-Some-clause-found : goal.returns-in-Some-clause-found
returns-in-Some-clause-found c =
    let g = c.in-Some.gtid in
    let source : take 16 (drop 20 c.args.bytes.now) ≡ g.source = sym (c.in-Some.ensures.parts.0 ∙ c.copy_from_slice.ensures.after) in
    let number : little_number 8 (drop 36 c.args.bytes.now) ≡ g.number = sym (c.in-Some.ensures.parts.1 ∙ c.read_u64-number.ensures ∙ ap (little_number 8) (take_rest c.args.bytes.now 36)) in
    subst (λ (q : List ℕ × ℕ). IsGtidBody q.0 q.1 (drop 19 c.args.bytes.now)) (λ i. (source i, number i))
    (is_gtid c.args.bytes.now (λ i. omega (arith, c.type_inv.bytes i)) (omega arith) (omega (arith, number, g.at_least_one)) (omega (arith, number, g.at_most)))

pub returns-in-Some-clause-only : goal.returns-in-Some-clause-only
returns-in-Some-clause-only c source number is =
    let t = gtid_reported source number c.args.bytes.now is in (
      c.in-Some.ensures.parts.0 ∙ c.copy_from_slice.ensures.after ∙ t.source_is,
      c.in-Some.ensures.parts.1 ∙ c.read_u64-number.ensures ∙ ap (little_number 8) (take_rest c.args.bytes.now 36) ∙ t.number_is,
    )
