use Rattle.greet.proofs.Names.{◌≡◌, ◌-◌, ◌∷◌, length, get_or, take, sym, ap, ◌∙◌, subst, refl, arith, IfOk, IfErr, ne_eqb, IsDump, IsBytes, IsBytes-rest, first_and_rest, begun_by}
use Rattle.std.proofs.Common.{drop}
use Rattle.greet.specs.Refusal.{dump_refusal}
use Rattle.greet.specs.View.{dump_value, Refuses}
use Rattle.greet.proofs.Dumps.{nothing, found, refused, answered}
use Rattle.greet.proofs.command.Dump.read.Goals as goal

pub returns-in-empty-clause-fault : goal.returns-in-empty-clause-fault
returns-in-empty-clause-fault c = nothing c.args.payload.now c.in-empty.len_below

pub returns-in-30-clause-found : goal.returns-in-30-clause-found
returns-in-30-clause-found c =
    let first : get_or c.args.payload.now 0 0 ≡ 30 = omega arith in
    let body = take (length c.args.payload.now - 1) (drop 1 c.args.payload.now) in
    let parts : c.args.payload.now ≡ 30 ∷ body = begun_by 30 c.args.payload.now c.in-30.len_at_least first in
    let r = c.read_fields.ensures in
    subst (λ p. IfOk c.read_fields.result (λ dump. IsDump (dump_value dump) p)) (sym parts)
    (found body c.read_fields.result (IsBytes-rest 30 body (subst IsBytes parts (λ i. omega (arith, c.type_inv.payload i)))) r.flags r.server_id r.set r.whole)

pub returns-in-30-clause-only : goal.returns-in-30-clause-only
returns-in-30-clause-only c =
    let first : get_or c.args.payload.now 0 0 ≡ 30 = omega arith in
    answered c.args.payload.now (take (length c.args.payload.now - 1) (drop 1 c.args.payload.now)) c.read_fields.result (begun_by 30 c.args.payload.now c.in-30.len_at_least first) (returns-in-30-clause-found c) c.read_fields.ensures.fault

pub returns-in-30-clause-fault : goal.returns-in-30-clause-fault
returns-in-30-clause-fault c =
    let first : get_or c.args.payload.now 0 0 ≡ 30 = omega arith in
    subst (λ p. IfErr c.read_fields.result (Refuses (dump_refusal p))) (sym (begun_by 30 c.args.payload.now c.in-30.len_at_least first))
    (refused (take (length c.args.payload.now - 1) (drop 1 c.args.payload.now)) c.read_fields.result c.read_fields.ensures.fault)

pub returns-in-len1-up-clause-fault : goal.returns-in-len1-up-clause-fault
unfolding dump_refusal
returns-in-len1-up-clause-fault c =
    let no_dump : get_or c.args.payload.now 0 0 ≡ 30 → ⊥ = omega arith in
    ap dump_refusal (first_and_rest c.args.payload.now c.in-len1-up.len_at_least) ∙ rw (ne_eqb _ _ no_dump) refl
