use Rattle.greet.proofs.Names.{◌≡◌, get_or, sym, ap, ◌∙◌, subst, refl, arith, ne_eqb, OnOk, IfErr, IsOkPacket, IsBytes, IsBytes-rest, first_and_rest, begun_by}
use Rattle.greet.specs.Refusal.{ok_refusal}
use Rattle.greet.specs.View.{Refuses}
use Rattle.greet.proofs.Replies.{counted_ok, counted_fault, ok_nothing, ok_not_refused}
use Rattle.greet.proofs.Readers.{answered_alone}
use Rattle.greet.proofs.ErrBytes.{some_err}
use Rattle.greet.proofs.reply.read_ok.Goals as goal

pub returns-in-empty-clause-fault : goal.returns-in-empty-clause-fault
returns-in-empty-clause-fault c = ok_nothing c.args.payload.now c.in-empty.len_below

pub returns-in-255-clause-fault : goal.returns-in-255-clause-fault
unfolding ok_refusal
returns-in-255-clause-fault c =
    let first : get_or c.args.payload.now 0 0 ≡ 255 = omega arith in
    rw (begun_by 255 c.args.payload.now c.in-255.len_at_least first) c.server_error.ensures.fault

pub returns-in-0-clause-ok : goal.returns-in-0-clause-ok
returns-in-0-clause-ok c =
    let first : get_or c.args.payload.now 0 0 ≡ 0 = omega arith in
    let parts = begun_by 0 c.args.payload.now c.in-0.len_at_least first in
    subst (λ p. OnOk c.read_counters.result (IsOkPacket p)) (sym parts)
    (counted_ok _ c.read_counters.result (IsBytes-rest _ _ (subst IsBytes parts (λ i. omega (arith, c.type_inv.payload i)))) c.read_counters.ensures.ok)

pub returns-in-0-clause-fault : goal.returns-in-0-clause-fault
returns-in-0-clause-fault c =
    let first : get_or c.args.payload.now 0 0 ≡ 0 = omega arith in
    subst (λ p. IfErr c.read_counters.result (Refuses (ok_refusal p))) (sym (begun_by 0 c.args.payload.now c.in-0.len_at_least first))
    (counted_fault _ c.read_counters.result c.read_counters.ensures.err)

pub returns-in-0-clause-only : goal.returns-in-0-clause-only
returns-in-0-clause-only c is = answered_alone (ok_refusal c.args.payload.now) (ok_not_refused c.args.payload.now is) c.read_counters.result (returns-in-0-clause-fault c)

pub returns-in-len1-up-clause-fault : goal.returns-in-len1-up-clause-fault
unfolding ok_refusal
returns-in-len1-up-clause-fault c =
    let no_error : get_or c.args.payload.now 0 0 ≡ 255 → ⊥ = omega arith in
    let no_ok : get_or c.args.payload.now 0 0 ≡ 0 → ⊥ = omega arith in
    ap ok_refusal (first_and_rest c.args.payload.now c.in-len1-up.len_at_least) ∙ rw (ne_eqb _ _ no_error, ne_eqb _ _ no_ok) refl

pub returns-in-255-clause-memory : goal.returns-in-255-clause-memory
returns-in-255-clause-memory c is =
    let first : get_or c.args.payload.now 0 0 ≡ 255 = omega arith in
    some_err _ c.args.payload.now (begun_by 255 c.args.payload.now c.in-255.len_at_least first) (λ i. omega (arith, c.type_inv.payload i)) (c.server_error.ensures.memory (cc))
