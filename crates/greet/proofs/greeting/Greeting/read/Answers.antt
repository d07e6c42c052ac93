use Rattle.greet.proofs.Names.{◌≡◌, get_or, sym, ap, ◌∙◌, subst, refl, arith, inl, inr, ne_eqb, IfOk, IfErr, IsGreeting, HasGreeting, first_and_rest, begun_by}
use Rattle.greet.specs.Refusal.{greeting_refusal}
use Rattle.greet.specs.View.{greeting_value, Refuses}
use Rattle.greet.proofs.Greetings.{nothing, not_refused, one_value}
use Rattle.greet.proofs.Readers.{answered}
use Rattle.greet.proofs.ErrBytes.{some_err}
use Rattle.greet.proofs.greeting.Greeting.read.Goals as goal

pub returns-in-empty-clause-fault : goal.returns-in-empty-clause-fault
returns-in-empty-clause-fault c = nothing c.args.payload.now c.in-empty.len_below

pub returns-in-255-clause-fault : goal.returns-in-255-clause-fault
unfolding greeting_refusal
returns-in-255-clause-fault c =
    let first : get_or c.args.payload.now 0 0 ≡ 255 = omega arith in
    rw (begun_by 255 c.args.payload.now c.in-255.len_at_least first) c.server_error.ensures.fault

pub returns-in-10-clause-fault : goal.returns-in-10-clause-fault
unfolding greeting_refusal
returns-in-10-clause-fault c =
    let first : get_or c.args.payload.now 0 0 ≡ 10 = omega arith in
    subst (λ p. IfErr c.read_body.result (Refuses (greeting_refusal p))) (sym (begun_by 10 c.args.payload.now c.in-10.len_at_least first)) c.read_body.ensures.fault

pub returns-in-10-clause-only : goal.returns-in-10-clause-only
returns-in-10-clause-only c =
    let first : get_or c.args.payload.now 0 0 ≡ 10 = omega arith in
    let found = subst (λ p. IfOk c.read_body.result (λ greeting. IsGreeting (greeting_value greeting) p)) (sym (begun_by 10 c.args.payload.now c.in-10.len_at_least first)) c.read_body.ensures.found in
    answered IsGreeting greeting_value greeting_refusal c.args.payload.now (λ g is. not_refused g c.args.payload.now is) (λ a b is_a is_b. one_value a b c.args.payload.now is_a is_b) c.read_body.result found (returns-in-10-clause-fault c)

pub returns-in-len1-up-clause-fault : goal.returns-in-len1-up-clause-fault
unfolding greeting_refusal
returns-in-len1-up-clause-fault c =
    let no_error : get_or c.args.payload.now 0 0 ≡ 255 → ⊥ = omega arith in
    let no_greeting : get_or c.args.payload.now 0 0 ≡ 10 → ⊥ = omega arith in
    ap greeting_refusal (first_and_rest c.args.payload.now c.in-len1-up.len_at_least) ∙ rw (ne_eqb _ _ no_error, ne_eqb _ _ no_greeting) refl

pub returns-in-255-clause-memory : goal.returns-in-255-clause-memory
returns-in-255-clause-memory c is =
    let first : get_or c.args.payload.now 0 0 ≡ 255 = omega arith in
    inl (some_err _ c.args.payload.now (begun_by 255 c.args.payload.now c.in-255.len_at_least first) (λ i. omega (arith, c.type_inv.payload i)) (c.server_error.ensures.memory (cc)))

pub returns-in-10-clause-memory : goal.returns-in-10-clause-memory
returns-in-10-clause-memory c is =
    let first : get_or c.args.payload.now 0 0 ≡ 10 = omega arith in
    inr (subst HasGreeting (sym (begun_by 10 c.args.payload.now c.in-10.len_at_least first)) (c.read_body.ensures.memory is))
