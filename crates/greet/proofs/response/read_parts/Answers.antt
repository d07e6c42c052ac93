use Rattle.greet.proofs.Names.{◌≡◌, ◌<◌, ◌-◌, ◌++◌, ◌∷◌, [], length, get_or, take, sym, ap, subst, ◌∙◌, arith, nil_from_length, length-take, take-append-drop, err_from_is_err_and, IsText, plugin_name, IsBytes, IsBytes-drop, IsBytes-after, first_and_rest}
use Rattle.std.proofs.Common.{drop}
use Rattle.greet.specs.Refusal.{end_refusal}
use Rattle.greet.specs.View.{Refuses}
use Rattle.greet.proofs.Responses.{no_lead, no_user, no_size, short_answer, then_end, is_response}
use Rattle.greet.proofs.response.read_parts.Goals as goal

pub returns-then-payload-lt32-clause-fault : goal.returns-then-payload-lt32-clause-fault
returns-then-payload-lt32-clause-fault c = no_lead c.args.payload.now c.if-payload-lt32.true

pub returns-in_default-clause-fault : goal.returns-in_default-clause-fault
returns-in_default-clause-fault c = no_user c.args.payload.now (subst IsText c.split_at.ensures.back c.in_default.ensures.none)

pub returns-in_default-rest-clause-fault : goal.returns-in_default-rest-clause-fault
returns-in_default-rest-clause-fault c =
    let none : c.in-Some.rest.now ≡ [] = nil_from_length c.in-Some.rest.now (omega (arith, c.in_default-rest.len_below)) in
    no_size c.args.payload.now c.in-Some.user.now (sym c.split_at.ensures.back ∙ c.in-Some.ensures.bytes ∙ ap (λ rest. c.in-Some.user.now ++ 0 ∷ rest) none) c.in-Some.ensures.text

pub returns-then-rest-size-clause-fault : goal.returns-then-rest-size-clause-fault
returns-then-rest-size-clause-fault c =
    let rest = c.in-Some.rest.now in
    let size = get_or rest 0 0 in
    let after = take (length rest - 1) (drop 1 rest) in
    let parts : drop 32 c.args.payload.now ≡ c.in-Some.user.now ++ 0 ∷ (size ∷ after) =
    sym c.split_at.ensures.back ∙ c.in-Some.ensures.bytes ∙ ap (λ r. c.in-Some.user.now ++ 0 ∷ r) (first_and_rest rest c.in-len1-up.len_at_least) in
    short_answer c.args.payload.now c.in-Some.user.now size after parts c.in-Some.ensures.text (omega (arith, c.if-rest-size.true, c.from-size.ensures))

pub returns-in_err-read_end-clause-fault : goal.returns-in_err-read_end-clause-fault
returns-in_err-read_end-clause-fault c =
    let p = err_from_is_err_and c.from_residual.result c.from_residual.ensures.1 in
    let rest = c.in-Some.rest.now in
    let size = get_or rest 0 0 in
    let after = take (length rest - 1) (drop 1 rest) in
    let parts : drop 32 c.args.payload.now ≡ c.in-Some.user.now ++ 0 ∷ (size ∷ after) =
    sym c.split_at.ensures.back ∙ c.in-Some.ensures.bytes ∙ ap (λ r. c.in-Some.user.now ++ 0 ∷ r) (first_and_rest rest c.in-len1-up.len_at_least) in
    let ended = then_end c.args.payload.now c.in-Some.user.now size after parts c.in-Some.ensures.text (omega (arith, c.if-rest-size.false, c.from-size.ensures)) in
    let lead : c.split_at.result.0.now ≡ take 32 c.args.payload.now = c.split_at.ensures.front in
    let name : c.split_at-2.result.1.now ≡ drop size after = c.split_at-2.ensures.back ∙ ap (λ k. drop k after) c.from-size.ensures in
    rw (p.1, p.2) (subst (λ r. Refuses r c.in_err-read_end.field-0.0) ((λ i. end_refusal (lead i) (name i)) ∙ sym ended) c.in_err-read_end.ensures.fault)

pub returns-clause-found : goal.returns-clause-found
returns-clause-found c =
    let rest = c.in-Some.rest.now in
    let size = get_or rest 0 0 in
    let after = take (length rest - 1) (drop 1 rest) in
    let auth = c.split_at-2.result.0.now in
    let parts : drop 32 c.args.payload.now ≡ c.in-Some.user.now ++ 0 ∷ (size ∷ after) =
    sym c.split_at.ensures.back ∙ c.in-Some.ensures.bytes ∙ ap (λ r. c.in-Some.user.now ++ 0 ∷ r) (first_and_rest rest c.in-len1-up.len_at_least) in
    let front : auth ≡ take size after = c.split_at-2.ensures.front ∙ ap (λ k. take k after) c.from-size.ensures in
    let name : drop size after ≡ plugin_name ++ 0 ∷ [] = sym (c.split_at-2.ensures.back ∙ ap (λ k. drop k after) c.from-size.ensures) ∙ c.in_ok-read_end.ensures.rest in
    let long : size ≡ length auth = omega (arith, c.if-rest-size.false, c.from-size.ensures, ap length front, length-take size after) in
    let whole : after ≡ auth ++ (plugin_name ++ 0 ∷ []) = sym (take-append-drop size after) ∙ (λ i. sym front i ++ name i) in
    let fits : IsBytes (drop 32 c.args.payload.now) = IsBytes-drop 32 c.args.payload.now (λ i. omega (arith, c.type_inv.payload i)) in
    let small : size < 256 = IsBytes-after c.in-Some.user.now (0 ∷ (size ∷ after)) (subst IsBytes parts fits) 1 in
    is_response c.args.payload.now c.in-Some.user.now auth (sym c.split_at.ensures.front ∙ c.in_ok-read_end.ensures.lead)
    (parts ∙ (λ i. c.in-Some.user.now ++ 0 ∷ (long i ∷ whole i))) c.in-Some.ensures.text (omega (arith, small, long))
