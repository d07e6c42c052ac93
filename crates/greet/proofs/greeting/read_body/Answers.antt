use Rattle.greet.proofs.Names.{◌≡◌, ◌++◌, ◌∷◌, ◌-◌, max, ℕ, List, length, get_or, take, bit_and, sym, ap, subst, ◌∙◌, arith, take_rest, length-drop, err_from_is_err_and, GreetingValue, IsGreeting, needed, after_zero, IsBytes, IsBytes-rest, IsBytes-after, HasGreeting}
use Rattle.std.proofs.Common.{drop}
use Rattle.greet.specs.Refusal.{fields_refusal}
use Rattle.greet.specs.View.{Refuses}
use Rattle.greet.proofs.Cuts.{after_zero-text}
use Rattle.greet.proofs.Greetings.{no_fields, short_second, is_greeting}
use Rattle.greet.proofs.greeting.read_body.Goals as goal

pub returns-in_default-clause-fault : goal.returns-in_default-clause-fault
returns-in_default-clause-fault c = no_fields c.args.body.now c.in_default.ensures.none

pub returns-in_err-fixed-clause-fault : goal.returns-in_err-fixed-clause-fault
returns-in_err-fixed-clause-fault c =
    let p = err_from_is_err_and c.from_residual.result c.from_residual.ensures.1 in
    let fields = c.in-Some.fields.now in
    let after : fields ≡ after_zero c.args.body.now = sym (ap after_zero c.in-Some.ensures.bytes ∙ after_zero-text c.in-Some.version.now fields c.in-Some.ensures.text) in
    rw (p.1, p.2) (subst (λ f. Refuses (fields_refusal f) c.in_err-fixed.field-0.0) after c.in_err-fixed.ensures.fault)

pub returns-then-second-max-clause-fault : goal.returns-then-second-max-clause-fault
returns-then-second-max-clause-fault c =
    let fields = c.in-Some.fields.now in
    let after : after_zero c.args.body.now ≡ fields = ap after_zero c.in-Some.ensures.bytes ∙ after_zero-text c.in-Some.version.now fields c.in-Some.ensures.text in
    let rest : length (take (length fields - 31) (drop 31 fields)) ≡ length fields - 31 = ap length (take_rest fields 31) ∙ length-drop 31 fields in
    let size : c.max.result ≡ max 13 (get_or fields 20 0 - 8) = c.max.ensures ∙ ap (max 13) (c.saturating_sub.ensures ∙ ap (λ n. n - 8) (c.from.ensures ∙ c.in_ok-fixed.ensures.size)) in
    ap fields_refusal after
    ∙ short_second fields c.in_ok-fixed.ensures.long (sym (ap (λ n. bit_and n needed) c.in_ok-fixed.ensures.capabilities) ∙ c.in_ok-fixed.ensures.has_needed) (omega (arith, c.if-second-max.true, rest, size, c.in_ok-fixed.ensures.long))

pub returns-clause-found : goal.returns-clause-found
returns-clause-found c =
    let version = c.in-Some.version.now in
    let fields = c.in-Some.fields.now in
    let body : version ++ 0 ∷ fields ≡ c.args.body.now = sym c.in-Some.ensures.bytes in
    let fits : IsBytes fields = IsBytes-rest 0 fields (IsBytes-after version (0 ∷ fields) (subst IsBytes c.in-Some.ensures.bytes (λ i. omega (arith, c.type_inv.body i)))) in
    let rest : length (take (length fields - 31) (drop 31 fields)) ≡ length fields - 31 = ap length (take_rest fields 31) ∙ length-drop 31 fields in
    let size : c.max.result ≡ max 13 (get_or fields 20 0 - 8) = c.max.ensures ∙ ap (max 13) (c.saturating_sub.ensures ∙ ap (λ n. n - 8) (c.from.ensures ∙ c.in_ok-fixed.ensures.size)) in
    let e = sym c.in_ok-from_slice.ensures.items in
    let t = sym c.in_ok-fixed.ensures.thread in
    let s = sym (c.join.ensures ∙ ap (λ f. f ++ take 12 (take (length fields - 31) (drop 31 fields))) c.in_ok-fixed.ensures.first ∙ ap (λ r. take 8 (drop 4 fields) ++ take 12 r) (take_rest fields 31)) in
    let p = sym c.in_ok-fixed.ensures.capabilities in
    let h = sym c.in_ok-fixed.ensures.charset in
    let u = sym c.in_ok-fixed.ensures.status in
    subst (λ (x : GreetingValue × List ℕ). IsGreeting x.0 (10 ∷ x.1)) (λ i. (record { version = e i; thread = t i; scramble = s i; capabilities = p i; charset = h i; status = u i }, body i))
    (is_greeting version fields c.in-Some.ensures.text fits (omega (arith, c.if-second-max.false, rest, size, c.in_ok-fixed.ensures.long)) (sym (ap (λ n. bit_and n needed) c.in_ok-fixed.ensures.capabilities) ∙ c.in_ok-fixed.ensures.has_needed))

pub returns-in_err-fixed-clause-memory : goal.returns-in_err-fixed-clause-memory
returns-in_err-fixed-clause-memory c is =
    let p = err_from_is_err_and c.from_residual.result c.from_residual.ensures.1 in
    let q = p.1 in
    let r = p.2 in
    absurd (c.in_err-fixed.ensures.no_memory (cc))

pub returns-in_err-from_slice-clause-memory : goal.returns-in_err-from_slice-clause-memory
returns-in_err-from_slice-clause-memory c _ =
    let version = c.in-Some.version.now in
    let fields = c.in-Some.fields.now in
    let fits : IsBytes fields = IsBytes-rest 0 fields (IsBytes-after version (0 ∷ fields) (subst IsBytes c.in-Some.ensures.bytes (λ i. omega (arith, c.type_inv.body i)))) in
    let rest : length (take (length fields - 31) (drop 31 fields)) ≡ length fields - 31 = ap length (take_rest fields 31) ∙ length-drop 31 fields in
    let size : c.max.result ≡ max 13 (get_or fields 20 0 - 8) = c.max.ensures ∙ ap (max 13) (c.saturating_sub.ensures ∙ ap (λ n. n - 8) (c.from.ensures ∙ c.in_ok-fixed.ensures.size)) in
    subst (λ (b : List ℕ). HasGreeting (10 ∷ b)) (sym c.in-Some.ensures.bytes) (record { value = _; is = is_greeting version fields c.in-Some.ensures.text fits (omega (arith, c.if-second-max.false, rest, size, c.in_ok-fixed.ensures.long)) (sym (ap (λ n. bit_and n needed) c.in_ok-fixed.ensures.capabilities) ∙ c.in_ok-fixed.ensures.has_needed) })
