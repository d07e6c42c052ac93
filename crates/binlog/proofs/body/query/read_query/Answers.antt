use Rattle.binlog.proofs.Names.{◌≡◌, ◌≤◌, ◌-◌, ◌∙◌, arith, Ok, take, length, codes, sym, ap, subst, false≢true, take_rest, none-some, bytes_eq-Decides, IsQuery, text_place}
use Rattle.std.proofs.Common.{drop}
use Rattle.binlog.specs.Body.{statement}
use Rattle.binlog.proofs.Bodies.{is_query, query_reported, query_not_refused, begin_alone, commit_alone, no_other}
use Rattle.binlog.proofs.body.query.read_query.Goals as goal

pub returns-in_err-text-clause-only : goal.returns-in_err-text-clause-only
returns-in_err-text-clause-only c query is = absurd (none-some _ (sym (query_not_refused query c.args.bytes.now is) ∙ c.in_err-text.ensures.fault))

pub returns-then-eq-clause-found : goal.returns-then-eq-clause-found
returns-then-eq-clause-found c =
    let rest = drop c.in_ok-text.text c.args.bytes.now in
    let is : take (length c.args.bytes.now - c.in_ok-text.text) rest ≡ codes "BEGIN" = (bytes_eq-Decides _ (codes "BEGIN")).0 (sym c.if-eq.ensures) in
    let text : drop (text_place c.args.bytes.now) c.args.bytes.now ≡ codes "BEGIN" = ap (λ k. drop k c.args.bytes.now) (sym c.in_ok-text.ensures.place) ∙ sym (take_rest c.args.bytes.now c.in_ok-text.text) ∙ is in
    subst (λ t. IsQuery t (drop 19 c.args.bytes.now)) text (is_query c.args.bytes.now (λ i. omega (arith, c.type_inv.bytes i)) (subst (λ k. k ≤ length c.args.bytes.now) c.in_ok-text.ensures.place c.in_ok-text.ensures.within))

pub returns-then-eq-clause-only : goal.returns-then-eq-clause-only
returns-then-eq-clause-only c query is =
    let rest = drop c.in_ok-text.text c.args.bytes.now in
    let begins : take (length c.args.bytes.now - c.in_ok-text.text) rest ≡ codes "BEGIN" = (bytes_eq-Decides _ (codes "BEGIN")).0 (sym c.if-eq.ensures) in
    let text : drop (text_place c.args.bytes.now) c.args.bytes.now ≡ codes "BEGIN" = ap (λ k. drop k c.args.bytes.now) (sym c.in_ok-text.ensures.place) ∙ sym (take_rest c.args.bytes.now c.in_ok-text.text) ∙ begins in
    ap Ok (begin_alone query (sym (query_reported (statement query) c.args.bytes.now is).text_is ∙ text))

pub returns-then-eq-2-clause-found : goal.returns-then-eq-2-clause-found
returns-then-eq-2-clause-found c =
    let rest = drop c.in_ok-text.text c.args.bytes.now in
    let is : take (length c.args.bytes.now - c.in_ok-text.text) rest ≡ codes "COMMIT" = (bytes_eq-Decides _ (codes "COMMIT")).0 (sym c.if-eq-2.ensures) in
    let text : drop (text_place c.args.bytes.now) c.args.bytes.now ≡ codes "COMMIT" = ap (λ k. drop k c.args.bytes.now) (sym c.in_ok-text.ensures.place) ∙ sym (take_rest c.args.bytes.now c.in_ok-text.text) ∙ is in
    subst (λ t. IsQuery t (drop 19 c.args.bytes.now)) text (is_query c.args.bytes.now (λ i. omega (arith, c.type_inv.bytes i)) (subst (λ k. k ≤ length c.args.bytes.now) c.in_ok-text.ensures.place c.in_ok-text.ensures.within))

pub returns-then-eq-2-clause-only : goal.returns-then-eq-2-clause-only
returns-then-eq-2-clause-only c query is =
    let rest = drop c.in_ok-text.text c.args.bytes.now in
    let commits : take (length c.args.bytes.now - c.in_ok-text.text) rest ≡ codes "COMMIT" = (bytes_eq-Decides _ (codes "COMMIT")).0 (sym c.if-eq-2.ensures) in
    let text : drop (text_place c.args.bytes.now) c.args.bytes.now ≡ codes "COMMIT" = ap (λ k. drop k c.args.bytes.now) (sym c.in_ok-text.ensures.place) ∙ sym (take_rest c.args.bytes.now c.in_ok-text.text) ∙ commits in
    ap Ok (commit_alone query (sym (query_reported (statement query) c.args.bytes.now is).text_is ∙ text))

pub returns-clause-only : goal.returns-clause-only
returns-clause-only c query is =
    let rest = take_rest c.args.bytes.now c.in_ok-text.text ∙ ap (λ k. drop k c.args.bytes.now) c.in_ok-text.ensures.place ∙ (query_reported (statement query) c.args.bytes.now is).text_is in
    absurd (no_other query (λ begin. false≢true (c.if-eq.ensures ∙ (bytes_eq-Decides _ (codes "BEGIN")).1 (rest ∙ begin))) (λ commit. false≢true (c.if-eq-2.ensures ∙ (bytes_eq-Decides _ (codes "COMMIT")).1 (rest ∙ commit))))
