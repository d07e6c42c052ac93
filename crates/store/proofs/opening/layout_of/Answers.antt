use Rattle.store.proofs.Names.{◌≡◌, ◌≢◌, true, refl, pos, sym, ap, subst, ◌∙◌, rules, meta_rows, tables_of, IsOnly, layouts}
use Rattle.store.specs.Entering.{no_layout}
use Rattle.store.proofs.Known.{without_first, unlawful_first, whole_first, without_second, unlawful_second, whole_second, says_at}
use Rattle.store.proofs.opening.layout_of.Goals as goal

pub returns-then-not-has_first-clause-judged : goal.returns-then-not-has_first-clause-judged
returns-then-not-has_first-clause-judged c db known meta tables has wanted =
    without_first db known c.args.tables c.args.meta meta tables has c.in-Some-eq1.field-0 c.in-Some-eq1.is (search rules) (sym c.has_first.ensures ∙ c.if-not-has_first.true)

pub returns-then-not-meta-clause-judged : goal.returns-then-not-meta-clause-judged
returns-then-not-meta-clause-judged c db known meta tables has wanted =
    unlawful_first db known c.args.tables c.args.meta meta tables has c.in-Some-eq1.field-0 c.in-Some-eq1.is (search rules) c.if-not-meta.true

pub returns-else-not-meta-clause-judged : goal.returns-else-not-meta-clause-judged
returns-else-not-meta-clause-judged c db known meta tables has =
    whole_first db known c.args.tables c.args.meta meta tables has c.in-Some-eq1.field-0 c.in-Some-eq1.is (search rules) (sym c.has_first.ensures ∙ c.if-not-has_first.false) c.if-not-meta.false

pub returns-then-not-has_second-clause-judged : goal.returns-then-not-has_second-clause-judged
returns-then-not-has_second-clause-judged c db known meta tables has wanted =
    without_second db known c.args.tables c.args.meta meta tables has c.in-Some-eq2.field-0 c.in-Some-eq2.is (search rules) (sym c.has_second.ensures ∙ c.if-not-has_second.true)

pub returns-then-not-meta-2-clause-judged : goal.returns-then-not-meta-2-clause-judged
returns-then-not-meta-2-clause-judged c db known meta tables has wanted =
    unlawful_second db known c.args.tables c.args.meta meta tables has c.in-Some-eq2.field-0 c.in-Some-eq2.is (search rules) (sym c.has_second.ensures ∙ c.if-not-has_second.false) c.if-not-meta-2.true

pub returns-else-not-meta-2-clause-judged : goal.returns-else-not-meta-2-clause-judged
returns-else-not-meta-2-clause-judged c db known meta tables has =
    whole_second db known c.args.tables c.args.meta meta tables has c.in-Some-eq2.field-0 c.in-Some-eq2.is (search rules) (sym c.has_second.ensures ∙ c.if-not-has_second.false) c.if-not-meta-2.false

pub returns-in-Some-clause-judged : goal.returns-in-Some-clause-judged
returns-in-Some-clause-judged c db known meta tables has wanted =
    let there_is : (tables_of db.schema).meta ≡ true = ap (λ t. t.meta) (sym tables) ∙ has in
    let says = says_at (meta_rows db) c.args.meta _ _ meta c.in-Some.is refl in
    let not_first : c.in-Some.n ≢ pos 1 = search rules in
    let not_second : c.in-Some.n ≢ pos 2 = search rules in
    search (rules, there_is, says, not_first, not_second)

pub returns-in-None-clause-judged : goal.returns-in-None-clause-judged
returns-in-None-clause-judged c db known meta tables has wanted =
    no_layout (ap (λ t. t.meta) (sym tables) ∙ has) (subst (IsOnly (layouts (meta_rows db))) c.in-None.is meta.layout)
