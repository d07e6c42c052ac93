use Rattle.binlog.proofs.Names.{ℕ, ◌++◌, List, ap, sym, ◌∙◌}
use Rattle.std.specs.Str.{bytes_eq}
use Rattle.binlog.specs.Filter.{star, read_table, read_schema}
use Rattle.binlog.proofs.Unkept.{mark_as}
use Rattle.binlog.proofs.reading.mark.Goals as goal

pub returns-then-is_star-clause-ok : goal.returns-then-is_star-clause-ok
unfolding read_schema
returns-then-is_star-clause-ok c =
    (λ i. ((c.in_ok-joined.ensures.ok ∙ ap (λ (l : List ℕ). read_schema ++ l) c.deref-then-is_star.ensures.value) i, c.new.ensures.items i))
    ∙ sym (ap (λ b. mark_as b (c.args.name.now.0.items, c.args.name.now.1.items)) (ap (λ (l : List ℕ). bytes_eq l star) (sym c.deref.ensures.value) ∙ sym c.is_star.ensures ∙ c.if-is_star.true))

pub returns-clause-ok : goal.returns-clause-ok
unfolding read_table
returns-clause-ok c =
    (λ i. ((c.in_ok-joined-2.ensures.ok ∙ ap (λ (l : List ℕ). read_table ++ l) c.deref-2.ensures.value) i, c.in_ok-copied.ensures.ok i))
    ∙ sym (ap (λ b. mark_as b (c.args.name.now.0.items, c.args.name.now.1.items)) (ap (λ (l : List ℕ). bytes_eq l star) (sym c.deref.ensures.value) ∙ sym c.is_star.ensures ∙ c.if-is_star.false))
