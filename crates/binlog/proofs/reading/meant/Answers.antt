use Rattle.binlog.proofs.Names.{◌≡◌, inr, ℕ, ◌++◌, List, [], true, false, refl, ap, sym, ◌∙◌, false≢true}
use Rattle.std.specs.Str.{bytes_eq}
use Rattle.binlog.specs.Filter.{star, read_table, read_schema, read_all}
use Rattle.binlog.proofs.Unkept.{by_table, by_schema, by_all, ways, meant_table, meant_schema, nothing_follows, empty_is, not_empty}
use Rattle.binlog.proofs.reading.meant.Goals as goal
use Rattle.binlog.proofs.reading.meant.Goals.{in_default-after-2-via-in-Some-after-2+else-is_empty, in_default-after-2-via-in_default-after-2}

pub returns-else-is_star-clause-some : goal.returns-else-is_star-clause-some
unfolding read_table
returns-else-is_star-clause-some c =
    meant_table c.in-Some.schema.now c.as_slice-table.result.now (c.args.name.now.0.items, c.args.name.now.1.items) (sym c.as_slice-schema.ensures.value ∙ c.in-Some.ensures.some) (sym c.as_slice-table.ensures.value)
    (sym c.is_star.ensures ∙ c.if-is_star.false)

pub returns-then-is_star-clause-none : goal.returns-then-is_star-clause-none
returns-then-is_star-clause-none c none schema table is =
    let second : c.args.name.now.1.items ≡ c.as_slice-table.result.now = sym c.as_slice-table.ensures.value in
    let all : bytes_eq c.args.name.now.1.items star ≡ true = ap (λ (l : List ℕ). bytes_eq l star) second ∙ sym c.is_star.ensures ∙ c.if-is_star.true in
    elim (ways (schema, table) (c.args.name.now.0.items, c.args.name.now.1.items) is) [
      | by_table rest first other ↦ false≢true (sym other ∙ all)
      | by_schema rest first empty ↦ false≢true (sym (ap (λ (l : List ℕ). bytes_eq l star) empty) ∙ all)
      | by_all first empty ↦ false≢true (sym (ap (λ (l : List ℕ). bytes_eq l star) empty) ∙ all)
    ]

pub returns-then-not-is_empty-clause-none : goal.returns-then-not-is_empty-clause-none
unfolding read_table
returns-then-not-is_empty-clause-none c none schema table is =
    let some = not_empty c.as_slice-table.result.now c.is_empty.result c.is_empty.ensures c.if-not-is_empty.true in
    elim (ways (schema, table) (c.args.name.now.0.items, c.args.name.now.1.items) is) [
      | by_table rest first other ↦ c.after.ensures.none c.in_default.is rest (c.as_slice-schema.ensures.value ∙ first)
      | by_schema rest first empty ↦ some (c.as_slice-table.ensures.value ∙ empty)
      | by_all first empty ↦ some (c.as_slice-table.ensures.value ∙ empty)
    ]

pub returns-in-Some-after-clause-some : goal.returns-in-Some-after-clause-some
unfolding read_schema
returns-in-Some-after-clause-some c =
    meant_schema c.in-Some-after.schema.now (c.args.name.now.0.items, c.args.name.now.1.items) (sym c.as_slice-schema.ensures.value ∙ c.in-Some-after.ensures.some)
    (sym c.as_slice-table.ensures.value ∙ empty_is c.as_slice-table.result.now c.is_empty.result c.is_empty.ensures c.if-not-is_empty.false)

pub returns-in-Some-after-2-clause-some : goal.returns-in-Some-after-2-clause-some
unfolding read_all
returns-in-Some-after-2-clause-some c =
    let nothing : c.in-Some-after-2.nothing.now ≡ [] = empty_is c.in-Some-after-2.nothing.now true c.if-is_empty.ensures refl in
    let first : c.args.name.now.0.items ≡ read_all ++ [] = sym c.as_slice-schema.ensures.value ∙ c.in-Some-after-2.ensures.some ∙ ap (λ (l : List ℕ). read_all ++ l) nothing in
    let second : c.args.name.now.1.items ≡ [] = sym c.as_slice-table.ensures.value ∙ empty_is c.as_slice-table.result.now c.is_empty.result c.is_empty.ensures c.if-not-is_empty.false in
    inr (refl, (λ i. (first i, second i)))

pub returns-in_default-after-2-clause-none : goal.returns-in_default-after-2-clause-none
unfolding read_table read_schema read_all
returns-in_default-after-2-clause-none c none schema table is =
    elim (ways (schema, table) (c.args.name.now.0.items, c.args.name.now.1.items) is) [
      | by_table rest first other ↦ c.after.ensures.none c.in_default.is rest (c.as_slice-schema.ensures.value ∙ first)
      | by_schema rest first empty ↦ c.after-2.ensures.none c.in_default-after.is rest (c.as_slice-schema.ensures.value ∙ first)
      | by_all first empty ↦ elim c.in_default-after-2.branch [
        | in_default-after-2-via-in-Some-after-2+else-is_empty w ↦ not_empty w.in-Some-after-2.nothing.now false w.if-is_empty.ensures refl
            (nothing_follows read_all w.in-Some-after-2.nothing.now (sym w.in-Some-after-2.ensures.some ∙ c.as_slice-schema.ensures.value ∙ first))
        | in_default-after-2-via-in_default-after-2 w ↦ c.after-3.ensures.none w.in_default-after-2.is [] (c.as_slice-schema.ensures.value ∙ first)
      ]
    ]
