use Rattle.columns.proofs.Names.{◌≡◌, ◌++◌, ◌∷◌, [], List, ℕ, false, not, ap, sym, subst, ◌∙◌, arith, Bor, list_any, AllByRecursion, bytes_eq, HasSeen, column_text, DescribedTableValue, described_tables, table_names, table_front, description_text, IsTable}
use Rattle.std.specs.List.{IsDistinct}
use Rattle.columns.specs.Lines.{field}
use Rattle.columns.specs.Descriptions.{described_table}
use Rattle.columns.specs.declared.table.DescribedTable.{DescribedTable}
use Rattle.columns.proofs.Types.{never}
use Rattle.columns.proofs.Ahead.{distinct_with, not_not, no_two, first_front}
use Rattle.columns.proofs.TablesAhead.{AreAhead, next_table, table_more, all_tables_with, tables_with, table_names_with, at_last, empty, shorter}
use Rattle.columns.proofs.WrongLines.{not_false, wrong_by_itself, at_table, within_tables}
use Rattle.columns.proofs.description.read_tables.Goals as goal

pub loop-left-init : goal.loop-left-init
loop-left-init c =
    let none = sym c.new-tables.ensures.items in
    record {
      text = λ i. description_text (described_tables (none i)) ++ c.args.text.now;
      each = subst (λ (xs : List DescribedTable). AllByRecursion IsTable (described_tables xs)) none tt;
      distinct = subst (λ (xs : List DescribedTable). IsDistinct bytes_eq (table_names (described_tables xs))) none no_two;
      seen = λ text. ap (λ (keys : List (Bor (List ℕ))). list_any (λ key. bytes_eq text key.now) keys) c.new-seen.ensures.empty ∙ (λ i. list_any (bytes_eq text) (table_names (described_tables (none i))));
      ahead = λ tables lawful e. subst (λ (xs : List DescribedTable). AreAhead tables (described_tables xs) c.args.text.now) none (record { more = tables; whole = λ _. tables; left_is = e });
    }

pub returns-in-Err-clause-only : goal.returns-in-Err-clause-only
returns-in-Err-clause-only c tables lawful e =
    let ahead = next_table tables (described_tables c.loop-left.tables.items) c.loop-left.left.now lawful (omega arith) (c.loop-left.invariant.ahead tables lawful e) in
    let first = first_front ahead.table ahead.tail c.loop-left.left.now ahead.one ahead.left_is in
    c.in-Err.ensures.only ahead.table.schema ahead.table.name first.0 ahead.one.schema ahead.one.name first.1

pub returns-in-Err-clause-fault : goal.returns-in-Err-clause-fault
returns-in-Err-clause-fault c =
    at_table (described_tables c.loop-left.tables.items) c.args.text.now c.loop-left.left.now c.in-Err.fault (record { each = c.loop-left.invariant.each; distinct = c.loop-left.invariant.distinct }) c.loop-left.invariant.text
    (wrong_by_itself (table_names (described_tables c.loop-left.tables.items)) [] [] c.loop-left.left.now c.in-Err.fault c.in-Err.ensures.fault
    (λ other front column tail is one e. other (c.in-Err.ensures.only is.schema is.name (column_text column ++ tail) is.schema_is is.name_is (e ∙ (λ i. is.front_is i ++ (column_text column ++ tail)))))
    (omega arith))

pub returns-in-Ok-false-clause-only : goal.returns-in-Ok-false-clause-only
returns-in-Ok-false-clause-only c tables lawful e =
    let names : List (List ℕ) = table_names (described_tables c.loop-left.tables.items) in
    let ahead = next_table tables (described_tables c.loop-left.tables.items) c.loop-left.left.now lawful (omega arith) (c.loop-left.invariant.ahead tables lawful e) in
    let first = first_front ahead.table ahead.tail c.loop-left.left.now ahead.one ahead.left_is in
    let same = c.in-Ok.ensures.only ahead.table.schema ahead.table.name first.0 ahead.one.schema ahead.one.name first.1 in
    let name_is = c.in-Ok.ensures.front ∙ (λ i. field (same.0 i) 9 ++ field (same.1 i) 9) in
    let saw = c.in-Ok-false.ensures names c.loop-left.invariant.seen in
    absurd (never (sym c.in-Ok-false.field-0-test ∙ saw.0 ∙ (λ i. not (list_any (bytes_eq (name_is i)) names)) ∙ ap not ahead.fresh))

pub returns-in-Ok-false-clause-fault : goal.returns-in-Ok-false-clause-fault
returns-in-Ok-false-clause-fault c =
    let names : List (List ℕ) = table_names (described_tables c.loop-left.tables.items) in
    let saw = c.in-Ok-false.ensures names c.loop-left.invariant.seen in
    at_table (described_tables c.loop-left.tables.items) c.args.text.now c.loop-left.left.now _ (record { each = c.loop-left.invariant.each; distinct = c.loop-left.invariant.distinct }) c.loop-left.invariant.text
    (c.in-Ok.read.2.now, c.in-Ok.ensures.found.0, c.in-Ok.ensures.found.1, not_false _ (sym c.in-Ok-false.field-0-test ∙ saw.0))

pub returns-in-Err-see-clause-fault : goal.returns-in-Err-see-clause-fault
returns-in-Err-see-clause-fault c = at_table (described_tables c.loop-left.tables.items) c.args.text.now c.loop-left.left.now _ (record { each = c.loop-left.invariant.each; distinct = c.loop-left.invariant.distinct }) c.loop-left.invariant.text (omega arith)

pub returns-in-Err-push-clause-fault : goal.returns-in-Err-push-clause-fault
returns-in-Err-push-clause-fault c = at_table (described_tables c.loop-left.tables.items) c.args.text.now c.loop-left.left.now _ (record { each = c.loop-left.invariant.each; distinct = c.loop-left.invariant.distinct }) c.loop-left.invariant.text (omega arith)

pub returns-in-Err-read_table-clause-only : goal.returns-in-Err-read_table-clause-only
returns-in-Err-read_table-clause-only c tables lawful e =
    let ahead = next_table tables (described_tables c.loop-left.tables.items) c.loop-left.left.now lawful (omega arith) (c.loop-left.invariant.ahead tables lawful e) in
    let first = first_front ahead.table ahead.tail c.loop-left.left.now ahead.one ahead.left_is in
    let same = c.in-Ok.ensures.only ahead.table.schema ahead.table.name first.0 ahead.one.schema ahead.one.name first.1 in
    c.in-Err-read_table.ensures.only ahead.table ahead.tail ahead.one same.0 same.1 ahead.ends ahead.left_is

pub returns-in-Err-read_table-clause-fault : goal.returns-in-Err-read_table-clause-fault
returns-in-Err-read_table-clause-fault c =
    let names : List (List ℕ) = table_names (described_tables c.loop-left.tables.items) in
    let saw = c.in-Ok-true.ensures names c.loop-left.invariant.seen in
    within_tables (described_tables c.loop-left.tables.items) c.in-Ok.read.2.now c.loop-left.left.now c.args.text.now c.in-Err-read_table.stop.left c.in-Err-read_table.stop.fault
    (record { each = c.loop-left.invariant.each; distinct = c.loop-left.invariant.distinct }) c.loop-left.invariant.text (omega arith) (not_not _ (sym c.in-Ok-true.field-0-test ∙ saw.0)) c.in-Err-read_table.ensures.fault

pub loop-left-smaller : goal.loop-left-smaller
loop-left-smaller c = shorter (described_table c.in-Ok-read_table.read.0) c.loop-left.left.now c.in-Ok-read_table.read.1.now c.in-Ok-read_table.ensures.lawful c.in-Ok-read_table.ensures.found

pub loop-left-preserved : goal.loop-left-preserved
loop-left-preserved c =
    let names : List (List ℕ) = table_names (described_tables c.loop-left.tables.items) in
    let value : DescribedTableValue = described_table c.in-Ok-read_table.read.0 in
    let values = tables_with c.loop-left.tables.items c.push.new.self.items c.in-Ok-read_table.read.0 c.in-Ok-push.ensures.items in
    let name_is = c.in-Ok-read_table.ensures.front in
    let saw = c.in-Ok-true.ensures names c.loop-left.invariant.seen in
    let fresh : list_any (bytes_eq (table_front value)) names ≡ false = not_not _ (sym c.in-Ok-true.field-0-test ∙ saw.0 ∙ (λ i. not (list_any (bytes_eq (name_is i)) names))) in
    record {
      text = c.loop-left.invariant.text ∙ table_more (described_tables c.loop-left.tables.items) value c.loop-left.left.now c.in-Ok-read_table.read.1.now c.in-Ok-read_table.ensures.found ∙
          (λ i. description_text (sym values i) ++ c.in-Ok-read_table.read.1.now);
      each = subst (AllByRecursion IsTable) (sym values) (all_tables_with (described_tables c.loop-left.tables.items) value c.loop-left.invariant.each c.in-Ok-read_table.ensures.lawful);
      distinct = subst (λ (vs : List DescribedTableValue). IsDistinct bytes_eq (table_names vs)) (sym values)
          (subst (IsDistinct bytes_eq) (sym (table_names_with (described_tables c.loop-left.tables.items) value)) (distinct_with names (table_front value) c.loop-left.invariant.distinct fresh));
      seen = subst (HasSeen c.see.new.seen.keys) ((λ i. names ++ name_is i ∷ []) ∙ sym (table_names_with (described_tables c.loop-left.tables.items) value) ∙ ap table_names (sym values)) (saw.1 c.in-Ok-true.field-0-test);
      ahead = λ tables lawful e.
          let ahead = next_table tables (described_tables c.loop-left.tables.items) c.loop-left.left.now lawful (omega arith) (c.loop-left.invariant.ahead tables lawful e) in
          let first = first_front ahead.table ahead.tail c.loop-left.left.now ahead.one ahead.left_is in
          let names = c.in-Ok.ensures.only ahead.table.schema ahead.table.name first.0 ahead.one.schema ahead.one.name first.1 in
          let same = c.in-Ok-read_table.ensures.only ahead.table ahead.tail ahead.one names.0 names.1 ahead.ends ahead.left_is in
          subst (λ (vs : List DescribedTableValue). AreAhead tables vs c.in-Ok-read_table.read.1.now) (sym values)
          (subst (λ (left : List ℕ). AreAhead tables (described_tables c.loop-left.tables.items ++ value ∷ []) left) (sym same.1)
          (subst (λ (w : DescribedTableValue). AreAhead tables (described_tables c.loop-left.tables.items ++ w ∷ []) ahead.tail) (sym same.0) ahead.ahead));
    }

pub returns-clause-only : goal.returns-clause-only
returns-clause-only c tables lawful e =
    at_last tables (described_tables c.loop-left.tables.items) c.loop-left.left.now lawful (empty c.loop-left.left.now (omega arith)) (c.loop-left.invariant.ahead tables lawful e)
