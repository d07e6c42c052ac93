use Rattle.columns.proofs.Names.{◌≡◌, ◌++◌, ◌∷◌, [], List, ℕ, false, not, ap, sym, subst, ◌∙◌, refl, Bor, list_any, AllByRecursion, bytes_eq, Client, HasSeen, ColumnValue, IsDescribedColumn, column_text, lines_text, column_values, column_names}
use Rattle.std.specs.List.{IsDistinct}
use Rattle.columns.specs.Escapes.{escaped}
use Rattle.columns.specs.declared.column.Column.{Column}
use Rattle.columns.specs.Lines.{column_value}
use Rattle.columns.proofs.Types.{never}
use Rattle.columns.proofs.Ahead.{IsAhead, begin, next, line_more, all_with, distinct_with, values_with, names_with, first_field, not_not, no_two, at_end}
use Rattle.columns.proofs.WrongLines.{wrong_column, behind_front, not_false, some_there}
use Rattle.columns.proofs.lines.read_columns.Goals as goal

pub loop-line-init : goal.loop-line-init
loop-line-init c =
    let none = sym c.new-columns.ensures.items in
    record {
      text = λ i. lines_text c.args.front.now (column_values (none i)) ++ c.args.text.now;
      each = subst (λ (xs : List Column). AllByRecursion IsDescribedColumn (column_values xs)) none tt;
      distinct = subst (λ (xs : List Column). IsDistinct bytes_eq (column_names (column_values xs))) none no_two;
      seen = λ text. ap (λ (keys : List (Bor (List ℕ))). list_any (λ key. bytes_eq text key.now) keys) c.new-seen.ensures.empty ∙ (λ i. list_any (bytes_eq text) (column_names (column_values (none i))));
      ahead = λ columns rest lawful ends e. subst (λ (xs : List Column). IsAhead c.args.front.now columns rest (column_values xs) c.args.text.now) none (begin c.args.front.now columns rest c.args.text.now e);
    }

pub returns-in-Err-clause-only : goal.returns-in-Err-clause-only
returns-in-Err-clause-only c columns rest lawful ends e =
    let ahead = next c.args.front.now columns rest (column_values c.loop-line.columns.items) c.loop-line.left.now c.in-Some.line.now lawful ends c.in-Some.ensures.some
    (c.loop-line.invariant.ahead columns rest lawful ends e) in
    c.in-Err.ensures.only ahead.column ahead.tail ahead.one ahead.line_is

pub returns-in-Ok-false-clause-only : goal.returns-in-Ok-false-clause-only
returns-in-Ok-false-clause-only c columns rest lawful ends e =
    let ahead = next c.args.front.now columns rest (column_values c.loop-line.columns.items) c.loop-line.left.now c.in-Some.line.now lawful ends c.in-Some.ensures.some
    (c.loop-line.invariant.ahead columns rest lawful ends e) in
    let name_is = first_field c.split_field.result.0.now c.split_field.result.1.now c.in-Some.line.now ahead.tail ahead.column c.split_field.ensures.whole c.split_field.ensures.inner c.split_field.ensures.end ahead.line_is in
    let saw = c.in-Ok-false.ensures (column_names (column_values c.loop-line.columns.items)) c.loop-line.invariant.seen in
    absurd (never (sym c.in-Ok-false.field-0-test ∙ saw.0 ∙ (λ i. not (list_any (bytes_eq (name_is i)) (column_names (column_values c.loop-line.columns.items)))) ∙ ap not ahead.fresh))

pub loop-line-preserved : goal.loop-line-preserved
loop-line-preserved c =
    let names : List (List ℕ) = column_names (column_values c.loop-line.columns.items) in
    let value : ColumnValue = column_value c.in-Ok.read.0 in
    let values = values_with c.loop-line.columns.items c.push.new.self.items c.in-Ok.read.0 c.in-Ok-push.ensures.items in
    let name_is = first_field c.split_field.result.0.now c.split_field.result.1.now c.in-Some.line.now c.in-Ok.read.1.now value c.split_field.ensures.whole c.split_field.ensures.inner c.split_field.ensures.end c.in-Ok.ensures.found in
    let saw = c.in-Ok-true.ensures names c.loop-line.invariant.seen in
    let fresh : list_any (bytes_eq (escaped Client value.name)) names ≡ false = not_not _ (sym c.in-Ok-true.field-0-test ∙ saw.0 ∙ (λ i. not (list_any (bytes_eq (name_is i)) names))) in
    record {
      text = c.loop-line.invariant.text ∙
          line_more c.args.front.now (column_values c.loop-line.columns.items) value c.loop-line.left.now c.in-Some.line.now c.in-Ok.read.1.now c.in-Some.ensures.some c.in-Ok.ensures.found ∙
          (λ i. lines_text c.args.front.now (sym values i) ++ c.in-Ok.read.1.now);
      each = subst (AllByRecursion IsDescribedColumn) (sym values) (all_with (column_values c.loop-line.columns.items) value c.loop-line.invariant.each c.in-Ok.ensures.lawful);
      distinct = subst (λ (vs : List ColumnValue). IsDistinct bytes_eq (column_names vs)) (sym values)
          (subst (IsDistinct bytes_eq) (sym (names_with (column_values c.loop-line.columns.items) value)) (distinct_with names (escaped Client value.name) c.loop-line.invariant.distinct fresh));
      seen = subst (HasSeen c.see.new.seen.keys) ((λ i. names ++ name_is i ∷ []) ∙ sym (names_with (column_values c.loop-line.columns.items) value) ∙ ap column_names (sym values)) (saw.1 c.in-Ok-true.field-0-test);
      ahead = λ columns rest lawful ends e.
          let ahead = next c.args.front.now columns rest (column_values c.loop-line.columns.items) c.loop-line.left.now c.in-Some.line.now lawful ends c.in-Some.ensures.some
          (c.loop-line.invariant.ahead columns rest lawful ends e) in
          let same = c.in-Ok.ensures.only ahead.column ahead.tail ahead.one ahead.line_is in
          subst (λ (vs : List ColumnValue). IsAhead c.args.front.now columns rest vs c.in-Ok.read.1.now) (sym values)
          (subst (λ (left : List ℕ). IsAhead c.args.front.now columns rest (column_values c.loop-line.columns.items ++ value ∷ []) left) (sym same.1)
          (subst (λ (w : ColumnValue). IsAhead c.args.front.now columns rest (column_values c.loop-line.columns.items ++ w ∷ []) ahead.tail) (sym same.0) ahead.ahead));
    }

pub returns-clause-only : goal.returns-clause-only
returns-clause-only c columns rest lawful ends e = at_end c.args.front.now columns rest (column_values c.loop-line.columns.items) c.loop-line.left.now c.in_default.ensures.none (c.loop-line.invariant.ahead columns rest lawful ends e)

pub returns-in-Err-clause-fault : goal.returns-in-Err-clause-fault
returns-in-Err-clause-fault c = record {
  columns = column_values c.loop-line.columns.items;
  rest = c.loop-line.left.now;
  lawful = record { each = c.loop-line.invariant.each; distinct = c.loop-line.invariant.distinct };
  begins = λ _. c.requires;
  text_is = c.loop-line.invariant.text;
  left_is = refl;
  wrong = wrong_column [] c.args.front.now (column_values c.loop-line.columns.items) c.loop-line.left.now c.in-Some.line.now c.in-Err.fault c.requires c.in-Some.ensures.some c.in-Err.ensures.fault
      (λ other front column tail is one e. other (c.in-Err.ensures.only column tail one
      (behind_front c.args.front.now front c.in-Some.line.now (column_text column ++ tail) c.requires is (sym c.in-Some.ensures.some ∙ e))))
      (some_there c.args.front.now c.loop-line.left.now c.in-Some.line.now c.requires c.in-Some.ensures.some);
}

pub returns-in-Err-see-clause-fault : goal.returns-in-Err-see-clause-fault
returns-in-Err-see-clause-fault c = record {
  columns = column_values c.loop-line.columns.items;
  rest = c.loop-line.left.now;
  lawful = record { each = c.loop-line.invariant.each; distinct = c.loop-line.invariant.distinct };
  begins = λ _. c.requires;
  text_is = c.loop-line.invariant.text;
  left_is = refl;
  wrong = some_there c.args.front.now c.loop-line.left.now c.in-Some.line.now c.requires c.in-Some.ensures.some;
}

pub returns-in-Err-push-clause-fault : goal.returns-in-Err-push-clause-fault
returns-in-Err-push-clause-fault c = record {
  columns = column_values c.loop-line.columns.items;
  rest = c.loop-line.left.now;
  lawful = record { each = c.loop-line.invariant.each; distinct = c.loop-line.invariant.distinct };
  begins = λ _. c.requires;
  text_is = c.loop-line.invariant.text;
  left_is = refl;
  wrong = some_there c.args.front.now c.loop-line.left.now c.in-Some.line.now c.requires c.in-Some.ensures.some;
}

pub returns-in-Ok-false-clause-fault : goal.returns-in-Ok-false-clause-fault
returns-in-Ok-false-clause-fault c =
    let names : List (List ℕ) = column_names (column_values c.loop-line.columns.items) in
    let value : ColumnValue = column_value c.in-Ok.read.0 in
    let name_is = first_field c.split_field.result.0.now c.split_field.result.1.now c.in-Some.line.now c.in-Ok.read.1.now value c.split_field.ensures.whole c.split_field.ensures.inner c.split_field.ensures.end c.in-Ok.ensures.found in
    let saw = c.in-Ok-false.ensures names c.loop-line.invariant.seen in
    record {
      columns = column_values c.loop-line.columns.items;
      rest = c.loop-line.left.now;
      lawful = record { each = c.loop-line.invariant.each; distinct = c.loop-line.invariant.distinct };
      begins = λ _. c.requires;
      text_is = c.loop-line.invariant.text;
      left_is = refl;
      wrong = (
        value,
        c.in-Ok.read.1.now,
        c.in-Some.ensures.some ∙ (λ i. c.args.front.now ++ c.in-Ok.ensures.found i),
        not_false _ (sym c.in-Ok-false.field-0-test ∙ saw.0 ∙ (λ i. not (list_any (bytes_eq (name_is i)) names))),
      );
    }
