use Rattle.columns.proofs.Names.{refl, ◌≡◌, [], length, ap, sym, arith, eqb-true}
use Rattle.columns.proofs.TablesAhead.{at_last, empty}
use Rattle.columns.proofs.Ahead.{no_two}
use Rattle.columns.proofs.WrongLines.{no_columns}
use Rattle.columns.proofs.description.Description.read.Goals as goal

pub returns-then-is_empty-clause-only : goal.returns-then-is_empty-clause-only
returns-then-is_empty-clause-only c tables lawful e =
    let none : length c.args.text.now ≡ 0 = eqb-true (length c.args.text.now) 0 (sym c.if-is_empty.ensures) in
    absurd (omega (arith, lawful.some, ap length (at_last tables [] c.args.text.now lawful.lawful (empty c.args.text.now (omega arith)) (record { more = tables; whole = λ _. tables; left_is = e }))))

pub returns-then-is_empty-clause-fault : goal.returns-then-is_empty-clause-fault
returns-then-is_empty-clause-fault c = record {
  tables = [];
  front = [];
  columns = [];
  rest = c.args.text.now;
  tables_are = record { each = tt; distinct = no_two };
  lawful = no_columns;
  begins = λ some. absurd (omega (arith, some));
  fresh = λ some. absurd (omega (arith, some));
  text_is = refl;
  number_is = refl;
  wrong = (refl, refl, empty c.args.text.now (omega (arith, eqb-true (length c.args.text.now) 0 (sym c.if-is_empty.ensures))));
}
