-- What is wrong with a line that was not read.
use Rattle.columns.proofs.Names.{inr, ◌≡◌, ◌≢◌, ℕ, ◌<◌, Bool, true, false, not, List, [], ◌∷◌, ◌++◌, length, refl, ap, sym, ◌∙◌, arith, length-append, append_assoc, append-nil, list_any, bytes_eq, ColumnValue, DescribedTableValue, table_front, AreDescribedColumns, AreTables, table_names, description_text, lines_text, Client}
use Rattle.std.proofs.Common.{drop}
use Rattle.columns.specs.Escapes.{escaped}
use Rattle.columns.specs.Lines.{field}
use Rattle.columns.specs.LineFaults.{IsFaultAmong, IsColumnFault, front_fields, column_fields, line_fields}
use Rattle.columns.proofs.LineFaults.{no_set, no_twice, no_apart, no_none, in_front}
use Rattle.columns.specs.Descriptions.{IsFront, IsWrongLine, BeginsWithNoLine, IsStopped, IsTableStopped}
use Rattle.columns.specs.declared.fields.LineFault.{LineFault}
use Rattle.columns.specs.declared.fields.LineFault.TheVariants.{CharacterSet, ColumnTwice, TableApart, NoLine, Memory}
use Rattle.columns.proofs.Types.{never}
use Rattle.columns.proofs.Ahead.{no_two}
use Rattle.columns.proofs.TablesAhead.{same_front}

-- a fault of the first two fields
pub wrong_by_itself : (names : List (List ℕ)) (front : List ℕ) (columns : List ColumnValue) (text : List ℕ) (fault : LineFault) → IsFaultAmong front_fields text fault → (fault ≢ Memory → BeginsWithNoLine text) →
    0 < length text → IsWrongLine names front columns text fault
wrong_by_itself names front columns text CharacterSet own none some = absurd (no_set front_fields text own)
wrong_by_itself names front columns text ColumnTwice own none some = absurd (no_twice front_fields text own)
wrong_by_itself names front columns text TableApart own none some = absurd (no_apart front_fields text own)
wrong_by_itself names front columns text NoLine own none some = absurd (no_none front_fields text own)
wrong_by_itself names front columns text Memory own none some = some
wrong_by_itself names front columns text v own none some = (none (λ e. cc), in_front text v own)

-- a fault of the last four fields after names is one of the line
of_line : (front text line : List ℕ) (fault : LineFault) → IsFront front → text ≡ front ++ line → IsFaultAmong column_fields line fault → IsFaultAmong line_fields text fault
of_line front text line fault begins is own =
    inr (begins.schema, field begins.name 9 ++ line, is ∙ (λ i. begins.front_is i ++ line) ∙ append_assoc (field begins.schema 9) (field begins.name 9) line, inr (begins.name, line, refl, own))

pub wrong_column : (names : List (List ℕ)) (front : List ℕ) (columns : List ColumnValue) (text line : List ℕ) (fault : LineFault) → IsFront front → text ≡ front ++ line → IsColumnFault line fault →
    (fault ≢ Memory → BeginsWithNoLine text) → 0 < length text → IsWrongLine names front columns text fault
wrong_column names front columns text line CharacterSet begins is own none some = (none (λ e. cc), (front, line, begins, is, own))
wrong_column names front columns text line ColumnTwice begins is own none some = absurd (no_twice column_fields line own)
wrong_column names front columns text line TableApart begins is own none some = absurd (no_apart column_fields line own)
wrong_column names front columns text line NoLine begins is own none some = absurd (no_none column_fields line own)
wrong_column names front columns text line Memory begins is own none some = some
wrong_column names front columns text line v begins is own none some = (none (λ e. cc), of_line front text line v begins is own)

cancel : (a x y : List ℕ) → a ++ x ≡ a ++ y → x ≡ y
cancel [] x y e = e
cancel (b ∷ a) x y e = cancel a x y (ap (λ xs. drop 1 xs) e)

-- two lines that begin with names are the same after them
pub behind_front : (front other x y : List ℕ) → IsFront front → IsFront other → front ++ x ≡ other ++ y → x ≡ y
behind_front front other x y is are e =
    let t : DescribedTableValue = record { schema = is.schema; name = is.name; columns = [] } in
    let u : DescribedTableValue = record { schema = are.schema; name = are.name; columns = [] } in
    let both : table_front t ++ x ≡ table_front u ++ y = (λ i. sym is.front_is i ++ x) ∙ e ∙ (λ i. are.front_is i ++ y) in
    cancel (table_front u) x y ((λ i. sym (same_front t u x y both) i ++ x) ∙ both)

pub not_false : (b : Bool) → false ≡ not b → b ≡ true
not_false true h = refl
not_false false h = h

pub no_columns : AreDescribedColumns []
no_columns = record { each = tt; distinct = no_two }

-- a line that begins with names is some bytes
pub some_there : (front text line : List ℕ) → IsFront front → text ≡ front ++ line → 0 < length text
some_there front text line is e =
    omega (arith, ap length e, length-append front line, ap length is.front_is, length-append (field is.schema 9) (field is.name 9), length-append (escaped Client is.schema) (9 ∷ []))

-- a wrong line of the first table is one of a table after others
wrong_within : (names : List (List ℕ)) (front : List ℕ) (columns : List ColumnValue) (text whole : List ℕ) (fault : LineFault) → whole ≡ lines_text front columns ++ text → 0 < length whole →
    IsWrongLine [] front columns text fault → IsWrongLine names front columns text fault
wrong_within names front columns text whole TableApart is some wrong = absurd (never wrong.3)
wrong_within names front columns text whole NoLine is some wrong =
    absurd (omega (arith, some, ap length (is ∙ (λ i. lines_text front (wrong.1 i) ++ wrong.2 i))))
wrong_within names front columns text whole _ is some wrong = wrong

-- the same for where a reader stopped
pub within_tables : (tables : List DescribedTableValue) (front text whole : List ℕ) (left : ℕ) (fault : LineFault) → AreTables tables → whole ≡ description_text tables ++ text → 0 < length text → list_any (bytes_eq front) (table_names tables) ≡ false →
    IsStopped front text left fault → IsTableStopped whole left fault
within_tables tables front text whole left fault are is some fresh stopped = record {
  tables = tables;
  front = front;
  columns = stopped.columns;
  rest = stopped.rest;
  tables_are = are;
  lawful = stopped.lawful;
  begins = stopped.begins;
  fresh = λ _. fresh;
  text_is = is ∙ ap (λ (end : List ℕ). description_text tables ++ end) stopped.text_is ∙ sym (append_assoc (description_text tables) (lines_text front stopped.columns) stopped.rest);
  left_is = stopped.left_is;
  wrong = wrong_within (table_names tables) front stopped.columns stopped.rest text fault stopped.text_is some stopped.wrong;
}

-- a reader of tables stopped at the first line of one
pub at_table : (tables : List DescribedTableValue) (text rest : List ℕ) (fault : LineFault) → AreTables tables → text ≡ description_text tables ++ rest → IsWrongLine (table_names tables) [] [] rest fault →
    IsTableStopped text (length rest) fault
at_table tables text rest fault are is wrong = record {
  tables = tables;
  front = [];
  columns = [];
  rest = rest;
  tables_are = are;
  lawful = no_columns;
  begins = λ some. absurd (omega (arith, some));
  fresh = λ some. absurd (omega (arith, some));
  text_is = is ∙ (λ i. sym (append-nil (description_text tables)) i ++ rest);
  left_is = refl;
  wrong = wrong;
}
