-- What a text means that makes a table, in any schema: it makes the table, or is refused.
use Rattle.store.proofs.Names.{◌≡◌, ◌==◌, ◌&&◌, not, List, ℕ, length, Bool, true, false, cond, is_some, codes, Ok, Err, None, Some, [], ◌∷◌, refl, sym, ap, ◌∙◌, Table, Schema, Command, table_named, Parsed, Compiled, with_command, Row, Insert, Values, Expr, State, Executes, IsFound, meta, held, spans, spans_text, follow, follow_text}
use Rattle.std.specs.Option.{option_or}
use Rattle.sqlite_schema.specs.declared.command.Command.TheVariants.{CreateTable, DropTable, Nothing}
use Rattle.sqlite_schema.specs.Names.{index_named, view_named, same_name}
use Rattle.sqlite_ast.specs.declared.CreateTable.{CreateTable as Definition}
use Rattle.sqlite_ast.specs.declared.Statement.{Statement}
use Rattle.sqlite_ast.specs.declared.Statement.TheVariants as written
use Rattle.sqlite_resolve.specs.declared.error.CompileError.{CompileError}
use Rattle.sqlite_resolve.specs.declared.error.CompileError.TheVariants.{NoSuchTable, Exists, Unsupported, Misuse}
use Rattle.sqlite_resolve.specs.Lowering.{Checked, and_then}
use Rattle.sqlite_resolve.specs.Define as define
use Rattle.sqlite_resolve.specs.Compile.{first, table_defined_by, compiled, planned, timed, meaning, returning, command, creates, create_table, drop_table, is_reserved, is_attached}
use Rattle.sqlite.specs.Listing.{understood, misses_table}
use Rattle.std.specs.Prelude.{slice_range}
use Rattle.sqlite_ast.specs.declared.Expr.TheVariants as e
use Rattle.sqlite_ast.specs.declared.Rows.TheVariants as rows
use Rattle.sqlite_ast.specs.declared.Conflict.TheVariants.{Abort}
use Rattle.sqlite_resolve.specs.declared.write.NewRows.TheVariants as new
use Rattle.sqlite_resolve.specs.Write.{inserted}
use Rattle.sqlite.specs.State.{ExecutesIn}
use Rattle.store.specs.Migrating.{drop_executed_text}
use Rattle.store.specs.Making.{layout_text, layout_terms, add_name_text, add_name_terms}
use Rattle.store.proofs.Compiler.{compiled_insert}
use Rattle.store.proofs.AnySchema.{Means, means}
use Rattle.sqlite_tied.specs.Compute.{everything}
use Rattle.store.specs.Layout.{meta_text, held_text}

-- an outcome: this command, or an error that is not of a missing table
abbrev Makes : {A : Type 0} → Checked A → A → (CompileError → Type 0) → Type 0
Makes (Ok a) c Other = a ≡ c
Makes (Err e) c Other = Other e

abbrev IsOther : CompileError → Type 0
IsOther NoSuchTable = ⊥
IsOther _ = Unit {0}

module _ (schema : Schema) (def : Definition) (table : Table) (named : is_reserved def.name ≡ false) (plain : def.if_missing ≡ false) (fits : (length table.computed == length table.stamps.places && not def.resolves) ≡ true)
    (defined : define.table [] def ≡ Ok table) where
  by_tests : (attached taken same : Bool) → Makes {A = Command} (cond attached (Err Unsupported) (and_then (cond taken (Err Exists) (cond same (Err Exists) (Ok true))) (λ is_new. cond is_new (Ok CreateTable) (Ok Nothing)))) CreateTable IsOther
  by_tests true taken same = tt
  by_tests false true same = tt
  by_tests false false true = tt
  by_tests false false false = refl

  made_or_refused : Makes (create_table schema [] def) CreateTable IsOther
  unfolding create_table creates
  made_or_refused = rw (named, defined, fits, plain) (by_tests (is_attached schema def.name) (is_some (index_named schema def.name)) (is_some (option_or (table_named schema def.name) (view_named schema def.name))))

-- the parts of a text's parse
abbrev parsed_in : Checked Parsed → Parsed
parsed_in (Ok p) = p
parsed_in (Err e) = record { statement = written.Empty; names = []; formats = []; start = 0; end = 0; tail = 0 }

abbrev definition_in : Statement → Definition
definition_in (written.CreateTable def) = def
definition_in _ = record { if_missing = false; name = []; body = record { columns = []; rules = [] }; is_strict = false; resolves = false }

-- The text makes this table.
pub record MakesTable (text : List ℕ) (table : Table) : Type 0 where
  pub p : Parsed
  pub def : Definition
  pub parses : first text ≡ Ok p
  pub is : p.statement ≡ written.CreateTable def
  pub untimed : p.formats ≡ []
  pub whole : slice_range text p.start p.end ≡ text
  pub named : is_reserved def.name ≡ false
  pub plain : def.if_missing ≡ false
  pub fits : (length table.computed == length table.stamps.places && not def.resolves) ≡ true
  pub defined : define.table [] def ≡ Ok table
  pub makes : table_defined_by text ≡ Ok table

with_made : (p : Parsed) (made : Command) (r : Checked Command) → Makes r made IsOther
    → Makes (and_then (and_then (and_then {A = Command} r (λ c. Ok (c, None))) (λ found. Ok ([], found))) (λ plan. Ok (with_command p plan))) (with_command p ([], (made, None))) IsOther
with_made p made (Ok c) is = rw is refl
with_made p made (Err e) other = other

module _ (schema : Schema) (text : List ℕ) (made : Compiled) (makes : Makes (compiled schema text) made IsOther) where
  understood_made : (other r : Checked Compiled) (c : Compiled) → Makes r made IsOther → cond (misses_table r) other r ≡ Ok c → c ≡ made
  understood_made other (Ok a) c is same = (let back : a ≡ c = cc in sym back) ∙ is
  understood_made other (Err NoSuchTable) c is same = absurd is
  understood_made other (Err e) c is same = absurd (cc)

  -- where the text is understood, it is this command
  makes_it : (c : Compiled) → understood schema text ≡ Ok c → c ≡ made
  unfolding understood
  makes_it c is = understood_made _ (compiled schema text) c makes is

  -- so it is where it ran
  runs_it : (params : Row) (old new : State) (count : ℕ) → old.now.schema ≡ schema → Executes text params old new (Ok count) → understood schema text ≡ Ok made
  unfolding ExecutesIn
  runs_it params old new count has h = let known : understood schema text ≡ Ok h.0 = ap (λ s. understood s text) (sym has) ∙ h.1.is in known ∙ ap Ok (makes_it h.0 known)

module _ (schema : Schema) (text : List ℕ) (table : Table) (m : MakesTable text table) where
  makes_compiled : Makes (compiled schema text) (with_command m.p ([], (CreateTable, None))) IsOther
  unfolding compiled planned timed meaning returning command
  makes_compiled = rw (m.parses, m.is, m.untimed) (with_made m.p CreateTable (create_table schema [] m.def) (made_or_refused schema m.def table m.named m.plain m.fits m.defined))

  pub runs_made : (params : Row) (old new : State) (count : ℕ) → old.now.schema ≡ schema → Executes text params old new (Ok count) → understood schema text ≡ Ok (with_command m.p ([], (CreateTable, None)))
  runs_made params old new count has h = runs_it schema text (with_command m.p ([], (CreateTable, None))) makes_compiled params old new count has h

-- ---- DROP TABLE, which drops the table or is refused.

abbrev drop_parsed : Parsed
drop_parsed = record { statement = written.DropTable false (codes "executed"); names = []; formats = []; start = 0; end = 19; tail = 19 }

drop_parses : first drop_executed_text ≡ Ok drop_parsed
unfolding everything
drop_parses = refl

module _ (schema : Schema) (at : ℕ) (there : table_named schema (codes "executed") ≡ Some at) where
  by_view : (taken : Bool) → Makes {A = Command} (cond taken (Err Misuse) (Ok (DropTable at))) (DropTable at) IsOther
  by_view true = tt
  by_view false = refl

  dropped_or_refused : Makes (drop_table schema false (codes "executed")) (DropTable at) IsOther
  unfolding drop_table is_reserved same_name
  dropped_or_refused = rw there (by_view (is_some (view_named schema (codes "executed"))))

  drops_compiled : Makes (compiled schema drop_executed_text) (with_command drop_parsed ([], (DropTable at, None))) IsOther
  unfolding compiled planned timed meaning returning command
  drops_compiled = rw drop_parses (with_made drop_parsed (DropTable at) (drop_table schema false (codes "executed")) dropped_or_refused)

  pub runs_dropped : (old new : State) (count : ℕ) → old.now.schema ≡ schema → Executes drop_executed_text [] old new (Ok count) → understood schema drop_executed_text ≡ Ok (with_command drop_parsed ([], (DropTable at, None)))
  runs_dropped old new count has h = runs_it schema drop_executed_text (with_command drop_parsed ([], (DropTable at, None))) drops_compiled [] old new count has h

-- ---- The tables of the store.

-- What is asked of a text is asked of its parse.
module _ (text : List ℕ) (table : Table) where
  abbrev p : Parsed
  p = parsed_in (first text)

  abbrev def : Definition
  def = definition_in p.statement

  by_parse : first text ≡ Ok p → p.statement ≡ written.CreateTable def → p.formats ≡ [] → slice_range text p.start p.end ≡ text → is_reserved def.name ≡ false → def.if_missing ≡ false
      → (length table.computed == length table.stamps.places && not def.resolves) ≡ true → define.table [] def ≡ Ok table → table_defined_by text ≡ Ok table → MakesTable text table
  by_parse parses is untimed whole named plain fits defined makes = record {
    p = p;
    def = def;
    parses = parses;
    is = is;
    untimed = untimed;
    whole = whole;
    named = named;
    plain = plain;
    fits = fits;
    defined = defined;
    makes = makes;
  }

pub meta_makes : MakesTable meta_text meta
unfolding everything
meta_makes = by_parse meta_text meta refl refl refl refl refl refl refl refl refl

pub held_makes : MakesTable held_text held
unfolding everything
held_makes = by_parse held_text held refl refl refl refl refl refl refl refl refl

pub spans_makes : MakesTable spans_text spans
unfolding everything
spans_makes = by_parse spans_text spans refl refl refl refl refl refl refl refl refl

pub follow_makes : MakesTable follow_text follow
unfolding everything
follow_makes = by_parse follow_text follow refl refl refl refl refl refl refl refl refl

-- ---- Their first rows.

abbrev layout_values : List (List Expr)
layout_values = (e.Text (codes "layout") ∷ e.Integer (codes "2") ∷ []) ∷ []

abbrev layout_parsed : Parsed
layout_parsed = record { statement = written.Insert Abort (codes "meta") [] (rows.Values layout_values) [] []; names = []; formats = []; start = 0; end = 37; tail = 37 }

layout_parses : first layout_text ≡ Ok layout_parsed
unfolding everything
layout_parses = refl

abbrev name_values : List (List Expr)
name_values = (e.Parameter 1 ∷ e.Parameter 2 ∷ []) ∷ []

abbrev name_parsed : Parsed
name_parsed = record { statement = written.Insert Abort (codes "follow") [] (rows.Values name_values) [] []; names = codes "?1" ∷ codes "?2" ∷ []; formats = []; start = 0; end = 34; tail = 34 }

name_parses : first add_name_text ≡ Ok name_parsed
unfolding everything
name_parses = refl

module _ (schema : Schema) (at tree : ℕ) (f : IsFound schema at (record meta { tree = tree })) where
  layout_inserted : inserted schema (record meta { tree = tree }) 0 [] (rows.Values layout_values) ≡ Ok (new.Values layout_terms)
  unfolding everything
  layout_inserted = refl

  pub layout_means : Means schema layout_text (Insert at (Values layout_terms 3))
  layout_means =
      means schema layout_text layout_parsed _
      (compiled_insert schema (codes "meta") at (record meta { tree = tree }) f.by_name f.by_index layout_values layout_text layout_parsed 0 layout_terms layout_parses refl refl refl refl layout_inserted refl)

module _ (schema : Schema) (at tree : ℕ) (f : IsFound schema at (record follow { tree = tree })) where
  name_inserted : inserted schema (record follow { tree = tree }) 2 [] (rows.Values name_values) ≡ Ok (new.Values add_name_terms)
  unfolding everything
  name_inserted = refl

  pub add_name_means : Means schema add_name_text (Insert at (Values add_name_terms 3))
  add_name_means =
      means schema add_name_text name_parsed _
      (compiled_insert schema (codes "follow") at (record follow { tree = tree }) f.by_name f.by_index name_values add_name_text name_parsed 2 add_name_terms name_parses refl refl refl refl name_inserted refl)
