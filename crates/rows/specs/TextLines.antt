-- The rows of a database as lines of text.
use Rattle.std.specs.Prelude.{◌≡◌, ℕ, Bool, true, List, [], Option, Result, Ok, Err, MatchBool, flat_map, if◌then◌else◌}
use Rattle.std.specs.Io.KnownBytes.{Appends}
use Rattle.gtid.specs.Identifier.{Ids}
use Rattle.binlog.specs.Filter.{Names, admits}
use Rattle.store.specs.State.{Bag}
use Rattle.store.specs.Listing.{Entry, ListsBag}
use Rattle.rows.specs.RowText.{row_text}
use Rattle.rows.specs.declared.text_rows.TextRows.{TextRows}

-- The output, whose contents are these, has one line more after what it had if the table of the row is asked for, and is as it was
-- if not.
abbrev pub WritesLine : {W E : Type 0} → (W → Option (List ℕ)) → TextRows W → Entry → Result (Unit {0}) E → TextRows W → Type 0
WritesLine contents old e (Ok u) new =
    (new.chosen.tables ≡ old.chosen.tables)
    × MatchBool (admits old.chosen.tables e.0.schema e.0.table)
    (Appends (contents old.out.now) (contents new.out.now) (row_text e.0.schema e.0.table e.1 e.0.cells))
    (new.out.now ≡ old.out.now)
WritesLine contents old e (Err cause) new = Unit {0}

-- All rows are asked for, and nothing was written.
abbrev pub AsksForRows : {W E : Type 0} → TextRows W → Ids → Names → Result Bool E → TextRows W → Type 0
AsksForRows old executed names (Ok asks) new = (asks ≡ true) × (new ≡ old)
AsksForRows old executed names (Err cause) new = ⊥

-- the lines of the rows of a list whose tables are asked for
abbrev pub row_lines : Names → List Entry → List ℕ
row_lines names entries = flat_map (λ (e : Entry). if admits names e.0.schema e.0.table then row_text e.0.schema e.0.table e.1 e.0.cells else []) entries

-- The output has the lines of all rows of the bag after what it had: of each row that is asked for one, in order.
pub record HasLines {W : Type 0} (contents : W → Option (List ℕ)) (bag : Bag) (old new : TextRows W) : Type 0 where
  pub entries : List Entry
  pub lists : ListsBag bag entries
  pub lines : Appends (contents old.out.now) (contents new.out.now) (row_lines old.chosen.tables entries)
