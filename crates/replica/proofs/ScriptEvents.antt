-- The events of scripts, as a replica reads them that follows some tables, and the transactions in them.
use Rattle.replica.proofs.Names.{◌≡◌, ℕ, Bool, true, false, not, List, [], ◌∷◌, ◌++◌, map, flat_map, refl, sym, ap, subst, ◌∙◌, inl, inr, Option, Some, None, map-append, AllByRecursion, Names, is_read, TableValue, EventValue, ChangeValue, AreDeliveries, PartValue, ScriptValue, CanSend, events_of, transaction, transactions}
use Rattle.std.proofs.Common.{filter, if◌then◌else◌}
use Rattle.std.proofs.lemmas.Bool.{eq-eqb}
use Rattle.std.proofs.lemmas.List.Elements.{filter-append}
use Rattle.std.specs.Option.{option_or}
use Rattle.binlog.specs.Event.{format, begin, commit, neutral, stop, rotate, gtid, table_map, other_map, rows, xid}
use Rattle.binlog.proofs.RowBytes.{are_written, they_fit}
use Rattle.gather.specs.Transaction.{is_neutral, is_end, said_of, map_of, change_of, AreRowChanges, AreChangesOf, AreChanges, IsBlock, AreBlocks}
use Rattle.gather.proofs.Maps.{map_of_more}
use Rattle.scripted_source.specs.declared.script.Ending.{Ending}
use Rattle.scripted_source.specs.declared.script.Ending.TheVariants.{Xid, Commit}
use Rattle.scripted_source.specs.Script.{part_events, rows_of, end_event, script_events}
use Rattle.scripted_source.specs.Source.{FitsPart, CanSendPart}
use Rattle.replica.specs.Resume.{part_changes}

-- ---- What is read of an event.

abbrev pub map_seen : Bool → TableValue → EventValue
map_seen followed t = if followed then table_map t else other_map t.id

abbrev pub seen : Names → EventValue → EventValue
seen names format = format
seen names begin = begin
seen names commit = commit
seen names neutral = neutral
seen names stop = stop
seen names (rotate position name) = rotate position name
seen names (gtid source number) = gtid source number
seen names (table_map t) = map_seen (is_read names t.schema t.table) t
seen names (other_map id) = other_map id
seen names (rows r) = rows r
seen names (xid number) = xid number

abbrev pub seen_part : Names → PartValue → List EventValue
seen_part names part = seen names (table_map part.table) ∷ rows (rows_of part) ∷ []

abbrev pub seen_script : Names → ScriptValue → List EventValue
seen_script names script = gtid script.source script.number ∷ begin ∷ (flat_map (seen_part names) script.parts ++ end_event script.ending script.number ∷ [])

abbrev pub seen_events : Names → List ScriptValue → List EventValue
seen_events names scripts = format ∷ flat_map (seen_script names) scripts

parts_seen : (names : Names) (parts : List PartValue) → map (seen names) (flat_map part_events parts) ≡ flat_map (seen_part names) parts
parts_seen names [] = refl
parts_seen names (part ∷ parts) = ap (λ l. seen names (table_map part.table) ∷ rows (rows_of part) ∷ l) (parts_seen names parts)

end_seen : (names : Names) (ending : Ending) (number : ℕ) → seen names (end_event ending number) ≡ end_event ending number
end_seen names Xid number = refl
end_seen names Commit number = refl

script_seen : (names : Names) (script : ScriptValue) → map (seen names) (script_events script) ≡ seen_script names script
script_seen names script =
    let parts = flat_map part_events script.parts in
    let end = end_event script.ending script.number in
    ap (λ l. gtid script.source script.number ∷ begin ∷ l)
    (map-append (seen names) parts (end ∷ []) ∙ ap (λ l. l ++ seen names end ∷ []) (parts_seen names script.parts) ∙ ap (λ e. flat_map (seen_part names) script.parts ++ e ∷ []) (end_seen names script.ending script.number))

scripts_seen : (names : Names) (scripts : List ScriptValue) → map (seen names) (flat_map script_events scripts) ≡ flat_map (seen_script names) scripts
scripts_seen names [] = refl
scripts_seen names (script ∷ scripts) =
    map-append (seen names) (script_events script) (flat_map script_events scripts) ∙ ap (λ l. l ++ map (seen names) (flat_map script_events scripts)) (script_seen names script)
    ∙ ap (λ l. seen_script names script ++ l) (scripts_seen names scripts)

pub events_seen : (names : Names) (scripts : List ScriptValue) → map (seen names) (events_of scripts) ≡ seen_events names scripts
events_seen names scripts = ap (λ l. format ∷ l) (scripts_seen names scripts)

-- ---- Changes.

no_changes : (before : List EventValue) (followed : Bool) (t : TableValue) → AreChangesOf before (map_seen followed t) []
no_changes before true t = refl
no_changes before false t = refl

abbrev said : Bool → TableValue → Option TableValue
said followed t = if followed then Some t else None

says : (followed : Bool) (t : TableValue) → said_of t.id (map_seen followed t) ≡ Some (said followed t)
says true t = rw (eq-eqb t.id t.id refl) refl
says false t = rw (eq-eqb t.id t.id refl) refl

last_says : (before : List EventValue) (followed : Bool) (t : TableValue) → map_of (before ++ map_seen followed t ∷ []) t.id ≡ Some (said followed t)
last_says before followed t = map_of_more before (map_seen followed t) t.id ∙ ap (λ s. option_or s (map_of before t.id)) (says followed t)

abbrev changes_by : Bool → PartValue → List ChangeValue
changes_by followed part = if followed then map (change_of part.table) part.pairs else []

row_changes : (followed : Bool) (part : PartValue) → FitsPart part → AreRowChanges (said followed part.table) (rows_of part) (changes_by followed part)
row_changes true part fits = (
  part.pairs,
  record { columns = refl; rows_are = are_written part.kind part.table.columns part.pairs (they_fit part.kind part.table.columns part.pairs fits.rows.bytes fits.rows.are_rows) },
  refl,
)
row_changes false part fits = refl

are_changes : (names : Names) (before : List EventValue) (parts : List PartValue) → AllByRecursion CanSendPart parts → AreChanges before (flat_map (seen_part names) parts) (flat_map (part_changes names) parts)
are_changes names before [] can = refl
are_changes names before (part ∷ parts) can =
    let f = is_read names part.table.schema part.table.table in
    let map_event = map_seen f part.table in
    let after = before ++ map_event ∷ [] in (
      [],
      flat_map (part_changes names) (part ∷ parts),
      no_changes before f part.table,
      refl,
      (
        part_changes names part,
        flat_map (part_changes names) parts,
        (said f part.table, last_says before f part.table, row_changes f part can.0.fits),
        refl,
        are_changes names (after ++ rows (rows_of part) ∷ []) parts can.1,
      ),
    )

-- ---- Blocks.

ends : (ending : Ending) (number : ℕ) → is_end (end_event ending number) ≡ true
ends Xid number = refl
ends Commit number = refl

script_block : (names : Names) (script : ScriptValue) → CanSend script → IsBlock (seen_script names script) (transaction names script ∷ [])
script_block names script can = inr (
  transaction names script,
  record {
    body = flat_map (seen_part names) script.parts;
    last = end_event script.ending script.number;
    block_is = refl;
    are_changes = are_changes names [] script.parts can.parts;
    ends = ends script.ending script.number;
  },
  refl,
)

script_blocks : (names : Names) (scripts : List ScriptValue) → AllByRecursion CanSend scripts → AreBlocks (map (seen_script names) scripts) (transactions names scripts)
script_blocks names [] can = refl
script_blocks names (script ∷ scripts) can = (transaction names script ∷ [], transactions names scripts, script_block names script can.0, refl, script_blocks names scripts can.1)

-- ---- None of them is neutral.

abbrev counts : EventValue → Bool
counts e = not (is_neutral e)

map_counts : (followed : Bool) (t : TableValue) (events : List EventValue) → filter counts (map_seen followed t ∷ events) ≡ map_seen followed t ∷ filter counts events
map_counts true t events = refl
map_counts false t events = refl

parts_count : (names : Names) (parts : List PartValue) → filter counts (flat_map (seen_part names) parts) ≡ flat_map (seen_part names) parts
parts_count names [] = refl
parts_count names (part ∷ parts) =
    let f = is_read names part.table.schema part.table.table in
    map_counts f part.table (rows (rows_of part) ∷ flat_map (seen_part names) parts) ∙ ap (λ l. map_seen f part.table ∷ rows (rows_of part) ∷ l) (parts_count names parts)

end_counts : (ending : Ending) (number : ℕ) → filter counts (end_event ending number ∷ []) ≡ end_event ending number ∷ []
end_counts Xid number = refl
end_counts Commit number = refl

script_counts : (names : Names) (script : ScriptValue) → filter counts (seen_script names script) ≡ seen_script names script
script_counts names script =
    let parts = flat_map (seen_part names) script.parts in
    let end = end_event script.ending script.number in
    ap (λ l. gtid script.source script.number ∷ begin ∷ l)
    (filter-append counts parts (end ∷ []) ∙ ap (λ l. l ++ filter counts (end ∷ [])) (parts_count names script.parts) ∙ ap (λ l. parts ++ l) (end_counts script.ending script.number))

scripts_count : (names : Names) (scripts : List ScriptValue) → filter counts (flat_map (seen_script names) scripts) ≡ flat_map (λ (block : List EventValue). block) (map (seen_script names) scripts)
scripts_count names [] = refl
scripts_count names (script ∷ scripts) =
    filter-append counts (seen_script names script) (flat_map (seen_script names) scripts) ∙ ap (λ l. l ++ filter counts (flat_map (seen_script names) scripts)) (script_counts names script)
    ∙ ap (λ l. seen_script names script ++ l) (scripts_count names scripts)

-- the transactions of the events are the scripted ones
pub delivers : (names : Names) (scripts : List ScriptValue) → AllByRecursion CanSend scripts → AreDeliveries (map (seen names) (events_of scripts)) (transactions names scripts)
delivers names scripts can = subst (λ l. AreDeliveries l (transactions names scripts)) (sym (events_seen names scripts)) (record {
  blocks = (format ∷ []) ∷ map (seen_script names) scripts;
  cut = ap (λ l. format ∷ l) (scripts_count names scripts);
  each = ([], transactions names scripts, inl (inl (record { event = format; marks = refl; block_is = refl }), refl), refl, script_blocks names scripts can);
  format_first = refl;
})
