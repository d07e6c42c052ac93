-- The next event of a lawful list that was read: it is lawful or has a fault.
use Rattle.gather.proofs.Names.{◌≡◌, ◌⊎◌, ℕ, ◌+◌, ◌<◌, true, false, ◌||◌, List, [], ◌∷◌, ◌++◌, length, map, fold, Option, Some, None, refl, ap, sym, ◌∙◌, subst, ⊎_elim, inl, inr, true≢false, or-false, AllByRecursion, list_any, list_any-append, cases_Bool, cases_eq, little_bytes, TableValue, RowsValue, EventValue, format, commit, neutral, stop, rotate, gtid, table_map, other_map, xid, ChangeValue, DeliveryValue, is_neutral, is_mark, is_end, map_of, change_of, AreChangesOf, IsAnnounced, IsOpen, IsWhole, IsBlock, AreBlocks, is_format_first, AreDeliveries, is_gtid, has_format, add_event, last_block, is_open, IsRowsFault, GatherFault}
use Rattle.std.proofs.Math.Bool.{or-true}
use Rattle.binlog.specs.Rows.{AreItemsAt, items_of}
use Rattle.binlog.specs.Event.{begin, rows}
use Rattle.binlog.specs.declared.fault.EventFaultKind.TheVariants.{Columns, Truncated}
use Rattle.wire.proofs.Cuts.{IsBytes-all}
use Rattle.binlog.proofs.RowsItems.{whole_or_early, one_end, some_items}
use Rattle.gather.specs.Transaction.{AreRowChanges, IsLawful}
use Rattle.gather.specs.Fault.{is_format, is_announced, is_of_transaction, is_in_place, type_of, IsFault, no_format, misplaced, unread, HasFault, IsFromBytes}
use Rattle.gather.specs.declared.fault.GatherFault.TheVariants.{NoFormat, Misplaced, UnknownTable, Event}
use Rattle.gather.proofs.Maps.{changes_more}
use Rattle.gather.proofs.LongerLists.{counted, joined, counts_no_more, format_more, first_more, first_after, split, last_is, skips}
use Rattle.gather.proofs.States.{open_block, map_of_body}
use Rattle.gather.proofs.OneMoreEvent.{whole_closed, new_block, longer, Continues, continues}
use Rattle.gather.proofs.ShorterLists.{Back, passes, marks, announces, starts, goes_on, ends, back}
use Rattle.gather.proofs.OneList.{many_columns}

-- ---- Rows events that were read.

all_after : (front rest : List ℕ) → AllByRecursion (λ b. b < 256) (front ++ rest) → AllByRecursion (λ b. b < 256) rest
all_after [] rest all = all
all_after (b ∷ front) rest all = all_after front rest all.1

-- the rows are bytes
fitting : (r : RowsValue) → IsFromBytes (rows r) → AllByRecursion (λ b. b < 256) r.bytes
fitting r is =
    let f = is.is_event.framed in
    let h = is.is_event.has_body.1 in
    let whole = subst (AllByRecursion (λ b. b < 256)) f.bytes_are is.fits in
    let after_flags = all_after _ (f.low_flags ∷ f.high_flags ∷ is.is_event.body) whole in
    let body = subst (AllByRecursion (λ b. b < 256)) h.body_is after_flags.1.1 in
    all_after (little_bytes 6 r.id ++ h.flags ++ little_bytes 2 (2 + length h.extra) ++ h.extra ++ h.count ++ h.present) r.bytes body

-- ---- Blocks that are announced or open.

one_closed : (e : EventValue) → is_open (e ∷ []) ≡ false
one_closed (gtid source number) = refl
one_closed _ = refl

opened : (block : List EventValue) (own : List DeliveryValue) → IsBlock block own → is_open block ≡ true → IsOpen block
opened block own (inl plain) there =
    ⊎_elim
    (λ mark. absurd (true≢false (sym there ∙ ap is_open mark.block_is ∙ one_closed mark.event)))
    (λ current. ⊎_elim (λ a. absurd (true≢false (sym there ∙ ap is_open a.block_is))) (λ o. o) current)
    plain.0
opened block own (inr whole) there = absurd (true≢false (sym there ∙ (whole_closed block whole.0 whole.1).1))

opened_blocks : (events : List EventValue) (blocks : List (List EventValue)) (ds : List DeliveryValue) → counted events ≡ joined blocks → AreBlocks blocks ds → is_open (last_block events) ≡ true → IsOpen (last_block events)
opened_blocks events [] ds cut are there = let last : last_block events ≡ [] = skips [] events ∙ ap (fold add_event []) cut in absurd (true≢false (sym there ∙ ap is_open last))
opened_blocks events (x ∷ blocks) ds cut are there =
    let s = split x blocks ds are in
    let last : last_block events ≡ s.block = last_is events s.front s.block s.own (cut ∙ ap joined s.blocks_are) s.is_block in
    subst IsOpen (sym last) (opened s.block s.own s.is_block (sym (ap is_open last) ∙ there))

announced : (block : List EventValue) → is_announced block ≡ true → IsAnnounced block
announced (gtid source number ∷ []) there = record { source = source; number = number; block_is = refl }
announced _ there = absurd cc

-- ---- A lawful one.

abbrev pub Next : List EventValue → EventValue → Type 0
Next events e = IsLawful (events ++ e ∷ []) ⊎ HasFault events e

passed : (events : List EventValue) → IsLawful events → IsLawful (events ++ neutral ∷ [])
passed events lawful =
    let are = lawful.are in
    record { deliveries = lawful.deliveries; are = record { blocks = are.blocks; cut = counts_no_more events ∙ are.cut; each = are.each; format_first = first_more events neutral refl are.format_first } }

stands : (events : List EventValue) (e : EventValue) → is_neutral e ≡ false → is_gtid e ≡ false → is_mark e ≡ true → IsLawful events → IsLawful (events ++ e ∷ [])
stands events e counts no_gtid is lawful =
    record { deliveries = _; are = new_block events lawful.deliveries e lawful.are counts (first_more events e no_gtid lawful.are.format_first) (inl (inl (record { event = e; marks = is; block_is = refl }), refl)) }

first_of_transaction : (events : List EventValue) (source : List ℕ) (number : ℕ) → has_format events ≡ true → IsLawful events → IsLawful (events ++ gtid source number ∷ [])
first_of_transaction events source number has lawful =
    let e = gtid source number in
    record {
      deliveries = _;
      are = new_block events lawful.deliveries e lawful.are refl (first_after events e has lawful.are.format_first) (inl (inr (inl (record { source = source; number = number; block_is = refl })), refl));
    }

current : (events : List EventValue) → is_announced (last_block events) ≡ true → IsLawful events → IsLawful (events ++ begin ∷ [])
current events there lawful =
    let a = announced (last_block events) there in
    let o : IsOpen (last_block events ++ begin ∷ []) = record { source = a.source; number = a.number; body = []; changes = []; block_is = ap (λ b. b ++ begin ∷ []) a.block_is; are_changes = refl } in
    record { deliveries = _; are = longer events lawful.deliveries begin [] lawful.are refl (first_more events begin refl lawful.are.format_first) (inl a) (inl (inr (inr o), refl)) }

gone_on : (events : List EventValue) (e : EventValue) (own : List ChangeValue) → Continues e → (o : IsOpen (last_block events)) → AreChangesOf o.body e own → IsLawful events → IsLawful (events ++ e ∷ [])
gone_on events e own k o of lawful =
    let after : IsOpen (last_block events ++ e ∷ []) =
    record { source = o.source; number = o.number; body = o.body ++ e ∷ []; changes = o.changes ++ own; block_is = ap (λ b. b ++ e ∷ []) o.block_is; are_changes = changes_more [] o.body e o.changes own o.are_changes of } in
    record { deliveries = _; are = longer events lawful.deliveries e [] lawful.are k.counts (first_more events e k.no_gtid lawful.are.format_first) (inr o) (inl (inr (inr after), refl)) }

closed : (events : List EventValue) (e : EventValue) → Continues e → is_end e ≡ true → IsOpen (last_block events) → IsLawful events → IsLawful (events ++ e ∷ [])
closed events e k is o lawful =
    let d : DeliveryValue = record { source = o.source; number = o.number; changes = o.changes } in
    let whole : IsWhole (last_block events ++ e ∷ []) d = record { body = o.body; last = e; block_is = ap (λ b. b ++ e ∷ []) o.block_is; are_changes = o.are_changes; ends = is } in
    record { deliveries = _; are = longer events lawful.deliveries e (d ∷ []) lawful.are k.counts (first_more events e k.no_gtid lawful.are.format_first) (inr o) (inr (d, whole, refl)) }

-- ---- A rows event.

-- it has changes or a fault, depending on what is known of its table
abbrev pub RowsNext : List EventValue → RowsValue → Option (Option TableValue) → Type 0
RowsNext body r m = ((own : List ChangeValue) × AreChangesOf body (rows r) own) ⊎ ((fault : GatherFault) × IsRowsFault m r fault)

by_items : (body : List EventValue) (r : RowsValue) (t : TableValue) → map_of body r.id ≡ Some (Some t) → length t.columns ≡ r.columns → AreItemsAt r.kind t.columns r.bytes 0 (items_of (length r.bytes) r.kind t.columns r.bytes 0) →
    RowsNext body r (Some (Some t))
by_items body r t is columns (inl whole) = inl (map (change_of t) whole.0, (Some t, is, (whole.0, record { columns = columns; rows_are = whole.1 }, refl)))
by_items body r t is columns (inr early) =
    inr (Event (record { kind = Truncated; at = r.bytes_at + early.1 }), inr (columns, early.0, early.1, early.2, refl))

rows_next : (body : List EventValue) (r : RowsValue) (m : Option (Option TableValue)) → map_of body r.id ≡ m → IsFromBytes (rows r) → RowsNext body r m
rows_next body r None is read = inr (UnknownTable r.id, refl)
rows_next body r (Some None) is read = inl ([], (None, is, refl))
rows_next body r (Some (Some t)) is read =
    ⊎_elim
    (λ columns. by_items body r t is columns (some_items r.kind t.columns r.bytes 0 (IsBytes-all r.bytes (fitting r read)) (many_columns t r read columns)))
    (λ other. inr (Event (record { kind = Columns; at = r.columns_at }), inl (other, refl)))
    (cases_eq (length t.columns) r.columns)

-- ---- Lawful, or a fault.

rows_after : (events : List EventValue) (r : RowsValue) → IsFromBytes (rows r) → IsLawful events → has_format events ≡ true → is_open (last_block events) ≡ true → IsOpen (last_block events) → Next events (rows r)
rows_after events r read lawful has there o =
    let same : map_of (last_block events) r.id ≡ map_of o.body r.id = ap (λ b. map_of b r.id) o.block_is ∙ map_of_body o.source o.number o.body r.id in
    ⊎_elim
    (λ taken. inl (gone_on events (rows r) taken.0 (continues (rows r) refl refl) o taken.1 lawful))
    (λ broken. inr (record { fault = broken.0; is_fault = unread r refl has there broken.1 }))
    (rows_next o.body r (map_of (last_block events) r.id) (sym same) read)

open_at : (events : List EventValue) → IsLawful events → is_open (last_block events) ≡ true → IsOpen (last_block events)
open_at events lawful there = opened_blocks events lawful.are.blocks lawful.deliveries lawful.are.cut lawful.are.each there

in_its_place : (events : List EventValue) (e : EventValue) → IsFromBytes e → IsLawful events → has_format events ≡ true → is_in_place (last_block events) e ≡ true → Next events e
in_its_place events neutral read lawful has there = inl (passed events lawful)
in_its_place events format read lawful has there = inl (stands events format refl refl refl lawful)
in_its_place events stop read lawful has there = inl (stands events stop refl refl refl lawful)
in_its_place events (rotate position name) read lawful has there = inl (stands events (rotate position name) refl refl refl lawful)
in_its_place events (gtid source number) read lawful has there = inl (first_of_transaction events source number has lawful)
in_its_place events begin read lawful has there = inl (current events there lawful)
in_its_place events commit read lawful has there = inl (closed events commit (continues commit refl refl) refl (open_at events lawful there) lawful)
in_its_place events (xid number) read lawful has there = inl (closed events (xid number) (continues (xid number) refl refl) refl (open_at events lawful there) lawful)
in_its_place events (table_map t) read lawful has there = inl (gone_on events (table_map t) [] (continues (table_map t) refl refl) (open_at events lawful there) refl lawful)
in_its_place events (other_map id) read lawful has there = inl (gone_on events (other_map id) [] (continues (other_map id) refl refl) (open_at events lawful there) refl lawful)
in_its_place events (rows r) read lawful has there = rows_after events r read lawful has there (open_at events lawful there)

of_transaction : (events : List EventValue) (e : EventValue) → IsFromBytes e → IsLawful events → is_of_transaction e ≡ true → Next events e
of_transaction events e read lawful of =
    ⊎_elim
    (λ has. ⊎_elim
    (λ there. in_its_place events e read lawful has there)
    (λ no. inr (record { fault = Misplaced (type_of e); is_fault = misplaced has no refl }))
    (cases_Bool (is_in_place (last_block events) e)))
    (λ none. inr (record { fault = NoFormat; is_fault = no_format of none refl }))
    (cases_Bool (has_format events))

pub some : (events : List EventValue) (e : EventValue) → IsFromBytes e → IsLawful events → Next events e
some events neutral read lawful = inl (passed events lawful)
some events format read lawful = inl (stands events format refl refl refl lawful)
some events stop read lawful = inl (stands events stop refl refl refl lawful)
some events (rotate position name) read lawful = inl (stands events (rotate position name) refl refl refl lawful)
some events (gtid source number) read lawful = of_transaction events (gtid source number) read lawful refl
some events begin read lawful = of_transaction events begin read lawful refl
some events commit read lawful = of_transaction events commit read lawful refl
some events (xid number) read lawful = of_transaction events (xid number) read lawful refl
some events (table_map t) read lawful = of_transaction events (table_map t) read lawful refl
some events (other_map id) read lawful = of_transaction events (other_map id) read lawful refl
some events (rows r) read lawful = of_transaction events (rows r) read lawful refl

-- ---- A lawful event comes after a format description, and is in its place.

-- format descriptions come before GTIDs
gtid_after : (events : List EventValue) → list_any is_gtid events ≡ true → is_format_first events ≡ true → has_format events ≡ true
gtid_after [] has first = absurd cc
gtid_after (format ∷ events) has first = refl
gtid_after (begin ∷ events) has first = gtid_after events has first
gtid_after (commit ∷ events) has first = gtid_after events has first
gtid_after (neutral ∷ events) has first = gtid_after events has first
gtid_after (stop ∷ events) has first = gtid_after events has first
gtid_after ((rotate position name) ∷ events) has first = gtid_after events has first
gtid_after ((gtid source number) ∷ events) has first = absurd cc
gtid_after ((table_map t) ∷ events) has first = gtid_after events has first
gtid_after ((other_map id) ∷ events) has first = gtid_after events has first
gtid_after ((rows r) ∷ events) has first = gtid_after events has first
gtid_after ((xid number) ∷ events) has first = gtid_after events has first

pushed : (block : List EventValue) (e : EventValue) → is_gtid e ≡ false → list_any is_gtid (block ++ e ∷ []) ≡ list_any is_gtid block
pushed block e other = list_any-append is_gtid block (e ∷ []) ∙ ap (λ b. list_any is_gtid block || (b || false)) other ∙ or-false (list_any is_gtid block)

-- a GTID of the last block is one of the events
gtid_within : (block events : List EventValue) → list_any is_gtid (fold add_event block events) ≡ true → (list_any is_gtid block ≡ true) ⊎ (list_any is_gtid events ≡ true)
gtid_within block [] has = inl has
gtid_within block (neutral ∷ events) has = gtid_within block events has
gtid_within block (gtid source number ∷ events) has = inr refl
gtid_within block (format ∷ events) has = inr (⊎_elim (λ h. absurd (true≢false (sym h))) (λ h. h) (gtid_within (format ∷ []) events has))
gtid_within block (stop ∷ events) has = inr (⊎_elim (λ h. absurd (true≢false (sym h))) (λ h. h) (gtid_within (stop ∷ []) events has))
gtid_within block (rotate position name ∷ events) has = inr (⊎_elim (λ h. absurd (true≢false (sym h))) (λ h. h) (gtid_within (rotate position name ∷ []) events has))
gtid_within block (begin ∷ events) has = ⊎_elim (λ h. inl (sym (pushed block begin refl) ∙ h)) inr (gtid_within (block ++ begin ∷ []) events has)
gtid_within block (commit ∷ events) has = ⊎_elim (λ h. inl (sym (pushed block commit refl) ∙ h)) inr (gtid_within (block ++ commit ∷ []) events has)
gtid_within block (table_map t ∷ events) has = ⊎_elim (λ h. inl (sym (pushed block (table_map t) refl) ∙ h)) inr (gtid_within (block ++ table_map t ∷ []) events has)
gtid_within block (other_map id ∷ events) has = ⊎_elim (λ h. inl (sym (pushed block (other_map id) refl) ∙ h)) inr (gtid_within (block ++ other_map id ∷ []) events has)
gtid_within block (rows r ∷ events) has = ⊎_elim (λ h. inl (sym (pushed block (rows r) refl) ∙ h)) inr (gtid_within (block ++ rows r ∷ []) events has)
gtid_within block (xid number ∷ events) has = ⊎_elim (λ h. inl (sym (pushed block (xid number) refl) ∙ h)) inr (gtid_within (block ++ xid number ∷ []) events has)

after_last : (events : List EventValue) (ds : List DeliveryValue) → AreDeliveries events ds → list_any is_gtid (last_block events) ≡ true → has_format events ≡ true
after_last events ds are has = gtid_after events (⊎_elim (λ h. absurd (true≢false (sym h))) (λ h. h) (gtid_within [] events has)) are.format_first

after_open : (events : List EventValue) (ds : List DeliveryValue) → AreDeliveries events ds → IsOpen (last_block events) → has_format events ≡ true
after_open events ds are o = after_last events ds are (ap (list_any is_gtid) o.block_is)

no_format_gtid : (e : EventValue) → is_gtid e ≡ true → is_format e ≡ false
no_format_gtid format is = absurd cc
no_format_gtid _ is = refl

after_gtid : (events : List EventValue) (e : EventValue) → is_gtid e ≡ true → is_format_first (events ++ e ∷ []) ≡ true → has_format events ≡ true
after_gtid events e is first =
    let has : list_any is_gtid (events ++ e ∷ []) ≡ true = list_any-append is_gtid events (e ∷ []) ∙ ap (λ b. list_any is_gtid events || (b || false)) is ∙ or-true (list_any is_gtid events) in
    sym (format_more events e ∙ ap (λ b. has_format events || b) (no_format_gtid e is) ∙ or-false (has_format events)) ∙ gtid_after (events ++ e ∷ []) has first

not_neutral : (e : EventValue) → is_neutral e ≡ true → is_of_transaction e ≡ false
not_neutral neutral is = refl
not_neutral _ is = absurd cc

not_mark : (e : EventValue) → is_mark e ≡ true → is_of_transaction e ≡ false
not_mark format is = refl
not_mark stop is = refl
not_mark (rotate position name) is = refl
not_mark _ is = absurd cc

formatted : (events : List EventValue) (e : EventValue) (ds : List DeliveryValue) → Back events e ds → is_format_first (events ++ e ∷ []) ≡ true → is_of_transaction e ≡ true → has_format events ≡ true
formatted events e ds (passes is are) first of = absurd (true≢false (sym of ∙ not_neutral e is))
formatted events e ds (marks is are) first of = absurd (true≢false (sym of ∙ not_mark e is))
formatted events e ds (announces is are) first of = after_gtid events e is first
formatted events e ds (starts is a are) first of = after_last events ds are (ap (list_any is_gtid) a.block_is)
formatted events e ds (goes_on o own changes are) first of = after_open events ds are o
formatted events e ds (ends is o before all are) first of = after_open events before are o

-- ---- Places.

neutral_place : (block : List EventValue) (e : EventValue) → is_neutral e ≡ true → is_in_place block e ≡ true
neutral_place block neutral is = refl
neutral_place block _ is = absurd cc

mark_place : (block : List EventValue) (e : EventValue) → is_mark e ≡ true → is_in_place block e ≡ true
mark_place block format is = refl
mark_place block stop is = refl
mark_place block (rotate position name) is = refl
mark_place block _ is = absurd cc

gtid_place : (block : List EventValue) (e : EventValue) → is_gtid e ≡ true → is_in_place block e ≡ true
gtid_place block (gtid source number) is = refl
gtid_place block _ is = absurd cc

end_place : (block : List EventValue) (e : EventValue) → is_end e ≡ true → is_in_place block e ≡ is_open block
end_place block commit is = refl
end_place block (xid number) is = refl
end_place block _ is = absurd cc

changes_place : (block before : List EventValue) (e : EventValue) (own : List ChangeValue) → AreChangesOf before e own → is_in_place block e ≡ is_open block
changes_place block before (table_map t) own of = refl
changes_place block before (other_map id) own of = refl
changes_place block before (rows r) own of = refl
changes_place block before format own of = absurd of
changes_place block before begin own of = absurd of
changes_place block before commit own of = absurd of
changes_place block before neutral own of = absurd of
changes_place block before stop own of = absurd of
changes_place block before (rotate position name) own of = absurd of
changes_place block before (gtid source number) own of = absurd of
changes_place block before (xid number) own of = absurd of

is_open_there : (block : List EventValue) → IsOpen block → is_open block ≡ true
is_open_there block o = ap is_open o.block_is ∙ open_block o.source o.number o.body o.changes o.are_changes

placed : (events : List EventValue) (e : EventValue) (ds : List DeliveryValue) → Back events e ds → is_in_place (last_block events) e ≡ true
placed events e ds (passes is are) = neutral_place (last_block events) e is
placed events e ds (marks is are) = mark_place (last_block events) e is
placed events e ds (announces is are) = gtid_place (last_block events) e is
placed events e ds (starts is a are) = ap (is_in_place (last_block events)) is ∙ ap is_announced a.block_is
placed events e ds (goes_on o own of are) = changes_place (last_block events) o.body e own of ∙ is_open_there (last_block events) o
placed events e ds (ends is o before all are) = end_place (last_block events) e is ∙ is_open_there (last_block events) o

-- ---- Not both.

read_rows : (said : Option TableValue) (r : RowsValue) (own : List ChangeValue) (fault : GatherFault) → IsFromBytes (rows r) → AreRowChanges said r own → IsRowsFault (Some said) r fault → ⊥
read_rows None r own fault read are bad = bad
read_rows (Some t) r own fault read are (inl bad) = bad.0 are.1.columns
read_rows (Some t) r own fault read are (inr bad) = whole_or_early r.kind t.columns are.0 bad.1 r.bytes bad.2 (many_columns t r read bad.0) are.1.rows_are bad.3

rows_not_both : (events : List EventValue) (r : RowsValue) (ds : List DeliveryValue) (fault : GatherFault) → IsFromBytes (rows r) → Back events (rows r) ds → IsRowsFault (map_of (last_block events) r.id) r fault → ⊥
rows_not_both events r ds fault read (passes is are) bad = absurd cc
rows_not_both events r ds fault read (marks is are) bad = absurd cc
rows_not_both events r ds fault read (announces is are) bad = absurd cc
rows_not_both events r ds fault read (starts is a are) bad = absurd cc
rows_not_both events r ds fault read (ends is o before all are) bad = absurd cc
rows_not_both events r ds fault read (goes_on o own of are) bad =
    let said : map_of (last_block events) r.id ≡ Some of.0 = ap (λ b. map_of b r.id) o.block_is ∙ map_of_body o.source o.number o.body r.id ∙ of.1 in
    read_rows of.0 r own fault read of.2 (subst (λ m. IsRowsFault m r fault) said bad)

pub not_both : (events : List EventValue) (e : EventValue) (fault : GatherFault) → IsFromBytes e → IsLawful (events ++ e ∷ []) → IsFault events e fault → ⊥
not_both events e fault read lawful (no_format of none is) =
    absurd (true≢false (sym (formatted events e lawful.deliveries (back events e lawful.deliveries lawful.are) lawful.are.format_first of) ∙ none))
not_both events e fault read lawful (misplaced has out is) =
    absurd (true≢false (sym (placed events e lawful.deliveries (back events e lawful.deliveries lawful.are)) ∙ out))
not_both events e fault read lawful (unread r is has there bad) =
    rows_not_both events r lawful.deliveries fault (subst IsFromBytes is read) (subst (λ x. Back events x lawful.deliveries) is (back events e lawful.deliveries lawful.are)) bad

-- ---- One fault.

one_rows_fault : (m : Option (Option TableValue)) (r : RowsValue) (a b : GatherFault) → IsFromBytes (rows r) → IsRowsFault m r a → IsRowsFault m r b → a ≡ b
one_rows_fault None r a b read is_a is_b = is_a ∙ sym is_b
one_rows_fault (Some None) r a b read is_a is_b = absurd is_a
one_rows_fault (Some (Some t)) r a b read (inl x) (inl y) = x.1 ∙ sym y.1
one_rows_fault (Some (Some t)) r a b read (inl x) (inr y) = absurd (x.0 y.0)
one_rows_fault (Some (Some t)) r a b read (inr x) (inl y) = absurd (y.0 x.0)
one_rows_fault (Some (Some t)) r a b read (inr x) (inr y) =
    let place = (one_end r.kind t.columns x.1 y.1 r.bytes x.2 y.2 (many_columns t r read x.0) x.3 y.3).1 in
    x.4 ∙ ap (λ p. Event (record { kind = Truncated; at = r.bytes_at + p })) place ∙ sym y.4

same_event : (r s : RowsValue) → rows r ≡ rows s → r ≡ s
same_event r s is = cc

open_place : (block : List EventValue) (e : EventValue) (r : RowsValue) → e ≡ rows r → is_open block ≡ true → is_in_place block e ≡ true
open_place block e r is there = ap (is_in_place block) is ∙ there

pub one : (events : List EventValue) (e : EventValue) (a b : GatherFault) → IsFromBytes e → IsFault events e a → IsFault events e b → a ≡ b
one events e a b read (no_format of none is) (no_format of' none' is') = is ∙ sym is'
one events e a b read (no_format of none is) (misplaced has out is') = absurd (true≢false (sym has ∙ none))
one events e a b read (no_format of none is) (unread r e_is has there bad) = absurd (true≢false (sym has ∙ none))
one events e a b read (misplaced has out is) (no_format of none is') = absurd (true≢false (sym has ∙ none))
one events e a b read (misplaced has out is) (misplaced has' out' is') = is ∙ sym is'
one events e a b read (misplaced has out is) (unread r e_is has' there bad) = absurd (true≢false (sym (open_place (last_block events) e r e_is there) ∙ out))
one events e a b read (unread r e_is has there bad) (no_format of none is') = absurd (true≢false (sym has ∙ none))
one events e a b read (unread r e_is has there bad) (misplaced has' out is') = absurd (true≢false (sym (open_place (last_block events) e r e_is there) ∙ out))
one events e a b read (unread r e_is has there bad) (unread s e_is' has' there' bad') =
    let same : r ≡ s = same_event r s (sym e_is ∙ e_is') in
    one_rows_fault (map_of (last_block events) r.id) r a b (subst IsFromBytes e_is read) bad (subst (λ x. IsRowsFault (map_of (last_block events) x.id) x b) (sym same) bad')
