-- Events that were read have one list of transactions.
use Rattle.gather.proofs.Names.{◌≡◌, ℕ, ◌≤◌, List, [], ◌∷◌, ◌++◌, length, append-nil, append_assoc, map, fold, Option, Some, None, arith, refl, ap, sym, ◌∙◌, subst, ⊎_elim, true≢false, AllByRecursion, TableValue, RowsValue, EventValue, format, commit, neutral, stop, rotate, gtid, table_map, other_map, xid, ChangeValue, DeliveryValue, change_of, AreChangesOf, AreChanges, IsOpen, IsBlock, AreBlocks, AreDeliveries, add_event, last_block}
use Rattle.binlog.specs.Event.{begin, rows}
use Rattle.binlog.proofs.RowsItems.{one_list}
use Rattle.gather.specs.Transaction.{AreRowChanges}
use Rattle.gather.specs.Fault.{IsFromBytes}
use Rattle.gather.proofs.LongerLists.{counted, joined, split, last_is}
use Rattle.gather.proofs.ShorterLists.{ended, Given, stays, gives, given, back}

-- ---- Events that were read.

-- a rows event has a column
some_columns : (r : RowsValue) → IsFromBytes (rows r) → 1 ≤ r.columns
some_columns r is = is.is_event.has_body.1.columns.0

-- and so has the table that it belongs to
pub many_columns : (t : TableValue) (r : RowsValue) → IsFromBytes (rows r) → length t.columns ≡ r.columns → 1 ≤ length t.columns
many_columns t r read columns = let some = some_columns r read in omega (arith, some, columns)

all_push : (block : List EventValue) (e : EventValue) → AllByRecursion IsFromBytes block → IsFromBytes e → AllByRecursion IsFromBytes (block ++ e ∷ [])
all_push [] e all is = (is, tt)
all_push (x ∷ block) e all is = (all.0, all_push block e all.1 is)

all_before : (events : List EventValue) (e : EventValue) → AllByRecursion IsFromBytes (events ++ e ∷ []) → AllByRecursion IsFromBytes events
all_before [] e all = tt
all_before (x ∷ events) e all = (all.0, all_before events e all.1)

all_added : (block : List EventValue) (e : EventValue) → AllByRecursion IsFromBytes block → IsFromBytes e → AllByRecursion IsFromBytes (add_event block e)
all_added block neutral all is = all
all_added block format all is = (is, tt)
all_added block stop all is = (is, tt)
all_added block (rotate position name) all is = (is, tt)
all_added block (gtid source number) all is = (is, tt)
all_added block begin all is = all_push block begin all is
all_added block commit all is = all_push block commit all is
all_added block (table_map t) all is = all_push block (table_map t) all is
all_added block (other_map id) all is = all_push block (other_map id) all is
all_added block (rows r) all is = all_push block (rows r) all is
all_added block (xid number) all is = all_push block (xid number) all is

-- those of the last block are among them
all_last : (block events : List EventValue) → AllByRecursion IsFromBytes block → AllByRecursion IsFromBytes events → AllByRecursion IsFromBytes (fold add_event block events)
all_last block [] inside all = inside
all_last block (e ∷ events) inside all = all_last (add_event block e) events (all_added block e inside all.0) all.1

-- ---- One list of changes.

same_rows : (said : Option TableValue) (r : RowsValue) (a b : List ChangeValue) → IsFromBytes (rows r) → AreRowChanges said r a → AreRowChanges said r b → a ≡ b
same_rows None r a b read is_a is_b = is_a ∙ sym is_b
same_rows (Some t) r a b read is_a is_b =
    is_a.2 ∙ ap (map (change_of t)) (one_list r.kind t.columns is_a.0 is_b.0 r.bytes (many_columns t r read is_a.1.columns) is_a.1.rows_are is_b.1.rows_are) ∙ sym is_b.2

same_said : (x y : Option TableValue) (m : Option (Option TableValue)) → m ≡ Some x → m ≡ Some y → x ≡ y
same_said x y m is_x is_y = cc

same_own : (before : List EventValue) (e : EventValue) (a b : List ChangeValue) → IsFromBytes e → AreChangesOf before e a → AreChangesOf before e b → a ≡ b
same_own before (table_map t) a b read is_a is_b = is_a ∙ sym is_b
same_own before (other_map id) a b read is_a is_b = is_a ∙ sym is_b
same_own before (rows r) a b read is_a is_b =
    let said = same_said is_b.0 is_a.0 _ is_b.1 is_a.1 in
    same_rows is_a.0 r a b read is_a.2 (subst (λ s. AreRowChanges s r b) said is_b.2)
same_own before format a b read is_a is_b = absurd is_a
same_own before begin a b read is_a is_b = absurd is_a
same_own before commit a b read is_a is_b = absurd is_a
same_own before neutral a b read is_a is_b = absurd is_a
same_own before stop a b read is_a is_b = absurd is_a
same_own before (rotate position name) a b read is_a is_b = absurd is_a
same_own before (gtid source number) a b read is_a is_b = absurd is_a
same_own before (xid number) a b read is_a is_b = absurd is_a

same_changes : (before body : List EventValue) (a b : List ChangeValue) → AllByRecursion IsFromBytes body → AreChanges before body a → AreChanges before body b → a ≡ b
same_changes before [] a b read is_a is_b = is_a ∙ sym is_b
same_changes before (e ∷ body) a b read is_a is_b =
    let own = same_own before e is_a.0 is_b.0 read.0 is_a.2 is_b.2 in
    let others = same_changes (before ++ e ∷ []) body is_a.1 is_b.1 read.1 is_a.4 is_b.4 in
    is_a.3 ∙ ap (λ f. f ++ is_a.1) own ∙ ap (λ o. is_b.0 ++ o) others ∙ sym is_b.3

-- ---- One transaction of an open block.

record SameHead (source source' : List ℕ) (number number' : ℕ) (body body' : List EventValue) : Type 0 where
  sources : source ≡ source'
  numbers : number ≡ number'
  bodies : body ≡ body'

same_head : (source source' : List ℕ) (number number' : ℕ) (body body' block : List EventValue) → block ≡ gtid source number ∷ begin ∷ body → block ≡ gtid source' number' ∷ begin ∷ body' → SameHead source source' number number' body body'
same_head source source' number number' body body' block is is' = record { sources = cc; numbers = cc; bodies = cc }

same_ended : (block : List EventValue) (a b : IsOpen block) → AllByRecursion IsFromBytes block → ended block a ≡ ended block b
same_ended block a b read =
    let head = same_head a.source b.source a.number b.number a.body b.body block a.block_is b.block_is in
    let inside : AllByRecursion IsFromBytes (gtid a.source a.number ∷ begin ∷ a.body) = subst (AllByRecursion IsFromBytes) a.block_is read in
    let changes : a.changes ≡ b.changes = same_changes [] a.body a.changes b.changes inside.1.1 a.are_changes (subst (λ l. AreChanges [] l b.changes) (sym head.bodies) b.are_changes) in
    rw (head.sources, head.numbers, changes) refl

-- ---- No events.

no_empty_block : (block : List EventValue) (own : List DeliveryValue) → IsBlock block own → block ≡ [] → ⊥
no_empty_block block own is none =
    ⊎_elim
    (λ plain. ⊎_elim
    (λ mark. let bad = sym mark.block_is ∙ none in absurd cc)
    (λ current. ⊎_elim (λ a. let bad = sym a.block_is ∙ none in absurd cc) (λ o. let bad = sym o.block_is ∙ none in absurd cc) current)
    plain.0)
    (λ whole. let bad = sym whole.1.block_is ∙ none in absurd cc)
    is

no_blocks : (blocks : List (List EventValue)) (ds : List DeliveryValue) → counted [] ≡ joined blocks → AreBlocks blocks ds → ds ≡ []
no_blocks [] ds cut are = are
no_blocks (x ∷ blocks) ds cut are =
    let s = split x blocks ds are in
    let last : last_block [] ≡ s.block = last_is [] s.front s.block s.own (cut ∙ ap joined s.blocks_are) s.is_block in
    absurd (no_empty_block s.block s.own s.is_block (sym last))

-- ---- One list.

abbrev pub HasOne : List EventValue → Type 0
HasOne events = (x y : List DeliveryValue) → AllByRecursion IsFromBytes events → AreDeliveries events x → AreDeliveries events y → x ≡ y

same_given : (events : List EventValue) (e : EventValue) (x y : List DeliveryValue) → AllByRecursion IsFromBytes events → HasOne events → Given events e x → Given events e y → x ≡ y
same_given events e x y read one (stays is are) (stays is' are') = one x y read are are'
same_given events e x y read one (stays is are) (gives is' o' before' all' are') = absurd (true≢false (sym is' ∙ is))
same_given events e x y read one (gives is o before all are) (stays is' are') = absurd (true≢false (sym is ∙ is'))
same_given events e x y read one (gives is o before all are) (gives is' o' before' all' are') =
    let last = same_ended (last_block events) o o' (all_last [] events tt read) in
    all ∙ ap (λ b. b ++ ended (last_block events) o ∷ []) (one before before' read are are') ∙ ap (λ d. before' ++ d ∷ []) last ∙ sym all'

one_more : (events : List EventValue) (e : EventValue) → HasOne events → HasOne (events ++ e ∷ [])
one_more events e one x y read is_x is_y =
    same_given events e x y (all_before events e read) one (given events e x (back events e x is_x)) (given events e y (back events e y is_y))

one_from : (seen events : List EventValue) → HasOne seen → HasOne (seen ++ events)
one_from seen [] one = subst HasOne (sym (append-nil seen)) one
one_from seen (e ∷ events) one = subst HasOne (append_assoc seen (e ∷ []) events) (one_from (seen ++ e ∷ []) events (one_more seen e one))

none_at_first : HasOne []
none_at_first x y read is_x is_y = no_blocks is_x.blocks x is_x.cut is_x.each ∙ sym (no_blocks is_y.blocks y is_y.cut is_y.each)

pub one_list_of_deliveries : (events : List EventValue) → HasOne events
one_list_of_deliveries events = one_from [] events none_at_first
