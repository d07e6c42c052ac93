-- One more event of a lawful list: what it changes.
use Rattle.gather.proofs.Names.{◌≡◌, ◌⊎◌, ℕ, true, false, not, ◌||◌, List, [], ◌∷◌, ◌++◌, append-nil, append_assoc, fold, Option, Result, Ok, Err, refl, ap, sym, ◌∙◌, subst, ⊎_elim, inl, inr, true≢false, or-false, list_any, list_any-append, EventValue, format, commit, neutral, stop, rotate, gtid, table_map, other_map, xid, DeliveryValue, is_neutral, is_mark, is_end, IsAnnounced, IsOpen, IsWhole, IsBlock, AreBlocks, is_format_first, AreDeliveries, is_gtid, has_format, add_event, last_block, is_open, GatherFault}
use Rattle.std.proofs.Common.{Bool, ◌&&◌, IfOk, IfErr}
use Rattle.std.proofs.Math.Bool.{or-true}
use Rattle.binlog.specs.Event.{begin, rows}
use Rattle.gtid.specs.declared.identifier.Gtid.{Gtid}
use Rattle.gather.specs.Fault.{is_format, is_announced, is_of_transaction, is_in_place, is_kept, IsKept, IsFault, misplaced, unread}
use Rattle.std.specs.Borrow.{Bor}
use Rattle.binlog.specs.EventView.{event_value}
use Rattle.binlog.specs.declared.event.Event.{Event}
use Rattle.binlog.specs.declared.event.Event.TheVariants.{Rotate, Stop}
use Rattle.gather.specs.View.{delivered}
use Rattle.gather.specs.State.{IsAt, StepsTo, FaultsAt, AddsInside}
use Rattle.gather.specs.Standing.{Brings}
use Rattle.gather.specs.declared.transaction.Delivery.{Delivery}
use Rattle.gather.specs.declared.fault.GatherFault.TheVariants.{Memory}
use Rattle.gather.specs.declared.state.State.{State}
use Rattle.gather.specs.declared.state.State.TheVariants.{Between, Announced, Inside}
use Rattle.gather.proofs.States.{open_block}
use Rattle.gather.proofs.LongerLists.{counted, joined, counts_no_more, counts_more, last_more, format_more, first_more, first_after, joined_append, blocks_more, split, mark_begins, last_is, skips}

-- ---- A block that is whole has ended.

pub whole_closed : (block : List EventValue) (d : DeliveryValue) → IsWhole block d → (is_announced block ≡ false) × (is_open block ≡ false)
whole_closed block d is =
    let ended : list_any is_end (is.body ++ is.last ∷ []) ≡ true =
    list_any-append is_end is.body (is.last ∷ []) ∙ ap (λ b. list_any is_end is.body || (b || false)) is.ends ∙ or-true (list_any is_end is.body) in
    rw is.block_is (refl, ap not ended)

abbrev pub IsBegun : List EventValue → Type 0
IsBegun block = IsAnnounced block ⊎ IsOpen block

pub begun_not_whole : (block : List EventValue) (d : DeliveryValue) → IsBegun block → IsWhole block d → ⊥
begun_not_whole block d current whole =
    let closed = whole_closed block d whole in
    ⊎_elim
    (λ a. let yes : is_announced block ≡ true = rw a.block_is refl in absurd (true≢false (sym yes ∙ closed.0)))
    (λ o. let yes : is_open block ≡ true = rw o.block_is (open_block o.source o.number o.body o.changes o.are_changes) in absurd (true≢false (sym yes ∙ closed.1)))
    current

begun_not_empty : (block : List EventValue) → IsBegun block → block ≡ [] → ⊥
begun_not_empty block current none = ⊎_elim (λ a. let bad = sym a.block_is ∙ none in absurd cc) (λ o. let bad = sym o.block_is ∙ none in absurd cc) current

begun_gives_none : (block : List EventValue) (own : List DeliveryValue) → IsBegun block → IsBlock block own → own ≡ []
begun_gives_none block own current is = ⊎_elim (λ plain. plain.1) (λ whole. absurd (begun_not_whole block whole.0 current whole.1)) is

-- ---- One more block, and a longer last block.

pub new_block : (events : List EventValue) (ds : List DeliveryValue) (e : EventValue) → AreDeliveries events ds → is_neutral e ≡ false → is_format_first (events ++ e ∷ []) ≡ true → IsBlock (e ∷ []) [] →
    AreDeliveries (events ++ e ∷ []) (ds ++ [])
new_block events ds e are counts first is = record {
  blocks = are.blocks ++ (e ∷ []) ∷ [];
  cut = counts_more events e counts ∙ ap (λ l. l ++ e ∷ []) are.cut ∙ sym (joined_append are.blocks ((e ∷ []) ∷ []));
  each = blocks_more are.blocks ds (e ∷ []) [] are.each is;
  format_first = first;
}

longer_front : (front : List (List EventValue)) (block : List EventValue) (e : EventValue) → joined (front ++ block ∷ []) ++ e ∷ [] ≡ joined (front ++ (block ++ e ∷ []) ∷ [])
longer_front front block e =
    let old : joined (front ++ block ∷ []) ++ e ∷ [] ≡ (joined front ++ block) ++ e ∷ [] = ap (λ l. l ++ e ∷ []) (joined_append front (block ∷ []) ∙ ap (λ l. joined front ++ l) (append-nil block)) in
    let new : joined (front ++ (block ++ e ∷ []) ∷ []) ≡ joined front ++ (block ++ e ∷ []) = joined_append front ((block ++ e ∷ []) ∷ []) ∙ ap (λ l. joined front ++ l) (append-nil (block ++ e ∷ [])) in
    old ∙ append_assoc (joined front) block (e ∷ []) ∙ sym new

longer_blocks : (events : List EventValue) (ds : List DeliveryValue) (e : EventValue) (own : List DeliveryValue) (blocks : List (List EventValue)) → counted events ≡ joined blocks → AreBlocks blocks ds →
    is_neutral e ≡ false → is_format_first (events ++ e ∷ []) ≡ true → IsBegun (last_block events) → IsBlock (last_block events ++ e ∷ []) own → AreDeliveries (events ++ e ∷ []) (ds ++ own)
longer_blocks events ds e own [] cut are counts first current is =
    absurd (begun_not_empty (last_block events) current (skips [] events ∙ ap (fold add_event []) cut))
longer_blocks events ds e own (x ∷ blocks) cut are counts first current is =
    let s = split x blocks ds are in
    let last : last_block events ≡ s.block = last_is events s.front s.block s.own (cut ∙ ap joined s.blocks_are) s.is_block in
    let none : s.own ≡ [] = begun_gives_none s.block s.own (subst IsBegun last current) s.is_block in
    let before : ds ≡ s.before = s.ds_are ∙ ap (λ d. s.before ++ d) none ∙ append-nil s.before in
    let longer : IsBlock (s.block ++ e ∷ []) own = subst (λ b. IsBlock (b ++ e ∷ []) own) last is in
    record {
      blocks = s.front ++ (s.block ++ e ∷ []) ∷ [];
      cut = counts_more events e counts ∙ ap (λ l. l ++ e ∷ []) (cut ∙ ap joined s.blocks_are) ∙ longer_front s.front s.block e;
      each = subst (λ d. AreBlocks (s.front ++ (s.block ++ e ∷ []) ∷ []) (d ++ own)) (sym before) (blocks_more s.front s.before (s.block ++ e ∷ []) own s.front_are longer);
      format_first = first;
    }

pub longer : (events : List EventValue) (ds : List DeliveryValue) (e : EventValue) (own : List DeliveryValue) → AreDeliveries events ds →
    is_neutral e ≡ false → is_format_first (events ++ e ∷ []) ≡ true → IsBegun (last_block events) → IsBlock (last_block events ++ e ∷ []) own → AreDeliveries (events ++ e ∷ []) (ds ++ own)
longer events ds e own are counts first current is = longer_blocks events ds e own are.blocks are.cut are.each counts first current is

-- ---- Neutral events.

first_neutral : (events : List EventValue) → is_format_first events ≡ true → is_format_first (events ++ neutral ∷ []) ≡ true
first_neutral events first = first_more events neutral refl first

pub step_neutral : (events : List EventValue) (ds : List DeliveryValue) (formatted : Bool) (state : State) → Brings events ds formatted state → Brings (events ++ neutral ∷ []) (ds ++ []) formatted state
step_neutral events ds formatted state b = record {
  deliveries = record {
    blocks = b.deliveries.blocks;
    cut = counts_no_more events ∙ b.deliveries.cut;
    each = subst (AreBlocks b.deliveries.blocks) (sym (append-nil ds)) b.deliveries.each;
    format_first = first_neutral events b.deliveries.format_first;
  };
  has_format = b.has_format ∙ sym (format_more events neutral ∙ or-false (has_format events));
  at = subst (λ block. IsAt block state) (sym (last_more events neutral)) b.at;
}

-- ---- Format descriptions, rotations and stops.

pub record Marks (e : EventValue) : Type 0 where
  pub counts : is_neutral e ≡ false
  pub no_gtid : is_gtid e ≡ false
  pub between : (is_announced (e ∷ []) ≡ false) × (is_open (e ∷ []) ≡ false)

marks_are : (e : EventValue) → is_mark e ≡ true → Marks e
marks_are format marks = record { counts = refl; no_gtid = refl; between = (refl, refl) }
marks_are stop marks = record { counts = refl; no_gtid = refl; between = (refl, refl) }
marks_are (rotate position name) marks = record { counts = refl; no_gtid = refl; between = (refl, refl) }
marks_are begin marks = absurd cc
marks_are commit marks = absurd cc
marks_are neutral marks = absurd cc
marks_are (gtid source number) marks = absurd cc
marks_are (table_map t) marks = absurd cc
marks_are (other_map id) marks = absurd cc
marks_are (rows r) marks = absurd cc
marks_are (xid number) marks = absurd cc

pub step_mark : (events : List EventValue) (ds : List DeliveryValue) (formatted formatted' : Bool) (state : State) (e : EventValue) → is_mark e ≡ true → Brings events ds formatted state →
    formatted' ≡ (has_format events || is_format e) → Brings (events ++ e ∷ []) (ds ++ []) formatted' Between
step_mark events ds formatted formatted' state e marks b has =
    let m = marks_are e marks in
    record {
      deliveries = new_block events ds e b.deliveries m.counts (first_more events e m.no_gtid b.deliveries.format_first) (inl (inl (record { event = e; marks = marks; block_is = refl }), refl));
      has_format = has ∙ sym (format_more events e);
      at = subst (λ block. IsAt block Between) (sym (last_more events e ∙ mark_begins (last_block events) e marks)) m.between;
    }

-- ---- GTIDs.

pub step_gtid : (events : List EventValue) (ds : List DeliveryValue) (formatted : Bool) (state : State) (id : Gtid) → formatted ≡ true → Brings events ds formatted state →
    Brings (events ++ gtid id.source id.number ∷ []) (ds ++ []) formatted (Announced id)
step_gtid events ds formatted state id is b =
    let e = gtid id.source id.number in
    record {
      deliveries = new_block events ds e b.deliveries refl (first_after events e (sym b.has_format ∙ is) b.deliveries.format_first) (inl (inr (inl (record { source = id.source; number = id.number; block_is = refl })), refl));
      has_format = b.has_format ∙ sym (format_more events e ∙ or-false (has_format events));
      at = last_more events e;
    }

-- ---- The other events of a transaction.

pub record Continues (e : EventValue) : Type 0 where
  pub counts : is_neutral e ≡ false
  pub no_gtid : is_gtid e ≡ false
  pub no_format : is_format e ≡ false
  pub of : is_of_transaction e ≡ true
  pub added : (block : List EventValue) → add_event block e ≡ block ++ e ∷ []

pub continues : (e : EventValue) → is_of_transaction e ≡ true → is_gtid e ≡ false → Continues e
continues begin of other = record { counts = refl; no_gtid = refl; no_format = refl; of = refl; added = λ b. refl }
continues commit of other = record { counts = refl; no_gtid = refl; no_format = refl; of = refl; added = λ b. refl }
continues (table_map t) of other = record { counts = refl; no_gtid = refl; no_format = refl; of = refl; added = λ b. refl }
continues (other_map id) of other = record { counts = refl; no_gtid = refl; no_format = refl; of = refl; added = λ b. refl }
continues (rows r) of other = record { counts = refl; no_gtid = refl; no_format = refl; of = refl; added = λ b. refl }
continues (xid number) of other = record { counts = refl; no_gtid = refl; no_format = refl; of = refl; added = λ b. refl }
continues (gtid source number) of other = absurd cc
continues format of other = absurd cc
continues neutral of other = absurd cc
continues stop of other = absurd cc
continues (rotate position name) of other = absurd cc

pub stepped : (events : List EventValue) (ds own : List DeliveryValue) (formatted : Bool) (before after : State) (e : EventValue) → Continues e → Brings events ds formatted before → StepsTo e before after own →
    Brings (events ++ e ∷ []) (ds ++ own) formatted after
stepped events ds own formatted before after e k b goes =
    let x = goes (last_block events) b.at in
    record {
      deliveries = longer events ds e own b.deliveries k.counts (first_more events e k.no_gtid b.deliveries.format_first) x.current x.is_block;
      has_format = b.has_format ∙ sym (format_more events e ∙ ap (λ f. has_format events || f) k.no_format ∙ or-false (has_format events));
      at = subst (λ block. IsAt block after) (sym (last_more events e ∙ k.added (last_block events))) x.at;
    }

pub fault_from : (events : List EventValue) (ds : List DeliveryValue) (formatted : Bool) (state : State) (e : EventValue) (fault : GatherFault) → formatted ≡ true → Brings events ds formatted state → FaultsAt e state fault →
    (fault ≡ Memory) ⊎ IsFault events e fault
fault_from events ds formatted state e fault is b faults =
    let has : has_format events ≡ true = sym b.has_format ∙ is in
    ⊎_elim inl
    (λ broken. inr (⊎_elim (λ m. misplaced has m.0 m.1) (λ u. unread u.0 u.1 has u.2 u.3) broken))
    (faults (last_block events) b.at)

-- ---- Answers.

pub takes : (result : Result (Option Delivery) GatherFault) (formatted : Bool) (before after : State) (e : EventValue) → Continues e → IfOk result (λ delivery. StepsTo e before after (delivered delivery)) →
    (events : List EventValue) (ds : List DeliveryValue) → Brings events ds formatted before → IfOk result (λ delivery. Brings (events ++ e ∷ []) (ds ++ delivered delivery) formatted after)
takes (Ok delivery) formatted before after e k goes events ds b = stepped events ds (delivered delivery) formatted before after e k b goes
takes (Err fault) formatted before after e k goes events ds b = goes

pub refuses : (result : Result (Option Delivery) GatherFault) (formatted : Bool) (before : State) (e : EventValue) → formatted ≡ true → IfErr result (FaultsAt e before) →
    (events : List EventValue) (ds : List DeliveryValue) → Brings events ds formatted before → IfErr result (λ fault. (fault ≡ Memory) ⊎ IsFault events e fault)
refuses (Ok delivery) formatted before e is faults events ds b = faults
refuses (Err fault) formatted before e is faults events ds b = fault_from events ds formatted before e fault is b faults

-- Memory runs out only at an event of an open transaction.
pub keeps : {T : Type 0} (result : Result T GatherFault) (formatted : Bool) (state : State) (e : EventValue) → is_kept e ≡ true → ((block : List EventValue) → is_in_place block e ≡ is_open block) → formatted ≡ true →
    IfErr result (λ fault. fault ≡ Memory → AddsInside e state) →
    (events : List EventValue) (ds : List DeliveryValue) → Brings events ds formatted state → IfErr result (λ fault. fault ≡ Memory → IsKept events e)
keeps (Ok x) formatted state e kept place is memory events ds b = memory
keeps (Err fault) formatted state e kept place is memory events ds b = λ wanted.
    let inside = (memory wanted).0 in
    let at : IsAt (last_block events) (Inside inside.0) = subst (IsAt (last_block events)) inside.1 b.at in
    record {
      kept = kept;
      formatted = sym b.has_format ∙ is;
      in_place = place (last_block events)
          ∙ ap is_open at.1
          ∙ open_block inside.0.gtid.source inside.0.gtid.number at.0 inside.0.changes at.2.changes;
      adds = (memory wanted).1 (last_block events) b.at;
    }

-- ---- Format descriptions.

pub formatted_from : (formatted : Bool) → (not formatted && true) ≡ false → formatted ≡ true
formatted_from true is = refl
formatted_from false is = absurd cc

pub true_or : (events : List EventValue) → true ≡ (has_format events || is_format format)
true_or events = sym (or-true (has_format events))

pub false_or : (formatted : Bool) (events : List EventValue) → formatted ≡ has_format events → formatted ≡ (has_format events || false)
false_or formatted events is = is ∙ sym (or-false (has_format events))

-- a rotation or a stop is a mark, and not a format description
pub rotates_or_stops : (event : Event) → ((position : ℕ) × (name : Bor (List ℕ)) × (event ≡ Rotate position name)) ⊎ (event ≡ Stop) → (is_mark (event_value event) ≡ true) × (is_format (event_value event) ≡ false)
rotates_or_stops event is = ⊎_elim (λ r. rw r.2 (refl, refl)) (λ s. rw s (refl, refl)) is
