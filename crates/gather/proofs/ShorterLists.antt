-- A lawful list of events without its last one.
use Rattle.gather.proofs.Names.{◌≡◌, true, false, not, List, [], ◌∷◌, ◌++◌, append-nil, append_assoc, refl, ap, sym, ◌∙◌, subst, ⊎_elim, inl, inr, cases_Bool, EventValue, format, commit, neutral, stop, rotate, gtid, table_map, other_map, xid, ChangeValue, DeliveryValue, is_neutral, is_mark, is_end, AreChangesOf, AreChanges, IsAnnounced, IsOpen, IsWhole, IsBlock, AreBlocks, is_format_first, AreDeliveries, is_gtid, last_block}
use Rattle.std.proofs.lemmas.List.{same_from_push}
use Rattle.std.proofs.lemmas.List.Elements.{filter-append}
use Rattle.binlog.specs.Event.{begin, rows}
use Rattle.gather.specs.Transaction.{IsMark, HasFirst}
use Rattle.gather.proofs.Maps.{no_end_of}
use Rattle.gather.proofs.LongerLists.{counted, joined, counts_more, joined_append, blocks_more, split, last_is}

-- ---- Lists, from the back.

-- a list is empty or ends with an item
pub data FromBack (xs : List EventValue) : Type 0 where
  empty : xs ≡ [] → FromBack xs
  pushed : (front : List EventValue) → (last : EventValue) → xs ≡ front ++ last ∷ [] → FromBack xs

after : (x : EventValue) (xs : List EventValue) → FromBack xs → FromBack (x ∷ xs)
after x xs (empty is) = pushed [] x (ap (λ l. x ∷ l) is)
after x xs (pushed front last is) = pushed (x ∷ front) last (ap (λ l. x ∷ l) is)

pub from_back : (xs : List EventValue) → FromBack xs
from_back [] = empty refl
from_back (x ∷ xs) = after x xs (from_back xs)

not_empty : (xs : List EventValue) (x : EventValue) → xs ++ x ∷ [] ≡ [] → ⊥
not_empty [] x is = absurd cc
not_empty (y ∷ xs) x is = absurd cc

-- ---- Format descriptions.

pub first_less : (events : List EventValue) (e : EventValue) → is_format_first (events ++ e ∷ []) ≡ true → is_format_first events ≡ true
first_less [] e first = refl
first_less (format ∷ events) e first = refl
first_less (begin ∷ events) e first = first_less events e first
first_less (commit ∷ events) e first = first_less events e first
first_less (neutral ∷ events) e first = first_less events e first
first_less (stop ∷ events) e first = first_less events e first
first_less ((rotate position name) ∷ events) e first = first_less events e first
first_less ((gtid source number) ∷ events) e first = first
first_less ((table_map t) ∷ events) e first = first_less events e first
first_less ((other_map id) ∷ events) e first = first_less events e first
first_less ((rows r) ∷ events) e first = first_less events e first
first_less ((xid number) ∷ events) e first = first_less events e first

-- ---- Changes.

-- the changes of all events but the last, and the last one's
pub record ChangesCut (before body : List EventValue) (e : EventValue) (changes : List ChangeValue) : Type 0 where
  pub first : List ChangeValue
  pub own : List ChangeValue
  pub are : AreChanges before body first
  pub of : AreChangesOf (before ++ body) e own
  pub changes_are : changes ≡ first ++ own

pub changes_less : (before body : List EventValue) (e : EventValue) (changes : List ChangeValue) → AreChanges before (body ++ e ∷ []) changes → ChangesCut before body e changes
changes_less before [] e changes (own, others, of, all, none) =
    record { first = []; own = own; are = refl; of = subst (λ b. AreChangesOf b e own) (sym (append-nil before)) of; changes_are = all ∙ ap (λ c. own ++ c) none ∙ append-nil own }
changes_less before (x ∷ body) e changes (head, others, of, all, are) =
    let c = changes_less (before ++ x ∷ []) body e others are in
    record {
      first = head ++ c.first;
      own = c.own;
      are = (head, c.first, of, refl, c.are);
      of = subst (λ b. AreChangesOf b e c.own) (append_assoc before (x ∷ []) body) c.of;
      changes_are = all ∙ ap (λ o. head ++ o) c.changes_are ∙ sym (append_assoc head c.first c.own);
    }

-- ---- What the last event does.

-- the transaction of a block that is open, if it ended
abbrev pub ended : (block : List EventValue) → IsOpen block → DeliveryValue
ended block o = record { source = o.source; number = o.number; changes = o.changes }

-- What the last event of a lawful list does after those before it, which are lawful: it is ignored, is a block of its
-- own, is a GTID, continues a transaction, or ends it.
pub data Back (events : List EventValue) (e : EventValue) (ds : List DeliveryValue) : Type 0 where
  passes : is_neutral e ≡ true → AreDeliveries events ds → Back events e ds
  marks : is_mark e ≡ true → AreDeliveries events ds → Back events e ds
  announces : is_gtid e ≡ true → AreDeliveries events ds → Back events e ds
  starts : e ≡ begin → IsAnnounced (last_block events) → AreDeliveries events ds → Back events e ds
  goes_on : (o : IsOpen (last_block events)) → (own : List ChangeValue) → AreChangesOf o.body e own → AreDeliveries events ds → Back events e ds
  ends : is_end e ≡ true → (o : IsOpen (last_block events)) → (before : List DeliveryValue) → ds ≡ before ++ ended (last_block events) o ∷ [] → AreDeliveries events before → Back events e ds

-- the blocks but the last, and what the last one was before its last event
alone : (events : List EventValue) (front : List (List EventValue)) (before : List DeliveryValue) → counted events ≡ joined front → AreBlocks front before → is_format_first events ≡ true → AreDeliveries events before
alone events front before cut are first = record { blocks = front; cut = cut; each = are; format_first = first }

joined_last : (front : List (List EventValue)) (block : List EventValue) → joined (front ++ block ∷ []) ≡ joined front ++ block
joined_last front block = joined_append front (block ∷ []) ∙ ap (λ l. joined front ++ l) (append-nil block)

-- the block before its last event
record OpenTransaction (events : List EventValue) (before : List DeliveryValue) (block : List EventValue) : Type 0 where
  last : last_block events ≡ block
  are : AreDeliveries events before

current : (events : List EventValue) (front : List (List EventValue)) (before : List DeliveryValue) (block : List EventValue) → counted events ≡ joined front ++ block → AreBlocks front before → is_format_first events ≡ true →
    IsBlock block [] → OpenTransaction events before block
current events front before block cut are first is =
    let cuts : counted events ≡ joined (front ++ block ∷ []) = cut ∙ sym (joined_last front block) in
    record {
      last = last_is events front block [] cuts is;
      are = record { blocks = front ++ block ∷ []; cut = cuts; each = subst (AreBlocks (front ++ block ∷ [])) (append-nil before) (blocks_more front before block [] are is); format_first = first };
    }

-- the cut before the last event, if the last block ends with an item
cut_before : (events : List EventValue) (e : EventValue) (front : List (List EventValue)) (block shorter : List EventValue) (last : EventValue) → counted events ++ e ∷ [] ≡ joined front ++ block → block ≡ shorter ++ last ∷ [] →
    (counted events ≡ joined front ++ shorter) × (e ≡ last)
cut_before events e front block shorter last cut is =
    same_from_push (counted events) (joined front ++ shorter) e last (cut ∙ ap (λ b. joined front ++ b) is ∙ sym (append_assoc (joined front) shorter (last ∷ [])))

back_mark : (events : List EventValue) (e : EventValue) (front : List (List EventValue)) (block : List EventValue) (before : List DeliveryValue) → counted events ++ e ∷ [] ≡ joined front ++ block → AreBlocks front before →
    is_format_first events ≡ true → IsMark block → Back events e before
back_mark events e front block before cut are first m =
    let c = cut_before events e front block [] m.event cut m.block_is in
    marks (ap is_mark c.1 ∙ m.marks) (alone events front before (c.0 ∙ append-nil (joined front)) are first)

back_announced : (events : List EventValue) (e : EventValue) (front : List (List EventValue)) (block : List EventValue) (before : List DeliveryValue) → counted events ++ e ∷ [] ≡ joined front ++ block → AreBlocks front before →
    is_format_first events ≡ true → IsAnnounced block → Back events e before
back_announced events e front block before cut are first a =
    let c = cut_before events e front block [] (gtid a.source a.number) cut a.block_is in
    announces (ap is_gtid c.1) (alone events front before (c.0 ∙ append-nil (joined front)) are first)

back_open : (events : List EventValue) (e : EventValue) (front : List (List EventValue)) (block : List EventValue) (before : List DeliveryValue) → counted events ++ e ∷ [] ≡ joined front ++ block → AreBlocks front before →
    is_format_first events ≡ true → (o : IsOpen block) → FromBack o.body → Back events e before
back_open events e front block before cut are first o (empty is) =
    let head = gtid o.source o.number ∷ [] in
    let c = cut_before events e front block head begin cut (o.block_is ∙ ap (λ b. gtid o.source o.number ∷ begin ∷ b) is) in
    let b = current events front before head c.0 are first (inl (inr (inl (record { source = o.source; number = o.number; block_is = refl })), refl)) in
    starts c.1 (record { source = o.source; number = o.number; block_is = b.last }) b.are
back_open events e front block before cut are first o (pushed body last is) =
    let head = gtid o.source o.number ∷ begin ∷ body in
    let c = cut_before events e front block head last cut (o.block_is ∙ ap (λ b. gtid o.source o.number ∷ begin ∷ b) is) in
    let l = changes_less [] body last o.changes (subst (λ b. AreChanges [] b o.changes) is o.are_changes) in
    let shorter : IsOpen head = record { source = o.source; number = o.number; body = body; changes = l.first; block_is = refl; are_changes = l.are } in
    let b = current events front before head c.0 are first (inl (inr (inr shorter), refl)) in
    goes_on (record { source = o.source; number = o.number; body = body; changes = l.first; block_is = b.last; are_changes = l.are }) l.own (subst (λ x. AreChangesOf body x l.own) (sym c.1) l.of) b.are

back_whole : (events : List EventValue) (e : EventValue) (front : List (List EventValue)) (block : List EventValue) (before : List DeliveryValue) (d : DeliveryValue) → counted events ++ e ∷ [] ≡ joined front ++ block → AreBlocks front before →
    is_format_first events ≡ true → IsWhole block d → Back events e (before ++ d ∷ [])
back_whole events e front block before d cut are first w =
    let head = gtid d.source d.number ∷ begin ∷ w.body in
    let c = cut_before events e front block head w.last cut w.block_is in
    let shorter : IsOpen head = record { source = d.source; number = d.number; body = w.body; changes = d.changes; block_is = refl; are_changes = w.are_changes } in
    let b = current events front before head c.0 are first (inl (inr (inr shorter), refl)) in
    ends (ap is_end c.1 ∙ w.ends) (record { source = d.source; number = d.number; body = w.body; changes = d.changes; block_is = b.last; are_changes = w.are_changes }) before refl b.are

back_block : (events : List EventValue) (e : EventValue) (front : List (List EventValue)) (block : List EventValue) (before own : List DeliveryValue) → counted events ++ e ∷ [] ≡ joined front ++ block → AreBlocks front before →
    is_format_first events ≡ true → IsBlock block own → Back events e (before ++ own)
back_block events e front block before own cut are first is =
    ⊎_elim
    (λ plain.
    let there : Back events e before =
    ⊎_elim
    (λ m. back_mark events e front block before cut are first m)
    (λ current. ⊎_elim (λ a. back_announced events e front block before cut are first a) (λ o. back_open events e front block before cut are first o (from_back o.body)) current)
    plain.0 in
    subst (Back events e) (sym (ap (λ o. before ++ o) plain.1 ∙ append-nil before)) there)
    (λ whole. subst (λ o. Back events e (before ++ o)) (sym whole.2) (back_whole events e front block before whole.0 cut are first whole.1))
    is

back_counts : (events : List EventValue) (e : EventValue) (blocks : List (List EventValue)) (ds : List DeliveryValue) → counted events ++ e ∷ [] ≡ joined blocks → AreBlocks blocks ds → is_format_first events ≡ true → Back events e ds
back_counts events e [] ds cut are first = absurd (not_empty (counted events) e cut)
back_counts events e (x ∷ blocks) ds cut are first =
    let s = split x blocks ds are in
    subst (Back events e) (sym s.ds_are) (back_block events e s.front s.block s.before s.own (cut ∙ ap joined s.blocks_are ∙ joined_last s.front s.block) s.front_are first s.is_block)

pub back : (events : List EventValue) (e : EventValue) (ds : List DeliveryValue) → AreDeliveries (events ++ e ∷ []) ds → Back events e ds
back events e ds are =
    let first = first_less events e are.format_first in
    ⊎_elim
    (λ yes.
    let one : counted (e ∷ []) ≡ [] = rw yes refl in
    let same : counted (events ++ e ∷ []) ≡ counted events = filter-append (λ x. not (is_neutral x)) events (e ∷ []) ∙ ap (λ l. counted events ++ l) one ∙ append-nil (counted events) in
    passes yes (record { blocks = are.blocks; cut = sym same ∙ are.cut; each = are.each; format_first = first }))
    (λ counts. back_counts events e are.blocks ds (sym (counts_more events e counts) ∙ are.cut) are.each first)
    (cases_Bool (is_neutral e))

-- ---- Prefixes.

no_end_alone : (e : EventValue) → is_neutral e ≡ true → is_end e ≡ false
no_end_alone neutral is = refl
no_end_alone _ is = absurd cc

no_end_mark : (e : EventValue) → is_mark e ≡ true → is_end e ≡ false
no_end_mark commit is = absurd cc
no_end_mark (xid number) is = absurd cc
no_end_mark _ is = refl

no_end_gtid : (e : EventValue) → is_gtid e ≡ true → is_end e ≡ false
no_end_gtid commit is = absurd cc
no_end_gtid (xid number) is = absurd cc
no_end_gtid _ is = refl

-- The last event of a lawful list ends no transaction, or it ends the open one.
pub data Given (events : List EventValue) (e : EventValue) (ds : List DeliveryValue) : Type 0 where
  stays : is_end e ≡ false → AreDeliveries events ds → Given events e ds
  gives : is_end e ≡ true → (o : IsOpen (last_block events)) → (before : List DeliveryValue) → ds ≡ before ++ ended (last_block events) o ∷ [] → AreDeliveries events before → Given events e ds

pub given : (events : List EventValue) (e : EventValue) (ds : List DeliveryValue) → Back events e ds → Given events e ds
given events e ds (passes is are) = stays (no_end_alone e is) are
given events e ds (marks is are) = stays (no_end_mark e is) are
given events e ds (announces is are) = stays (no_end_gtid e is) are
given events e ds (starts is a are) = stays (ap is_end is) are
given events e ds (goes_on o own of are) = stays (no_end_of o.body e own of) are
given events e ds (ends is o before all are) = gives is o before all are

shorter_given : (events : List EventValue) (e : EventValue) (ds : List DeliveryValue) → Given events e ds → HasFirst events ds
shorter_given events e ds (stays is are) = record { first = ds; others = []; ds_are = sym (append-nil ds); are = are }
shorter_given events e ds (gives is o before all are) = record { first = before; others = ended (last_block events) o ∷ []; ds_are = all; are = are }

pub shorter : (events : List EventValue) (e : EventValue) (ds : List DeliveryValue) → AreDeliveries (events ++ e ∷ []) ds → HasFirst events ds
shorter events e ds are = shorter_given events e ds (given events e ds (back events e ds are))

pub beginning : (first others : List EventValue) (ds : List DeliveryValue) → AreDeliveries (first ++ others) ds → HasFirst first ds
beginning first [] ds are = record { first = ds; others = []; ds_are = sym (append-nil ds); are = subst (λ l. AreDeliveries l ds) (append-nil first) are }
beginning first (e ∷ others) ds are =
    let longer = beginning (first ++ e ∷ []) others ds (subst (λ l. AreDeliveries l ds) (sym (append_assoc first (e ∷ []) others)) are) in
    let s = shorter first e longer.first longer.are in
    record { first = s.first; others = s.others ++ longer.others; ds_are = longer.ds_are ∙ ap (λ d. d ++ longer.others) s.ds_are ∙ append_assoc s.first s.others longer.others; are = s.are }
