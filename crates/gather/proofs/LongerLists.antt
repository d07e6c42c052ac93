-- A lawful list of events that grows by one.
use Rattle.gather.proofs.Names.{◌≡◌, true, false, not, ◌||◌, List, [], ◌∷◌, ◌++◌, append-nil, append_assoc, fold, refl, ap, sym, ◌∙◌, ⊎_elim, or-false, list_any-append, cases_Bool, EventValue, format, commit, neutral, stop, rotate, gtid, table_map, other_map, xid, ChangeValue, DeliveryValue, is_neutral, is_mark, is_end, AreChangesOf, AreChanges, IsWhole, IsBlock, AreBlocks, is_format_first, is_gtid, has_format, add_event, last_block}
use Rattle.std.proofs.Common.{filter, flat_map}
use Rattle.std.proofs.lemmas.List.Elements.{filter-append}
use Rattle.std.proofs.lemmas.List.Sums.{fold-append}
use Rattle.binlog.specs.Event.{begin, rows}
use Rattle.gather.specs.Fault.{is_format}

abbrev pub counted : List EventValue → List EventValue
counted events = filter (λ e. not (is_neutral e)) events

abbrev pub joined : List (List EventValue) → List EventValue
joined blocks = flat_map (λ block. block) blocks

-- ---- One more event.

pub counts_no_more : (events : List EventValue) → counted (events ++ neutral ∷ []) ≡ counted events
counts_no_more events = filter-append (λ e. not (is_neutral e)) events (neutral ∷ []) ∙ append-nil (counted events)

pub counts_more : (events : List EventValue) (e : EventValue) → is_neutral e ≡ false → counted (events ++ e ∷ []) ≡ counted events ++ e ∷ []
counts_more events e counts =
    let one : counted (e ∷ []) ≡ e ∷ [] = rw counts refl in
    filter-append (λ x. not (is_neutral x)) events (e ∷ []) ∙ ap (λ l. counted events ++ l) one

pub last_more : (events : List EventValue) (e : EventValue) → last_block (events ++ e ∷ []) ≡ add_event (last_block events) e
last_more events e = fold-append add_event [] events (e ∷ [])

pub format_more : (events : List EventValue) (e : EventValue) → has_format (events ++ e ∷ []) ≡ (has_format events || is_format e)
format_more events e = list_any-append is_format events (e ∷ []) ∙ ap (λ b. has_format events || b) (or-false (is_format e))

-- an event that is not a GTID keeps format descriptions first
pub first_more : (events : List EventValue) (e : EventValue) → is_gtid e ≡ false → is_format_first events ≡ true → is_format_first (events ++ e ∷ []) ≡ true
first_more [] format other first = refl
first_more [] begin other first = refl
first_more [] commit other first = refl
first_more [] neutral other first = refl
first_more [] stop other first = refl
first_more [] (rotate position name) other first = refl
first_more [] (gtid source number) other first = absurd cc
first_more [] (table_map t) other first = refl
first_more [] (other_map id) other first = refl
first_more [] (rows r) other first = refl
first_more [] (xid number) other first = refl
first_more (format ∷ events) e other first = refl
first_more (begin ∷ events) e other first = first_more events e other first
first_more (commit ∷ events) e other first = first_more events e other first
first_more (neutral ∷ events) e other first = first_more events e other first
first_more (stop ∷ events) e other first = first_more events e other first
first_more ((rotate position name) ∷ events) e other first = first_more events e other first
first_more ((gtid source number) ∷ events) e other first = first
first_more ((table_map t) ∷ events) e other first = first_more events e other first
first_more ((other_map id) ∷ events) e other first = first_more events e other first
first_more ((rows r) ∷ events) e other first = first_more events e other first
first_more ((xid number) ∷ events) e other first = first_more events e other first

-- and so does any event after one
pub first_after : (events : List EventValue) (e : EventValue) → has_format events ≡ true → is_format_first events ≡ true → is_format_first (events ++ e ∷ []) ≡ true
first_after [] e has first = absurd cc
first_after (format ∷ events) e has first = refl
first_after (begin ∷ events) e has first = first_after events e has first
first_after (commit ∷ events) e has first = first_after events e has first
first_after (neutral ∷ events) e has first = first_after events e has first
first_after (stop ∷ events) e has first = first_after events e has first
first_after ((rotate position name) ∷ events) e has first = first_after events e has first
first_after ((gtid source number) ∷ events) e has first = first
first_after ((table_map t) ∷ events) e has first = first_after events e has first
first_after ((other_map id) ∷ events) e has first = first_after events e has first
first_after ((rows r) ∷ events) e has first = first_after events e has first
first_after ((xid number) ∷ events) e has first = first_after events e has first

-- ---- Blocks.

pub joined_append : (a b : List (List EventValue)) → joined (a ++ b) ≡ joined a ++ joined b
joined_append [] b = refl
joined_append (x ∷ a) b = ap (λ l. x ++ l) (joined_append a b) ∙ sym (append_assoc x (joined a) (joined b))

pub blocks_more : (blocks : List (List EventValue)) (ds : List DeliveryValue) (block : List EventValue) (own : List DeliveryValue) → AreBlocks blocks ds → IsBlock block own → AreBlocks (blocks ++ block ∷ []) (ds ++ own)
blocks_more [] ds block own none is = (own, [], is, ap (λ d. d ++ own) none ∙ sym (append-nil own), refl)
blocks_more (x ∷ blocks) ds block own (first, others, of, all, are) is = (first, others ++ own, of, ap (λ d. d ++ own) all ∙ append_assoc first others own, blocks_more blocks others block own are is)

-- all blocks but the last, and the last, with their transactions
pub record Split (blocks : List (List EventValue)) (ds : List DeliveryValue) : Type 0 where
  pub front : List (List EventValue)
  pub block : List EventValue
  pub before : List DeliveryValue
  pub own : List DeliveryValue
  pub blocks_are : blocks ≡ front ++ block ∷ []
  pub front_are : AreBlocks front before
  pub is_block : IsBlock block own
  pub ds_are : ds ≡ before ++ own

pub split : (first : List EventValue) (blocks : List (List EventValue)) (ds : List DeliveryValue) → AreBlocks (first ∷ blocks) ds → Split (first ∷ blocks) ds
split first [] ds (own, others, is, all, none) =
    record { front = []; block = first; before = []; own = own; blocks_are = refl; front_are = refl; is_block = is; ds_are = all ∙ ap (λ d. own ++ d) none ∙ append-nil own }
split first (second ∷ blocks) ds (own, others, is, all, are) =
    let s = split second blocks others are in
    record {
      front = first ∷ s.front;
      block = s.block;
      before = own ++ s.before;
      own = s.own;
      blocks_are = ap (λ l. first ∷ l) s.blocks_are;
      front_are = (own, s.before, is, refl, s.front_are);
      is_block = s.is_block;
      ds_are = all ∙ ap (λ d. own ++ d) s.ds_are ∙ sym (append_assoc own s.before s.own);
    }

-- ---- The last block.

-- neutral events leave it as it is
pub skips : (block events : List EventValue) → fold add_event block events ≡ fold add_event block (counted events)
skips block [] = refl
skips block (e ∷ events) =
    ⊎_elim
    (λ yes.
    let same : add_event block e ≡ block = rw yes refl in
    let left : counted (e ∷ events) ≡ counted events = rw yes refl in
    ap (λ b. fold add_event b events) same ∙ skips block events ∙ sym (ap (fold add_event block) left))
    (λ other.
    let left : counted (e ∷ events) ≡ e ∷ counted events = rw other refl in
    skips (add_event block e) events ∙ sym (ap (fold add_event block) left))
    (cases_Bool (is_neutral e))

-- table maps and rows events continue it
added : (block : List EventValue) (before : List EventValue) (e : EventValue) (own : List ChangeValue) → AreChangesOf before e own → add_event block e ≡ block ++ e ∷ []
added block before (table_map t) own of = refl
added block before (other_map id) own of = refl
added block before (rows r) own of = refl
added block before format own of = absurd of
added block before begin own of = absurd of
added block before commit own of = absurd of
added block before neutral own of = absurd of
added block before stop own of = absurd of
added block before (rotate position name) own of = absurd of
added block before (gtid source number) own of = absurd of
added block before (xid number) own of = absurd of

all_added : (block before body : List EventValue) (changes : List ChangeValue) → AreChanges before body changes → fold add_event block body ≡ block ++ body
all_added block before [] changes are = sym (append-nil block)
all_added block before (e ∷ body) changes (first, others, of, all, are) =
    ap (λ b. fold add_event b body) (added block before e first of) ∙ all_added (block ++ e ∷ []) (before ++ e ∷ []) body others are ∙ append_assoc block (e ∷ []) body

end_added : (block : List EventValue) (e : EventValue) → is_end e ≡ true → add_event block e ≡ block ++ e ∷ []
end_added block commit ends = refl
end_added block (xid number) ends = refl
end_added block format ends = absurd cc
end_added block begin ends = absurd cc
end_added block neutral ends = absurd cc
end_added block stop ends = absurd cc
end_added block (rotate position name) ends = absurd cc
end_added block (gtid source number) ends = absurd cc
end_added block (table_map t) ends = absurd cc
end_added block (other_map id) ends = absurd cc
end_added block (rows r) ends = absurd cc

pub mark_begins : (block : List EventValue) (e : EventValue) → is_mark e ≡ true → add_event block e ≡ e ∷ []
mark_begins block format marks = refl
mark_begins block stop marks = refl
mark_begins block (rotate position name) marks = refl
mark_begins block begin marks = absurd cc
mark_begins block commit marks = absurd cc
mark_begins block neutral marks = absurd cc
mark_begins block (gtid source number) marks = absurd cc
mark_begins block (table_map t) marks = absurd cc
mark_begins block (other_map id) marks = absurd cc
mark_begins block (rows r) marks = absurd cc
mark_begins block (xid number) marks = absurd cc

whole_added : (x block : List EventValue) (d : DeliveryValue) → IsWhole block d → fold add_event x block ≡ block
whole_added x block d is =
    let head = gtid d.source d.number ∷ begin ∷ [] in
    let all : fold add_event head (is.body ++ is.last ∷ []) ≡ head ++ (is.body ++ is.last ∷ []) =
    fold-append add_event head is.body (is.last ∷ []) ∙ ap (λ b. add_event b is.last) (all_added head [] is.body d.changes is.are_changes) ∙ end_added (head ++ is.body) is.last is.ends ∙ append_assoc head is.body (is.last ∷ []) in
    rw is.block_is all

-- a block is the last one, whatever came before it
pub block_last : (x block : List EventValue) (own : List DeliveryValue) → IsBlock block own → fold add_event x block ≡ block
block_last x block own is =
    ⊎_elim
    (λ plain. ⊎_elim
    (λ mark. rw mark.block_is (mark_begins x mark.event mark.marks))
    (λ current. ⊎_elim
    (λ announced. rw announced.block_is refl)
    (λ opened. rw opened.block_is (all_added (gtid opened.source opened.number ∷ begin ∷ []) [] opened.body opened.changes opened.are_changes))
    current)
    plain.0)
    (λ whole. whole_added x block whole.0 whole.1)
    is

pub last_is : (events : List EventValue) (front : List (List EventValue)) (block : List EventValue) (own : List DeliveryValue) → counted events ≡ joined (front ++ block ∷ []) → IsBlock block own → last_block events ≡ block
last_is events front block own cut is =
    let parts : counted events ≡ joined front ++ block = cut ∙ joined_append front (block ∷ []) ∙ ap (λ l. joined front ++ l) (append-nil block) in
    skips [] events ∙ ap (fold add_event []) parts ∙ fold-append add_event [] (joined front) block ∙ block_last (fold add_event [] (joined front)) block own is
