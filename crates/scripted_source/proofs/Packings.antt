-- Packings one after the other, and what is sent in their order.
use Rattle.std.proofs.Common.{◌≡◌, ℕ, suc, ◌+◌, ◌-◌, ◌^◌, ◌<◌, ◌≤◌, ◌⊎◌, Bool, true, false, List, [], ◌∷◌, ◌++◌, length, codes, get_or, drop, flat_map, refl, sym, ap, subst, ◌∙◌, append_assoc, append-nil, inl, inr, arith, MatchBool, Result, Ok, Err, IfOk, IfErr, OnOk}
use Rattle.std.specs.Result.{IsErrAnd}
use Rattle.std.proofs.lemmas.Result.{IfErr-weaker}
use Rattle.std.proofs.Math.ListN.{drop_of_length-le}
use Rattle.std.proofs.Math.Seq.{drop-cons}
use Rattle.std.proofs.lemmas.Bool.{cases_lt, false≢true}
use Rattle.std.proofs.lemmas.List.{length-append, map-append}
use Rattle.std.specs.List.{AllByRecursion}
use Rattle.wire.specs.Packet.{IsPacking, largest_payload}
use Rattle.wire.specs.Integer.{length_encoded}
use Rattle.greet.specs.Message.{DumpValue, greeting_bytes, replica_capabilities, utf8mb3}
use Rattle.gtid.specs.Identifier.{Ids}
use Rattle.binlog.specs.Row.{bitmap_size}
use Rattle.binlog.specs.Rows.{RowsValue, rows_code, presents_size}
use Rattle.binlog.specs.RowsWritten.{rows_bytes}
use Rattle.binlog.specs.Event.{format, gtid, begin, table_map, rows}
use Rattle.binlog.specs.Writing.{IsWritable, plain_rows, header_bytes, framed_bytes, rows_body, rows_head, count_bytes, presents_bytes}
use Rattle.binlog.specs.declared.body.rows_event.RowsKind.{RowsKind}
use Rattle.binlog.specs.declared.body.rows_event.RowsKind.TheVariants.{Write, Update, Delete}
use Rattle.binlog.proofs.PlainRows.{of_ranges}
use Rattle.binlog.proofs.TableMapBytes.{suits, spelled}
use Rattle.binlog.proofs.EventBytes.{map_of}
use Rattle.scripted_source.specs.declared.script.Part.{Part}
use Rattle.scripted_source.specs.declared.script.Script.{Script}
use Rattle.scripted_source.specs.declared.fault.ForgeFault.{ForgeFault}
use Rattle.scripted_source.specs.declared.fault.ForgeFault.TheVariants.{Request, Unfit, TooLarge, Memory}
use Rattle.scripted_source.specs.Script.{PartValue, ScriptValue, part_value, part_values, script_value, script_values, part_events, rows_of, end_event, script_events}
use Rattle.scripted_source.specs.Source.{ArePackings, AppendsPackings, AppendsPayload, IsOpening, autocommit, greeting_payload, ok_payload, payload_of, payloads_of, FitsPart, CanSendPart, CanSend, IsPartFault, IsPartsFault, IsScriptsFault, IsAnswer, IsAnswerFault, Asks, AsksFor, is_known, due, events_of, end_payloads, sent_payloads, is_once}
use Rattle.wire.specs.Payload.{Payload}

-- ---- Packings.

pub are_append : (id : ℕ) (ps qs : List Payload) (x y : List ℕ) (m n : ℕ) → ArePackings id ps x m → ArePackings m qs y n → ArePackings id (ps ++ qs) (x ++ y) n
are_append id [] qs x y m n a b = subst (λ k. ArePackings k qs (x ++ y) n) a.1 (subst (λ (l : List ℕ). ArePackings m qs (l ++ y) n) (sym a.0) b)
are_append id (p ∷ ps) qs x y m n a b =
    (a.0, a.1 ++ y, a.2, ap (λ (l : List ℕ). l ++ y) a.3 ∙ append_assoc a.0 a.1 y, a.4, are_append a.2 ps qs a.1 y m n a.5 b)

pub appends_none : (id : ℕ) (old : List ℕ) → AppendsPackings id [] old old id
appends_none id old = record { bytes = []; packings = (refl, refl); appended = sym (append-nil old) }

pub appends_more : (id : ℕ) (ps qs : List Payload) (old mid new : List ℕ) (m n : ℕ) → AppendsPackings id ps old mid m → AppendsPackings m qs mid new n → AppendsPackings id (ps ++ qs) old new n
appends_more id ps qs old mid new m n a b = record {
  bytes = a.bytes ++ b.bytes;
  packings = are_append id ps qs a.bytes b.bytes m n a.packings b.packings;
  appended = b.appended ∙ ap (λ (l : List ℕ). l ++ b.bytes) a.appended ∙ append_assoc old a.bytes b.bytes;
}

-- ---- A rows event that cannot be written is too long.

size_small : (n : ℕ) → n ≤ 4096 → bitmap_size n ≤ 512
size_small n h = omega (arith, h)

presents_small : (kind : RowsKind) (n : ℕ) → n ≤ 4096 → presents_size kind n ≤ 1024
presents_small Write n h = let s = size_small n h in omega (arith, s)
presents_small Delete n h = let s = size_small n h in omega (arith, s)
presents_small Update n h = let s = size_small n h in omega (arith, s)

with_front : (a b d e : List ℕ) → length e ≤ length (a ++ b ++ d ++ e)
with_front a b d e = omega (arith, length-append (a ++ b ++ d) e)

rows_longer : (r : RowsValue) → length r.bytes < length (payload_of (rows r))
rows_longer r =
    let body = rows_body r in
    let all : length (framed_bytes (rows_code r.kind) body) ≡ 19 + length body = length-append (header_bytes (rows_code r.kind) (19 + length body)) body in
    let inner : length r.bytes ≤ length body = with_front (rows_head r) (count_bytes (r.bytes_at - r.columns_at - presents_size r.kind r.columns) r.columns) (presents_bytes r.kind r.columns) r.bytes in
    omega (arith, all, inner)

pub too_long : (part : PartValue) → FitsPart part → (IsWritable (rows (rows_of part)) → ⊥) → largest_payload < length (payload_of (rows (rows_of part)))
too_long part fits none =
    let t = suits part.table (map_of part.table fits.map) in
    let n = length part.table.columns in
    let bytes = rows_bytes part.table.columns part.pairs in
    let short = (spelled n (omega (arith, t.number.1))).short in
    let small = presents_small part.kind n t.number.1 in
    elim (cases_lt (29 + length (length_encoded n) + presents_size part.kind n + length bytes) (2 ^ 32)) [
      | inl size ↦ absurd (none (of_ranges part.table.id part.kind n bytes (record { an_id = t.an_id; number = t.number; size = size })))
      | inr large ↦ (let longer = rows_longer (rows_of part) in omega (arith, longer, large, short, small))
    ]

pub no_rows : (part : PartValue) (n : ℕ) (bytes : List ℕ) → n ≡ length part.table.columns → bytes ≡ rows_bytes part.table.columns part.pairs
    → (IsWritable (rows (plain_rows part.table.id part.kind n bytes)) → false ≡ true) → IsWritable (rows (rows_of part)) → ⊥
no_rows part n bytes n_is bytes_are none is = false≢true (none (subst (λ k. IsWritable (rows (plain_rows part.table.id part.kind k bytes))) (sym n_is) (subst (λ l. IsWritable (rows (plain_rows part.table.id part.kind (length part.table.columns) l))) (sym bytes_are) is)))

-- ---- What a call answers.

pub if_appends : {E : Type 0} (r : Result ℕ E) (id : ℕ) (ps qs : List Payload) (old mid new : List ℕ) (m : ℕ) → AppendsPackings id ps old mid m → IfOk r (λ n. AppendsPackings m qs mid new n)
    → IfOk r (λ n. AppendsPackings id (ps ++ qs) old new n)
if_appends (Ok n) id ps qs old mid new m a b = appends_more id ps qs old mid new m n a b
if_appends (Err e) id ps qs old mid new m a b = tt

pub memory_failed : {T U : Type 0} (P : ForgeFault → Type 0) (r : Result T ForgeFault) (f : ForgeFault) → IsErrAnd r (λ y. y ≡ f) → ◌≡◌ {A = Result U ForgeFault} (Err f) (Err Memory) → IfErr r (λ y. P y ⊎ (y ≡ Memory))
memory_failed P (Ok x) f h e = tt
memory_failed P (Err y) f h e = inr (cc)

-- ---- A rows event that was made.

pub rows_are : (part : PartValue) (n : ℕ) (bytes : List ℕ) (r : RowsValue) → n ≡ length part.table.columns → bytes ≡ rows_bytes part.table.columns part.pairs → r ≡ plain_rows part.table.id part.kind n bytes → r ≡ rows_of part
rows_are part n bytes r n_is bytes_are is = is ∙ (ap (λ k. plain_rows part.table.id part.kind k bytes) n_is ∙ ap (λ l. plain_rows part.table.id part.kind (length part.table.columns) l) bytes_are)

pub record RowsSent (result : Result ℕ ForgeFault) (id : ℕ) (old new : List ℕ) (r : RowsValue) : Type 0 where
  pub ok : IfOk result (λ next. AppendsPackings id (payloads_of (rows r ∷ [])) old new next)
  pub short : OnOk result (length (payload_of (rows r)) ≤ largest_payload)
  pub err : IfErr result (λ fault. ((fault ≡ TooLarge) × (largest_payload < length (payload_of (rows r)))) ⊎ (fault ≡ Memory))

pub rows_sent : (result : Result ℕ ForgeFault) (id : ℕ) (old new : List ℕ) (r q : RowsValue) → r ≡ q → RowsSent result id old new r → RowsSent result id old new q
rows_sent result id old new r q is s = subst (λ v. RowsSent result id old new v) is s

-- ---- A part.

not_short : (n m : ℕ) → m < n → n ≤ m → ⊥
not_short n m large short = omega (arith, large, short)

pub map_fault : (at : ℕ) (part : PartValue) (f : ForgeFault) → FitsPart part → ((f ≡ TooLarge) × (largest_payload < length (payload_of (table_map part.table)))) ⊎ (f ≡ Memory) → IsPartFault at part f ⊎ (f ≡ Memory)
map_fault at part f fits (inl h) = inl (subst (λ x. IsPartFault at part x) (sym h.0) (fits, λ s. not_short (length (payload_of (table_map part.table))) largest_payload h.1 s.0))
map_fault at part f fits (inr h) = inr h

rows_fault : (at : ℕ) (part : PartValue) (f : ForgeFault) → FitsPart part → ((f ≡ TooLarge) × (largest_payload < length (payload_of (rows (rows_of part))))) ⊎ (f ≡ Memory) → IsPartFault at part f ⊎ (f ≡ Memory)
rows_fault at part f fits (inl h) = inl (subst (λ x. IsPartFault at part x) (sym h.0) (fits, λ s. not_short (length (payload_of (rows (rows_of part)))) largest_payload h.1 s.1.0))
rows_fault at part f fits (inr h) = inr h

pub if_rows_fault : (r : Result ℕ ForgeFault) (at : ℕ) (part : PartValue) → FitsPart part → IfErr r (λ f. ((f ≡ TooLarge) × (largest_payload < length (payload_of (rows (rows_of part))))) ⊎ (f ≡ Memory))
    → IfErr r (λ f. IsPartFault at part f ⊎ (f ≡ Memory))
if_rows_fault r at part fits h =
    IfErr-weaker r (λ f. ((f ≡ TooLarge) × (largest_payload < length (payload_of (rows (rows_of part))))) ⊎ (f ≡ Memory)) (λ f. IsPartFault at part f ⊎ (f ≡ Memory)) (λ f k. rows_fault at part f fits k) h

pub can_send : {E : Type 0} (r : Result ℕ E) (part : PartValue) → FitsPart part → length (payload_of (table_map part.table)) ≤ largest_payload → OnOk r (IsWritable (rows (rows_of part)))
    → OnOk r (length (payload_of (rows (rows_of part))) ≤ largest_payload) → OnOk r (CanSendPart part)
can_send (Ok n) part fits short written shorter = record { fits = fits; events = (fits.map, (written, tt)); short = (short, (shorter, tt)) }
can_send (Err e) part fits short written shorter = tt

-- ---- The parts of a script.

-- The remaining parts are still to be sent, the others have been: what holds of the remaining ones holds of all.
pub record Sending (id now : ℕ) (old out : List ℕ) (at : ℕ) (all left : List PartValue) : Type 0 where
  pub sent : (new : List ℕ) (last : ℕ) → AppendsPackings now (payloads_of (flat_map part_events left)) out new last → AppendsPackings id (payloads_of (flat_map part_events all)) old new last
  pub can : AllByRecursion CanSendPart left → AllByRecursion CanSendPart all
  pub fault : (f : ForgeFault) → IsPartsFault at left f → IsPartsFault at all f

pub sending_begins : (id : ℕ) (old : List ℕ) (at : ℕ) (all : List PartValue) → Sending id id old old at all all
sending_begins id old at all = record { sent = λ new last a. a; can = λ c. c; fault = λ f h. h }

more_sent : (id now next : ℕ) (old out mid : List ℕ) (at : ℕ) (all : List PartValue) (part : PartValue) (left : List PartValue) → Sending id now old out at all (part ∷ left)
    → AppendsPackings now (payloads_of (part_events part)) out mid next → CanSendPart part → Sending id next old mid at all left
more_sent id now next old out mid at all part left s a can = record {
  sent = λ new last b. s.sent new last (appends_more now (payloads_of (part_events part)) (payloads_of (flat_map part_events left)) out mid new next last a b);
  can = λ others. s.can (can, others);
  fault = λ f h. s.fault f (inr (can, h));
}

parts_from : (parts : List Part) (i : ℕ) (part : Part) → i < length parts → part ≡ get_or parts i part → part_values (drop i parts) ≡ part_value part ∷ part_values (drop (i + 1) parts)
parts_from parts i part within is =
    let next : suc i ≡ i + 1 = omega arith in
    ap part_values (drop-cons parts i part within ∙ ap (λ x. x ∷ drop (suc i) parts) (sym is)) ∙ ap (λ k. part_value part ∷ part_values (drop k parts)) next

pub sending_more : (id now next : ℕ) (old out mid : List ℕ) (at : ℕ) (all : List PartValue) (parts : List Part) (i : ℕ) (part : Part) → i < length parts → part ≡ get_or parts i part
    → Sending id now old out at all (part_values (drop i parts)) → AppendsPackings now (payloads_of (part_events (part_value part))) out mid next → CanSendPart (part_value part)
    → Sending id next old mid at all (part_values (drop (i + 1) parts))
sending_more id now next old out mid at all parts i part within is s a can =
    more_sent id now next old out mid at all (part_value part) (part_values (drop (i + 1) parts)) (subst (λ l. Sending id now old out at all l) (parts_from parts i part within is) s) a can

pub sending_fault : (id now : ℕ) (old out : List ℕ) (at : ℕ) (all : List PartValue) (parts : List Part) (i : ℕ) (part : Part) (f : ForgeFault) → i < length parts → part ≡ get_or parts i part
    → Sending id now old out at all (part_values (drop i parts)) → IsPartFault at (part_value part) f ⊎ (f ≡ Memory) → IsPartsFault at all f ⊎ (f ≡ Memory)
sending_fault id now old out at all parts i part f within is s (inl h) =
    inl ((subst (λ l. Sending id now old out at all l) (parts_from parts i part within is) s).fault f (inl h))
sending_fault id now old out at all parts i part f within is s (inr h) = inr h

pub record Sent (id now : ℕ) (old out : List ℕ) (all : List PartValue) : Type 0 where
  pub sent : AppendsPackings id (payloads_of (flat_map part_events all)) old out now
  pub can : AllByRecursion CanSendPart all

pub sending_ends : (id now : ℕ) (old out : List ℕ) (at : ℕ) (all : List PartValue) (parts : List Part) (i : ℕ) → length parts ≤ i → Sending id now old out at all (part_values (drop i parts)) → Sent id now old out all
sending_ends id now old out at all parts i over s =
    let none : Sending id now old out at all [] = subst (λ l. Sending id now old out at all l) (ap part_values (drop_of_length-le parts over)) s in
    record { sent = none.sent out now (appends_none now out); can = none.can tt }

-- ---- A script.

if_appends_after : {E : Type 0} (r : Result ℕ E) (id : ℕ) (ps qs rs : List Payload) (old a b new : List ℕ) (m n : ℕ) → AppendsPackings id ps old a m → AppendsPackings m qs a b n
    → IfOk r (λ k. AppendsPackings n rs b new k) → IfOk r (λ k. AppendsPackings id (ps ++ (qs ++ rs)) old new k)
if_appends_after (Ok k) id ps qs rs old a b new m n x y z = appends_more id ps (qs ++ rs) old a new m k x (appends_more m qs rs a b new n k y z)
if_appends_after (Err e) id ps qs rs old a b new m n x y z = tt

pub script_sent : {E : Type 0} (r : Result ℕ E) (id m n : ℕ) (script : ScriptValue) (old a b new : List ℕ)
    → AppendsPackings id (payloads_of (gtid script.source script.number ∷ begin ∷ [])) old a m
    → AppendsPackings m (payloads_of (flat_map part_events script.parts)) a b n
    → IfOk r (λ next. AppendsPackings n (payloads_of (end_event script.ending script.number ∷ [])) b new next)
    → IfOk r (λ next. AppendsPackings id (payloads_of (script_events script)) old new next)
script_sent r id m n script old a b new x y z =
    let parts = flat_map part_events script.parts in
    let end = end_event script.ending script.number in
    let head = payloads_of (gtid script.source script.number ∷ begin ∷ []) in
    subst (λ (l : List Payload). IfOk r (λ next. AppendsPackings id (head ++ l) old new next)) (sym (map-append payload_of parts (end ∷ [])))
    (if_appends_after r id head (payloads_of parts) (payloads_of (end ∷ [])) old a b new m n x y z)

-- ---- The scripts that are not in a set.

-- The remaining scripts are still to be sent or skipped, the others have been.
pub record Going (executed : Ids) (id now : ℕ) (old out : List ℕ) (all : List ScriptValue) (at : ℕ) (left : List ScriptValue) : Type 0 where
  pub sent : (new : List ℕ) (last : ℕ) → AppendsPackings now (payloads_of (flat_map script_events (due executed left))) out new last
      → AppendsPackings id (payloads_of (flat_map script_events (due executed all))) old new last
  pub can : AllByRecursion CanSend (due executed left) → AllByRecursion CanSend (due executed all)
  pub fault : (f : ForgeFault) → IsScriptsFault executed at left f → IsScriptsFault executed 0 all f

pub going_begins : (executed : Ids) (id : ℕ) (old : List ℕ) (all : List ScriptValue) → Going executed id id old old all 0 all
going_begins executed id old all = record { sent = λ new last a. a; can = λ c. c; fault = λ f h. h }

passed : (executed : Ids) (script : ScriptValue) (left : List ScriptValue) → is_known executed script ≡ true → due executed (script ∷ left) ≡ due executed left
passed executed script left is = rw is refl

kept : (executed : Ids) (script : ScriptValue) (left : List ScriptValue) → is_known executed script ≡ false → due executed (script ∷ left) ≡ script ∷ due executed left
kept executed script left is = rw is refl

goes_past : (executed : Ids) (id now : ℕ) (old out : List ℕ) (all : List ScriptValue) (at : ℕ) (script : ScriptValue) (left : List ScriptValue) → is_known executed script ≡ true
    → Going executed id now old out all at (script ∷ left) → Going executed id now old out all (at + 1) left
goes_past executed id now old out all at script left is s = record {
  sent = λ new last a. s.sent new last (subst (λ (l : List ScriptValue). AppendsPackings now (payloads_of (flat_map script_events l)) out new last) (sym (passed executed script left is)) a);
  can = λ c. s.can (subst (λ (l : List ScriptValue). AllByRecursion CanSend l) (sym (passed executed script left is)) c);
  fault = λ f h.
      let next : at + 1 ≡ suc at = omega arith in
      s.fault f (rw is (subst (λ k. IsScriptsFault executed k left f) next h));
}

goes_on : (executed : Ids) (id now next : ℕ) (old out mid : List ℕ) (all : List ScriptValue) (at : ℕ) (script : ScriptValue) (left : List ScriptValue) → is_known executed script ≡ false
    → AppendsPackings now (payloads_of (script_events script)) out mid next → CanSend script
    → Going executed id now old out all at (script ∷ left) → Going executed id next old mid all (at + 1) left
goes_on executed id now next old out mid all at script left is a can s = record {
  sent = λ new last b. s.sent new last (
      subst (λ (l : List ScriptValue). AppendsPackings now (payloads_of (flat_map script_events l)) out new last) (sym (kept executed script left is))
      (subst (λ (l : List Payload). AppendsPackings now l out new last) (sym (map-append payload_of (script_events script) (flat_map script_events (due executed left))))
      (appends_more now (payloads_of (script_events script)) (payloads_of (flat_map script_events (due executed left))) out mid new next last a b)));
  can = λ c. s.can (subst (λ (l : List ScriptValue). AllByRecursion CanSend l) (sym (kept executed script left is)) (can, c));
  fault = λ f h.
      let next : at + 1 ≡ suc at = omega arith in
      s.fault f (rw is (inr (can, subst (λ k. IsScriptsFault executed k left f) next h)));
}

scripts_from : (scripts : List Script) (i : ℕ) (script : Script) → i < length scripts → script ≡ get_or scripts i script → script_values (drop i scripts) ≡ script_value script ∷ script_values (drop (i + 1) scripts)
scripts_from scripts i script within is =
    let next : suc i ≡ i + 1 = omega arith in
    ap script_values (drop-cons scripts i script within ∙ ap (λ x. x ∷ drop (suc i) scripts) (sym is)) ∙ ap (λ k. script_value script ∷ script_values (drop k scripts)) next

module _ (executed : Ids) (id now : ℕ) (old out : List ℕ) (all : List ScriptValue) (scripts : List Script) (i : ℕ) (script : Script) (within : i < length scripts) (is : script ≡ get_or scripts i script)
    (s : Going executed id now old out all i (script_values (drop i scripts))) where
  at_hand : Going executed id now old out all i (script_value script ∷ script_values (drop (i + 1) scripts))
  at_hand = subst (λ l. Going executed id now old out all i l) (scripts_from scripts i script within is) s

  pub going_past : is_known executed (script_value script) ≡ true → Going executed id now old out all (i + 1) (script_values (drop (i + 1) scripts))
  going_past there = goes_past executed id now old out all i (script_value script) (script_values (drop (i + 1) scripts)) there at_hand

  pub going_on : (mid : List ℕ) (next : ℕ) → is_known executed (script_value script) ≡ false → AppendsPackings now (payloads_of (script_events (script_value script))) out mid next → CanSend (script_value script)
      → Going executed id next old mid all (i + 1) (script_values (drop (i + 1) scripts))
  going_on mid next new a can = goes_on executed id now next old out mid all i (script_value script) (script_values (drop (i + 1) scripts)) new a can at_hand

  pub going_fault : (f : ForgeFault) → is_known executed (script_value script) ≡ false → IsPartsFault i (part_values script.parts.items) f ⊎ (f ≡ Memory) → IsScriptsFault executed 0 all f ⊎ (f ≡ Memory)
  going_fault f new (inl h) = inl (at_hand.fault f (rw new (inl h)))
  going_fault f new (inr h) = inr h

pub record Gone (executed : Ids) (id now : ℕ) (old out : List ℕ) (all : List ScriptValue) : Type 0 where
  pub sent : AppendsPackings id (payloads_of (flat_map script_events (due executed all))) old out now
  pub can : AllByRecursion CanSend (due executed all)

pub going_ends : (executed : Ids) (id now : ℕ) (old out : List ℕ) (all : List ScriptValue) (scripts : List Script) (i : ℕ) → length scripts ≤ i
    → Going executed id now old out all i (script_values (drop i scripts)) → Gone executed id now old out all
going_ends executed id now old out all scripts i over s =
    let none : Going executed id now old out all i [] = subst (λ l. Going executed id now old out all i l) (ap script_values (drop_of_length-le scripts over)) s in
    record { sent = none.sent out now (appends_none now out); can = none.can tt }

-- ---- The answer.

pub answered : (history : List ScriptValue) (request : Payload) (once : Bool) (executed : Ids) (a b d : List ℕ) (m n k : ℕ) → AsksFor request once executed → AllByRecursion CanSend (due executed history)
    → AppendsPackings 1 (payloads_of (format ∷ [])) [] a m → AppendsPackings m (payloads_of (flat_map script_events (due executed history))) a b n → AppendsPackings n (end_payloads once) b d k
    → IsAnswer history request d
answered history request once executed a b d m n k asks can x y z =
    let all = appends_more 1 (payloads_of (events_of (due executed history))) (end_payloads once) [] b d n k
    (appends_more 1 (payloads_of (format ∷ [])) (payloads_of (flat_map script_events (due executed history))) [] a b m n x y) z in
    record {
      dump = asks.dump;
      executed = executed;
      asks = asks.asks;
      can = can;
      last = k;
      packings = subst (λ (l : List ℕ). ArePackings 1 (sent_payloads (is_once asks.dump.flags) (due executed history)) l k) (sym all.appended)
          (subst (λ o. ArePackings 1 (payloads_of (events_of (due executed history)) ++ end_payloads o) all.bytes k) asks.once_is all.packings);
    }

pub request-memory : Request ≡ Memory → ⊥
request-memory e = cc

unfit-request : (at : ℕ) → Unfit at ≡ Request → ⊥
unfit-request at e = cc

unfit-memory : (at : ℕ) → Unfit at ≡ Memory → ⊥
unfit-memory at e = cc

large-request : TooLarge ≡ Request → ⊥
large-request e = cc

large-memory : TooLarge ≡ Memory → ⊥
large-memory e = cc

no_part_request : (at : ℕ) (parts : List PartValue) → IsPartsFault at parts Request → ⊥
no_part_request at [] h = h
no_part_request at (part ∷ parts) (inl h) = h
no_part_request at (part ∷ parts) (inr h) = no_part_request at parts h.1

no_request : (executed : Ids) (at : ℕ) (scripts : List ScriptValue) → IsScriptsFault executed at scripts Request → ⊥
no_request executed at [] h = h
no_request executed at (script ∷ scripts) h =
    elim (is_known executed script) as (λ b. MatchBool b (IsScriptsFault executed (suc at) scripts Request) (IsPartsFault at script.parts Request ⊎ (CanSend script × IsScriptsFault executed (suc at) scripts Request)) → ⊥) [
      | true ↦ λ k. no_request executed (suc at) scripts k
      | false ↦ λ k. elim k [ inl p ↦ no_part_request at script.parts p | inr o ↦ no_request executed (suc at) scripts o.1 ]
    ] h

pub request_refused : (history : List ScriptValue) (request : Payload) (f : ForgeFault)
    → (f ≡ Request) ⊎ (f ≡ Memory) → ((dump : DumpValue) (ids : Ids) → Asks request dump ids → f ≡ Memory) → IsAnswerFault history request f
request_refused history request Request why only = λ has. absurd (request-memory (only has.dump has.executed has.asks))
request_refused history request (Unfit at) (inl h) only = absurd (unfit-request at h)
request_refused history request (Unfit at) (inr h) only = absurd (unfit-memory at h)
request_refused history request TooLarge (inl h) only = absurd (large-request h)
request_refused history request TooLarge (inr h) only = absurd (large-memory h)
request_refused history request Memory why only = tt

pub script_refused : (history : List ScriptValue) (request : Payload) (once : Bool) (executed : Ids) (f : ForgeFault) → AsksFor request once executed → IsScriptsFault executed 0 history f ⊎ (f ≡ Memory) → IsAnswerFault history request f
script_refused history request once executed Request asks (inl h) = absurd (no_request executed 0 history h)
script_refused history request once executed Request asks (inr h) = absurd (request-memory h)
script_refused history request once executed (Unfit at) asks (inl h) = record { dump = asks.dump; executed = executed; asks = asks.asks; is_fault = h }
script_refused history request once executed (Unfit at) asks (inr h) = absurd (unfit-memory at h)
script_refused history request once executed TooLarge asks (inl h) = record { dump = asks.dump; executed = executed; asks = asks.asks; is_fault = h }
script_refused history request once executed TooLarge asks (inr h) = absurd (large-memory h)
script_refused history request once executed Memory asks h = tt

-- ---- The opening.

pub greeting_made : (version scramble none new : List ℕ) → none ≡ [] → version ≡ codes "8.0.36"
    → new ≡ none ++ greeting_bytes (record { version = version; thread = 8; scramble = scramble; capabilities = replica_capabilities; charset = utf8mb3; status = autocommit }) → new ≡ greeting_payload scramble
greeting_made version scramble none new nothing is made =
    made ∙ (ap (λ l. l ++ greeting_bytes (record { version = version; thread = 8; scramble = scramble; capabilities = replica_capabilities; charset = utf8mb3; status = autocommit })) nothing
    ∙ ap (λ v. greeting_bytes (record { version = v; thread = 8; scramble = scramble; capabilities = replica_capabilities; charset = utf8mb3; status = autocommit })) is)

pub opened : (scramble payload none a b d : List ℕ) → none ≡ [] → payload ≡ greeting_payload scramble → AppendsPayload 0 payload none a → AppendsPayload 2 ok_payload a b → AppendsPayload 1 ok_payload b d → IsOpening scramble d
opened scramble payload none a b d nothing is x y z = record {
  greeting = x.bytes;
  login = y.bytes;
  query = z.bytes;
  after_greeting = x.next;
  after_login = y.next;
  after_query = z.next;
  packs_greeting = subst (λ p. IsPacking 0 p x.bytes x.next) is x.packing;
  packs_login = y.packing;
  packs_query = z.packing;
  bytes_are = z.appended ∙ ap (λ (l : List ℕ). l ++ z.bytes) (y.appended ∙ ap (λ (l : List ℕ). l ++ y.bytes) (x.appended ∙ ap (λ (l : List ℕ). l ++ x.bytes) nothing)) ∙ append_assoc x.bytes y.bytes z.bytes;
}

-- what holds of any answer
pub on_ok : {T E P : Type 0} (r : Result T E) → P → OnOk r P
on_ok (Ok x) p = p
on_ok (Err e) p = tt
