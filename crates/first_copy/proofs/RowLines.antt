-- The lines of rows are taken one by one.
use Rattle.first_copy.proofs.Names.{◌≡◌, ℕ, ◌+◌, ◌<◌, ◌≤◌, ◌^◌, inl, inr, List, [], ◌∷◌, ◌++◌, length, Option, Some, None, refl, ap, sym, subst, ◌∙◌, arith, append_assoc, append-nil, length-append, Consumes, prepend_known, Sha1, DescribedTable, ChangeValue, DeliveryValue, Bool, true, false, not, codes, bytes_eq, Ids, IsEndLine, IsGathered, IsGiven, IsFinished, IfSome}
use Rattle.std.proofs.Common.{◌⊎◌}
use Rattle.std.specs.Io.KnownBytes.{Keeps, IsAtEnd}
use Rattle.std.proofs.KnownBytes.{Consumes-nil, Consumes-trans}
use Rattle.sha1.specs.Sha1.{Holds}
use Rattle.std.specs.Cmp.Lexicographic.{same_text}
use Rattle.gtid.specs.Text.{IsRead}
use Rattle.first_copy.specs.RowLines.{IsRowLine}
use Rattle.first_copy.specs.CopyLines.{AreRowLines, IsChunk, BeginsWithEnd}
use Rattle.first_copy.specs.CopySteps.{IsLineTaken, IsCollected, TakesHead}
use Rattle.std.specs.Prelude.{MatchOption}

-- one line more
lines_more : (tables : List DescribedTable) (changes : List ChangeValue) (lines : List ℕ) (change : ChangeValue) (line : List ℕ) → AreRowLines tables changes lines → IsRowLine tables line change → AreRowLines tables (changes ++ change ∷ []) (lines ++ line)
lines_more tables [] lines change line are one = (line, [], one, (λ i. are i ++ line) ∙ sym (append-nil line), refl)
lines_more tables (first ∷ changes) lines change line (own, rest, is, text_is, others) one =
    (own, rest ++ line, is, (λ i. text_is i ++ line) ∙ append_assoc own rest line, lines_more tables changes rest change line others one)

Keeps_as : (a b : Option (List ℕ)) → Keeps a b → Consumes a b []
Keeps_as None b kept = tt
Keeps_as (Some x) None kept = kept
Keeps_as (Some x) (Some y) kept = sym kept

-- what was held is consumed
held_consumed : (b : Option (List ℕ)) (line : List ℕ) → Consumes (prepend_known line b) (prepend_known [] b) line
held_consumed None line = tt
held_consumed (Some y) line = refl

pub begin_lines : (tables : List DescribedTable) (rows : ℕ) (text : Option (List ℕ)) (hasher : Sha1) (size : ℕ) (changes : List ChangeValue) → size ≡ 0 → changes ≡ [] → IsGathered tables rows rows text text hasher hasher size changes
begin_lines tables rows text hasher size changes none empty = record {
  lines = [];
  are = subst (λ (cs : List ChangeValue). AreRowLines tables cs []) (sym empty) refl;
  chunk = inl (empty, refl);
  took = Consumes-nil text;
  size_is = none;
  rows_are = omega (arith, ap length empty);
  hashed = λ m holds. subst (Holds hasher) (sym (append-nil m)) holds;
}

pub next_line : (tables : List DescribedTable) (rows mid_rows new_rows : ℕ) (text mid_text : Option (List ℕ)) (reader : Option (List ℕ)) (hasher mid_hasher new_hasher : Sha1) (size new_size : ℕ) (changes new_changes : List ChangeValue) (line none : List ℕ) →
    IsGathered tables rows mid_rows text mid_text hasher mid_hasher size changes → size < 2 ^ 23 →
    Keeps mid_text (prepend_known line reader) → IsLineTaken tables line changes new_changes → new_rows ≡ mid_rows + 1 → new_size ≡ size + length line → none ≡ [] →
    ((m : List ℕ) → Holds mid_hasher m → Holds new_hasher (m ++ line)) →
    IsGathered tables rows new_rows text (prepend_known none reader) hasher new_hasher new_size new_changes
next_line tables rows mid_rows new_rows text mid_text reader hasher mid_hasher new_hasher size new_size changes new_changes line none so_far room kept taken more grown empty hashed =
    let few : length so_far.lines < 2 ^ 23 = omega (arith, so_far.size_is, room) in
    record {
      lines = so_far.lines ++ line;
      are = subst (λ (cs : List ChangeValue). AreRowLines tables cs (so_far.lines ++ line)) (sym taken.added) (lines_more tables changes so_far.lines taken.change line so_far.are taken.is_row);
      chunk = inr (record { before = changes; last = taken.change; start = so_far.lines; line = line; changes_are = taken.added; start_are = so_far.are; line_is = taken.is_row; text_is = refl; few = few });
      took = subst (λ (xs : List ℕ). Consumes text (prepend_known xs reader) (so_far.lines ++ line)) (sym empty)
          (Consumes-trans text mid_text (prepend_known [] reader) so_far.lines line so_far.took
          (Consumes-trans mid_text (prepend_known line reader) (prepend_known [] reader) [] line (Keeps_as mid_text (prepend_known line reader) kept) (held_consumed reader line)));
      size_is = omega (arith, so_far.size_is, grown, length-append so_far.lines line);
      rows_are = omega (arith, so_far.rows_are, more, ap length taken.added, length-append changes (taken.change ∷ []));
      hashed = λ m holds. subst (Holds new_hasher) (append_assoc m so_far.lines line) (hashed (m ++ so_far.lines) (so_far.hashed m holds));
    }

-- the lines are 8 MiB or more
pub enough_lines : (tables : List DescribedTable) (rows new_rows : ℕ) (text new_text : Option (List ℕ)) (hasher new_hasher : Sha1) (size : ℕ) (changes : List ChangeValue) (held : List ℕ) →
    IsGathered tables rows new_rows text new_text hasher new_hasher size changes → 2 ^ 23 ≤ size → IsCollected tables rows new_rows text new_text hasher new_hasher held changes None
enough_lines tables rows new_rows text new_text hasher new_hasher size changes held so_far all = record {
  lines = so_far.lines;
  chunk = so_far.chunk;
  took = so_far.took;
  full = omega (arith, so_far.size_is, all);
  rows_are = so_far.rows_are;
  hashed = so_far.hashed;
}

Consumes_then : (a b c : Option (List ℕ)) (bs : List ℕ) → Consumes a b bs → Keeps b c → Consumes a c bs
Consumes_then None b c bs took kept = tt
Consumes_then (Some x) None c bs took kept = absurd took
Consumes_then (Some x) (Some y) None bs took kept = absurd kept
Consumes_then (Some x) (Some y) (Some z) bs took kept = took ∙ (λ i. bs ++ sym kept i)

-- the line at the end comes
pub end_comes : (tables : List DescribedTable) (rows new_rows : ℕ) (text mid_text new_text : Option (List ℕ)) (hasher new_hasher : Sha1) (size : ℕ) (changes : List ChangeValue) (held : List ℕ) (number : ℕ) →
    IsGathered tables rows new_rows text mid_text hasher new_hasher size changes → Keeps mid_text new_text → IsEndLine number held → IsCollected tables rows new_rows text new_text hasher new_hasher held changes (Some number)
end_comes tables rows new_rows text mid_text new_text hasher new_hasher size changes held number so_far kept is_end = record {
  lines = so_far.lines;
  chunk = so_far.chunk;
  took = Consumes_then text mid_text new_text so_far.lines so_far.took kept;
  full = is_end;
  rows_are = so_far.rows_are;
  hashed = so_far.hashed;
}

-- A transaction of the lines that were collected.
pub given_lines : (tables : List DescribedTable) (source : List ℕ) (given rows new_given new_rows : ℕ) (text new_text : Option (List ℕ)) (hasher new_hasher : Sha1) (held : List ℕ) (d : DeliveryValue) (end : Option ℕ) (reader : Option (List ℕ)) →
    IsCollected tables rows new_rows text new_text hasher new_hasher held d.changes end → (0 < length d.changes) ⊎ (end ≡ None) → new_text ≡ prepend_known held reader →
    d.source ≡ source → d.number ≡ given + 1 → new_given ≡ d.number →
    IsGiven tables source given rows new_given new_rows text new_text hasher new_hasher d
given_lines tables source given rows new_given new_rows text new_text hasher new_hasher held d end reader got some holds source_is number_is given_is = record {
  lines = got.lines;
  chunk = chunk got.chunk some;
  took = got.took;
  full = full end got.full reader holds;
  source_is = source_is;
  number_is = number_is;
  given_is = given_is;
  rows_are = got.rows_are;
  hashed = got.hashed;
}
  where
    chunk : ((d.changes ≡ []) × (got.lines ≡ [])) ⊎ IsChunk tables d.changes got.lines → (0 < length d.changes) ⊎ (end ≡ None) → IsChunk tables d.changes got.lines
    chunk (inr one) _ = one
    chunk (inl none) (inl some) = absurd (omega (arith, some, ap length none.0))
    chunk (inl none) (inr full) =
        let long : 2 ^ 23 ≤ length got.lines = subst (λ (e : Option ℕ). MatchOption e (2 ^ 23 ≤ length got.lines) (λ number. IsEndLine number held)) full got.full in
        absurd (omega (arith, long, ap length none.1))

    begins : (number : ℕ) → IsEndLine number held → (reader : Option (List ℕ)) → IfSome (prepend_known held reader) BeginsWithEnd
    begins number is_end None = tt
    begins number is_end (Some rest) = record { number = number; line = held; rest = rest; is_end = is_end; text_is = refl }

    full : (end : Option ℕ) → MatchOption end (2 ^ 23 ≤ length got.lines) (λ number. IsEndLine number held) → (reader : Option (List ℕ)) → new_text ≡ prepend_known held reader → (2 ^ 23 ≤ length got.lines) ⊎ IfSome new_text BeginsWithEnd
    full None long reader holds = inl long
    full (Some number) is_end reader holds = inr (subst (λ (t : Option (List ℕ)). IfSome t BeginsWithEnd) (sym holds) (begins number is_end reader))

-- The line at the end is all that is left.
end_left : (line : List ℕ) (b : Option (List ℕ)) (P : List ℕ → Type 0) → IsAtEnd b → P line → IfSome (prepend_known line b) P
end_left line None P end holds = tt
end_left line (Some rest) P end holds = subst P (sym (append-nil line) ∙ (λ i. line ++ sym end i)) holds

-- Nothing was collected, and the line at the end was the last.
pub finished_lines : (rows said given new_given new_rows : ℕ) (line : List ℕ) (reader : Option (List ℕ)) (hasher new_hasher : Sha1) → IsEndLine said line → said ≡ rows → IsAtEnd reader → new_given ≡ given → new_rows ≡ rows →
    ((m : List ℕ) → Holds hasher m → Holds new_hasher (m ++ line)) → IsFinished given rows new_given new_rows (prepend_known line reader) hasher new_hasher
finished_lines rows said given new_given new_rows line reader hasher new_hasher is_end same end given_is rows_are hashed = record {
  end = end_left line reader (IsEndLine rows) end (subst (λ (n : ℕ). IsEndLine n line) same is_end);
  given_is = given_is;
  rows_are = rows_are;
  hashed = λ m holds. end_left line reader (λ bytes. Holds new_hasher (m ++ bytes)) end (hashed m holds);
}

Keeps_end : (a b c : Option (List ℕ)) (bs : List ℕ) → Consumes a b bs → bs ≡ [] → Keeps a b
Keeps_end None b c bs took none = tt
Keeps_end (Some x) None c bs took none = took
Keeps_end (Some x) (Some y) c bs took none = sym (took ∙ (λ i. none i ++ y))

-- What follows where nothing was collected is what was there.
pub finished_then : (tables : List DescribedTable) (given rows mid_rows new_given new_rows : ℕ) (text mid_text : Option (List ℕ)) (hasher mid_hasher new_hasher : Sha1) (held : List ℕ) (changes : List ChangeValue) (end : Option ℕ) →
    IsCollected tables rows mid_rows text mid_text hasher mid_hasher held changes end → length changes ≤ 0 → IsFinished given mid_rows new_given new_rows mid_text mid_hasher new_hasher →
    IsFinished given rows new_given new_rows text hasher new_hasher
finished_then tables given rows mid_rows new_given new_rows text mid_text hasher mid_hasher new_hasher held changes end got none done =
    let lines_none : got.lines ≡ [] = by got.chunk in
    let same_rows : mid_rows ≡ rows = omega (arith, got.rows_are, none) in
    let same_text = Keeps_end text mid_text text got.lines got.took lines_none in
    record {
      end = back text mid_text (IsEndLine rows) same_text (subst (λ (n : ℕ). IfSome mid_text (IsEndLine n)) same_rows done.end);
      given_is = done.given_is;
      rows_are = done.rows_are ∙ same_rows;
      hashed = λ m holds. back text mid_text (λ line. Holds new_hasher (m ++ line)) same_text
          (done.hashed m (subst (Holds mid_hasher) ((λ i. m ++ lines_none i) ∙ append-nil m) (got.hashed m holds)));
    }
  where
    by : ((changes ≡ []) × (got.lines ≡ [])) ⊎ IsChunk tables changes got.lines → got.lines ≡ []
    by (inl empty) = empty.1
    by (inr one) = absurd (omega (arith, none, ap length one.changes_are, length-append one.before (one.last ∷ [])))

    back : (a b : Option (List ℕ)) (P : List ℕ → Type 0) → Keeps a b → IfSome b P → IfSome a P
    back None b P kept holds = tt
    back (Some x) None P kept holds = absurd kept
    back (Some x) (Some y) P kept holds = subst P kept holds

-- the line that was read is what the text lost
pub line_read : (empty line : List ℕ) (a b : Option (List ℕ)) → empty ≡ [] → Keeps (prepend_known empty a) (prepend_known line b) → Consumes a b line
line_read empty line None b none kept = tt
line_read empty line (Some x) None none kept = absurd kept
line_read empty line (Some x) (Some y) none kept = sym (kept ∙ (λ i. none i ++ x))

not_different : (b : Bool) → false ≡ not b → true ≡ b
not_different true h = refl
not_different false h = sym h

-- The two lines at the head.
pub head_read : (ids : Ids) (set first second empty blank word : List ℕ) (a b d : Option (List ℕ)) → IsRead set ids → empty ≡ [] → blank ≡ [] → false ≡ not (bytes_eq first word) → word ≡ codes "mrep copy 1" ++ 10 ∷ [] →
    second ≡ set ++ 10 ∷ [] → Keeps (prepend_known empty a) (prepend_known first b) → Keeps (prepend_known blank b) (prepend_known second d) → TakesHead ids a d
head_read ids set first second empty blank word a b d read none clear same word_is second_is one two = record {
  head = first ++ second;
  is_head = record { set = set; read = read; head_is = (λ i. (same_text first word (not_different _ same) ∙ word_is) i ++ second_is i) ∙ append_assoc (codes "mrep copy 1") (10 ∷ []) (set ++ 10 ∷ []) };
  took = Consumes-trans a b d first second (line_read empty first a b none one) (line_read blank second b d clear two);
}

-- nothing of the text was lost where nothing was collected
pub none_collected : (tables : List DescribedTable) (rows mid_rows : ℕ) (text mid_text : Option (List ℕ)) (hasher mid_hasher : Sha1) (held : List ℕ) (changes : List ChangeValue) (end : Option ℕ) →
    IsCollected tables rows mid_rows text mid_text hasher mid_hasher held changes end → length changes ≤ 0 → Keeps text mid_text
none_collected tables rows mid_rows text mid_text hasher mid_hasher held changes end got none = Keeps_end text mid_text text got.lines got.took (by got.chunk)
  where
    by : ((changes ≡ []) × (got.lines ≡ [])) ⊎ IsChunk tables changes got.lines → got.lines ≡ []
    by (inl empty) = empty.1
    by (inr one) = absurd (omega (arith, none, ap length one.changes_are, length-append one.before (one.last ∷ [])))
