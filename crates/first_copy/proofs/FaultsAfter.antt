-- What is wrong after the lines that were taken.
use Rattle.first_copy.proofs.Names.{◌≡◌, ◌≢◌, ℕ, ◌+◌, ◌-◌, ◌<◌, ◌≤◌, ◌^◌, Bool, true, false, not, List, [], ◌∷◌, ◌++◌, length, Option, Some, None, refl, ap, sym, subst, ◌∙◌, arith, IfSome, Consumes, prepend_known, Sha1, Are, DescribedTable, ChangeValue, IsRowFault, IsEndLine, IsGathered, IsKnownFault, RowFault}
use Rattle.std.proofs.Common.{min}
use Rattle.std.specs.Prelude.{◌==◌}
use Rattle.std.specs.Io.KnownBytes.{Keeps}
use Rattle.std.specs.Io.BufRead.{take_through}
use Rattle.std.proofs.lemmas.Bool.{eqb-true}
use Rattle.first_copy.specs.CopySteps.{IsCollected}
use Rattle.first_copy.specs.CopyFaults.{line_after, is_no_newline, IsFaultAt, IsFaultOfCopy, copied_fault, IsFillFault, IsReaderFault, IsAfterRows, OnTooMany, IsOutOfRows}
use Rattle.first_copy.specs.declared.fault.RowFault.TheVariants as row
use Rattle.first_copy.specs.declared.copy_fault.CopyFault.{CopyFault}
use Rattle.first_copy.specs.declared.copy_fault.CopyFault.TheVariants.{Cut, Count, Trailing, Reader, TooMany, Memory}
use Rattle.first_copy.proofs.RowLines.{none_collected}

-- bytes up to a newline, which do not end with one, are all, and have none
no_newline : (xs : List ℕ) → ((front : List ℕ) → take_through 10 xs ≡ front ++ 10 ∷ [] → ⊥) → Are is_no_newline xs
no_newline [] none = tt
no_newline (x ∷ xs) none = by (x == 10) refl (λ other. no_newline xs (λ front e. none (x ∷ front) (rw other (λ i. x ∷ e i))))
  where
    by : (t : Bool) → (x == 10) ≡ t → ((x == 10) ≡ false → Are is_no_newline xs) → Are is_no_newline (x ∷ xs)
    by true same others = absurd (none [] (rw same (λ i. eqb-true x 10 same i ∷ [])))
    by false other others = (ap not other, others other)

-- The line that was read has no newline at its end: it was cut.
pub cut_line : (old new : List ℕ) (b : Option (List ℕ)) (number : ℕ) → old ≡ [] → IfSome b (λ xs. new ≡ old ++ take_through 10 xs) → ((front : List ℕ) → new ≡ front ++ 10 ∷ [] → ⊥) →
    IfSome (prepend_known old b) (λ text. IsFillFault number text (Cut number))
cut_line old new None number empty read none = tt
cut_line old new (Some xs) number empty read none =
    (refl, subst (λ (front : List ℕ). Are is_no_newline (front ++ xs)) (sym empty) (no_newline xs (λ front e. none front (read ∙ (λ i. empty i ++ take_through 10 xs) ∙ e))))

pub known_after : (tables : List DescribedTable) (rows mid_rows : ℕ) (text mid_text : Option (List ℕ)) (hasher mid_hasher : Sha1) (size : ℕ) (changes : List ChangeValue) (fault : CopyFault) →
    IsGathered tables rows mid_rows text mid_text hasher mid_hasher size changes → IfSome mid_text (λ rest. IsFaultAt tables mid_rows rest fault) → IsKnownFault tables rows text fault
known_after tables rows mid_rows text mid_text hasher mid_hasher size changes fault so_far wrong = by text mid_text so_far.took wrong
  where
    by : (a b : Option (List ℕ)) → Consumes a b so_far.lines → IfSome b (λ rest. IsFaultAt tables mid_rows rest fault) → IsKnownFault tables rows a fault
    by None b took wrong = tt
    by (Some x) None took wrong = absurd took
    by (Some x) (Some y) took wrong =
        record { all = mid_rows; rest = y; after = record { changes = changes; lines = so_far.lines; are = so_far.are; text_is = took; all_is = so_far.rows_are }; wrong = wrong }

-- right here
pub known_here : (tables : List DescribedTable) (rows : ℕ) (text : Option (List ℕ)) (fault : CopyFault) → IfSome text (λ rest. IsFaultAt tables rows rest fault) → IsKnownFault tables rows text fault
known_here tables rows None fault wrong = tt
known_here tables rows (Some x) fault wrong = record { all = rows; rest = x; after = record { changes = []; lines = []; are = refl; text_is = refl; all_is = omega arith }; wrong = wrong }

pub always : (o : Option (List ℕ)) (P : List ℕ → Type 0) → ((x : List ℕ) → P x) → IfSome o P
always None P holds = tt
always (Some x) P holds = holds x

pub if_more : (o : Option (List ℕ)) (P Q : List ℕ → Type 0) → ((x : List ℕ) → P x → Q x) → IfSome o P → IfSome o Q
if_more None P Q step holds = tt
if_more (Some x) P Q step holds = step x holds

pub too_many : (tables : List DescribedTable) (rows : ℕ) (text : Option (List ℕ)) → IsKnownFault tables rows text TooMany
too_many tables rows text = known_here tables rows text TooMany (always text (λ rest. IsFaultAt tables rows rest TooMany) (λ x. tt))

pub filled_fault : (tables : List DescribedTable) (all number : ℕ) (text : List ℕ) (fault : CopyFault) → number ≡ line_after all → IsFillFault number text fault → IsFaultAt tables all text fault
filled_fault tables all number text (Cut line) is wrong = (wrong.0 ∙ is, wrong.1)
filled_fault tables all number text (Reader line error) is wrong = tt
filled_fault tables all number text Memory is wrong = tt
filled_fault tables all number text _ is wrong = absurd wrong

pub read_here : (tables : List DescribedTable) (all : ℕ) (text : List ℕ) (fault : CopyFault) → IsReaderFault fault → IsFaultAt tables all text fault
read_here tables all text (Reader line error) wrong = tt
read_here tables all text Memory wrong = tt
read_here tables all text _ wrong = absurd wrong

one_row : (tables : List DescribedTable) (all number : ℕ) (line more : List ℕ) (fault : RowFault) → number ≡ line_after all → IsRowFault tables line fault → IsFaultAt tables all (line ++ more) (copied_fault number fault)
one_row tables all number line more row.Memory is wrong = tt
one_row tables all number line more _ is wrong = (is, λ e. cc, (line, more, refl, wrong))

-- The next line has a fault.
pub row_after : (tables : List DescribedTable) (all number : ℕ) (line : List ℕ) (fault : RowFault) (mid reader : Option (List ℕ)) → number ≡ line_after all → Keeps mid (prepend_known line reader) → IsRowFault tables line fault →
    IfSome mid (λ rest. IsFaultAt tables all rest (copied_fault number fault))
row_after tables all number line fault None reader is kept wrong = tt
row_after tables all number line fault (Some x) None is kept wrong = absurd kept
row_after tables all number line fault (Some x) (Some y) is kept wrong = subst (λ (rest : List ℕ). IsFaultAt tables all rest (copied_fault number fault)) kept (one_row tables all number line y fault is wrong)

-- the line at the end has another number
pub other_count : (tables : List DescribedTable) (rows number said : ℕ) (line : List ℕ) (reader : Option (List ℕ)) → number ≡ line_after rows → said ≢ rows → IsEndLine said line → IfSome (prepend_known line reader) (λ rest. IsFaultAt tables rows rest (Count number said rows))
other_count tables rows number said line None is other end = tt
other_count tables rows number said line (Some y) is other end = (is, refl, other, (line, y, refl, end))

-- something stands behind it
pub trailed : (tables : List DescribedTable) (rows number said : ℕ) (line old new : List ℕ) (reader : Option (List ℕ)) → number ≡ min (line_after rows + 1) (2 ^ 64 - 1) → said ≡ rows → IsEndLine said line → old ≡ [] → 0 < length new → IfSome reader (λ xs. new ≡ old ++ take_through 10 xs) →
    IfSome (prepend_known line reader) (λ rest. IsFaultAt tables rows rest (Trailing number))
trailed tables rows number said line old new None is same end none some read = tt
trailed tables rows number said line old new (Some []) is same end none some read = absurd (omega (arith, some, ap length read, ap length ((λ i. none i ++ take_through 10 []))))
trailed tables rows number said line old new (Some (y ∷ ys)) is same end none some read = (is, (line, y ∷ ys, refl, subst (λ (n : ℕ). IsEndLine n line) same end, omega arith))

-- ---- That no number is left.

pub never_full : (fault : CopyFault) (P : Type 0) → OnTooMany fault ⊥ → OnTooMany fault P
never_full TooMany P none = absurd none
never_full _ P none = tt

pub full_then : (fault : CopyFault) (P Q : Type 0) → (P → Q) → OnTooMany fault P → OnTooMany fault Q
full_then TooMany P Q step holds = step holds
full_then _ P Q step holds = tt

pub read_other : (fault : CopyFault) (P : Type 0) → IsReaderFault fault → OnTooMany fault P
read_other TooMany P wrong = absurd wrong
read_other _ P wrong = tt

pub row_other : (line : ℕ) (fault : RowFault) (P : Type 0) → OnTooMany (copied_fault line fault) P
row_other line row.Memory P = tt
row_other line _ P = tt

pub out_of_rows : (tables : List DescribedTable) (rows mid_rows : ℕ) (text mid_text : Option (List ℕ)) (hasher mid_hasher : Sha1) (size : ℕ) (changes : List ChangeValue) →
    IsGathered tables rows mid_rows text mid_text hasher mid_hasher size changes → mid_rows ≡ 2 ^ 64 - 1 → IsOutOfRows tables rows mid_rows text
out_of_rows tables rows mid_rows text mid_text hasher mid_hasher size changes so_far last = record { all_numbered = last; taken = by text mid_text so_far.took }
  where
    by : (a b : Option (List ℕ)) → Consumes a b so_far.lines → IfSome a (λ bytes. (rest : List ℕ) × IsAfterRows tables rows bytes mid_rows rest)
    by None b took = tt
    by (Some x) None took = absurd took
    by (Some x) (Some y) took = (y, record { changes = changes; lines = so_far.lines; are = so_far.are; text_is = took; all_is = so_far.rows_are })

-- A fault after nothing was collected.
pub fault_then : (tables : List DescribedTable) (rows mid_rows : ℕ) (text mid_text : Option (List ℕ)) (hasher mid_hasher : Sha1) (held : List ℕ) (changes : List ChangeValue) (end : Option ℕ) (fault : CopyFault) →
    IsCollected tables rows mid_rows text mid_text hasher mid_hasher held changes end → length changes ≤ 0 → IsKnownFault tables mid_rows mid_text fault → IsKnownFault tables rows text fault
fault_then tables rows mid_rows text mid_text hasher mid_hasher held changes end fault got none wrong =
    let same_rows : mid_rows ≡ rows = omega (arith, got.rows_are, none) in
    let same_text = none_collected tables rows mid_rows text mid_text hasher mid_hasher held changes end got none in
    by text mid_text same_text (subst (λ (n : ℕ). IsKnownFault tables n mid_text fault) same_rows wrong)
  where
    by : (a b : Option (List ℕ)) → Keeps a b → IsKnownFault tables rows b fault → IsKnownFault tables rows a fault
    by None b kept known = tt
    by (Some x) None kept known = absurd kept
    by (Some x) (Some y) kept known = subst (λ (bytes : List ℕ). IsFaultOfCopy tables rows bytes fault) kept known
