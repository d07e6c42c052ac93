-- The rows that the transactions of a text add.
use Rattle.first_copy.proofs.Names.{◌≡◌, ℕ, suc, ◌+◌, ◌≤◌, ◌<◌, ◌^◌, arith, true, List, [], ◌∷◌, ◌++◌, length, refl, sym, ap, subst, ◌∙◌, append_assoc, append-nil, length-append, string_bytes, Ids, DescribedTable, ChangeValue, DeliveryValue, IsEndLine}
use Rattle.std.proofs.Common.{ap₂, zero-add}
use Rattle.std.specs.List.{AllByRecursion}
use Rattle.binlog.specs.Filter.{Names}
use Rattle.gather.specs.Transaction.{changed_schema, changed_table}
use Rattle.store.specs.State.{Content, TableRow, row_of}
use Rattle.store.specs.Changes.{adopted, is_admitted}
use Rattle.replica.specs.Conn.{AppliesAll}
use Rattle.replica.specs.Marks.{begun_number}
use Rattle.replica.specs.Copies.{AreAdmitted, end_of_copy}
use Rattle.replica.specs.Copied.{AreAdded, AreAdditions, AreCopied, AreNumbered, NoneExecuted, with_all}
use Rattle.replica.proofs.CopyLoads.{loaded_rows}
use Rattle.first_copy.specs.RowLines.{IsRowLine}
use Rattle.first_copy.specs.CopyLines.{AreRowLines, IsChunk}
use Rattle.first_copy.specs.LoadedText.{HasLinesOf}
use Rattle.first_copy.specs.Supplied.{all_changes, AreOfTables, HaveLines}

-- The filter admits the tables of the changes.
abbrev pub Admitted : Names → List ChangeValue → Type 0
Admitted names changes = AllByRecursion (λ change. is_admitted names change ≡ true) changes

admitted_first : (names : Names) (xs ys : List ChangeValue) → Admitted names (xs ++ ys) → Admitted names xs
admitted_first names [] ys all = tt
admitted_first names (x ∷ xs) ys all = (all.0, admitted_first names xs ys all.1)

admitted_then : (names : Names) (xs ys : List ChangeValue) → Admitted names (xs ++ ys) → Admitted names ys
admitted_then names [] ys all = all
admitted_then names (x ∷ xs) ys all = admitted_then names xs ys all.1

-- A filter that admits the tables of a copy admits its changes.
pub admits_all : (names copied : Names) (changes : List ChangeValue) → AreAdmitted names copied → AreOfTables copied changes → Admitted names changes
admits_all names copied [] admitted are = tt
admits_all names copied (c ∷ changes) admitted are = (admitted (changed_schema c) (changed_table c) are.0, admits_all names copied changes admitted are.1)

-- what some lines add, before whatever comes next
lines_add : (names : Names) (tables : List DescribedTable) (changes : List ChangeValue) (lines : List ℕ) → AreRowLines tables changes lines → Admitted names changes
    → (rows : List TableRow) × AreAdditions names changes rows × (length rows ≡ length changes) × ((Then : List ℕ → Type 0) (rest : List ℕ) → Then rest → HasLinesOf tables rows Then (lines ++ rest))
lines_add names tables [] lines are admitted = ([], refl, refl, λ Then rest then_it. subst (λ (l : List ℕ). Then (l ++ rest)) (sym are) then_it)
lines_add names tables (change ∷ changes) lines (line, more, is_row, text_is, others) admitted =
    let schema = string_bytes is_row.row.table.schema in
    let name = string_bytes is_row.row.table.name in
    let row = row_of schema name is_row.cells in
    let rest = lines_add names tables changes more others admitted.1 in (
      row ∷ rest.0,
      subst (λ (c : ChangeValue). AreAdditions names (c ∷ changes) (row ∷ rest.0)) (sym is_row.change_is) (rest.0, refl, subst (λ (c : ChangeValue). is_admitted names c ≡ true) is_row.change_is admitted.0, rest.1),
      ap (λ k. suc k) rest.2,
      λ Then after then_it. (
        line,
        more ++ after,
        record { place = is_row.place; cells = is_row.cells; at = is_row.row; row_is = refl },
        ap (λ (l : List ℕ). l ++ after) text_is ∙ append_assoc line more after,
        rest.3 Then after then_it,
      ),
    )

-- the last line too
lines_last : (tables : List DescribedTable) (before : List ChangeValue) (last : ChangeValue) (start line : List ℕ) → AreRowLines tables before start → IsRowLine tables line last → AreRowLines tables (before ++ last ∷ []) (start ++ line)
lines_last tables [] last start line are is_row = (line, [], is_row, ap (λ (l : List ℕ). l ++ line) are ∙ sym (append-nil line), refl)
lines_last tables (change ∷ before) last start line (first, more, first_row, text_is, others) is_row =
    (first, more ++ line, first_row, ap (λ (l : List ℕ). l ++ line) text_is ∙ append_assoc first more line, lines_last tables before last more line others is_row)

lines_of_chunk : (tables : List DescribedTable) (changes : List ChangeValue) (text : List ℕ) → IsChunk tables changes text → AreRowLines tables changes text
lines_of_chunk tables changes text it =
    subst (λ (cs : List ChangeValue). AreRowLines tables cs text) (sym it.changes_are) (subst (λ (l : List ℕ). AreRowLines tables (it.before ++ it.last ∷ []) l) (sym it.text_is) (lines_last tables it.before it.last it.start it.line it.start_are it.line_is))

lines_both : (tables : List DescribedTable) (xs ys : List TableRow) (Then : List ℕ → Type 0) (text : List ℕ) → HasLinesOf tables xs (λ more. HasLinesOf tables ys Then more) text → HasLinesOf tables (xs ++ ys) Then text
lines_both tables [] ys Then text has = has
lines_both tables (x ∷ xs) ys Then text has = (has.0, has.1, has.2, has.3, lines_both tables xs ys Then has.1 has.4)

-- all transactions of a text
all_rows : (names : Names) (tables : List DescribedTable) (source : List ℕ) (number : ℕ) (Then : List ℕ → Type 0) (ds : List DeliveryValue) (text : List ℕ) → HaveLines tables source number Then ds text → Admitted names (all_changes ds)
    → (rows : List TableRow) × AreCopied names ds rows × AreNumbered source number ds × (length rows ≡ length (all_changes ds)) × HasLinesOf tables rows Then text
all_rows names tables source number Then [] text have admitted = ([], refl, tt, refl, have)
all_rows names tables source number Then (d ∷ ds) text have admitted =
    let first = lines_add names tables d.changes have.0 (lines_of_chunk tables d.changes have.0 have.3) (admitted_first names d.changes (all_changes ds) admitted) in
    let others = all_rows names tables source (number + 1) Then ds have.1 have.7 (admitted_then names d.changes (all_changes ds) admitted) in (
      first.0 ++ others.0,
      (first.0, others.0, refl, first.1, others.1),
      (have.5, have.6, others.2),
      length-append first.0 others.0 ∙ ap₂ (λ m n. m + n) first.2 others.3 ∙ sym (length-append d.changes (all_changes ds)),
      lines_both tables first.0 others.0 Then text (subst (λ (l : List ℕ). HasLinesOf tables first.0 (λ more. HasLinesOf tables others.0 Then more) l) (sym have.2) (first.3 (λ more. HasLinesOf tables others.0 Then more) have.1 others.4)),
    )

loaded : (names : Names) (tables : List DescribedTable) (source text : List ℕ) (old new : Content) (ids : Ids) (ds : List DeliveryValue) (n : ℕ) → HaveLines tables source 2 (IsEndLine (0 + length (all_changes ds))) ds text → Admitted names (all_changes ds)
    → NoneExecuted source 2 (adopted old ids).executed → 2 + length ds ≤ begun_number → AppliesAll names (adopted old ids) (ds ++ end_of_copy source ∷ []) n new
    → (rows : List TableRow) × HasLinesOf tables rows (IsEndLine (length rows)) text × (n ≡ length ds + 1) × AreAdded rows old.rows new.rows × (new.executed ≡ with_all (adopted old ids).executed (ds ++ end_of_copy source ∷ []))
loaded names tables source text old new ids ds n have admitted none few applies =
    let all = all_rows names tables source 2 (IsEndLine (0 + length (all_changes ds))) ds text have admitted in
    let same : 0 + length (all_changes ds) ≡ length all.0 = zero-add (length (all_changes ds)) ∙ sym all.3 in
    let made = loaded_rows names source 2 (adopted old ids) ds all.0 n new none few all.2 all.1 applies in
    (all.0, subst (λ (k : ℕ). HasLinesOf tables all.0 (IsEndLine k) text) same all.4, made.0, made.1, made.2)

pub changes_of : (ds : List DeliveryValue) (source : List ℕ) → all_changes (ds ++ end_of_copy source ∷ []) ≡ all_changes ds
changes_of [] source = refl
changes_of (d ∷ ds) source = ap (λ (cs : List ChangeValue). d.changes ++ cs) (changes_of ds source)

-- with the one that says that the copy has ended
pub loaded_all : (names : Names) (tables : List DescribedTable) (source text : List ℕ) (old new : Content) (ids : Ids) (ds rows_of : List DeliveryValue) (n : ℕ) → HaveLines tables source 2 (IsEndLine (0 + length (all_changes rows_of))) rows_of text
    → ds ≡ rows_of ++ end_of_copy source ∷ [] → length ds < 2 ^ 62 → Admitted names (all_changes ds)
    → NoneExecuted source 2 (adopted old ids).executed → AppliesAll names (adopted old ids) ds n new
    → (rows : List TableRow) × HasLinesOf tables rows (IsEndLine (length rows)) text × (n ≡ length ds) × AreAdded rows old.rows new.rows × (new.executed ≡ with_all (adopted old ids).executed ds)
loaded_all names tables source text old new ids ds rows_of n have same few admitted none applies =
    let size : length ds ≡ length rows_of + 1 = ap length same ∙ length-append rows_of (end_of_copy source ∷ []) in
    let made = loaded names tables source text old new ids rows_of n have (subst (λ cs. Admitted names cs) (ap all_changes same ∙ changes_of rows_of source) admitted) none (omega (arith, few, size)) (subst (λ l. AppliesAll names (adopted old ids) l n new) same applies) in
    (made.0, made.1, made.2 ∙ sym size, made.3, made.4 ∙ ap (λ l. with_all (adopted old ids).executed l) (sym same))
