-- What the checks of rows report.
use Rattle.store.proofs.Names.{◌≡◌, ◌⊎◌, ◌<◌, ◌+◌, pos, MatchBool, inl, inr, IsTrue, ◌≤◌, ℕ, ℤ, suc, zero, Bool, true, false, List, [], ◌∷◌, length, Option, Some, refl, sym, ap, subst, ◌∙◌, arith, AllByRecursion, is_eq, Less, Value, Int, Blob, Row, rowid, is_int, IsSource, Span, IsSomeImage, alike, HasRowids, IsFollowRow, IsExecutedRow, IsSpanRow, IsHeldRow, name_in, id_in, span_in, most, RowidsRise, span_of_id}
use Rattle.std.proofs.Common.{◌<ℤ◌, drop}
use Rattle.std.specs.List.{IsDistinct}
use Rattle.std.specs.Cmp.{int_cmp_is}
use Rattle.std.specs.Cmp.{int_chain}
use Rattle.sqlite_value.specs.Order.{column, value_cmp}
use Rattle.sqlite_value.proofs.OrderLemmas.{value_cmp-Int}
use Rattle.store.specs.Rows.{span_from, key_of}

pub rise_end : (last : Option ℤ) (rows : List Row) (n : ℕ) → length rows ≤ n → RowidsRise last (drop n rows)
rise_end last [] zero long = tt
rise_end last [] (suc n) long = tt
rise_end last (row ∷ rows) zero long = absurd (omega arith)
rise_end last (row ∷ rows) (suc n) long = rise_end last rows n (omega arith)

-- a rowid above another one is a different one
apart : (a b : ℤ) → a <ℤ b → is_eq (value_cmp (Int a) (Int b)) ≡ false
apart a b less = ap is_eq (value_cmp-Int a b ∙ sym (int_cmp_is a b Less less))

all_above : (a : ℤ) (last : ℤ) (row : Row) (rows : List Row) → rowid row ≡ Int a → (a ≡ last) ⊎ (a <ℤ last) → RowidsRise (Some last) rows → AllByRecursion (λ y. alike row y ≡ false) rows
all_above a last row [] is low rise = tt
all_above a last row (y ∷ rows) is low rise =
    let less : a <ℤ rise.0 = elim low [ inl same ↦ subst (λ z. z <ℤ rise.0) (sym same) rise.2 | inr below ↦ int_chain a last rise.0 below rise.2 ] in
    (rw (is, rise.1) (apart a rise.0 less), all_above a rise.0 row rows is (inr less) rise.3)

distinct_rising : (last : Option ℤ) (rows : List Row) → RowidsRise last rows → IsDistinct alike rows
unfolding IsDistinct
distinct_rising last [] rise = tt
distinct_rising last (row ∷ rows) rise = (all_above rise.0 rise.0 row rows rise.1 (inl refl) rise.3, distinct_rising (Some rise.0) rows rise.3)

int_is : (v : Value) (n : ℤ) → v ≡ Int n → IsTrue (is_int v)
int_is v n is = rw is refl

keyed_rising : (last : Option ℤ) (rows : List Row) → RowidsRise last rows → AllByRecursion (λ r. IsTrue (is_int (rowid r))) rows
keyed_rising last [] rise = tt
keyed_rising last (row ∷ rows) rise = (int_is (rowid row) rise.0 rise.1, keyed_rising (Some rise.0) rows rise.3)

pub rise_rowids : (last : Option ℤ) (rows : List Row) → RowidsRise last rows → HasRowids rows
rise_rowids last rows rise = record { apart = distinct_rising last rows rise; keyed = keyed_rising last rows rise }

-- ---- A row by its columns.

pub row_of_three : (row : Row) (a b c : Value) → length row ≡ 3 → a ≡ column row 0 → b ≡ column row 1 → c ≡ column row 2 → row ≡ a ∷ b ∷ c ∷ []
row_of_three [] a b c long is0 is1 is2 = absurd (omega arith)
row_of_three (x ∷ []) a b c long is0 is1 is2 = absurd (omega arith)
row_of_three (x ∷ y ∷ []) a b c long is0 is1 is2 = absurd (omega arith)
row_of_three (x ∷ y ∷ z ∷ []) a b c long is0 is1 is2 = rw (is0, is1, is2) refl
row_of_three (x ∷ y ∷ z ∷ w ∷ row) a b c long is0 is1 is2 = absurd (omega arith)

pub row_of_four : (row : Row) (a b c d : Value) → length row ≡ 4 → a ≡ column row 0 → b ≡ column row 1 → c ≡ column row 2 → d ≡ column row 3 → row ≡ a ∷ b ∷ c ∷ d ∷ []
row_of_four [] a b c d long is0 is1 is2 is3 = absurd (omega arith)
row_of_four (x ∷ row) a b c d long is0 is1 is2 is3 = let rest = row_of_three row b c d (omega arith) is1 is2 is3 in rw (is0, rest) refl

pub row_of_five : (row : Row) (a b c d e : Value) → length row ≡ 5 → a ≡ column row 0 → b ≡ column row 1 → c ≡ column row 2 → d ≡ column row 3 → e ≡ column row 4 → row ≡ a ∷ b ∷ c ∷ d ∷ e ∷ []
row_of_five [] a b c d e long is0 is1 is2 is3 is4 = absurd (omega arith)
row_of_five (x ∷ row) a b c d e long is0 is1 is2 is3 is4 = let rest = row_of_four row b c d e (omega arith) is1 is2 is3 is4 in rw (is0, rest) refl

-- ---- Rows that keep the rules.

pub lawful_name : (row : Row) (id : ℤ) (a b x y : List ℕ) → row ≡ Int id ∷ Blob a ∷ Blob b ∷ [] → x ≡ a → y ≡ b → IsFollowRow row × ((x, y) ≡ name_in row)
lawful_name row id a b x y is first second = ((id, (a, b), is), rw (is, first, second) refl)

pub lawful_id : (row : Row) (id : ℤ) (source : List ℕ) (n : ℕ) (s : Span) → row ≡ Int id ∷ Blob source ∷ Int (pos n) ∷ [] → IsSource source → 1 ≤ n → n < 9223372036854775807 → s ≡ span_from source n (n + 1)
    → IsExecutedRow row × (s ≡ span_of_id (id_in row))
lawful_id row id source n s is lawful low high s_is =
    ((id, (source, n), is, (lawful, low, omega (arith, high))), s_is ∙ ap (λ r. span_of_id (id_in r)) (sym is))

pub lawful_span : (row : Row) (id : ℤ) (source : List ℕ) (lo hi : ℕ) (s : Span) → row ≡ Int id ∷ Blob source ∷ Int (pos lo) ∷ Int (pos hi) ∷ [] → IsSource source
    → 1 ≤ lo → lo < hi → hi ≤ most → s ≡ span_from source lo hi → IsSpanRow row × (s ≡ span_in row)
lawful_span row id source lo hi s is lawful low some high s_is = ((id, span_from source lo hi, is, lawful, low, some, omega (arith, high)), s_is ∙ ap span_in (sym is))

unstored : (row : Row) (id : ℤ) (a b image : List ℕ) (z : ℤ) → row ≡ Int id ∷ Blob a ∷ Blob b ∷ Blob image ∷ Int z ∷ [] → ¬ IsSomeImage image → ¬ IsHeldRow row
unstored row id a b image z is none held =
    let same : (Int id ∷ Blob a ∷ Blob b ∷ Blob image ∷ Int z ∷ []) ≡ (Int held.0 ∷ Blob held.1.schema ∷ Blob held.1.table ∷ Blob held.1.image ∷ Int (pos held.2) ∷ []) = sym is ∙ held.3 in
    let one : held.1.image ≡ image = cc in
    none (subst IsSomeImage one held.6)

pub lawful_held : (row : Row) (id : ℤ) (a b image : List ℕ) (n : ℕ) (is_image : Bool) → row ≡ Int id ∷ Blob a ∷ Blob b ∷ Blob image ∷ Int (pos n) ∷ [] → 1 ≤ n → n ≤ most
    → MatchBool is_image (IsSomeImage image) (¬ IsSomeImage image) → MatchBool is_image (IsHeldRow row) (¬ IsHeldRow row)
lawful_held row id a b image n true is low high stored = (id, key_of a b image, n, is, low, high, stored)
lawful_held row id a b image n false is low high none = unstored row id a b image (pos n) is none
