-- The layout that the rows of meta state.
use Rattle.store.proofs.Names.{ℤ, List, codes, Option, None, Some, subst, IsPermutation, IsPermutation-map, IsPermutation-sym, IsPermutation-filter, Int, Row, one_permutation, layouts, IsOnly}
use Rattle.sqlite_value.specs.Order.{column}
use Rattle.store.specs.Rows.{is_text}

same_layouts : (rows answer : List Row) → IsPermutation rows answer → IsPermutation (layouts rows) (layouts answer)
same_layouts rows answer same = IsPermutation-map (λ (row : Row). column row 2) _ _ (IsPermutation-filter (λ row. is_text (codes "layout") (column row 1)) rows answer same)

-- the number in rows in another order
pub only_back : (rows answer : List Row) (said : Option ℤ) → IsPermutation rows answer → IsOnly (layouts answer) said → IsOnly (layouts rows) said
only_back rows answer None same only = λ n says. only n (one_permutation (Int n) _ (subst (λ l. IsPermutation l (layouts answer)) says (same_layouts rows answer same)))
only_back rows answer (Some n) same only = one_permutation (Int n) _ (subst (λ l. IsPermutation l (layouts rows)) only (IsPermutation-sym _ _ (same_layouts rows answer same)))
