-- The lines of the rows of a database.
use Rattle.std.proofs.Common.{◌≡◌, ℕ, Bool, true, false, List, [], ◌∷◌, Option, Result, Ok, inl, inr, refl, sym, ap, subst, ◌∙◌, append-nil}
use Rattle.std.specs.Prelude.{MatchBool, if◌then◌else◌}
use Rattle.std.specs.List.{FoldsTo}
use Rattle.std.proofs.lemmas.Bool.{false≢true}
use Rattle.std.specs.Io.KnownBytes.{Appends}
use Rattle.std.proofs.KnownBytes.{Appends-nil, Appends-trans}
use Rattle.binlog.specs.Filter.{Names, admits}
use Rattle.store.specs.State.{Content}
use Rattle.store.specs.Listing.{Entry, Accepts, Hands, ListsBag}
use Rattle.rows.specs.RowText.{row_text}
use Rattle.store.specs.Listing.{IsListed}
use Rattle.rows.specs.declared.text_rows.TextRows.{TextRows}
use Rattle.rows.specs.TextLines.{WritesLine, AsksForRows, row_lines, HasLines}

module _ {W : Type 0} (contents : W → Option (List ℕ)) where
  one_line : (asked : Bool) (v w : TextRows W) (text : List ℕ) → MatchBool asked (Appends (contents v.out.now) (contents w.out.now) text) (w.out.now ≡ v.out.now) → Appends (contents v.out.now) (contents w.out.now) (if asked then text else [])
  one_line true v w text is = is
  one_line false v w text is = subst (λ (x : W). Appends (contents v.out.now) (contents x) []) (sym is) (Appends-nil (contents v.out.now))

  all_lines : (E : Type 0) (es : List Entry) (v w : TextRows W) → FoldsTo (Accepts {E = E} (WritesLine contents)) v es w → Appends (contents v.out.now) (contents w.out.now) (row_lines v.chosen.tables es)
  all_lines E [] v w folds = subst (λ (x : TextRows W). Appends (contents v.out.now) (contents x.out.now) []) folds (Appends-nil (contents v.out.now))
  all_lines E (e ∷ es) v w folds =
      let mid = folds.0 in
      let first = folds.1 in
      Appends-trans (contents v.out.now) (contents mid.out.now) (contents w.out.now) (if admits v.chosen.tables e.0.schema e.0.table then row_text e.0.schema e.0.table e.1 e.0.cells else []) (row_lines v.chosen.tables es)
      (one_line (admits v.chosen.tables e.0.schema e.0.table) v mid (row_text e.0.schema e.0.table e.1 e.0.cells) first.1)
      (subst (λ (n : Names). Appends (contents mid.out.now) (contents w.out.now) (row_lines n es)) first.0 (all_lines E es mid w folds.2))

  by_hands : (E : Type 0) (content : Content) (mid new : TextRows W) → Hands {E = E} (WritesLine contents) content.rows mid new (Ok tt) → HasLines contents content.rows mid new
  by_hands E content mid new hands = record {
    entries = hands.first;
    lists = subst (λ (es : List Entry). ListsBag content.rows es) (append-nil hands.first) hands.are;
    lines = all_lines E hands.first mid new hands.accepted;
  }

  pub written : (E : Type 0) (names : Names) (content : Content) (old new : TextRows W) → IsListed {E = E} AsksForRows (WritesLine contents) names content old new (Ok tt) → HasLines contents content.rows old new
  written E names content old new it = elim it [
    | inl asked ↦ subst (λ (v : TextRows W). HasLines contents content.rows v new) asked.1.1 (by_hands E content asked.0 new asked.2)
    | inr other ↦ elim other [
      | inl none ↦ absurd (false≢true none.0.0)
      | inr failed ↦ absurd failed.1
    ]
  ]
