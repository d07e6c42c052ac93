use Rattle.first_copy.proofs.Names.{◌≡◌, List, ℕ, ◌∷◌, [], ◌++◌, false, not, subst, sym, refl, ◌∙◌, codes, bytes_eq}
use Rattle.first_copy.proofs.RowLines.{head_read}
use Rattle.first_copy.proofs.head.read_head.Goals as goal

pub returns-in-Ok-parse : goal.returns-in-Ok-parse
returns-in-Ok-parse g c =
    let is : false ≡ not (bytes_eq c.fill.new.line.items (codes "mrep copy 1" ++ 10 ∷ [])) =
    subst (λ (xs : List ℕ). false ≡ not (bytes_eq xs (codes "mrep copy 1" ++ 10 ∷ []))) c.as_slice.ensures.value c.if-ne.ensures in
    let ends : c.fill-2.new.line.items ≡ c.in-Ok.text.now ++ 10 ∷ [] = sym c.deref.ensures.value ∙ c.in-Some.ensures.some ∙ (λ i. sym c.in-Ok.ensures.cases.0 i ++ 10 ∷ []) in
    head_read c.in-Ok-parse.set c.in-Ok.text.now c.fill.new.line.items c.fill-2.new.line.items c.new-first.result.items c.new-second.result.items _ (g.R.Read.remaining c.args.reader.now) (g.R.Read.remaining c.fill.new.reader) (g.R.Read.remaining c.fill-2.new.reader)
    c.in-Ok-parse.ensures.found c.new-first.ensures.items c.new-second.ensures.items is refl ends c.in_ok-fill.ensures.kept c.in_ok-fill-2.ensures.kept
