use Rattle.binlog.proofs.Names.{◌≡◌, ℕ, ◌++◌, List, sym, ap, ◌∙◌, arith, take, take-append-drop}
use Rattle.std.proofs.Common.{drop}
use Rattle.std.specs.Cmp.Lexicographic.{slice_cmp}
use Rattle.std.specs.Ordering.{nat_cmp, ordering_then}
use Rattle.std.proofs.lemmas.Grind.{common_steps}
use Rattle.binlog.proofs.JoinedBytes.{compares_short, compares_joined, then_unlike}
use Rattle.binlog.proofs.reading.compare_joined.Goals as goal

pub returns-then-bytes-first : goal.returns-then-bytes-first
returns-then-bytes-first c = c.cmp.ensures ∙ compares_short c.args.bytes.now c.args.first.now c.args.second.now (grind (arith, common_steps))

-- the bytes are the two parts into which they were split
parts_are : (front back bytes : List ℕ) (n : ℕ) → front ≡ take n bytes → back ≡ drop n bytes → front ++ back ≡ bytes
parts_are front back bytes n f b = (λ i. f i ++ b i) ∙ take-append-drop n bytes

pub returns-in-Equal : goal.returns-in-Equal
returns-in-Equal c =
    let f = c.split_at.result.0.now in
    let b = c.split_at.result.1.now in
    let first = c.args.first.now in
    let second = c.args.second.now in
    c.cmp-in-Equal.ensures
    ∙ ap (λ o. ordering_then o (slice_cmp nat_cmp b second)) (sym c.in-Equal.is ∙ c.cmp-2.ensures)
    ∙ sym (compares_joined f b first second (grind (arith, common_steps)))
    ∙ ap (λ (l : List ℕ). slice_cmp nat_cmp l (first ++ second)) (parts_are f b c.args.bytes.now _ c.split_at.ensures.front c.split_at.ensures.back)

pub returns-in_default : goal.returns-in_default
returns-in_default c =
    let f = c.split_at.result.0.now in
    let b = c.split_at.result.1.now in
    let first = c.args.first.now in
    let second = c.args.second.now in
    sym (then_unlike c.cmp-2.result (slice_cmp nat_cmp b second) c.in_default.not-Equal)
    ∙ ap (λ o. ordering_then o (slice_cmp nat_cmp b second)) c.cmp-2.ensures
    ∙ sym (compares_joined f b first second (grind (arith, common_steps)))
    ∙ ap (λ (l : List ℕ). slice_cmp nat_cmp l (first ++ second)) (parts_are f b c.args.bytes.now _ c.split_at.ensures.front c.split_at.ensures.back)
