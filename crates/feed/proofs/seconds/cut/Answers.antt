use Rattle.std.proofs.Common.{◌≡◌, ◌-◌, ℕ, List, Option, Some, length, take, sym, ap, subst, ◌∙◌, arith}
use Rattle.std.specs.Prelude.{slice_get}
use Rattle.feed.proofs.Spans.{cut_one}
use Rattle.feed.proofs.seconds.cut.Goals as goal

pub loop-from-preserved : goal.loop-from-preserved
loop-from-preserved c =
    let last = subst (λ (xs : List (ℕ × Option ℕ)). slice_get xs (length xs - 1) ≡ Some c.in-Some.field-0.now) c.deref.ensures.value (sym c.in-Some.ensures.value) in
    let long = sym c.deref.ensures.len ∙ ap (λ (xs : List (ℕ × Option ℕ)). length xs) c.deref.ensures.value in
    let one = cut_one c.loop-from.spans.items c.pop.new.self.items c.in-Some.field-0.now last (c.pop.ensures.rest ∙ ap (λ k. take (k - 1) c.loop-from.spans.items) long) c.loop-from.invariant.0 in
    (one.0, λ n less. one.1 n (omega (arith, less, c.if-from-place.true)) ∙ c.loop-from.invariant.1 n less)
