use Rattle.std.proofs.Common.{◌≡◌, ◌-◌, ℕ, List, Option, Some, None, length, sym, ap, subst, ◌∙◌, arith}
use Rattle.std.specs.Prelude.{slice_get}
use Rattle.feed.specs.Seconds.{seconds_at, BeginAt}
use Rattle.feed.proofs.Spans.{has_last, push_begins, last_later, last_begun}
use Rattle.feed.proofs.seconds.Seconds.set.Goals as goal

pub returns-then-end_with-clause-ok : goal.returns-then-end_with-clause-ok
returns-then-end_with-clause-ok c = λ n there.
    let found = c.end_with.ensures c.if-end_with.true in
    let last = subst (λ (xs : List (ℕ × Option ℕ)). slice_get xs (length xs - 1) ≡ Some found.0) c.deref.ensures.value found.1.0 in
    has_last c.cut.new.spans.items found.0 last n (omega (arith, there, c.cut.ensures.end found.0 last)) ∙ found.1.1

pub returns-clause-before : goal.returns-clause-before
returns-clause-before c = λ n less. ap (λ xs. seconds_at xs n) c.in_ok-push.ensures.items
    ∙ last_later None c.cut.new.spans.items (c.args.place, c.args.seconds) n less
    ∙ c.cut.ensures.before n less ∙ ap (λ xs. seconds_at xs n) c.self.view_is

pub returns-clause-ok : goal.returns-clause-ok
returns-clause-ok c = λ n there. ap (λ xs. seconds_at xs n) c.in_ok-push.ensures.items
    ∙ last_begun None c.cut.new.spans.items (c.args.place, c.args.seconds) n there

pub invariant_of-self-2 : goal.invariant_of-self-2
invariant_of-self-2 c = subst (BeginAt 0) (sym c.in_ok-push.ensures.items)
    (push_begins c.cut.new.spans.items c.args.place c.args.seconds c.cut.ensures.end c.cut.ensures.ordered)
