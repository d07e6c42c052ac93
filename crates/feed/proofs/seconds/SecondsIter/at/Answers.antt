use Rattle.std.proofs.Common.{rules, arith, ap, ◌∙◌, ◌≤◌, ◌<◌, get_or, length, None}
use Rattle.feed.specs.Seconds.{seconds_after}
use Rattle.feed.proofs.Spans.{stops}
use Rattle.feed.proofs.seconds.SecondsIter.at.Goals as goal
use Rattle.feed.proofs.seconds.SecondsIter.at.Goals.{then-self-lt1, in-len1-up+else-span-place}

pub returns-clause-value : goal.returns-clause-value
returns-clause-value c =
    let later : 1 ≤ length c.loop-self.self-inside.left.now → c.args.place < (get_or c.loop-self.self-inside.left.now 0 (0, None)).0 = elim c.if-self-lt1.branch [
      | then-self-lt1 w ↦ search rules
      | in-len1-up+else-span-place w ↦ λ _. w.if-span-place.false
    ] in
    stops c.loop-self.self-inside.known c.loop-self.self-inside.left.now c.args.place later c.loop-self.invariant.0 ∙ c.loop-self.invariant.1 c.args.place (omega arith)
    ∙ ap (λ v. seconds_after v.0 v.1 c.args.place) c.self.view_is
