use Rattle.gtid.proofs.Names.{◌≡◌, ◌+◌, ◌<◌, ◌∙◌, length, get_or, set, ap, arith, Interval}
use Rattle.std.proofs.lemmas.List.Edits.{get_or-remove_below}
use Rattle.std.specs.List.{remove}
use Rattle.gtid.proofs.Within.{Added, apart, added_after, added_between, got, got_none}
use Rattle.gtid.proofs.interval.extend.Goals as goal
use Rattle.gtid.proofs.interval.extend.Goals.{in-Some, in_default, in_default-via-in-Some+else-following-number, in_default-via-in_default}

pub returns : goal.returns
returns c =
    let old = c.args.intervals.now.items in
    let at = c.args.at in
    let number = c.args.number in
    let x = c.index_mut.result.now in
    let touch = c.requires.end x in
    let added : Added number old (set c.match-copied.intervals.items at (record { lo = x.lo; hi = c.match-copied.joined })) = elim c.match-copied.branch [
      | in-Some w ↦ (
          let next = w.in-Some.following in
          let here = got c.get.result c.deref.ensures.value c.get.ensures.lookup.3 w.in-Some.ensures in
          let items : c.match-copied.intervals.items ≡ remove old (at + 1) = ap (λ v. v.items) w.intervals-is ∙ w.remove.ensures.items in
          let is : x ≡ get_or old at x = c.index_mut.ensures.value ∙ ap (λ l. get_or l at x) items ∙ get_or-remove_below old (at + 1) x at (omega arith) here.0 in
          rw (items, w.joined-is) (added_between old at number x next c.requires.least here.0 is (here.1 next) (ap (λ i. i.hi) is ∙ touch) w.if-following-number.true))
      | in_default w ↦ (
          let items : c.match-copied.intervals.items ≡ old = ap (λ v. v.items) w.intervals-is in
          let is : x ≡ get_or old at x = c.index_mut.ensures.value ∙ ap (λ l. get_or l at x) items in
          let gap : (d : Interval) → at + 1 < length old → number + 1 < (get_or old (at + 1) d).lo = λ d h. elim w.in_default.branch [
            | in_default-via-in-Some+else-following-number w' ↦ (
                let here = got c.get.result c.deref.ensures.value c.get.ensures.lookup.3 w'.in-Some.ensures in
                omega (arith, apart 0 old at (at + 1) d c.requires.least (omega arith) h, c.requires.end d, ap (λ i. i.lo) (here.1 d)))
            | in_default-via-in_default w' ↦ absurd (omega (arith, got_none c.get.result c.deref.ensures.value c.get.ensures.lookup.3 w'.in_default.ensures))
          ] in
          rw (items, w.joined-is) (added_after old at number x c.requires.least (omega arith) c.requires.number is (ap (λ i. i.hi) is ∙ touch) gap))
    ] in
    record { least = added.least; new = added.fresh; adds = added.adds }
