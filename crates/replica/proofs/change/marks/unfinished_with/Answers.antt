use Rattle.std.proofs.Common.{◌≡◌, ◌&&◌, ℕ, List, true, false, not, replicate}
use Rattle.std.specs.List.{list_all}
use Rattle.std.specs.Str.{bytes_eq}
use Rattle.std.specs.FinSet as set
use Rattle.gtid.specs.declared.span.Span.{Span}
use Rattle.replica.specs.Marks.{is_unfinished, is_left_open, NoneUnfinished}
use Rattle.replica.proofs.CopyMarks.{some_then, none_then, unfinished_in, none_with}
use Rattle.replica.proofs.change.marks.unfinished_with.Goals as goal

pub returns-clause-some : goal.returns-clause-some
returns-clause-some c =
    some_then c.first_left_open.result (λ (s : List ℕ). (is_left_open c.args.gtids.now c.args.executed.now s ≡ true) × (bytes_eq s (replicate 16 0) ≡ false)) (λ (s : List ℕ). is_unfinished (set.union c.args.executed.now c.args.gtids.now) s ≡ true) (λ s is. unfinished_in c.args.executed.now c.args.gtids.now s is.0) c.first_left_open.ensures.some

pub returns-clause-none : goal.returns-clause-none
returns-clause-none c =
    none_then c.first_left_open.result (list_all (λ (s : Span). not (is_left_open c.args.gtids.now c.args.executed.now s.source && not (bytes_eq s.source (replicate 16 0)))) c.spans.result ≡ true) (NoneUnfinished c.args.executed.now → NoneUnfinished (set.union c.args.executed.now c.args.gtids.now)) (λ all. none_with c.args.executed.now c.args.gtids.now c.spans.result c.spans.ensures all) c.first_left_open.ensures.none
