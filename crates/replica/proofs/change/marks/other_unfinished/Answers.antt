use Rattle.std.proofs.Common.{◌≡◌, ◌&&◌, ◌∙◌, ℕ, List, true, false, not, sym}
use Rattle.std.specs.List.{list_all}
use Rattle.std.specs.Str.{bytes_eq}
use Rattle.gtid.specs.declared.span.Span.{Span}
use Rattle.replica.specs.Marks.{is_unfinished, is_left_open, NoOtherUnfinished}
use Rattle.replica.proofs.CopyMarks.{some_then, none_then, is_same, no_other}
use Rattle.replica.proofs.change.marks.other_unfinished.Goals as goal

pub returns-clause-some : goal.returns-clause-some
returns-clause-some c =
    some_then c.first_left_open.result (λ (s : List ℕ). (is_left_open c.args.executed.now c.args.executed.now s ≡ true) × (bytes_eq s c.args.source.now ≡ false)) (λ (s : List ℕ). (is_unfinished c.args.executed.now s ≡ true) × (bytes_eq s c.args.source.now ≡ false)) (λ s is. (sym (is_same c.args.executed.now s) ∙ is.0, is.1)) c.first_left_open.ensures.some

pub returns-clause-none : goal.returns-clause-none
returns-clause-none c =
    none_then c.first_left_open.result (list_all (λ (s : Span). not (is_left_open c.args.executed.now c.args.executed.now s.source && not (bytes_eq s.source c.args.source.now))) c.spans.result ≡ true) (NoOtherUnfinished c.args.executed.now c.args.source.now) (λ all. no_other c.args.executed.now c.args.source.now c.spans.result c.spans.ensures all) c.first_left_open.ensures.none
