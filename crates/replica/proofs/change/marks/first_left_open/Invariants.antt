use Rattle.std.proofs.Common.{◌≡◌, ◌&&◌, not}
use Rattle.std.specs.List.{list_all}
use Rattle.std.specs.Str.{bytes_eq}
use Rattle.gtid.specs.declared.span.Span.{Span}
use Rattle.replica.specs.Marks.{is_left_open}
use Rattle.replica.proofs.change.marks.first_left_open.Given as goal

abbrev pub invariant-loop-span : goal.invariant-loop-span
invariant-loop-span l =
    list_all (λ (s : Span). not (is_left_open l.fn.gtids l.fn.more s.source && not (bytes_eq s.source l.fn.but))) l.fn.spans
    ≡ list_all (λ (s : Span). not (is_left_open l.fn.gtids l.fn.more s.source && not (bytes_eq s.source l.fn.but))) l.span-iterator
