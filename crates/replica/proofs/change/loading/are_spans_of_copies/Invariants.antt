use Rattle.std.proofs.Common.{◌≡◌}
use Rattle.std.specs.List.{list_all}
use Rattle.gtid.specs.declared.span.Span.{Span}
use Rattle.replica.specs.Marks.{is_of_copy}
use Rattle.replica.proofs.change.loading.are_spans_of_copies.Given as goal

abbrev pub invariant-loop-span : goal.invariant-loop-span
invariant-loop-span l = list_all (λ (s : Span). is_of_copy s.source) l.fn.spans ≡ list_all (λ (s : Span). is_of_copy s.source) l.span-iterator
