use Rattle.std.proofs.Common.{◌^◌, ◌<◌, ◌≤◌}
use Rattle.columns.proofs.value.real.of_text.Given as goal

abbrev pub invariant-loop-byte : goal.invariant-loop-byte
invariant-loop-byte l = (l.number < 10 ^ 17) × (l.behind ≤ 100) × (l.exponent ≤ 999)
