use Rattle.std.proofs.Common.{◌≡◌, ◌++◌, List, ℕ, drop}
use Rattle.columns.specs.Lines.{field}
use Rattle.columns.proofs.table_front.after_name.Given as goal

abbrev pub invariant-loop-byte : goal.invariant-loop-byte
invariant-loop-byte l = record {
  some : (rest : List ℕ) → l.left ≡ field (drop l.byte-index l.name) 9 ++ rest → l.text ≡ field l.name 9 ++ rest;
  none : (rest : List ℕ) → l.text ≡ field l.name 9 ++ rest → l.left ≡ field (drop l.byte-index l.name) 9 ++ rest;
}
