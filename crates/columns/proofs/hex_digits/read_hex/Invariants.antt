use Rattle.columns.proofs.Names.{◌≡◌, ◌++◌, length, hex_text, AreBytes}
use Rattle.columns.proofs.hex_digits.read_hex.Given as goal

abbrev pub invariant-loop-byte : goal.invariant-loop-byte
invariant-loop-byte l = record {
  text : l.text ≡ hex_text l.bytes.items ++ l.left;
  bytes : AreBytes l.bytes.items;
}

abbrev pub decreases-loop-byte : goal.decreases-loop-byte
decreases-loop-byte l = length l.left
