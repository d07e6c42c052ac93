use Rattle.columns.proofs.Names.{take, HasWritten, IsPlainFormatter, hex_text}
use Rattle.columns.proofs.hex_digits.HexTextDisplay.fmt.Given as goal

abbrev pub invariant-loop-byte : goal.invariant-loop-byte
invariant-loop-byte g l = IsPlainFormatter l.initial.f → HasWritten g.W.Write.write_str_gives l.initial.f (hex_text (take l.byte-index l.byte-items)) l.f
