use Rattle.columns.proofs.Names.{◌≡◌, take, string_bytes, latin1_character}
use Rattle.std.specs.Char.{encode_utf8}
use Rattle.columns.specs.CharacterSets.{written}
use Rattle.columns.proofs.text.read_latin1.Given as goal

abbrev pub invariant-loop-byte : goal.invariant-loop-byte
invariant-loop-byte l = string_bytes l.text ≡ written (λ byte. encode_utf8 (latin1_character byte)) (take l.byte-index l.bytes)
