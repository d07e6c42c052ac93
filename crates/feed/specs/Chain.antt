-- The chain of a feed, over the lines of its commits. FIPS 180-4 has SHA-256.
use Rattle.std.specs.Prelude.{ℕ, List, ◌++◌}
use Rattle.sha2.specs.Sha256.{sha256}
use Rattle.hex.specs.Hex.{encode_lower}

-- the digits after these digits, over these bytes: the SHA-256 of both, in lower hexadecimal digits
abbrev pub chain_after : List ℕ → List ℕ → List ℕ
chain_after digits bytes = encode_lower (sha256 (digits ++ bytes))
