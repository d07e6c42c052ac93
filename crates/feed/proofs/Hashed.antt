-- What was read of a feed, and what is hashed of it.
use Rattle.std.proofs.Common.{ℕ, List, ◌++◌, Option}
use Rattle.std.specs.Io.KnownBytes.{Consumes}
use Rattle.sha2.specs.Hashers.{Holds256}
use Rattle.sha2.specs.declared.Sha256.{Sha256}

-- These bytes were read, and hashed after the digits before them.
pub record HasHashed (digits : List ℕ) (text left : Option (List ℕ)) (hasher : Sha256) : Type 0 where
  pub read : List ℕ
  pub consumes : Consumes text left read
  pub holds : Holds256 hasher (digits ++ read)
