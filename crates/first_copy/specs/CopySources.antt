-- The source of the transactions of a copy.
use Rattle.std.specs.Prelude.{◌≡◌, ℕ, List, ◌∷◌, ◌++◌, take, codes}
use Rattle.sha1.specs.Sha1.{sha1}
use Rattle.uuid.specs.Uuid.{namespace_oid}
use Rattle.uuid.specs.Parts.{with_variant, with_version}
use Rattle.uuid.specs.declared.Variant.TheVariants.{RFC4122}
use Rattle.uuid.specs.declared.Version.TheVariants.{Sha1}
use Rattle.gtid.specs.Text.{IsSetText}
use Rattle.gtid.specs.Identifier.{Ids}

-- The UUID of version 5 in the namespace of object identifiers, RFC 9562, 5.5, of the first line of a copy, its set as it is
-- printed, the digest of the lines after its first two, and that of the description of its tables.
abbrev pub source_of : List ℕ → List ℕ → List ℕ → List ℕ
source_of set digest described = with_version (with_variant (take 16 (sha1 (namespace_oid ++ codes "mrep copy 1" ++ 10 ∷ (set ++ (digest ++ described))))) RFC4122) Sha1

-- The source is that of a copy with this set, this digest of the lines after its first two, and this one of its description.
pub record IsMadeOf (ids : Ids) (source digest described : List ℕ) : Type 0 where
  pub set : List ℕ
  pub printed : IsSetText ids set
  pub source_is : source ≡ source_of set digest described
