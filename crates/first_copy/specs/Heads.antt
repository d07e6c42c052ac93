-- The head of a text, and what follows it.
use Rattle.std.specs.Prelude.{◌≡◌, ℕ, List, [], Option, IfSome}
use Rattle.std.specs.Io.KnownBytes.{prepend_known}
use Rattle.sha1.specs.Sha1.{sha1}
use Rattle.gtid.specs.Identifier.{Ids}
use Rattle.first_copy.specs.CopySteps.{TakesHead}
use Rattle.first_copy.specs.CopySources.{IsMadeOf}

-- The text begins with a head of this set, where it is known.
pub record HasHead (ids : Ids) (text : Option (List ℕ)) : Type 0 where
  pub left : Option (List ℕ)
  pub took : TakesHead ids text left

-- The text begins with a head of this set, and the source is that of the set, of the lines after it, where they are known, and of a
-- description with this digest.
pub record HasCopySource (ids : Ids) (source described : List ℕ) (text : Option (List ℕ)) : Type 0 where
  pub head : HasHead ids text
  pub source_is : IfSome head.left (λ lines. IsMadeOf ids source (sha1 lines) described)

-- This is left of the text once its head is read, where it is known.
pub record FollowsHead (text left : Option (List ℕ)) : Type 0 where
  pub ids : Ids
  pub rest : Option (List ℕ)
  pub took : TakesHead ids text rest
  pub left_is : left ≡ prepend_known [] rest
