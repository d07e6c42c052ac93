-- The settings of a replica.
use Rattle.std.specs.Prelude.{ℕ, ◌≤◌, Bool, List, length}
use Rattle.wire.specs.Packet.{largest_payload}
use Rattle.greet.specs.Message.{IsText}

-- With `once` the source sends an EOF at the end of its log instead of waiting there; `limit` is the length in bytes of
-- the longest payload that is taken.
pub record Settings : Type 0 where
  pub user : List ℕ
  pub password : List ℕ
  pub server_id : ℕ
  pub once : Bool
  pub limit : ℕ

-- A user's name has at most 255 bytes, and no zero byte.
abbrev pub IsUserName : List ℕ → Type 0
IsUserName user = (length user ≤ 255) × IsText user

-- A payload has at most 1 GiB.
abbrev pub IsLimit : ℕ → Type 0
IsLimit limit = (1 ≤ limit) × (limit ≤ largest_payload)
