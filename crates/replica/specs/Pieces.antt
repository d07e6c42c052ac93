-- The bytes of connections that come in pieces.
use Rattle.std.specs.Prelude.{ℕ, List, map, flat_map, Vec}
use Rattle.std.specs.declared.alloc.Global.{Global}

abbrev pub stream_of : List (Vec ℕ Global) → List ℕ
stream_of pieces = flat_map (λ (piece : Vec ℕ Global). piece.items) pieces

abbrev pub streams_of : List (Vec (Vec ℕ Global) Global) → List (List ℕ)
streams_of connections = map (λ (pieces : Vec (Vec ℕ Global) Global). stream_of pieces.items) connections
