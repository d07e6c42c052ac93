-- Calls that have room.
use Rattle.std.proofs.Common.{◌≡◌, Result, Ok, Err, IsOk, is_ok, if◌then◌else◌, sym}
use Rattle.std.proofs.lemmas.Bool.{true≢false}

pub with_room : {T E X : Type 0} (r : Result T E) (now done kept : X) → now ≡ (if is_ok r then done else kept) → IsOk r → now ≡ done
with_room (Ok x) now done kept h is = h
with_room (Err e) now done kept h is = absurd (true≢false (sym is))
