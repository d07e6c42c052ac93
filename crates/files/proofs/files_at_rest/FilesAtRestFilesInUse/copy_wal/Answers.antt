use Rattle.std.proofs.Common.{ℕ, List, refl, ap}
use Rattle.std.specs.Prelude.{slice_get}
use Rattle.files.proofs.Accounts.{at_once}
use Rattle.files.proofs.files_at_rest.FilesAtRestFilesInUse.copy_wal.Goals as goal

pub returns : goal.returns
returns c = (refl, at_once, (refl, (λ at. 0, record { began = λ at. at_once; ended = λ at. at_once; order = λ at next le. at_once; read = λ at. ap (λ (bytes : List ℕ). slice_get bytes at) c.in_ok-refill.ensures })))
