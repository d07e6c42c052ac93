-- A failure that is told with a kind has its status.
use Rattle.std.proofs.Common.{ℕ, sym, subst}
use Rattle.mrep.specs.Failure.{IsTold, Tells, kind_status}
use Rattle.mrep.specs.declared.report.failure.Failure.{Failure}
use Rattle.mrep.specs.declared.report.failure.Failure.TheVariants.{Memory, Output, Told}
use Rattle.mrep.specs.declared.report.failure.FailureKind.{FailureKind}

pub tells : (are : ℕ → Type 0) (kind : FailureKind) (failure : Failure) → IsTold kind failure → are (kind_status kind) → Tells are failure
tells are kind Memory told is = tt
tells are kind (Output cause) told is = absurd told
tells are kind (Told its message) told is = subst (λ (k : FailureKind). are (kind_status k)) (sym told) is
