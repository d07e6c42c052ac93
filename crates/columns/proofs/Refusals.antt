-- What is known where memory was refused.
use Rattle.std.specs.Prelude.{Result, Ok, Err, IfErr}

-- a fact that does not turn on the error
pub refused : {T E P : Type 0} (result : Result T E) → P → IfErr result (λ _. P)
refused (Ok value) known = tt
refused (Err error) known = known
