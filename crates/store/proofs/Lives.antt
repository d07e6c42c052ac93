-- What is left after a crash, whatever may be committed.
use Rattle.store.proofs.Names.{Trees, State, Survives, HasCleanDisk, survives_then, survives_weaker}

pub over_any : (a b : State) (P : Trees → Type 0) → Survives a b P → Survives a b (λ _. Unit {0})
over_any a b P s = survives_weaker a b P (λ _. Unit {0}) (λ _ db may. tt) s

pub any_then : (a b c : State) (Q : Trees → Type 0) → Survives a b (λ _. Unit {0}) → Survives b c Q → Survives a c (λ _. Unit {0})
any_then a b c Q one two = survives_then a b c (λ _. Unit {0}) Q (λ _. Unit {0}) (λ _ db may. tt) (λ _ db may. tt) one two

-- where the disk is clean, only this may be
pub narrowed : (a b : State) (P Q : Trees → Type 0) → Survives a b Q → (HasCleanDisk b → Survives a b P) → Survives a b P
narrowed a b P Q s f = record {
  clean = s.clean;
  shield = s.shield;
  counts = s.counts;
  limit = s.limit;
  closes = s.closes;
  crash = λ clean db left. (f clean).crash clean db left;
}
