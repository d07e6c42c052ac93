use Rattle.store.proofs.Names.{map, AddsRows}
use Rattle.store.proofs.inserts.images_of.Given as goal

abbrev pub invariant-loop-change : goal.invariant-loop-change
invariant-loop-change l = AddsRows l.schema l.table l.changes l.change-iterator (map (λ r. r.now) l.images.items)
