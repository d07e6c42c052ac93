use Rattle.first_copy.proofs.Names.{◌≡◌, ◌-◌, prepend_known, IsGathered}
use Rattle.first_copy.proofs.loader.Loader.collect.Given as goal

abbrev pub invariant-loop-size : goal.invariant-loop-size
invariant-loop-size g l = record {
  gathered : IsGathered l.fn.self.taker.description.value.tables.items l.fn.self.rows l.self.rows
      (prepend_known l.fn.self.line.items (g.R.Read.remaining l.fn.self.reader)) (prepend_known l.self.line.items (g.R.Read.remaining l.self.reader)) l.fn.self.hasher l.self.hasher l.size l.changes;
  description : l.self.taker.description ≡ l.fn.self.taker.description;
  source : l.self.source ≡ l.fn.self.source;
  given : l.self.given ≡ l.fn.self.given;
  failed : l.self.failed ≡ l.fn.self.failed;
  ended : l.self.ended ≡ l.fn.self.ended;
}

abbrev pub decreases-loop-size : goal.decreases-loop-size
decreases-loop-size g l = 8388608 - l.size
