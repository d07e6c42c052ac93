use Rattle.replica.proofs.Names.{Bool, ℕ, List, ap, ap₂, subst, ◌∙◌, ◌+◌, ◌&&◌, Image, file_state}
use Rattle.std.proofs.Common.{cond}
use Rattle.sqlite_disk.specs.Events.{Event, Model, replay}
use Rattle.sqlite_disk.specs.Tally.{both_counts}
use Rattle.sqlite_disk.specs.declared.tally.Tally.{Tally}
use Rattle.sqlite.specs.Start.{FindsIn}
use Rattle.replica.proofs.OpeningReads.{settled_model, left_settled}
use Rattle.replica.proofs.file.connection.connect_to.Goals as goal

image : List ℕ → List ℕ → Image
image log db = record { log = log; db = db }

counts_of : Model → Tally
counts_of m = record { caught = m.caught; refused = m.refused }

seen : List ℕ → List ℕ → Bool → List Event → List ℕ
seen log db is_log history = (replay (cond is_log log db) history).seen

pub returns-in-Ok-clause-found : goal.returns-in-Ok-clause-found
unfolding image seen
returns-in-Ok-clause-found g c clean =
    let (log, db) = c.requires.fresh in
    let found = c.in-Ok.ensures.found clean in
    let same = ap₂ image (ap₂ (seen g.P.Start.log g.P.Start.db) log.0 log.1) (ap₂ (seen g.P.Start.log g.P.Start.db) db.0 db.1) in
    subst (λ i. FindsIn i (file_state c.in-Ok.conn)) same (record { holds = found.holds; reads = found.reads })

pub returns-in-Err-clause-cause : goal.returns-in-Err-clause-cause
unfolding image seen counts_of
returns-in-Err-clause-cause g c =
    let (log, db) = c.requires.fresh in
    let failed = c.in-Err.ensures in
    let held = λ (is_log : Bool). cond is_log g.P.Start.log g.P.Start.db in
    let as_log = settled_model _ _ _ log.1 in
    let as_db = settled_model _ _ _ db.1 in (
      c.args.files,
      record {
        seen = ap₂ image (ap₂ (seen g.P.Start.log g.P.Start.db) log.0 log.1) (ap₂ (seen g.P.Start.log g.P.Start.db) db.0 db.1);
        left = λ after may. ap₂ image (left_settled _ _ _ _ after.log log.1 may.0 ∙ ap held log.0) (left_settled _ _ _ _ after.db db.1 may.1 ∙ ap held db.0);
        clean = ap₂ (λ (a b : Model). a.is_honest && b.is_honest) as_log as_db;
        no_fault = ap₂ (λ (a b : Model). a.faults + b.faults) as_log as_db;
        no_cause = ap₂ (λ (a b : Model). both_counts (counts_of a) (counts_of b)) as_log as_db;
      },
      λ clean. (failed.cause clean, failed.unharmed clean),
    )
