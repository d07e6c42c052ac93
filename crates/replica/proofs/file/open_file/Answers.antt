use Rattle.replica.proofs.Names.{◌⊎◌, inl, inr, refl, HasCleanDisk, file_state, image_at, settled_at, wanted_of, names_for}
use Rattle.store.specs.Faults.{IsFailure}
use Rattle.replica.specs.File.{LeavesFound}
use Rattle.replica.proofs.OpeningReads.{reads_left, leaves_left}
use Rattle.replica.proofs.CutOpenings.{still_hold}
use Rattle.replica.proofs.file.open_file.Goals as goal

pub returns-in-Ok-open_for-clause-opens : goal.returns-in-Ok-open_for-clause-opens
returns-in-Ok-open_for-clause-opens g c clean names content files =
    let early : HasCleanDisk (file_state c.in-Ok-connect_to.conn) = c.in-Ok-open_for.ensures.clean clean in
    c.in-Ok-open_for.ensures.reopens names content
    (reads_left (image_at g.P.Start) (names_for (wanted_of c.args.only)) names content (file_state c.in-Ok-connect_to.conn) files (c.in-Ok-connect_to.ensures.opened early).0 (c.in-Ok-connect_to.ensures.found early)) clean

pub returns-in-Ok-open_for-clause-leaves : goal.returns-in-Ok-open_for-clause-leaves
returns-in-Ok-open_for-clause-leaves g c names content files clean =
    let early : HasCleanDisk (file_state c.in-Ok-connect_to.conn) = c.in-Ok-open_for.ensures.clean clean in
    let reads = reads_left (image_at g.P.Start) (names_for (wanted_of c.args.only)) names content (file_state c.in-Ok-connect_to.conn) files (c.in-Ok-connect_to.ensures.opened early).0 (c.in-Ok-connect_to.ensures.found early) in
    leaves_left (names_for (wanted_of c.args.only)) names content (file_state c.in-Ok-connect_to.conn) (file_state c.in-Ok-open_for.store.conn) reads
    (λ trees may. settled_at c.in-Ok-connect_to.conn.store (λ file. inl refl) trees reads.is_open may) (c.in-Ok-open_for.ensures.leaves names content reads) clean

pub returns-in-Ok-open_for-clause-entered : goal.returns-in-Ok-open_for-clause-entered
returns-in-Ok-open_for-clause-entered g c clean =
    let early : HasCleanDisk (file_state c.in-Ok-connect_to.conn) = c.in-Ok-open_for.ensures.clean clean in
    (c.in-Ok-connect_to.conn, record { finds = c.in-Ok-connect_to.ensures.found early; opened = c.in-Ok-connect_to.ensures.opened early }, λ ready. c.in-Ok-open_for.ensures.opens clean ready)

pub returns-in-Err-open_for-clause-turned : goal.returns-in-Err-open_for-clause-turned
returns-in-Err-open_for-clause-turned g c =
    let wanted = wanted_of c.args.only in
    let old = file_state c.in-Ok-connect_to.conn in
    let new = file_state c.in-Err-open_for.conn in
    let early = λ (clean : HasCleanDisk new). let before : HasCleanDisk old = c.in-Err-open_for.ensures.clean clean in before in
    record {
      refused = λ names content files.
          let reads = λ (clean : HasCleanDisk new).
          reads_left (image_at g.P.Start) (names_for wanted) names content old files (c.in-Ok-connect_to.ensures.opened (early clean)).0 (c.in-Ok-connect_to.ensures.found (early clean)) in (
            λ clean. c.in-Err-open_for.ensures.reopens names content (reads clean) clean,
            λ clean. leaves_left (names_for wanted) names content old new (reads clean)
                (λ trees may. settled_at c.in-Ok-connect_to.conn.store (λ file. inl refl) trees (reads clean).is_open may) (c.in-Err-open_for.ensures.leaves names content (reads clean)) clean,
          );
      turned = λ clean.
          let opened = (c.in-Ok-connect_to.ensures.opened (early clean)).0 in
          let left = elim c.in-Err-open_for.ensures.spared as (λ _. IsFailure c.in-Err-open_for.cause ⊎ LeavesFound old new) [
            | inl failed ↦ inl failed
            | inr survives ↦ inr (λ trees may. elim (survives.crash clean trees may) [
              | inl was ↦ settled_at c.in-Ok-connect_to.conn.store (λ file. inl refl) trees opened.is_open was
              | inr none ↦ absurd none
            ])
          ] in (
            c.in-Ok-connect_to.conn,
            record { finds = c.in-Ok-connect_to.ensures.found (early clean); opened = c.in-Ok-connect_to.ensures.opened (early clean) },
            c.in-Err-open_for.ensures.refused clean opened.clean,
            left,
            λ ready. c.in-Err-open_for.ensures.turned clean ready,
          );
    }

pub returns-in-Err-connect_to-clause-turned : goal.returns-in-Err-connect_to-clause-turned
returns-in-Err-connect_to-clause-turned g c =
    let (files, opened, leaves) = c.in-Err-connect_to.ensures.cause in
    record {
      refused = λ names content hold clean next may. still_hold files (image_at g.P.Start) opened (names_for (wanted_of c.args.only)) names content next c.in-Err-connect_to.left hold (leaves clean).1 may;
      turned = (files, opened, leaves);
    }
