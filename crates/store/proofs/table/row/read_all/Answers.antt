use Rattle.store.proofs.Names.{ℕ, HasCleanDisk, AsksAll}
use Rattle.sqlite.specs.Held.{state}
use Rattle.store.proofs.Keeps.{opened_query, live_query}
use Rattle.store.proofs.OnlyReading.{calm_read}
use Rattle.store.proofs.Readings.{all_rows, all_ascend, all_same, all_rests, all_survives}
use Rattle.store.proofs.table.row.read_all.Goals as goal

pub returns : goal.returns
returns g c =
    let sql = c.args.sql.now in
    let old = state g.S.Store c.args.conn.now in
    let new = state g.S.Store c.query_all.new.self in
    let r = c.query_all.result in
    let same = λ (clean : HasCleanDisk new) (tree : ℕ) (asks : AsksAll old.now.schema sql tree). all_same sql tree old new asks (λ v. v.items) r (c.query_all.ensures.ok clean) in
    record {
      rows = λ clean tree asks. all_rows sql tree old new asks (λ v. v.items) r c.schema.ensures.live (same clean tree asks) (c.query_all.ensures.ok clean);
      ascend = λ clean tree asks. all_ascend sql tree old new asks (λ v. v.items) r c.schema.ensures.live (same clean tree asks) (c.query_all.ensures.ok clean);
      same = same;
      rested = λ clean tree asks. all_rests sql tree old new asks r (same clean tree asks) (c.query_all.ensures.err clean);
      crash = all_survives sql old new c.query_all.ensures.survives;
      calm = λ only. calm_read sql only (λ v. v.items) old new r c.query_all.ensures.ok c.query_all.ensures.err c.query_all.ensures.survives;
      opened = λ clean. opened_query (λ v. v.items) _ _ old new r (c.query_all.ensures.ok clean) (c.query_all.ensures.err clean);
      live = λ clean. live_query (λ v. v.items) _ _ old new r (c.query_all.ensures.ok clean);
      autocommit = c.query_all.ensures.mode;
    }
