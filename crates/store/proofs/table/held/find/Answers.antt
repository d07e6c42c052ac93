use Rattle.store.proofs.Names.{[], HasCleanDisk, IsLaidOut, read_text, key_in}
use Rattle.sqlite.specs.Held.{state}
use Rattle.store.proofs.Selects.{key_params}
use Rattle.store.proofs.Keeps.{kept_query, opened_query, live_query}
use Rattle.store.proofs.Steps.{clean_before}
use Rattle.store.proofs.PlainQueries.{find_read, find_same, find_survives, rests_read}
use Rattle.store.proofs.table.held.find.Goals as goal

pub returns-clause-shown : goal.returns-clause-shown
returns-clause-shown g c clean laid_out =
    find_read (state g.S.Store c.args.conn.now) (state g.S.Store c.query_all.new.self) (key_in c.args.row.now) laid_out (λ v. v.items) c.query_all.result (c.query_all.ensures.ok clean)

pub returns-clause-looks : goal.returns-clause-looks
returns-clause-looks g c =
    let key = key_in c.args.row.now in
    let old = state g.S.Store c.args.conn.now in
    let new = state g.S.Store c.query_all.new.self in
    let r = c.query_all.result in
    let same = λ (clean : HasCleanDisk new) (laid : IsLaidOut old.now.schema). find_same old new key laid (λ v. v.items) r (c.query_all.ensures.ok clean) in
    record {
      same = same;
      rested = λ clean laid. record {
        commit = kept_query read_text (key_params key []) old new r (same clean laid) (c.query_all.ensures.err clean);
        rests = λ settled. rests_read read_text (key_params key []) old new r settled (same clean laid) (c.query_all.ensures.err clean);
      };
      survives = λ laid. find_survives old new key laid c.query_all.ensures.survives;
      opened = λ clean. opened_query (λ v. v.items) _ _ old new r (c.query_all.ensures.ok clean) (c.query_all.ensures.err clean);
      live = λ clean. live_query (λ v. v.items) _ _ old new r (c.query_all.ensures.ok clean);
      clean = λ clean. clean_before old new _ c.query_all.ensures.survives clean;
      autocommit = c.query_all.ensures.mode;
    }
