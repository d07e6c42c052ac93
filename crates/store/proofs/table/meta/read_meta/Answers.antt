use Rattle.store.proofs.Names.{rules, meta_tree, meta_rows, all_meta_text}
use Rattle.sqlite.specs.Held.{state}
use Rattle.store.proofs.Done.{on_ok}
use Rattle.store.proofs.OnlyReading.{meta_only}
use Rattle.store.proofs.Wholes.{meta_asks}
use Rattle.store.proofs.Steps.{first_step, clean_before}
use Rattle.store.proofs.TableQueries.{meta_table}
use Rattle.store.proofs.table.meta.read_meta.Goals as goal

pub returns-in_err-rows-clause-looks : goal.returns-in_err-rows-clause-looks
returns-in_err-rows-clause-looks g c = record {
  same = search rules;
  rested = λ clean first. c.read_all.ensures.rested clean (meta_tree (state g.S.Store c.args.conn.now).now.schema) (meta_asks _ first);
  survives = λ first. first_step (state g.S.Store c.args.conn.now) (state g.S.Store c.read_all.new.conn) all_meta_text (meta_tree (state g.S.Store c.args.conn.now).now.schema) (meta_asks _ first) c.read_all.ensures.crash;
  opened = c.read_all.ensures.opened;
  live = search rules;
  clean = λ clean. clean_before _ _ _ c.read_all.ensures.crash clean;
  autocommit = c.read_all.ensures.autocommit;
}

pub returns-in_err-rows-clause-calm : goal.returns-in_err-rows-clause-calm
returns-in_err-rows-clause-calm g c = c.read_all.ensures.calm meta_only

pub returns-clause-says : goal.returns-clause-says
returns-clause-says g c clean first =
    meta_table (meta_rows (state g.S.Store c.args.conn.now).now) _ (c.in_ok-rows.ensures.rows clean (meta_tree (state g.S.Store c.args.conn.now).now.schema) (meta_asks _ first)) c.meta_in.result (rw c.deref.ensures.value at c.meta_in.ensures)

pub returns-clause-looks : goal.returns-clause-looks
returns-clause-looks g c = record {
  same = λ clean first. on_ok c.meta_in.result (c.in_ok-rows.ensures.same clean (meta_tree (state g.S.Store c.args.conn.now).now.schema) (meta_asks _ first));
  rested = λ clean first. c.read_all.ensures.rested clean (meta_tree (state g.S.Store c.args.conn.now).now.schema) (meta_asks _ first);
  survives = λ first. first_step (state g.S.Store c.args.conn.now) (state g.S.Store c.read_all.new.conn) all_meta_text (meta_tree (state g.S.Store c.args.conn.now).now.schema) (meta_asks _ first) c.read_all.ensures.crash;
  opened = c.read_all.ensures.opened;
  live = λ clean. on_ok c.meta_in.result (c.in_ok-rows.ensures.live clean);
  clean = λ clean. clean_before _ _ _ c.read_all.ensures.crash clean;
  autocommit = c.read_all.ensures.autocommit;
}

pub returns-clause-calm : goal.returns-clause-calm
returns-clause-calm g c = c.read_all.ensures.calm meta_only
