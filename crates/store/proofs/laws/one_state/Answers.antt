use Rattle.sqlite.specs.Held.{state}
use Rattle.store.proofs.OneState.{one_of, not_damaged, not_other, never_two, some_state}
use Rattle.store.proofs.laws.one_state.Goals as goal

pub returns-clause-one : goal.returns-clause-one
returns-clause-one g c only n m a b p q = one_of only (state g.S.Store c.args._conn.now).now n m a b p q

pub returns-clause-sound : goal.returns-clause-sound
returns-clause-sound g c only n a sound rowids p = not_damaged only (state g.S.Store c.args._conn.now).now n a sound rowids p

pub returns-clause-known : goal.returns-clause-known
returns-clause-known g c only n a k p = not_other only (state g.S.Store c.args._conn.now).now n a k p

pub returns-clause-other : goal.returns-clause-other
returns-clause-other g c k d = never_two (state g.S.Store c.args._conn.now).now k d

pub returns-clause-some : goal.returns-clause-some
returns-clause-some g c known any none sound alike = some_state (state g.S.Store c.args._conn.now).now known any none sound alike
