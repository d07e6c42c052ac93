-- What is kept of the executed set of a database. No rows are asked for. The only error is out of memory.
use Rattle.std.specs.Prelude.{◌≡◌, Bool, false, Result, Ok, Err}
use Rattle.std.specs.FinSet as set
use Rattle.gtid.specs.Identifier.{Ids}
use Rattle.binlog.specs.Filter.{Names}
use Rattle.rows.specs.declared.database_sets.ExecutedSet.{ExecutedSet}
use Rattle.rows.specs.declared.database_sets.MissingSet.{MissingSet}

-- The set is kept.
abbrev pub KeepsExecuted : {E : Type 0} → ExecutedSet → Ids → Names → Result Bool E → ExecutedSet → Type 0
KeepsExecuted old executed names (Ok asks) new = (asks ≡ false) × (new.found ≡ executed)
KeepsExecuted old executed names (Err cause) new = Unit {0}

-- What of a set is not in it is kept.
abbrev pub KeepsMissing : {E : Type 0} → MissingSet → Ids → Names → Result Bool E → MissingSet → Type 0
KeepsMissing old executed names (Ok asks) new = (asks ≡ false) × (new.missing ≡ set.difference old.missing executed)
KeepsMissing old executed names (Err cause) new = Unit {0}
