-- The rows of meta with other keys than `layout`.
use Rattle.store.proofs.Names.{◌≡◌, Bool, true, false, is_some, None, List, [], filter, codes, refl, ap₂, Row, Schema, table_named, Database, HasMeta, meta_rows, has_other_key}
use Rattle.std.proofs.Common.{if◌then◌else◌}
use Rattle.store.specs.Beside.{other_keys}

pub keys_same : (old new : Database) → new.schema ≡ old.schema → meta_rows new ≡ meta_rows old → other_keys new ≡ other_keys old
unfolding other_keys
keys_same old new schema rows = ap₂ (λ (s : Schema) (l : List Row). if is_some (table_named s (codes "meta")) then filter has_other_key l else []) schema rows

-- where the table is there
pub keys_there : (db : Database) → HasMeta db.schema → other_keys db ≡ filter has_other_key (meta_rows db)
unfolding other_keys
keys_there db has = rw (has.found.by_name) refl

-- where it is not
pub keys_vacant : (db : Database) → table_named db.schema (codes "meta") ≡ None → other_keys db ≡ []
unfolding other_keys
keys_vacant db none = rw none refl

-- where no row has another key
pub keys_none : (db : Database) → filter has_other_key (meta_rows db) ≡ [] → other_keys db ≡ []
unfolding other_keys
keys_none db none = rw none (either (is_some (table_named db.schema (codes "meta"))) [])
  where
    either : (b : Bool) (rows : List Row) → (if b then rows else rows) ≡ rows
    either true rows = refl
    either false rows = refl
