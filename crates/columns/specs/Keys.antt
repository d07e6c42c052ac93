-- Whether a column is part of a key. MySQL Reference Manual, "The INFORMATION_SCHEMA COLUMNS Table" (COLUMN_KEY).
use Rattle.std.specs.Prelude.{ℕ, List, [], codes}
use Rattle.columns.specs.declared.column.Key.{Key}
use Rattle.columns.specs.declared.column.Key.TheVariants.{NotAKey, Pri, Uni, Mul}

abbrev pub key_text : Key → List ℕ
key_text NotAKey = []
key_text Pri = codes "PRI"
key_text Uni = codes "UNI"
key_text Mul = codes "MUL"
