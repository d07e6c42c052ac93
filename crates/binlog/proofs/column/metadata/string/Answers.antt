use Rattle.binlog.proofs.Names.{◌+◌, ◌*◌, ◌<◌, [], ◌∷◌, ap, ◌∙◌, arith, lt-ltb, metadata, Enum, Set}
use Rattle.binlog.proofs.Columns.{string_bytes, string_small, metadata_of}
use Rattle.binlog.proofs.column.metadata.string.Goals as goal

pub of-requires : goal.of-requires
of-requires c =
    let small = string_small c.args.first c.args.second (omega arith) (omega arith) in
    let short : c.from.result + 16 * c.from-2.result < 1024 = omega (arith, small, c.from.ensures, c.from-2.ensures) in
    lt-ltb _ _ short

pub returns-in-254-clause-metadata : goal.returns-in-254-clause-metadata
returns-in-254-clause-metadata c = ap metadata c.of.ensures ∙ string_bytes 254 c.args.first c.args.second (c.from.result + 16 * c.from-2.result) (omega arith) (omega arith) c.in-254.is (omega (arith, c.from.ensures, c.from-2.ensures))

pub returns-in-Ok-clause-metadata : goal.returns-in-Ok-clause-metadata
returns-in-Ok-clause-metadata c =
    let width = c.in-Ok.ensures.1 in
    metadata_of c.in_range.result (Enum c.in-Ok.width) (c.args.first ∷ c.args.second ∷ [])
    (string_bytes 247 c.args.first c.args.second c.in-Ok.width (omega arith) (omega arith) c.in-247.is (omega (arith, width, c.from.ensures, c.from-2.ensures))) c.in_range.ensures.ok

pub returns-in-Ok-try_from-clause-metadata : goal.returns-in-Ok-try_from-clause-metadata
returns-in-Ok-try_from-clause-metadata c =
    let width = c.in-Ok-try_from.ensures.1 in
    metadata_of c.in_range-in-Ok-try_from.result (Set c.in-Ok-try_from.width) (c.args.first ∷ c.args.second ∷ [])
    (string_bytes 248 c.args.first c.args.second c.in-Ok-try_from.width (omega arith) (omega arith) c.in-248.is (omega (arith, width, c.from.ensures, c.from-2.ensures))) c.in_range-in-Ok-try_from.ensures.ok
