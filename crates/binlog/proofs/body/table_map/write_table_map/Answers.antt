use Rattle.binlog.proofs.Names.{subst, length_encoded, full_bitmap}
use Rattle.gtid.specs.Appending.{AppendsBytes}
use Rattle.gtid.proofs.Appending.{appends_then}
use Rattle.binlog.proofs.body.table_map.write_table_map.Goals as goal

pub returns : goal.returns
returns c =
    let count = subst (λ n. AppendsBytes c.write_names.new.out c.write_count.new.out (length_encoded n)) c.len.ensures.length c.write_count.ensures in
    let measure = subst (λ n. AppendsBytes c.write_codes.new.out c.write_count-2.new.out (length_encoded n)) c.metadata_length.ensures c.write_count-2.ensures in
    let bitmap = subst (λ n. AppendsBytes c.write_all_metadata.new.out c.write_full_bitmap.new.out (full_bitmap n)) c.len-2.ensures.length c.write_full_bitmap.ensures in
    appends_then (appends_then (appends_then (appends_then (appends_then c.write_names.ensures count) c.write_codes.ensures) measure) c.write_all_metadata.ensures) bitmap
