use Rattle.gtid.proofs.Names.{subst, rules}
use Rattle.gtid.specs.Appending.{AppendsBytes}
use Rattle.gtid.proofs.Appending.{appends_then}
use Rattle.gtid.proofs.encoding.write_interval.Goals as goal

pub returns : goal.returns
returns c =
    let lo : AppendsBytes c.args.out.now c.extend_from_slice.new.self c.to_le_bytes.result = search rules in
    let hi : AppendsBytes c.extend_from_slice.new.self c.extend_from_slice-2.new.self c.to_le_bytes-2.result = search rules in
    appends_then (subst (AppendsBytes c.args.out.now c.extend_from_slice.new.self) c.to_le_bytes.ensures lo) (subst (AppendsBytes c.extend_from_slice.new.self c.extend_from_slice-2.new.self) c.to_le_bytes-2.ensures hi)
