use Rattle.binlog.proofs.Names.{subst, refl, ap, take, length, rules, arith, length-append, owned_value}
use Rattle.gtid.specs.Appending.{AppendsBytes}
use Rattle.gtid.proofs.Appending.{appends_then}
use Rattle.binlog.proofs.RowWriting.{number_written, prefixed_written}
use Rattle.binlog.proofs.column.value.write_value.Goals as goal

pub unwrap-requires : goal.unwrap-requires
unwrap-requires c =
    let is = number_written c.args.shape (owned_value c.args.cell.now) c.in-Number.value c.in-Number.width c.to_le_bytes.result c.requires.readable c.requires.fits (ap owned_value c.in-Number.is) c.to_le_bytes.ensures in
    c.extend_from_slice.ensures.succeeds (omega (arith, ap length is, c.requires.room))

pub returns-in-Number : goal.returns-in-Number
returns-in-Number c =
    let is = number_written c.args.shape (owned_value c.args.cell.now) c.in-Number.value c.in-Number.width c.to_le_bytes.result c.requires.readable c.requires.fits (ap owned_value c.in-Number.is) c.to_le_bytes.ensures in
    subst (AppendsBytes c.args.out.now c.extend_from_slice.new.self) is (search rules)

pub unwrap-requires-in-Prefixed : goal.unwrap-requires-in-Prefixed
unwrap-requires-in-Prefixed c =
    let value = c.in-Bytes.bytes.items in
    let is = prefixed_written c.args.shape (owned_value c.args.cell.now) c.in-Prefixed.size c.len.result value c.to_le_bytes-length.result value c.requires.readable c.in-Prefixed.is (ap owned_value c.in-Bytes.is) c.to_le_bytes-length.ensures (omega (arith, c.len.ensures, c.in-Bytes.bytes.ok)) refl in
    c.extend_from_slice-in-Prefixed.ensures.succeeds (omega (arith, ap length is, length-append (take c.in-Prefixed.size c.to_le_bytes-length.result) value, c.requires.room))

pub unwrap-requires-in-Prefixed-2 : goal.unwrap-requires-in-Prefixed-2
unwrap-requires-in-Prefixed-2 c =
    let size = c.in-Prefixed.size in
    let is = prefixed_written c.args.shape (owned_value c.args.cell.now) size c.len.result c.in-Bytes.bytes.items c.to_le_bytes-length.result c.deref.result.now c.requires.readable c.in-Prefixed.is (ap owned_value c.in-Bytes.is) c.to_le_bytes-length.ensures (omega (arith, c.len.ensures, c.in-Bytes.bytes.ok)) c.deref.ensures.value in
    let front : AppendsBytes c.args.out.now c.extend_from_slice-in-Prefixed.new.self (take size c.to_le_bytes-length.result) = search rules in
    c.extend_from_slice-in-Prefixed-2.ensures.succeeds (omega (arith, ap length is, length-append (take size c.to_le_bytes-length.result) c.deref.result.now, front.len, front.capacity, c.requires.room))

pub returns-in-Prefixed : goal.returns-in-Prefixed
returns-in-Prefixed c =
    let size = c.in-Prefixed.size in
    let is = prefixed_written c.args.shape (owned_value c.args.cell.now) size c.len.result c.in-Bytes.bytes.items c.to_le_bytes-length.result c.deref.result.now c.requires.readable c.in-Prefixed.is (ap owned_value c.in-Bytes.is) c.to_le_bytes-length.ensures (omega (arith, c.len.ensures, c.in-Bytes.bytes.ok)) c.deref.ensures.value in
    let front : AppendsBytes c.args.out.now c.extend_from_slice-in-Prefixed.new.self (take size c.to_le_bytes-length.result) = search rules in
    let text : AppendsBytes c.extend_from_slice-in-Prefixed.new.self c.extend_from_slice-in-Prefixed-2.new.self c.deref.result.now = search rules in
    subst (AppendsBytes c.args.out.now c.extend_from_slice-in-Prefixed-2.new.self) is (appends_then front text)
