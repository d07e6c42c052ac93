use Rattle.gtid.proofs.Names.{None, refl, arith, err_from_is_err_and}
use Rattle.gtid.proofs.GroupSets.{ascend_blocks, found_encoding, only_found, only_fault}
use Rattle.gtid.proofs.set.GtidSet.decode.Goals as goal

pub invariant_of-result : goal.invariant_of-result
invariant_of-result c = ascend_blocks None c.in_ok-groups.groups.items c.in_ok-groups.ensures.lawful

pub returns-clause-found : goal.returns-clause-found
returns-clause-found c = found_encoding c.in_ok-groups.groups.items c.in_ok-groups.rest.now c.args.bytes.now _ c.in_ok-groups.ensures.lawful (omega arith) c.in_ok-groups.ensures.split refl

pub returns-clause-only : goal.returns-clause-only
returns-clause-only c ids n short encoding =
    only_found c.in_ok-groups.groups.items c.in_ok-groups.rest.now c.args.bytes.now _ c.in_ok-groups.ensures.lawful (omega arith) c.in_ok-groups.ensures.split refl ids n short encoding

pub returns-in_err-groups-clause-only : goal.returns-in_err-groups-clause-only
returns-in_err-groups-clause-only c ids n short encoding =
    let p = err_from_is_err_and c.from_residual.result c.from_residual.ensures.1 in
    rw (p.1, p.2) (only_fault c.args.bytes.now _ c.in_err-groups.ensures.err ids n encoding)

pub returns-in_err-groups-clause-memory : goal.returns-in_err-groups-clause-memory
returns-in_err-groups-clause-memory c =
    let p = err_from_is_err_and c.from_residual.result c.from_residual.ensures.1 in
    rw (p.1, p.2) c.in_err-groups.ensures.memory
