use Rattle.columns.proofs.Names.{◌≡◌, arith, rules, fraction_size}
use Rattle.columns.proofs.value.moment.Datetime.write.Goals as goal

pub returns-in_ok-extend_from_slice-in_default-clause-ok : goal.returns-in_ok-extend_from_slice-in_default-clause-ok
returns-in_ok-extend_from_slice-in_default-clause-ok c =
    let three : fraction_size c.args.self.fraction.digits ≡ 3 = omega (arith, c.byte_count.ensures.size, c.byte_count.ensures.few) in
    rw three (search rules)

pub returns-in_err-extend_from_slice-in_default-clause-full : goal.returns-in_err-extend_from_slice-in_default-clause-full
returns-in_err-extend_from_slice-in_default-clause-full c =
    let three : fraction_size c.args.self.fraction.digits ≡ 3 = omega (arith, c.byte_count.ensures.size, c.byte_count.ensures.few) in
    rw three (search rules)
