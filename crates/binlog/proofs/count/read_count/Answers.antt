use Rattle.std.proofs.Common.{Some, ◌∙◌, ◌≤◌, length, take, drop, sym, ap, subst, arith}
use Rattle.std.proofs.lemmas.List.{take-append-drop, length-take-le, take_rest}
use Rattle.wire.specs.Integer.{IsLengthEncoded}
use Rattle.binlog.proofs.Counts.{counted, count_not_refused, too_few}
use Rattle.binlog.proofs.count.read_count.Goals as goal

pub returns-in-Some-clause-value : goal.returns-in-Some-clause-value
returns-in-Some-clause-value c =
    let bytes = c.args.bytes.now in
    let n = c.in-Some.read.0 in
    let w = c.in-Some.read.1 in
    let same = take_rest bytes c.args.at in
    let is : IsLengthEncoded n (take w (drop c.args.at bytes)) = subst (λ l. IsLengthEncoded n (take w l)) same c.in-Some.ensures.found in
    let within : w ≤ length (drop c.args.at bytes) = subst (λ l. w ≤ length l) same c.in-Some.ensures.length in
    let t = counted n (take w (drop c.args.at bytes)) (drop w (drop c.args.at bytes)) bytes c.args.at is (sym (take-append-drop w (drop c.args.at bytes))) in
    (sym t.1, sym (t.0 ∙ length-take-le w (drop c.args.at bytes) within))

pub returns-in-Some-clause-whole : goal.returns-in-Some-clause-whole
returns-in-Some-clause-whole c =
    let bytes = c.args.bytes.now in
    let n = c.in-Some.read.0 in
    let w = c.in-Some.read.1 in
    let is : IsLengthEncoded n (take w (drop c.args.at bytes)) = subst (λ l. IsLengthEncoded n (take w l)) (take_rest bytes c.args.at) c.in-Some.ensures.found in
    count_not_refused n (take w (drop c.args.at bytes)) (drop w (drop c.args.at bytes)) bytes c.args.at c.args.kind c.requires is (sym (take-append-drop w (drop c.args.at bytes)))

pub returns-in_default-bytes-clause-fault : goal.returns-in_default-bytes-clause-fault
returns-in_default-bytes-clause-fault c =
    let bytes = c.args.bytes.now in
    too_few bytes c.args.at c.args.kind (λ i. omega (arith, c.type_inv.bytes i))
    (λ n len is. c.in_default.ensures.none n len (subst (λ l. IsLengthEncoded n (take len l)) (sym (take_rest bytes c.args.at)) is))
    (λ there. ((λ e. omega (arith, e)), (λ e. omega (arith, e))))
    ∙ ap Some (sym c.truncated-in_default-bytes.ensures)
