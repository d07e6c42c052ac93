use Rattle.std.proofs.Common.{◌≡◌, ℕ, ◌/◌, ◌^◌, ◌<◌, length, decimal, ap, ◌∙◌, arith}
use Rattle.columns.proofs.Rounding.{some_unit}
use Rattle.columns.proofs.TextLengths.{point_long, far_long}
use Rattle.columns.proofs.value.filled.pointed_length.Goals as goal

pub returns-then-behind-gt17-clause-length : goal.returns-then-behind-gt17-clause-length
returns-then-behind-gt17-clause-length c = omega (arith, c.from-places.ensures, far_long c.args.behind c.args.number c.if-behind-gt17.true c.requires.number)

pub nonzero_div-whole : goal.nonzero_div-whole
nonzero_div-whole c = omega (arith, c.pow.ensures, some_unit c.from-2.result)

pub returns-clause-length : goal.returns-clause-length
returns-clause-length c =
    let some : 0 < c.args.behind = omega (arith, c.if-behind-eq0.false) in
    let unit : c.pow.result ≡ 10 ^ c.args.behind = c.pow.ensures ∙ ap (λ (k : ℕ). 10 ^ k) c.from-2.ensures in
    let whole = ap (λ (u : ℕ). length (decimal (c.args.number / u))) unit in
    omega (arith, c.from-3.ensures, c.digit_count-2.ensures.count, whole, c.from-places.ensures, point_long c.args.behind c.args.number some c.requires.number)
