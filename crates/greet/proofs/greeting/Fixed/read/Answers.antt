use Rattle.greet.proofs.Names.{◌≡◌, ◌+◌, ◌*◌, ◌^◌, ap, ◌∙◌, refl, arith, le-ltb, ne_eqb, take_rest, little_number}
use Rattle.std.proofs.Common.{drop}
use Rattle.greet.specs.Refusal.{fields_refusal}
use Rattle.greet.proofs.greeting.Fixed.read.Goals as goal

pub returns-then-has-ne-NEEDED-clause-fault : goal.returns-then-has-ne-NEEDED-clause-fault
unfolding fields_refusal
returns-then-has-ne-NEEDED-clause-fault c =
    let low : c.from.result ≡ little_number 2 (drop 13 c.args.fields.now) = c.from.ensures ∙ c.read_u16-low.ensures ∙ ap (little_number 2) (take_rest c.args.fields.now 13) in
    let high : c.from-2.result ≡ little_number 2 (drop 18 c.args.fields.now) = c.from-2.ensures ∙ c.read_u16-high.ensures ∙ ap (little_number 2) (take_rest c.args.fields.now 18) in
    let has : little_number 2 (drop 13 c.args.fields.now) + 2 ^ 16 * little_number 2 (drop 18 c.args.fields.now) ≡ c.from.result + c.from-2.result * 65536 = omega (arith, low, high) in
    rw (le-ltb _ _ c.if-fields-lt-FIXED.false, has, ne_eqb _ _ c.if-has-ne-NEEDED.true) refl
