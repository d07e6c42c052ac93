use Rattle.columns.proofs.Names.{◌≡◌, ℕ, ◌-◌, ◌<◌, ◌≤◌, List, [], Some, None, get_or, length, refl, ◌∙◌, arith, member_bytes, Member}
use Rattle.std.proofs.Common.{slice_get}
use Rattle.std.proofs.lemmas.Option.{slice_get-map, slice_get_past, slice_get_read}
use Rattle.columns.specs.MemberTexts.{member_of}
use Rattle.columns.proofs.member_texts.member_at.Goals as goal

there : (members : List Member) (ordinal n : ℕ) (member : Member) → 0 < ordinal → n ≡ ordinal → n - 1 < length members → member ≡ get_or members (n - 1) member →
    member.text.items ≡ member_of ordinal (member_bytes members)
there members ordinal n member some same within is =
    let read : slice_get members (n - 1) ≡ Some member = slice_get_read members (length members) (n - 1) member refl within is in
    let mapped = slice_get-map (λ (m : Member). m.text.items) members (n - 1) in
    grind (arith, read, mapped, some, same)

behind : (members : List Member) (ordinal n : ℕ) → 0 < ordinal → n ≡ ordinal → length members ≤ n - 1 → [] ≡ member_of ordinal (member_bytes members)
behind members ordinal n some same past =
    let read : slice_get members (n - 1) ≡ None = slice_get_past members (n - 1) past in
    let mapped = slice_get-map (λ (m : Member). m.text.items) members (n - 1) in
    grind (arith, read, mapped, some, same)

pub returns-in-Some : goal.returns-in-Some
returns-in-Some c =
    let h = c.in-Some.ensures.lookup in
    c.deref.ensures.value ∙ there c.args.members.now c.args.ordinal c.from.result c.in-Some.member.now (omega (arith, c.if-ordinal-eq0.false)) c.from.ensures (omega (arith, h.0)) h.1

pub returns-in-None : goal.returns-in-None
returns-in-None c = let h = c.in-None.ensures.lookup in behind c.args.members.now c.args.ordinal c.from.result (omega (arith, c.if-ordinal-eq0.false)) c.from.ensures h.3
