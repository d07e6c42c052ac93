use Rattle.columns.proofs.Names.{◌≡◌, [], inl, inr, length, refl, ap, sym, ◌∙◌, arith, rules, vec_len, get_or, length-map, member_bytes, Member}
use Rattle.std.proofs.Common.{drop}
use Rattle.columns.proofs.MemberLists.{first_member, members_more, pushed_front, pushed_all, before_is, other_byte}
use Rattle.columns.proofs.Types.{never}
use Rattle.columns.proofs.members.read_members.Goals as goal

pub returns-in_default-clause-fault : goal.returns-in_default-clause-fault
returns-in_default-clause-fault c = ([], c.args.text.now, tt, refl, inl (refl, c.in_default.ensures.none))

pub returns-in_default-2-clause-only : goal.returns-in_default-2-clause-only
returns-in_default-2-clause-only c whole lawful e =
    let first = first_member c.args.most whole c.args.text.now c.in-Some.inner.now lawful e c.in-Some.ensures.some in
    absurd (rw c.in_default-2.is at (c.in_ok-first.ensures.only first.0 first.1 first.2 first.3 first.4))

pub returns-in_default-2-clause-fault : goal.returns-in_default-2-clause-fault
returns-in_default-2-clause-fault c =
    ([], c.in-Some.inner.now, tt, refl, inr (inl (c.in-Some.ensures.some, c.requires, λ bytes rest small end is. rw c.in_default-2.is at (c.in_ok-first.ensures.only bytes rest small end is))))

pub returns-then-len-most-clause-only : goal.returns-then-len-most-clause-only
returns-then-len-most-clause-only c whole lawful e =
    let count : length (member_bytes c.loop-more.members.items) ≡ vec_len c.loop-more.members = length-map c.loop-more.members.items (λ (m : Member). m.text.items) ∙ search rules in
    elim (members_more c.args.most (member_bytes c.loop-more.members.items) whole c.args.text.now c.loop-more.left.now c.loop-more.invariant.bytes (omega (arith, count, c.loop-more.invariant.some))
    c.loop-more.invariant.end c.loop-more.invariant.text lawful e) [
      | inl at_end ↦ absurd (omega (arith, ap (λ xs. get_or xs 0 0) (sym c.in-Some-after_byte.ensures.some ∙ at_end.1)))
      | inr more ↦ absurd (omega (arith, more.5, lawful.few, c.if-len-most.true, c.len.ensures, count))
    ]

pub returns-in_default-3-clause-only : goal.returns-in_default-3-clause-only
returns-in_default-3-clause-only c whole lawful e =
    let count : length (member_bytes c.loop-more.members.items) ≡ vec_len c.loop-more.members = length-map c.loop-more.members.items (λ (m : Member). m.text.items) ∙ search rules in
    elim (members_more c.args.most (member_bytes c.loop-more.members.items) whole c.args.text.now c.loop-more.left.now c.loop-more.invariant.bytes (omega (arith, count, c.loop-more.invariant.some))
    c.loop-more.invariant.end c.loop-more.invariant.text lawful e) [
      | inl at_end ↦ absurd (omega (arith, ap (λ xs. get_or xs 0 0) (sym c.in-Some-after_byte.ensures.some ∙ at_end.1)))
      | inr more ↦ absurd (rw c.in_default-3.is at (c.in_ok-member.ensures.only more.0 more.1 more.2 more.3 (ap (λ xs. drop 1 xs) (sym c.in-Some-after_byte.ensures.some ∙ more.4))))
    ]

pub returns-in_default-3-clause-fault : goal.returns-in_default-3-clause-fault
returns-in_default-3-clause-fault c =
    let count : length (member_bytes c.loop-more.members.items) ≡ vec_len c.loop-more.members = length-map c.loop-more.members.items (λ (m : Member). m.text.items) ∙ search rules in (
      member_bytes c.loop-more.members.items,
      c.in-Some-after_byte.more.now,
      c.loop-more.invariant.bytes,
      refl,
      inr (inl (
        c.loop-more.invariant.text ∙ before_is (member_bytes c.loop-more.members.items) c.loop-more.left.now c.in-Some-after_byte.more.now (omega (arith, count, c.loop-more.invariant.some)) c.in-Some-after_byte.ensures.some,
        omega (arith, count, c.if-len-most.false, c.len.ensures),
        λ bytes rest small end is. rw c.in_default-3.is at (c.in_ok-member.ensures.only bytes rest small end is),
      )),
    )

pub loop-more-preserved : goal.loop-more-preserved
loop-more-preserved c =
    let count : length (member_bytes c.loop-more.members.items) ≡ vec_len c.loop-more.members = length-map c.loop-more.members.items (λ (m : Member). m.text.items) ∙ search rules in
    let found = rw c.in-Some-3.is at c.in_ok-member.ensures in
    record {
      some = omega (arith, c.in_ok-push-2.ensures.len);
      few = omega (arith, c.in_ok-push-2.ensures.len, c.if-len-most.false, c.len.ensures);
      text = c.loop-more.invariant.text ∙ pushed_front c.loop-more.members.items c.push-in-Some-after_byte.new.self.items c.in-Some-3.member c.loop-more.left.now c.in-Some-after_byte.more.now c.in-Some-3.rest.now
          (omega (arith, count, c.loop-more.invariant.some)) c.in-Some-after_byte.ensures.some found.found c.in_ok-push-2.ensures.items;
      bytes = pushed_all c.loop-more.members.items c.push-in-Some-after_byte.new.self.items c.in-Some-3.member c.loop-more.invariant.bytes found.bytes c.in_ok-push-2.ensures.items;
      end = found.end;
    }

pub returns-then-not-is_end-clause-only : goal.returns-then-not-is_end-clause-only
returns-then-not-is_end-clause-only c whole lawful e =
    let count : length (member_bytes c.loop-more.members.items) ≡ vec_len c.loop-more.members = length-map c.loop-more.members.items (λ (m : Member). m.text.items) ∙ search rules in
    elim (members_more c.args.most (member_bytes c.loop-more.members.items) whole c.args.text.now c.loop-more.left.now c.loop-more.invariant.bytes (omega (arith, count, c.loop-more.invariant.some))
    c.loop-more.invariant.end c.loop-more.invariant.text lawful e) [
      | inl at_end ↦ absurd (never (c.if-not-is_end.ensures.1 at_end.1))
      | inr more ↦ absurd (other_byte 44 c.loop-more.left.now _ c.in_default-after_byte.ensures.none refl more.4)
    ]

pub returns-clause-only : goal.returns-clause-only
returns-clause-only c whole lawful e =
    let count : length (member_bytes c.loop-more.members.items) ≡ vec_len c.loop-more.members = length-map c.loop-more.members.items (λ (m : Member). m.text.items) ∙ search rules in
    elim (members_more c.args.most (member_bytes c.loop-more.members.items) whole c.args.text.now c.loop-more.left.now c.loop-more.invariant.bytes (omega (arith, count, c.loop-more.invariant.some))
    c.loop-more.invariant.end c.loop-more.invariant.text lawful e) [
      | inl at_end ↦ sym at_end.0
      | inr more ↦ absurd (other_byte 44 c.loop-more.left.now _ c.in_default-after_byte.ensures.none refl more.4)
    ]
