use Rattle.gtid.proofs.Names.{◌∙◌, Bool, true, false, Option, Some, None, Result, Ok, Err, ap, sym, inl, inr, true≢false, false≢true, id, is_listed}
use Rattle.std.proofs.lemmas.Bool.{cases_Bool}
use Rattle.gtid.proofs.Sets.{contained, same_ids}
use Rattle.gtid.proofs.set.GtidSet.entry.Goals as goal

abbrev is_place : {A E : Type 0} → Result (Option A) E → Bool
is_place (Ok (Some x)) = true
is_place (Ok None) = false
is_place (Err e) = false

abbrev is_none : {A E : Type 0} → Result (Option A) E → Bool
is_none (Ok (Some x)) = false
is_none (Ok None) = true
is_none (Err e) = false

pub returns-in-Ok-Some : goal.returns-in-Ok-Some
returns-in-Ok-Some c =
    let old = c.self.inside.groups.items in
    let q = id c.args.gtid in
    let member = contained old c.args.self c.self.view_is in (
      ap (λ ids. (ids, q)) (same_ids c.args.self c.reserve.new.groups.items (λ p. c.reserve.ensures.same p ∙ member p)),
      sym (member q) ∙ elim (cases_Bool (is_listed q old)) [
        | inl known ↦ absurd (true≢false (rw c.in-Ok-Some.field-0-is at (ap is_place (c.in-Ok-Some.ensures.known known))))
        | inr new ↦ new
      ],
    )

pub returns-in-Ok-None : goal.returns-in-Ok-None
returns-in-Ok-None c =
    let old = c.self.inside.groups.items in
    let member = contained old c.args.self c.self.view_is in (
      same_ids c.args.self c.reserve.new.groups.items (λ p. c.reserve.ensures.same p ∙ member p),
      sym (member (id c.args.gtid)) ∙ (rw c.in-Ok-None.field-0-is at c.in-Ok-None.ensures.there),
    )

pub returns-in-Err : goal.returns-in-Err
returns-in-Err c =
    let old = c.self.inside.groups.items in
    let q = id c.args.gtid in
    let member = contained old c.args.self c.self.view_is in (
      same_ids c.args.self c.reserve.new.groups.items (λ p. c.reserve.ensures.same p ∙ member p),
      sym (member q) ∙ elim (cases_Bool (is_listed q old)) [
        | inl known ↦ absurd (false≢true (ap is_none (c.in-Err.ensures.known known)))
        | inr new ↦ new
      ],
      λ n beside. sym (member (q.0, n)) ∙ elim (cases_Bool (is_listed (q.0, n) old)) [
        | inl there ↦ absurd (true≢false (sym (c.in-Err.ensures.near n beside there)))
        | inr none ↦ none
      ],
    )
