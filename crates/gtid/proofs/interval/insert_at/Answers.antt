use Rattle.gtid.proofs.Names.{◌≡◌, ◌+◌, ◌<◌, ◌∙◌, length, ap, sym, arith, refl, AllWithin, get_or_default, true≢false}
use Rattle.gtid.proofs.Within.{added_alone, added_before, added_last, goes_before, near_alone, near_last}
use Rattle.gtid.proofs.interval.insert_at.Goals as goal

pub returns-then-at-len : goal.returns-then-at-len
returns-then-at-len c =
    let old = c.args.intervals.now.items in
    let goes = c.requires.goes in
    let before : AllWithin (λ i. i.hi < c.args.number) old 0 (length old) = λ k d low high. goes.before k d low (omega (arith, high, c.if-at-len.true, c.len.ensures, c.args.intervals.now.ok)) in
    let added = added_last old c.push.new.self.items c.args.number c.requires.least c.requires.number.0 c.requires.number.1 before (rw c.of.ensures at c.in_ok-push.ensures.items) in
    record { least = added.least; ok = added.adds; err = tt; room = λ _. refl; near = λ _ _ _. refl }

pub returns-in_err-push-clause-near : goal.returns-in_err-push-clause-near
returns-in_err-push-clause-near c n beside one =
    let old = c.args.intervals.now.items in
    let before : AllWithin (λ i. i.hi < c.args.number) old 0 (length old) = λ k d low high. c.requires.goes.before k d low (omega (arith, high, c.if-at-len.true, c.len.ensures, c.args.intervals.now.ok)) in
    absurd (true≢false (sym one ∙ near_last old n c.args.number c.requires.least before beside))

pub returns-then-next-number-2 : goal.returns-then-next-number-2
returns-then-next-number-2 c =
    let old = c.args.intervals.now.items in
    let at = c.args.at in
    let x = c.index_mut.result.now in
    let next = c.index-next.result.now in
    let within : at < length old = omega (arith, c.requires.goes.within, c.if-at-len.false, c.len.ensures, c.args.intervals.now.ok) in
    let touch : x.lo ≡ c.args.number + 1 = ap (λ i. i.lo) (c.index_mut.ensures.value ∙ get_or_default old at x next within ∙ sym c.index-next.ensures) ∙ c.if-next-number-2.true in
    let added = added_before old at c.args.number x c.requires.least within c.requires.number.0 c.requires.goes.before c.index_mut.ensures.value touch in
    record { least = added.least; ok = added.adds; err = tt; room = λ _. refl; near = λ _ _ _. refl }

pub returns : goal.returns
returns c =
    let old = c.args.intervals.now.items in
    let at = c.args.at in
    let next = c.index-next.result.now in
    let within : at < length old = omega (arith, c.requires.goes.within, c.if-at-len.false, c.len.ensures, c.args.intervals.now.ok) in
    let gap = goes_before old at c.args.number next c.requires.least c.requires.goes within c.index-next.ensures c.if-next-number.false c.if-next-number-2.false in
    let added = added_alone old _ at c.args.number c.requires.least c.requires.goes.within c.requires.number.0 c.requires.number.1 c.requires.goes.before gap (rw c.of-2.ensures at c.in_ok-insert.ensures.items) in
    record { least = added.least; ok = added.adds; err = tt; room = λ _. refl; near = λ _ _ _. refl }

pub returns-in_err-insert-clause-near : goal.returns-in_err-insert-clause-near
returns-in_err-insert-clause-near c n beside one =
    let old = c.args.intervals.now.items in
    let at = c.args.at in
    let next = c.index-next.result.now in
    let within : at < length old = omega (arith, c.requires.goes.within, c.if-at-len.false, c.len.ensures, c.args.intervals.now.ok) in
    let gap = goes_before old at c.args.number next c.requires.least c.requires.goes within c.index-next.ensures c.if-next-number.false c.if-next-number-2.false in
    absurd (true≢false (sym one ∙ near_alone old at n c.args.number c.requires.least c.requires.goes.within c.requires.goes.before gap beside))
