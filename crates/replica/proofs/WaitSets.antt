-- What is missing of a set after transactions were applied.
use Rattle.replica.proofs.Names.{◌≡◌, ◌⊎◌, ◌+◌, ◌∷◌, ◌++◌, [], List, Option, Some, None, Result, Ok, Err, Bool, true, false, ◌||◌, ◌&&◌, not, inl, inr, refl, sym, ap, subst, ◌∙◌, if◌then◌else◌, false≢true, false_from_ne_true, or_right, Ids, id_cmp_total, Names, DeliveryValue, Content, HasOutcome, done, Reason, Ended, is_over, waits_for_none, Notice, stopped, ended, LeadsBy, StillWaits, WereMissed, WasMissing, Account, BeginsWith, IsNotedSinceOpening, IsOneMoreNoted, IsLeftOfNoted}
use Rattle.std.specs.FinSet as set
use Rattle.replica.specs.Missing.{IsLeftOf}
use Rattle.replica.proofs.Transactions.{still}
use Rattle.replica.specs.Noted.{opened, connected, before, after, HasBeenNoted, missing_after, AreMissed, IsNotedOf, EndsWithLast, HasReached}
use Rattle.replica.proofs.MissingSets.{removed, again, removed_within, either_first, without_one, without_absent, none_left, none_removed, within, not_both}
use Rattle.replica.proofs.Notices.{unchanged}

-- ---- what is missing after what was reported

-- without what was executed at the first, it is without what is executed at the end
pub kept_missing : (names : Names) (old : Content) (notices : List Notice) (new : Content) (w : Ids) → LeadsBy names old notices new → missing_after (set.difference w old.executed) notices ≡ set.difference w new.executed
kept_missing names old [] new w l = ap (λ (c : Content). set.difference w c.executed) (sym l)
kept_missing names old (before d ∷ []) new w l = absurd l
kept_missing names old (before d ∷ after e (Ok true) ∷ ns) new w l =
    let gone : set.remove (set.difference w old.executed) (e.source, e.number) ≡ set.difference w l.1.executed =
    removed w old.executed (e.source, e.number) ∙ ap (λ (x : DeliveryValue). set.difference w (set.insert old.executed (x.source, x.number))) l.0 ∙ ap (λ (s : Ids). set.difference w s) (sym l.2.2) in
    ap (λ (s : Ids). missing_after s ns) gone ∙ kept_missing names l.1 ns new w l.3
kept_missing names old (before d ∷ after e (Ok false) ∷ ns) new w l = absurd l.2
kept_missing names old (before d ∷ after e (Err reason) ∷ ns) new w l =
    ap (λ (c : Content). missing_after (set.difference w c.executed) ns) (sym (unchanged names old d reason l.1 l.2)) ∙ kept_missing names l.1 ns new w l.3
kept_missing names old (before d ∷ opened ids ∷ ns) new w l = absurd l
kept_missing names old (before d ∷ before e ∷ ns) new w l = absurd l
kept_missing names old (before d ∷ stopped e ∷ ns) new w l = absurd l
kept_missing names old (before d ∷ connected ∷ ns) new w l = absurd l
kept_missing names old (before d ∷ ended end goes_on ∷ ns) new w l = absurd l
kept_missing names old (stopped d ∷ ns) new w l = kept_missing names old ns new w l.2
kept_missing names old (after d (Ok true) ∷ ns) new w l = absurd l
kept_missing names old (after d (Ok false) ∷ ns) new w l = kept_missing names old ns new w l.1
kept_missing names old (after d (Err reason) ∷ ns) new w l = kept_missing names old ns new w l.1
kept_missing names old (opened ids ∷ ns) new w l =
    ap (λ (s : Ids). missing_after s ns) (ap (λ (s : Ids). set.difference (set.difference w old.executed) s) l.0 ∙ again w old.executed) ∙ kept_missing names old ns new w l.1
kept_missing names old (connected ∷ ns) new w l = kept_missing names old ns new w l
kept_missing names old (ended end true ∷ ns) new w l = kept_missing names old ns new w l
kept_missing names old (ended end false ∷ ns) new w l = ap (λ (x : List Notice). missing_after (set.difference w old.executed) x) l.0 ∙ ap (λ (c : Content). set.difference w c.executed) (sym l.1)

pub missing_of : (names : Names) (old : Content) (ids : Ids) (notices : List Notice) (new : Content) (wanted : Ids) → LeadsBy names old (opened ids ∷ notices) new
    → missing_after wanted (opened ids ∷ notices) ≡ set.difference wanted new.executed
missing_of names old ids notices new wanted l = ap (λ (s : Ids). missing_after (set.difference wanted s) notices) l.0 ∙ kept_missing names old notices new wanted l.1

pub waits_of : (names : Names) (old : Content) (ids : Ids) (notices : List Notice) (new : Content) (was : Option Ids) (wanted left : Ids) → was ≡ Some wanted → LeadsBy names old (opened ids ∷ notices) new
    → StillWaits was (opened ids ∷ notices) (Some left) → left ≡ set.difference wanted new.executed
waits_of names old ids notices new was wanted left is l waits =
    subst (λ (w : Option Ids). StillWaits w (opened ids ∷ notices) (Some left)) is waits ∙ missing_of names old ids notices new wanted l

-- what is missing, and a set before or after that
set_out : (w s : Ids) (notices : List Notice) → missing_after (set.difference w s) notices ≡ set.difference (missing_after w notices) s
set_out w s [] = refl
set_out w s (opened ids ∷ ns) = ap (λ (x : Ids). missing_after x ns) (either_first w s ids) ∙ set_out (set.difference w ids) s ns
set_out w s (before d ∷ ns) = set_out w s ns
set_out w s (stopped d ∷ ns) = set_out w s ns
set_out w s (after d (Ok true) ∷ ns) = ap (λ (x : Ids). missing_after x ns) (removed_within w s (d.source, d.number)) ∙ set_out (set.remove w (d.source, d.number)) s ns
set_out w s (after d (Ok false) ∷ ns) = set_out w s ns
set_out w s (after d (Err reason) ∷ ns) = set_out w s ns
set_out w s (connected ∷ ns) = set_out w s ns
set_out w s (ended end goes_on ∷ ns) = set_out w s ns

all_within : (names : Names) (old : Content) (notices : List Notice) (new : Content) (wanted : Ids) (is : Option Ids) → LeadsBy names old notices new
    → StillWaits (Some wanted) notices is → waits_for_none is ≡ true → set.is_subset wanted new.executed ≡ true
all_within names old notices new wanted None l waits none = absurd (false≢true none)
all_within names old notices new wanted (Some left) l waits none =
    within wanted new.executed (subst (λ (s : Ids). set.is_subset s set.empty ≡ true) (sym (set_out wanted old.executed notices) ∙ kept_missing names old notices new wanted l)
    (none_left (missing_after wanted notices) old.executed (subst (λ (s : Ids). set.is_subset s set.empty ≡ true) waits none)))

-- an observer that waits for nothing more after what led to a content
pub all_there : (names : Names) (old new : Content) (was is : Account) (ends : List Ended) (wanted : Ids) → IsNotedOf names old new was is ends → was.waits ≡ Some wanted → waits_for_none is.waits ≡ true
    → set.is_subset wanted new.executed ≡ true
all_there names old new was is ends wanted noted wants none =
    all_within names old noted.notices new wanted is.waits noted.leads (subst (λ (w : Option Ids). StillWaits w noted.notices is.waits) wants noted.waits) none

-- something was missing before each transaction that was to be applied
missed_at : (ids : Ids) (xs : List Notice) (d : DeliveryValue) (ys : List Notice) → AreMissed ids (xs ++ before d ∷ ys) → set.is_subset (missing_after ids xs) set.empty ≡ false
missed_at ids [] d ys a = a.0
missed_at ids (opened executed ∷ xs) d ys a = missed_at (set.difference ids executed) xs d ys a
missed_at ids (before e ∷ xs) d ys a = missed_at ids xs d ys a.1
missed_at ids (stopped e ∷ xs) d ys a = missed_at ids xs d ys a
missed_at ids (after e (Ok true) ∷ xs) d ys a = missed_at (set.remove ids (e.source, e.number)) xs d ys a
missed_at ids (after e (Ok false) ∷ xs) d ys a = missed_at ids xs d ys a
missed_at ids (after e (Err reason) ∷ xs) d ys a = missed_at ids xs d ys a
missed_at ids (connected ∷ xs) d ys a = missed_at ids xs d ys a
missed_at ids (ended end goes_on ∷ xs) d ys a = missed_at ids xs d ys a

outside : (w s : Ids) → set.is_subset (set.difference w s) set.empty ≡ false → set.is_subset w s ≡ false
outside w s some = false_from_ne_true (set.is_subset w s) (λ all. false≢true (sym some ∙ set.contains-is_subset id_cmp_total (set.difference w s) set.empty (λ q there.
    let both : (set.contains w q && not (set.contains s q)) ≡ true = sym (set.contains-difference id_cmp_total w s q) ∙ there in
    absurd (not_both (set.contains w q) (set.contains s q) (λ in_w. set.is_subset-contains id_cmp_total w s all q in_w) both))))

pub too_few : (names : Names) (old : Content) (ids : Ids) (xs : List Notice) (mid : Content) (wanted left : Ids) (d : DeliveryValue) (ys : List Notice) → LeadsBy names old (opened ids ∷ xs) mid
    → WereMissed (Some wanted) (opened ids ∷ (xs ++ before d ∷ ys)) (Some left) → set.is_subset wanted mid.executed ≡ false
too_few names old ids xs mid wanted left d ys l missed =
    outside wanted mid.executed (subst (λ (s : Ids). set.is_subset s set.empty ≡ false) (missing_of names old ids xs mid wanted l) (missed_at (set.difference wanted ids) xs d ys missed))

-- the last transaction that was applied, if there was one
reached_by : (names : Names) (old : Content) (notices : List Notice) (new : Content) (w : Ids) → LeadsBy names old notices new → AreMissed (set.difference w old.executed) notices → (new ≡ old) ⊎ EndsWithLast names old new w
reached_by names old [] new w l a = inl l
reached_by names old (before d ∷ []) new w l a = absurd l
reached_by names old (before d ∷ after e (Ok true) ∷ ns) new w l a =
    let gone : set.remove (set.difference w old.executed) (e.source, e.number) ≡ set.difference w l.1.executed =
    removed w old.executed (e.source, e.number) ∙ ap (λ (x : DeliveryValue). set.difference w (set.insert old.executed (x.source, x.number))) l.0 ∙ ap (λ (s : Ids). set.difference w s) (sym l.2.2) in
    elim (reached_by names l.1 ns new w l.3 (subst (λ (s : Ids). AreMissed s ns) gone a.1)) [
      | inl same ↦ inr (record { transactions = []; applied = 0; mid = old; applies = (refl, refl); too_few = outside w old.executed a.0; last = d; applies_last = subst (λ (c : Content). HasOutcome names old d (done c)) (sym same) l.2 })
      | inr more ↦ inr (record { transactions = d ∷ more.transactions; applied = more.applied + 1; mid = more.mid; applies = inl (l.1, more.applied, l.2, refl, more.applies); too_few = more.too_few; last = more.last; applies_last = more.applies_last })
    ]
reached_by names old (before d ∷ after e (Ok false) ∷ ns) new w l a = absurd l.2
reached_by names old (before d ∷ after e (Err reason) ∷ ns) new w l a =
    let same : l.1 ≡ old = unchanged names old d reason l.1 l.2 in
    subst (λ (c : Content). (new ≡ c) ⊎ EndsWithLast names c new w) same (reached_by names l.1 ns new w l.3 (subst (λ (c : Content). AreMissed (set.difference w c.executed) ns) (sym same) a.1))
reached_by names old (before d ∷ opened ids ∷ ns) new w l a = absurd l
reached_by names old (before d ∷ before e ∷ ns) new w l a = absurd l
reached_by names old (before d ∷ stopped e ∷ ns) new w l a = absurd l
reached_by names old (before d ∷ connected ∷ ns) new w l a = absurd l
reached_by names old (before d ∷ ended end goes_on ∷ ns) new w l a = absurd l
reached_by names old (stopped d ∷ ns) new w l a = reached_by names old ns new w l.2 a
reached_by names old (after d (Ok true) ∷ ns) new w l a = absurd l
reached_by names old (after d (Ok false) ∷ ns) new w l a = reached_by names old ns new w l.1 a
reached_by names old (after d (Err reason) ∷ ns) new w l a = reached_by names old ns new w l.1 a
reached_by names old (opened ids ∷ ns) new w l a =
    reached_by names old ns new w l.1 (subst (λ (s : Ids). AreMissed s ns) (ap (λ (s : Ids). set.difference (set.difference w old.executed) s) l.0 ∙ again w old.executed) a)
reached_by names old (connected ∷ ns) new w l a = reached_by names old ns new w l a
reached_by names old (ended end true ∷ ns) new w l a = reached_by names old ns new w l a
reached_by names old (ended end false ∷ ns) new w l a = inl l.1

since_opened : (names : Names) (old new : Content) (notices : List Notice) (wanted : Ids) (is : Option Ids) → BeginsWith old.executed notices → LeadsBy names old notices new → WereMissed (Some wanted) notices is
    → waits_for_none is ≡ true → (new ≡ old) ⊎ EndsWithLast names old new wanted
since_opened names old new [] wanted is b l m none = absurd b
since_opened names old new (before d ∷ ns) wanted is b l m none = absurd b
since_opened names old new (stopped d ∷ ns) wanted is b l m none = absurd b
since_opened names old new (after d answer ∷ ns) wanted is b l m none = absurd b
since_opened names old new (connected ∷ ns) wanted is b l m none = absurd b
since_opened names old new (ended end goes_on ∷ ns) wanted is b l m none = absurd b
since_opened names old new (opened ids ∷ ns) wanted None b l m none = absurd (false≢true none)
since_opened names old new (opened ids ∷ ns) wanted (Some left) b l m none = reached_by names old ns new wanted l.1 (subst (λ (s : Ids). AreMissed (set.difference wanted s) ns) b m)

-- an observer that waits for nothing more, after a database was opened
pub has_reached : (names : Names) (old new : Content) (was is : Account) (ends : List Ended) (wanted : Ids) → IsNotedSinceOpening names old new was is ends → was.waits ≡ Some wanted → waits_for_none is.waits ≡ true
    → HasReached names old new wanted
has_reached names old new was is ends wanted noted wants none = record {
  all = all_there names old new was is ends wanted noted.noted_of wants none;
  first = since_opened names old new noted.noted_of.notices wanted is.waits noted.begins noted.noted_of.leads (subst (λ (w : Option Ids). WereMissed w noted.noted_of.notices is.waits) wants noted.noted_of.missed) none;
}

-- after an opening that left something missing
pub missing_first : (was is : Option Ids) (ids executed : Ids) → ids ≡ executed → StillWaits was (opened ids ∷ []) is → waits_for_none is ≡ false → WasMissing was is executed
missing_first was None ids executed same waits some = tt
missing_first None (Some is) ids executed same waits some = absurd waits
missing_first (Some wanted) (Some is) ids executed same waits some =
    outside wanted executed (subst (λ (s : Ids). set.is_subset s set.empty ≡ false) (waits ∙ ap (λ (s : Ids). set.difference wanted s) same) some)

pub missing_later : (was mid is : Option Ids) (notices : List Notice) (executed : Ids) → StillWaits mid notices is → WasMissing was mid executed → WasMissing was is executed
missing_later was mid None notices executed waits missed = tt
missing_later was None (Some is) notices executed waits missed = absurd waits
missing_later None (Some mid) (Some is) notices executed waits missed = absurd missed
missing_later (Some wanted) (Some mid) (Some is) notices executed waits missed = missed

-- ---- an observer that stops once nothing is missing

pub left_opened : (was : Option Ids) (taken : Ids) (is : Option Ids) → IsLeftOf was taken is → StillWaits was (opened taken ∷ []) is
left_opened was taken None l = l
left_opened None taken (Some is) l = absurd l
left_opened (Some was) taken (Some is) l = l

pub left_connected : (was : Option Ids) → StillWaits was (connected ∷ []) was
left_connected None = refl
left_connected (Some ids) = refl

pub left_none : (was : Option Ids) (taken : Ids) (is : Option Ids) → IsLeftOf was taken is → is_over was ≡ true → is_over is ≡ true
left_none was taken None l over = refl
left_none None taken (Some is) l over = absurd l
left_none (Some was) taken (Some is) l over = subst (λ (s : Ids). set.is_subset s set.empty ≡ true) (sym l) (none_left was taken over)

-- what is reported of a transaction
pub left_one : (was : Ids) (d : DeliveryValue) (one : Ids) (is : Option Ids) → one ≡ set.insert set.empty (d.source, d.number) → IsLeftOf (Some was) one is → StillWaits (Some was) (after d (Ok true) ∷ []) is
left_one was d one None same l = l
left_one was d one (Some is) same l = l ∙ ap (λ (s : Ids). set.difference was s) same ∙ without_one was (d.source, d.number)

pub left_absent : (was : Ids) (d : DeliveryValue) → set.contains was (d.source, d.number) ≡ false → StillWaits (Some was) (after d (Ok true) ∷ []) (Some was)
left_absent was d out = without_absent was (d.source, d.number) out

pub after_none : (was : Option Ids) (d : DeliveryValue) (outcome : Result Bool Reason) (is : Option Ids) → StillWaits was (after d outcome ∷ []) is → is_over was ≡ true → is_over is ≡ true
after_none was d outcome None l over = refl
after_none None d outcome (Some is) l over = absurd l
after_none (Some was) d (Ok true) (Some is) l over = subst (λ (s : Ids). set.is_subset s set.empty ≡ true) (sym l) (none_removed was (d.source, d.number) over)
after_none (Some was) d (Ok false) (Some is) l over = subst (λ (s : Ids). set.is_subset s set.empty ≡ true) (sym l) over
after_none (Some was) d (Err reason) (Some is) l over = subst (λ (s : Ids). set.is_subset s set.empty ≡ true) (sym l) over

-- either stays
pub either_stays : (a b c d : Bool) → (a ≡ true → c ≡ true) → (b ≡ true → d ≡ true) → (a || b) ≡ true → (c || d) ≡ true
either_stays true b c d first second h = ap (λ x. x || d) (first refl)
either_stays false b c d first second h = or_right c d (second h)

-- the account of an observer, as long as it is that of the one in it
pub apart_noted : (apart : Bool) (was is : Option (List Notice)) (notices : List Notice) → HasBeenNoted was is notices → HasBeenNoted (if apart then None else was) (if apart then None else is) notices
apart_noted true was is notices h = tt
apart_noted false was is notices h = h

pub done_stops : (missing : Option Ids) → waits_for_none missing ≡ true → is_over missing ≡ true
done_stops None none = refl
done_stops (Some ids) none = none

-- what is left has executed what the content has
one_more_has : (names : Names) (new : Content) (notices : List Notice) (left : Content) → IsOneMoreNoted names new notices left → set.is_subset new.executed left.executed ≡ true
one_more_has names new [] left more = absurd more
one_more_has names new (before d ∷ notices) left (inl it) = set.contains-is_subset id_cmp_total new.executed left.executed (λ q has. ap (λ s. set.contains s q) it.1.2 ∙ still new.executed (d.source, d.number) q has)
one_more_has names new (before d ∷ notices) left (inr more) = one_more_has names new notices left more
one_more_has names new (after d answer ∷ notices) left more = one_more_has names new notices left more.1
one_more_has names new (opened ids ∷ notices) left more = one_more_has names new notices left more
one_more_has names new (stopped d ∷ notices) left more = one_more_has names new notices left more
one_more_has names new (connected ∷ notices) left more = one_more_has names new notices left more
one_more_has names new (ended end goes_on ∷ notices) left more = one_more_has names new notices left more

pub left_has : (names : Names) (notices : List Notice) (new left : Content) → IsLeftOfNoted names notices new left → set.is_subset new.executed left.executed ≡ true
left_has names notices new left (inl same) = set.contains-is_subset id_cmp_total new.executed left.executed (λ q has. ap (λ (c : Content). set.contains c.executed q) same ∙ has)
left_has names notices new left (inr more) = one_more_has names new notices left more
