-- What is reported to an observer, along the calls that report it.
use Rattle.replica.proofs.Names.{◌≡◌, ◌≢◌, ◌⊎◌, ◌∷◌, ◌++◌, [], length, arith, List, Option, Some, None, Result, Ok, Err, Bool, true, false, refl, sym, ap, ap₂, subst, ◌∙◌, inl, inr, append_assoc, append-nil, if◌then◌else◌, cases_Bool, false≢true, false_from_ne_true, or_left, or_right, or_cases, Ghosts, Schema, Ids, Names, DeliveryValue, Content, HasOutcome, done, is_executed, Applied, StoreFault, Store, HasFailed, HoldsAs, AreOf, Applies, Reason, EndOfInput, Database, Ended, AppliesAll, outcome_of, Notice, stopped, ended, applied_in, IsMadeBy, LeadsBy, Account, HasNotices, IsLedOver, StillWaits, WereMissed, WasMissing, BeginsWith, IsNotedSinceOpening, IsLedSinceOpening, fails_by, has_failure, EndsAtFailure, IsOneMoreNoted, IsLeftOfNoted, LeavesOnly, TakesAlone, waits_for_none}
use Rattle.std.specs.Prelude.{not}
use Rattle.std.proofs.lemmas.Bool.{or_parts}
use Rattle.std.specs.FinSet as set
use Rattle.store.specs.declared.fault.Applied.TheVariants as applied
use Rattle.store.specs.declared.fault.StoreFault.TheVariants as fault
use Rattle.store.specs.Store.{Holds, names_of}
use Rattle.sqlite.specs.Held.{state}
use Rattle.replica.proofs.Transactions.{all_one}
use Rattle.replica.proofs.MissingSets.{none_left, none_removed}
use Rattle.replica.specs.Conn.{StoreState}
use Rattle.replica.specs.Noted.{opened, connected, before, after, HasBeenNoted, asked_about, ends_in, has_stop, has_last, LetsNone, Excludes, IsExcluded, HasNoNotice, IsNotedOf, IsLedTo, missing_after, AreMissed, NextFails}

pub noted_none : (noted : Option (List Notice)) → HasBeenNoted noted noted []
noted_none None = tt
noted_none (Some l) = sym (append-nil l)

pub noted_more : (first middle last : Option (List Notice)) (xs ys : List Notice) → HasBeenNoted first middle xs → HasBeenNoted middle last ys → HasBeenNoted first last (xs ++ ys)
noted_more first middle None xs ys a b = tt
noted_more first None (Some l) xs ys a b = absurd b
noted_more None (Some m) (Some l) xs ys a b = absurd a
noted_more (Some f) (Some m) (Some l) xs ys a b = b ∙ ap (λ (x : List Notice). x ++ ys) a ∙ append_assoc f xs ys

-- what is missing after one list and then another
missing_more : (ids : Ids) (xs ys : List Notice) → missing_after ids (xs ++ ys) ≡ missing_after (missing_after ids xs) ys
missing_more ids [] ys = refl
missing_more ids (before d ∷ xs) ys = missing_more ids xs ys
missing_more ids (stopped d ∷ xs) ys = missing_more ids xs ys
missing_more ids (after d (Ok true) ∷ xs) ys = missing_more (set.remove ids (d.source, d.number)) xs ys
missing_more ids (after d (Ok false) ∷ xs) ys = missing_more ids xs ys
missing_more ids (after d (Err reason) ∷ xs) ys = missing_more ids xs ys
missing_more ids (opened executed ∷ xs) ys = missing_more (set.difference ids executed) xs ys
missing_more ids (connected ∷ xs) ys = missing_more ids xs ys
missing_more ids (ended end goes_on ∷ xs) ys = missing_more ids xs ys

-- once nothing is missing nothing is later
none_missing : (ids : Ids) (notices : List Notice) → set.is_subset ids set.empty ≡ true → set.is_subset (missing_after ids notices) set.empty ≡ true
none_missing ids [] none = none
none_missing ids (before d ∷ ns) none = none_missing ids ns none
none_missing ids (stopped d ∷ ns) none = none_missing ids ns none
none_missing ids (after d (Ok true) ∷ ns) none = none_missing (set.remove ids (d.source, d.number)) ns (none_removed ids (d.source, d.number) none)
none_missing ids (after d (Ok false) ∷ ns) none = none_missing ids ns none
none_missing ids (after d (Err reason) ∷ ns) none = none_missing ids ns none
none_missing ids (opened executed ∷ ns) none = none_missing (set.difference ids executed) ns (none_left ids executed none)
none_missing ids (connected ∷ ns) none = none_missing ids ns none
none_missing ids (ended end goes_on ∷ ns) none = none_missing ids ns none

pub none_later : (was is : Option Ids) (notices : List Notice) → StillWaits was notices is → waits_for_none was ≡ true → waits_for_none is ≡ true
none_later was None notices waits none = absurd (false≢true (sym waits ∙ none))
none_later None (Some is) notices waits none = absurd waits
none_later (Some was) (Some is) notices waits none = subst (λ (ids : Ids). set.is_subset ids set.empty ≡ true) (sym waits) (none_missing was notices none)

pub waits_none : (waits : Option Ids) → StillWaits waits [] waits
waits_none None = refl
waits_none (Some ids) = refl

pub waits_more : (first middle last : Option Ids) (xs ys : List Notice) → StillWaits first xs middle → StillWaits middle ys last → StillWaits first (xs ++ ys) last
waits_more first middle None xs ys a b = false_from_ne_true (waits_for_none first) (λ none. false≢true (sym b ∙ none_later first middle xs a none))
waits_more first None (Some l) xs ys a b = absurd b
waits_more None (Some m) (Some l) xs ys a b = absurd a
waits_more (Some f) (Some m) (Some l) xs ys a b = b ∙ ap (λ (ids : Ids). missing_after ids ys) a ∙ sym (missing_more f xs ys)

pub missed_none : (was is : Option Ids) → StillWaits was [] is → WereMissed was [] is
missed_none was None a = tt
missed_none None (Some is) a = absurd a
missed_none (Some was) (Some is) a = tt

all_missed : (ids : Ids) (xs ys : List Notice) → AreMissed ids xs → AreMissed (missing_after ids xs) ys → AreMissed ids (xs ++ ys)
all_missed ids [] ys a b = b
all_missed ids (before d ∷ xs) ys a b = (a.0, all_missed ids xs ys a.1 b)
all_missed ids (stopped d ∷ xs) ys a b = all_missed ids xs ys a b
all_missed ids (after d (Ok true) ∷ xs) ys a b = all_missed (set.remove ids (d.source, d.number)) xs ys a b
all_missed ids (after d (Ok false) ∷ xs) ys a b = all_missed ids xs ys a b
all_missed ids (after d (Err reason) ∷ xs) ys a b = all_missed ids xs ys a b
all_missed ids (opened executed ∷ xs) ys a b = all_missed (set.difference ids executed) xs ys a b
all_missed ids (connected ∷ xs) ys a b = all_missed ids xs ys a b
all_missed ids (ended end goes_on ∷ xs) ys a b = all_missed ids xs ys a b

pub missed_more : (first middle last : Option Ids) (xs ys : List Notice) → StillWaits first xs middle → StillWaits middle ys last → WereMissed first xs middle → WereMissed middle ys last → WereMissed first (xs ++ ys) last
missed_more first middle None xs ys a b m n = tt
missed_more first None (Some l) xs ys a b m n = absurd b
missed_more None (Some m) (Some l) xs ys a b p n = absurd a
missed_more (Some f) (Some m) (Some l) xs ys a b p n = all_missed f xs ys p (subst (λ (ids : Ids). AreMissed ids ys) a n)

-- what is reported of a transaction that is not to be applied
missed_same : (was is : Option Ids) (n : Notice) → ((ids : Ids) → AreMissed ids (n ∷ [])) → StillWaits was (n ∷ []) is → WereMissed was (n ∷ []) is
missed_same was None n same a = tt
missed_same None (Some is) n same a = absurd a
missed_same (Some was) (Some is) n same a = same was

after_missed : (ids : Ids) (d : DeliveryValue) (answer : Result Bool Reason) → AreMissed ids (after d answer ∷ [])
after_missed ids d (Ok true) = tt
after_missed ids d (Ok false) = tt
after_missed ids d (Err reason) = tt

-- and of one that is
missed_before : (was is : Option Ids) (d : DeliveryValue) → StillWaits was (before d ∷ []) is → waits_for_none is ≡ false → WereMissed was (before d ∷ []) is
missed_before was None d a some = tt
missed_before None (Some is) d a some = absurd a
missed_before (Some was) (Some is) d a some = (subst (λ (ids : Ids). set.is_subset ids set.empty ≡ false) a some, tt)

pub none_more : (xs ys : List Notice) → LetsNone xs → LetsNone ys → LetsNone (xs ++ ys)
none_more [] ys a b = b
none_more (before d ∷ xs) ys a b = absurd a
none_more (stopped d ∷ xs) ys a b = none_more xs ys a b
none_more (after d answer ∷ xs) ys a b = none_more xs ys a b
none_more (opened ids ∷ xs) ys a b = none_more xs ys a b
none_more (connected ∷ xs) ys a b = none_more xs ys a b
none_more (ended end goes_on ∷ xs) ys a b = none_more xs ys a b

pub stop_more : (xs ys : List Notice) → has_stop (xs ++ ys) ≡ true → (has_stop xs ≡ true) ⊎ (has_stop ys ≡ true)
stop_more [] ys h = inr h
stop_more (stopped d ∷ xs) ys h = inl refl
stop_more (before d ∷ xs) ys h = stop_more xs ys h
stop_more (after d answer ∷ xs) ys h = stop_more xs ys h
stop_more (opened ids ∷ xs) ys h = stop_more xs ys h
stop_more (connected ∷ xs) ys h = stop_more xs ys h
stop_more (ended end goes_on ∷ xs) ys h = stop_more xs ys h

pub last_more : (xs ys : List Notice) → has_last (xs ++ ys) ≡ true → (has_last xs ≡ true) ⊎ (has_last ys ≡ true)
last_more [] ys h = inr h
last_more (ended end false ∷ xs) ys h = inl refl
last_more (connected ∷ xs) ys h = last_more xs ys h
last_more (ended end true ∷ xs) ys h = last_more xs ys h
last_more (stopped d ∷ xs) ys h = last_more xs ys h
last_more (before d ∷ xs) ys h = last_more xs ys h
last_more (after d answer ∷ xs) ys h = last_more xs ys h
last_more (opened ids ∷ xs) ys h = last_more xs ys h

-- without an end there is no last one
no_last : (xs : List Notice) → ends_in xs ≡ [] → has_last xs ≡ false
no_last [] h = refl
no_last (connected ∷ xs) h = no_last xs h
no_last (ended end goes_on ∷ xs) h = absurd (cc)
no_last (stopped d ∷ xs) h = no_last xs h
no_last (before d ∷ xs) h = no_last xs h
no_last (after d answer ∷ xs) h = no_last xs h
no_last (opened ids ∷ xs) h = no_last xs h

pub leads_more : (names : Names) (old : Content) (xs : List Notice) (mid : Content) (ys : List Notice) (new : Content) → LeadsBy names old xs mid → LeadsBy names mid ys new → (has_stop xs ≡ true → LetsNone ys) → (has_last xs ≡ true → ys ≡ []) → LeadsBy names old (xs ++ ys) new
leads_more names old [] mid ys new a b none last = subst (λ c. LeadsBy names c ys new) a b
leads_more names old (before d ∷ []) mid ys new a b none last = absurd a
leads_more names old (before d ∷ after e answer ∷ xs) mid ys new a b none last = (a.0, a.1, a.2, leads_more names a.1 xs mid ys new a.3 b none last)
leads_more names old (before d ∷ opened ids ∷ xs) mid ys new a b none last = absurd a
leads_more names old (before d ∷ before e ∷ xs) mid ys new a b none last = absurd a
leads_more names old (before d ∷ stopped e ∷ xs) mid ys new a b none last = absurd a
leads_more names old (before d ∷ connected ∷ xs) mid ys new a b none last = absurd a
leads_more names old (before d ∷ ended end goes_on ∷ xs) mid ys new a b none last = absurd a
leads_more names old (stopped d ∷ xs) mid ys new a b none last = (a.0, none_more xs ys a.1 (none refl), leads_more names old xs mid ys new a.2 b (λ h. none refl) last)
leads_more names old (after d (Ok true) ∷ xs) mid ys new a b none last = absurd a
leads_more names old (after d (Ok false) ∷ xs) mid ys new a b none last = (a.0, leads_more names old xs mid ys new a.1 b none last)
leads_more names old (after d (Err reason) ∷ xs) mid ys new a b none last = (a.0, leads_more names old xs mid ys new a.1 b none last)
leads_more names old (opened ids ∷ xs) mid ys new a b none last = (a.0, leads_more names old xs mid ys new a.1 b none last)
leads_more names old (connected ∷ xs) mid ys new a b none last = leads_more names old xs mid ys new a b none last
leads_more names old (ended end true ∷ xs) mid ys new a b none last = leads_more names old xs mid ys new a b none last
leads_more names old (ended end false ∷ xs) mid ys new a b none last =
    let alone : ys ≡ [] = last refl in
    (ap₂ (λ (x y : List Notice). x ++ y) a.0 alone, subst (λ (l : List Notice). LeadsBy names mid l new) alone b ∙ a.1)

-- ---- after a failure

pub applied_more : (xs ys : List Notice) → applied_in (xs ++ ys) ≡ applied_in xs ++ applied_in ys
applied_more [] ys = refl
applied_more (opened ids ∷ xs) ys = applied_more xs ys
applied_more (before d ∷ xs) ys = applied_more xs ys
applied_more (stopped d ∷ xs) ys = applied_more xs ys
applied_more (after d (Ok true) ∷ xs) ys = ap (λ (l : List DeliveryValue). d ∷ l) (applied_more xs ys)
applied_more (after d (Ok false) ∷ xs) ys = applied_more xs ys
applied_more (after d (Err reason) ∷ xs) ys = applied_more xs ys
applied_more (connected ∷ xs) ys = applied_more xs ys
applied_more (ended end goes_on ∷ xs) ys = applied_more xs ys

none_applied : (xs ys : List Notice) → applied_in xs ≡ [] → applied_in ys ≡ [] → applied_in (xs ++ ys) ≡ []
none_applied xs ys a b = applied_more xs ys ∙ ap₂ (λ (x y : List DeliveryValue). x ++ y) a b

-- a failure in one list or the other
failure_more : (xs ys : List Notice) → has_failure (xs ++ ys) ≡ true → (has_failure xs ≡ true) ⊎ (has_failure ys ≡ true)
failure_more [] ys f = inr f
failure_more (opened ids ∷ xs) ys f = failure_more xs ys f
failure_more (before d ∷ xs) ys f = failure_more xs ys f
failure_more (stopped d ∷ xs) ys f = failure_more xs ys f
failure_more (after d answer ∷ xs) ys f = elim (or_cases (fails_by answer) (has_failure (xs ++ ys)) f) [
  | inl here ↦ inl (or_left _ _ here)
  | inr later ↦ elim (failure_more xs ys later) [ inl one ↦ inl (or_right _ _ one) | inr two ↦ inr two ]
]
failure_more (connected ∷ xs) ys f = failure_more xs ys f
failure_more (ended end goes_on ∷ xs) ys f = failure_more xs ys f

fails_more : (xs ys : List Notice) → EndsAtFailure xs → EndsAtFailure ys → (has_failure xs ≡ true → applied_in ys ≡ []) → EndsAtFailure (xs ++ ys)
fails_more [] ys a b last = b
fails_more (opened ids ∷ xs) ys a b last = fails_more xs ys a b last
fails_more (before d ∷ xs) ys a b last = fails_more xs ys a b last
fails_more (stopped d ∷ xs) ys a b last = fails_more xs ys a b last
fails_more (after d answer ∷ xs) ys a b last = (
  λ f. none_applied xs ys (a.0 f) (last (or_left _ _ f)),
  fails_more xs ys a.1 b (λ f. last (or_right _ _ f)),
)
fails_more (connected ∷ xs) ys a b last = fails_more xs ys a b last
fails_more (ended end goes_on ∷ xs) ys a b last = fails_more xs ys a b last

-- one transaction more, after the first of what was reported or before the last of it
one_later : (names : Names) (new left : Content) (xs ys : List Notice) → has_failure xs ≡ false → IsOneMoreNoted names new ys left → IsOneMoreNoted names new (xs ++ ys) left
one_later names new left [] ys whole m = m
one_later names new left (opened ids ∷ xs) ys whole m = one_later names new left xs ys whole m
one_later names new left (before d ∷ xs) ys whole m = inr (one_later names new left xs ys whole m)
one_later names new left (stopped d ∷ xs) ys whole m = one_later names new left xs ys whole m
one_later names new left (after d answer ∷ xs) ys whole m = let parts = or_parts _ _ whole in (parts.0, one_later names new left xs ys parts.1 m)
one_later names new left (connected ∷ xs) ys whole m = one_later names new left xs ys whole m
one_later names new left (ended end goes_on ∷ xs) ys whole m = one_later names new left xs ys whole m

next_more : (xs ys : List Notice) → NextFails xs → NextFails (xs ++ ys)
next_more [] ys f = absurd f
next_more (opened ids ∷ xs) ys f = absurd f
next_more (before d ∷ xs) ys f = absurd f
next_more (stopped d ∷ xs) ys f = absurd f
next_more (after d answer ∷ xs) ys f = f
next_more (connected ∷ xs) ys f = absurd f
next_more (ended end goes_on ∷ xs) ys f = absurd f

one_earlier : (names : Names) (new left : Content) (xs ys : List Notice) → IsOneMoreNoted names new xs left → IsOneMoreNoted names new (xs ++ ys) left
one_earlier names new left [] ys m = absurd m
one_earlier names new left (opened ids ∷ xs) ys m = one_earlier names new left xs ys m
one_earlier names new left (before d ∷ xs) ys (inl m) = inl (next_more xs ys m.0, m.1)
one_earlier names new left (before d ∷ xs) ys (inr m) = inr (one_earlier names new left xs ys m)
one_earlier names new left (stopped d ∷ xs) ys m = one_earlier names new left xs ys m
one_earlier names new left (after d answer ∷ xs) ys m = (m.0, one_earlier names new left xs ys m.1)
one_earlier names new left (connected ∷ xs) ys m = one_earlier names new left xs ys m
one_earlier names new left (ended end goes_on ∷ xs) ys m = one_earlier names new left xs ys m

pub ends_more : (xs ys : List Notice) → ends_in (xs ++ ys) ≡ ends_in xs ++ ends_in ys
ends_more [] ys = refl
ends_more (opened ids ∷ xs) ys = ends_more xs ys
ends_more (before d ∷ xs) ys = ends_more xs ys
ends_more (stopped d ∷ xs) ys = ends_more xs ys
ends_more (after d answer ∷ xs) ys = ends_more xs ys
ends_more (connected ∷ xs) ys = ends_more xs ys
ends_more (ended end goes_on ∷ xs) ys = ap (λ (l : List Ended). end ∷ l) (ends_more xs ys)

-- a transaction that is refused, or in which the store fails, changes nothing
pub unchanged : (names : Names) (old : Content) (d : DeliveryValue) (reason : Reason) (mid : Content) → IsMadeBy names old d (Err reason) mid → mid ≡ old
unchanged names old d EndOfInput mid a = a.1
unchanged names old d _ mid a = a.1

-- the transactions reported as applied are applied in order, and each is new
pub all_applied : (names : Names) (old : Content) (notices : List Notice) (new : Content) → LeadsBy names old notices new → AppliesAll names old (applied_in notices) (length (applied_in notices)) new
all_applied names old [] new l = (refl, l)
all_applied names old (before d ∷ []) new l = absurd l
all_applied names old (before d ∷ after e (Ok true) ∷ ns) new l =
    inl (l.1, length (applied_in ns), subst (λ x. HasOutcome names old x (done l.1)) (sym l.0) l.2, omega arith, all_applied names l.1 ns new l.3)
all_applied names old (before d ∷ after e (Ok false) ∷ ns) new l = absurd l.2
all_applied names old (before d ∷ after e (Err reason) ∷ ns) new l =
    subst (λ c. AppliesAll names c (applied_in ns) (length (applied_in ns)) new) (unchanged names old d reason l.1 l.2) (all_applied names l.1 ns new l.3)
all_applied names old (before d ∷ opened ids ∷ ns) new l = absurd l
all_applied names old (before d ∷ before e ∷ ns) new l = absurd l
all_applied names old (before d ∷ stopped e ∷ ns) new l = absurd l
all_applied names old (before d ∷ connected ∷ ns) new l = absurd l
all_applied names old (before d ∷ ended end goes_on ∷ ns) new l = absurd l
all_applied names old (stopped d ∷ ns) new l = all_applied names old ns new l.2
all_applied names old (after d (Ok true) ∷ ns) new l = absurd l
all_applied names old (after d (Ok false) ∷ ns) new l = all_applied names old ns new l.1
all_applied names old (after d (Err reason) ∷ ns) new l = all_applied names old ns new l.1
all_applied names old (opened ids ∷ ns) new l = all_applied names old ns new l.1
all_applied names old (connected ∷ ns) new l = all_applied names old ns new l
all_applied names old (ended end true ∷ ns) new l = all_applied names old ns new l
all_applied names old (ended end false ∷ ns) new l = subst (λ (x : List Notice). AppliesAll names old (applied_in x) (length (applied_in x)) new) (sym l.0) (refl, l.1)

-- where none is applied the content stays
pub unapplied : (names : Names) (old : Content) (notices : List Notice) (new : Content) → LeadsBy names old notices new → applied_in notices ≡ [] → new ≡ old
unapplied names old notices new l none =
    let all = all_applied names old notices new l in
    (subst (λ ds. AppliesAll names old ds (length ds) new) none all).1

pub one_led : (names : Names) (old : Content) (notices : List Notice) (a b : Content) → LeadsBy names old notices a → LeadsBy names old notices b → a ≡ b
one_led names old notices a b l m = (all_one names old (applied_in notices) (length (applied_in notices)) (length (applied_in notices)) a b (all_applied names old notices a l) (all_applied names old notices b m)).content

pub no_notice : {is : Account} → HasNoNotice is is
no_notice {is} = record { noted = refl; waits = waits_none is.waits; stays = λ on. on }

-- what is reported before a transaction that is executed, and before one that is new
pub asked_known : (now : Content) (d : DeliveryValue) (is : Account) → is_executed now d ≡ true → HasNotices is is (asked_about now d false)
asked_known now d is known = subst (λ (b : Bool). HasNotices is is (if b then [] else before d ∷ [])) (sym known) (record { noted = noted_none is.noted; waits = waits_none is.waits; stays = λ on. on })

pub asked_new : (now : Content) (d : DeliveryValue) (was is : Account) (goes_on : Bool) → is_executed now d ≡ false → HasNotices was is ((if goes_on then before d else stopped d) ∷ []) → HasNotices was is (asked_about now d (not goes_on))
asked_new now d was is true fresh noticed = subst (λ (b : Bool). HasNotices was is (if b then [] else before d ∷ [])) (sym fresh) noticed
asked_new now d was is false fresh noticed = subst (λ (b : Bool). HasNotices was is (if b then [] else stopped d ∷ [])) (sym fresh) noticed

abbrev pub nothing_noted : (names : Names) (old : Content) (was is : Account) → HasNoNotice was is → IsNotedOf names old old was is []
nothing_noted names old was is noticed = record {
  notices = [];
  noted = subst (λ (t : Option (List Notice)). HasBeenNoted was.noted t []) (sym noticed.noted) (noted_none was.noted);
  waits = noticed.waits;
  missed = missed_none was.waits is.waits noticed.waits;
  leads = refl;
  ends_are = refl;
  stays = noticed.stays;
  stops = λ bad. absurd (false≢true bad);
  last = λ bad. absurd (false≢true bad);
  lets_none = λ on. tt;
}

abbrev noted_on : (names : Names) (old mid new : Content) (t0 t1 t2 : Account) (ends more : List Ended) → (ends ≢ [] → t1.has_stopped ≡ false) → IsNotedOf names old mid t0 t1 ends → IsNotedOf names mid new t1 t2 more → IsNotedOf names old new t0 t2 (ends ++ more)
noted_on names old mid new t0 t1 t2 ends more going a b = record {
  notices = a.notices ++ b.notices;
  noted = noted_more t0.noted t1.noted t2.noted a.notices b.notices a.noted b.noted;
  waits = waits_more t0.waits t1.waits t2.waits a.notices b.notices a.waits b.waits;
  missed = missed_more t0.waits t1.waits t2.waits a.notices b.notices a.waits b.waits a.missed b.missed;
  leads = leads_more names old a.notices mid b.notices new a.leads b.leads (λ h. b.lets_none (a.stops h))
      (λ h. absurd (false≢true (sym (going (λ none. false≢true (sym (no_last a.notices (a.ends_are ∙ none)) ∙ h))) ∙ a.last h)));
  ends_are = ends_more a.notices b.notices ∙ ap₂ (λ (x y : List Ended). x ++ y) a.ends_are b.ends_are;
  stays = λ on. b.stays (a.stays on);
  stops = λ h. elim (stop_more a.notices b.notices h) [ inl one ↦ b.stays (a.stops one) | inr two ↦ b.stops two ];
  last = λ h. elim (last_more a.notices b.notices h) [ inl one ↦ b.stays (a.last one) | inr two ↦ b.last two ];
  lets_none = λ on. none_more a.notices b.notices (a.lets_none on) (b.lets_none (a.stays on));
}

-- what is reported before and after a transaction that the observer lets pass, unless it is executed
pub record Asks (old : Content) (d : DeliveryValue) (t0 t1 t2 : Account) (answer : Result Bool Reason) : Type 0 where
  pub asked : HasNotices t0 t1 (asked_about old d false)
  pub noticed : HasNotices t1 t2 (after d answer ∷ [])
  pub goes_on : is_executed old d ≡ false → t1.has_stopped ≡ false
  pub missed : is_executed old d ≡ false → waits_for_none t1.waits ≡ false

end_leads : (names : Names) (old : Content) (end : Ended) (goes_on : Bool) → LeadsBy names old (ended end goes_on ∷ []) old
end_leads names old end true = refl
end_leads names old end false = (refl, refl)

end_stops : (end : Ended) (goes_on on : Bool) → goes_on ≡ not on → has_last (ended end goes_on ∷ []) ≡ true → on ≡ true
end_stops end true on asks last = absurd (false≢true last)
end_stops end false true asks last = refl
end_stops end false false asks last = asks

begins_more : (executed : Ids) (xs ys : List Notice) → BeginsWith executed xs → BeginsWith executed (xs ++ ys)
begins_more executed [] ys b = absurd b
begins_more executed (opened ids ∷ xs) ys b = b
begins_more executed (before d ∷ xs) ys b = absurd b
begins_more executed (stopped d ∷ xs) ys b = absurd b
begins_more executed (after d answer ∷ xs) ys b = absurd b
begins_more executed (connected ∷ xs) ys b = absurd b
begins_more executed (ended end goes_on ∷ xs) ys b = absurd b

abbrev since_on : (names : Names) (old mid new : Content) (t0 t1 t2 : Account) (ends more : List Ended) → (ends ≢ [] → t1.has_stopped ≡ false) → (a : IsNotedSinceOpening names old mid t0 t1 ends) → (b : IsNotedOf names mid new t1 t2 more)
    → (ends ++ more ≢ [] → WasMissing t0.waits t2.waits old.executed) → EndsAtFailure (a.noted_of.notices ++ b.notices) → IsNotedSinceOpening names old new t0 t2 (ends ++ more)
since_on names old mid new t0 t1 t2 ends more going a b missed fails = record {
  noted_of = noted_on names old mid new t0 t1 t2 ends more going a.noted_of b;
  begins = begins_more old.executed a.noted_of.notices b.notices a.begins;
  missed = missed;
  fails = fails;
  excluded = λ out. let first = a.excluded out in (none_more a.noted_of.notices b.notices first.0 (b.lets_none first.1), b.stays first.1);
}

-- none is applied where none is to be
pub lets_none_applied : (names : Names) (old : Content) (ns : List Notice) (new : Content) → LeadsBy names old ns new → LetsNone ns → applied_in ns ≡ []
lets_none_applied names old [] new leads lets = refl
lets_none_applied names old (opened ids ∷ ns) new leads lets = lets_none_applied names old ns new leads.1 lets
lets_none_applied names old (before d ∷ ns) new leads lets = absurd lets
lets_none_applied names old (stopped d ∷ ns) new leads lets = lets_none_applied names old ns new leads.2 lets
lets_none_applied names old (after d (Ok true) ∷ ns) new leads lets = absurd leads
lets_none_applied names old (after d (Ok false) ∷ ns) new leads lets = lets_none_applied names old ns new leads.1 lets
lets_none_applied names old (after d (Err reason) ∷ ns) new leads lets = lets_none_applied names old ns new leads.1 lets
lets_none_applied names old (connected ∷ ns) new leads lets = lets_none_applied names old ns new leads lets
lets_none_applied names old (ended end true ∷ ns) new leads lets = lets_none_applied names old ns new leads lets
lets_none_applied names old (ended end false ∷ ns) new leads lets = ap applied_in leads.0

-- and none is left one more
pub none_left_more : (names : Names) (new left : Content) (ns : List Notice) → LetsNone ns → IsOneMoreNoted names new ns left → ⊥
none_left_more names new left [] lets more = more
none_left_more names new left (opened ids ∷ ns) lets more = none_left_more names new left ns lets more
none_left_more names new left (before d ∷ ns) lets more = absurd lets
none_left_more names new left (stopped d ∷ ns) lets more = none_left_more names new left ns lets more
none_left_more names new left (after d answer ∷ ns) lets more = none_left_more names new left ns lets more.1
none_left_more names new left (connected ∷ ns) lets more = none_left_more names new left ns lets more
none_left_more names new left (ended end goes_on ∷ ns) lets more = none_left_more names new left ns lets more

-- the same where nothing but the opening was reported
pub none_let : (was is : Account) (ids executed : Ids) (names : Names) → ids ≡ executed → Excludes was ids names is → IsExcluded was executed names → LetsNone (opened ids ∷ []) × (is.has_stopped ≡ true)
none_let was is ids executed names same excludes out = (tt, excludes (subst (λ (x : Ids). IsExcluded was x names) (sym same) out))

-- what is said of a filter is said of the names that it is
pub excludes_by : (was is : Account) (ids : Ids) {following names : Names} → following ≡ names → Excludes was ids following is → Excludes was ids names is
excludes_by was is ids same excludes out = excludes (subst (λ (n : Names). IsExcluded was ids n) (sym same) out)

-- An observer that does not take a database lets nothing be applied to it.
pub excluded : (names : Names) (old new : Content) (was is : Account) (ends : List Ended) → (since : IsNotedSinceOpening names old new was is ends) → IsExcluded was old.executed names
    → (left : Content) → IsLeftOfNoted names since.noted_of.notices new left → (new ≡ old) × (left ≡ old)
excluded names old new was is ends since out left l =
    let lets = (since.excluded out).0 in
    let same = unapplied names old since.noted_of.notices new since.noted_of.leads (lets_none_applied names old since.noted_of.notices new since.noted_of.leads lets) in
    (same, elim l [ inl stays ↦ stays ∙ same | inr more ↦ absurd (none_left_more names new left since.noted_of.notices lets more) ])

module _ {S : Type 0} (g : Ghosts S) where
  -- What leads from one store to another, by the tables of a filter.
  record Leads (names : Names) (before after : Store S g) (held : StoreState) (was is : Account) (ends : List Ended) : Type 0 where
    pub now_broken : Bool
    pub new : Content
    pub holds : HoldsAs g now_broken new after
    pub noted_of : IsNotedOf names held.content new was is ends
    pub still : held.broken ≡ true → (after ≡ before) × (now_broken ≡ true) × (applied_in noted_of.notices ≡ [])
    pub breaks : has_failure noted_of.notices ≡ true → now_broken ≡ true
    pub fails : EndsAtFailure noted_of.notices
    pub leaves : held.broken ≡ false → now_broken ≡ true → (schema : Schema) × LeavesOnly g schema after (IsLeftOfNoted names noted_of.notices new)

  pub weaker_leaves : (schema : Schema) (store : Store S g) (P Q : Content → Type 0) → ((left : Content) → P left → Q left) → LeavesOnly g schema store P → LeavesOnly g schema store Q
  weaker_leaves schema store P Q more it = record { each = λ trees may. let l = it.each trees may in (l.0, l.1, more l.0 l.2) }

  -- nothing was applied, in a store that stays as it is
  quiet : (broken : Bool) (old : Content) (store : Store S g) (was is : Account) (ends : List Ended) → (led : IsLedTo g store store broken old was is ends) → led.now_broken ≡ broken → applied_in led.noted_of.notices ≡ [] → has_failure led.noted_of.notices ≡ false
      → EndsAtFailure led.noted_of.notices → IsLedOver g store store broken old was is ends
  quiet broken old store was is ends led same none whole fails = record {
    led = led;
    still = λ was_so. (refl, same ∙ was_so, none);
    breaks = λ f. absurd (false≢true (sym whole ∙ f));
    fails = fails;
    leaves = λ fresh now. absurd (false≢true (sym fresh ∙ sym same ∙ now));
  }

  -- nothing is reported, and the store stays as it is
  pub led_nowhere : (broken : Bool) (old : Content) (store : Store S g) (was is : Account) → HoldsAs g broken old store → HasNoNotice was is → IsLedOver g store store broken old was is []
  led_nowhere broken old store was is holds noticed =
      quiet broken old store was is [] (record { now_broken = broken; new = old; holds = holds; noted_of = nothing_noted store.following old was is noticed }) refl refl refl tt

  abbrev to_leads : (broken : Bool) (old : Content) (first last : Store S g) (was is : Account) (ends : List Ended) → IsLedOver g first last broken old was is ends → Leads first.following first last (record { broken = broken; content = old }) was is ends
  to_leads broken old first last was is ends a = record {
    now_broken = a.led.now_broken;
    new = a.led.new;
    holds = a.led.holds;
    noted_of = a.led.noted_of;
    still = a.still;
    breaks = a.breaks;
    fails = a.fails;
    leaves = a.leaves;
  }

  of_leads : (broken : Bool) (old : Content) (first last : Store S g) (was is : Account) (ends : List Ended) → Leads first.following first last (record { broken = broken; content = old }) was is ends → IsLedOver g first last broken old was is ends
  of_leads broken old first last was is ends a = record {
    led = record { now_broken = a.now_broken; new = a.new; holds = a.holds; noted_of = a.noted_of };
    still = a.still;
    breaks = a.breaks;
    fails = a.fails;
    leaves = a.leaves;
  }

  -- what a crash leaves of a store that failed in the first part, or in the second one
  left_then : (names : Names) (middle last : Store S g) (xs ys : List Notice) (mid new : Content) (at now : Bool)
      → (at ≡ true → (schema : Schema) × LeavesOnly g schema middle (IsLeftOfNoted names xs mid))
      → (at ≡ true → (last ≡ middle) × (now ≡ true) × (applied_in ys ≡ []))
      → (at ≡ false → (schema : Schema) × LeavesOnly g schema last (IsLeftOfNoted names ys new)) → LeadsBy names mid ys new → (has_failure xs ≡ true → at ≡ true)
      → (schema : Schema) × LeavesOnly g schema last (IsLeftOfNoted names (xs ++ ys) new)
  left_then names middle last xs ys mid new at now one still two leads breaks = elim (cases_Bool at) [
    | inl failed ↦
        let l = one failed in
        let s = still failed in
        let same : new ≡ mid = unapplied names mid ys new leads s.2 in (
          l.0,
          weaker_leaves l.0 last (IsLeftOfNoted names xs mid) (IsLeftOfNoted names (xs ++ ys) new)
              (λ left is. elim is [ inl stays ↦ inl (stays ∙ sym same) | inr more ↦ inr (one_earlier names new left xs ys (subst (λ c. IsOneMoreNoted names c xs left) (sym same) more)) ])
              (subst (λ (s : Store S g). LeavesOnly g l.0 s (IsLeftOfNoted names xs mid)) (sym s.0) l.1),
        )
    | inr whole ↦
        let l = two whole in (
          l.0,
          weaker_leaves l.0 last (IsLeftOfNoted names ys new) (IsLeftOfNoted names (xs ++ ys) new) (λ left is. elim is [ inl stays ↦ inl stays | inr more ↦ inr (one_later names new left xs ys (false_from_ne_true (has_failure xs) (λ f. false≢true (sym whole ∙ breaks f))) more) ]) l.1,
        )
  ]

  leads_then : (names : Names) (held : StoreState) (first middle last : Store S g) (t0 t1 t2 : Account) (ends more : List Ended) → (ends ≢ [] → t1.has_stopped ≡ false)
      → (a : Leads names first middle held t0 t1 ends) → Leads names middle last (record { broken = a.now_broken; content = a.new }) t1 t2 more → Leads names first last held t0 t2 (ends ++ more)
  leads_then names held first middle last t0 t1 t2 ends more going a b = record {
    now_broken = b.now_broken;
    new = b.new;
    holds = b.holds;
    noted_of = noted_on names held.content a.new b.new t0 t1 t2 ends more going a.noted_of b.noted_of;
    still = λ was_so.
        let one = a.still was_so in
        let two = b.still one.1 in
        (two.0 ∙ one.0, two.1, none_applied a.noted_of.notices b.noted_of.notices one.2 two.2);
    breaks = λ f. elim (failure_more a.noted_of.notices b.noted_of.notices f) [ inl one ↦ (b.still (a.breaks one)).1 | inr two ↦ b.breaks two ];
    fails = fails_more a.noted_of.notices b.noted_of.notices a.fails b.fails (λ f. (b.still (a.breaks f)).2);
    leaves = λ fresh now. left_then names middle last a.noted_of.notices b.noted_of.notices a.new b.new a.now_broken b.now_broken (a.leaves fresh) b.still (λ whole. b.leaves whole now) b.noted_of.leads a.breaks;
  }

  pub led_through : (broken : Bool) (old : Content) (first middle last : Store S g) (t0 t1 t2 : Account) (ends more : List Ended) → middle.following ≡ first.following → (ends ≢ [] → t1.has_stopped ≡ false)
      → IsLedOver g first middle broken old t0 t1 ends → ((is : Bool) (now : Content) → HoldsAs g is now middle → IsLedOver g middle last is now t1 t2 more) → IsLedOver g first last broken old t0 t2 (ends ++ more)
  led_through broken old first middle last t0 t1 t2 ends more same going a next =
      let b : Leads first.following middle last (record { broken = a.led.now_broken; content = a.led.new }) t1 t2 more =
      subst (λ n. Leads n middle last (record { broken = a.led.now_broken; content = a.led.new }) t1 t2 more) same (to_leads a.led.now_broken a.led.new middle last t1 t2 more (next a.led.now_broken a.led.new a.led.holds)) in
      of_leads broken old first last t0 t2 (ends ++ more) (leads_then first.following (record { broken = broken; content = old }) first middle last t0 t1 t2 ends more going (to_leads broken old first middle t0 t1 ends a) b)

  -- the executed set of a store that was opened
  pub since_from : (broken : Bool) (old : Content) (store : Store S g) (ids : Ids) (was is : Account) → HoldsAs g broken old store → ids ≡ old.executed → HasNotices was is (opened ids ∷ []) → Excludes was ids (names_of g store) is → IsLedSinceOpening g store store broken old was is []
  since_from broken old store ids was is holds same noticed excludes = record {
    now_broken = broken;
    new = old;
    holds = holds;
    noted_of = record {
      noted_of = record { notices = opened ids ∷ []; noted = noticed.noted; waits = noticed.waits; missed = missed_same was.waits is.waits (opened ids) (λ all. tt) noticed.waits; leads = (same, refl); ends_are = refl; stays = noticed.stays; stops = λ bad. absurd (false≢true bad); last = λ bad. absurd (false≢true bad); lets_none = λ on. tt };
      begins = same;
      missed = λ some. absurd (some refl);
      fails = tt;
      excluded = none_let was is ids old.executed (names_of g store) same excludes;
    };
    breaks = λ bad. absurd (false≢true bad);
    leaves = λ fresh now. absurd (false≢true (sym fresh ∙ now));
  }

  -- the same as what leads from one content to another
  pub led_from : (broken : Bool) (old : Content) (store : Store S g) (ids : Ids) (was is : Account) → HoldsAs g broken old store → ids ≡ old.executed → HasNotices was is (opened ids ∷ []) → IsLedOver g store store broken old was is []
  led_from broken old store ids was is holds same noticed = quiet broken old store was is [] (record {
    now_broken = broken;
    new = old;
    holds = holds;
    noted_of = record { notices = opened ids ∷ []; noted = noticed.noted; waits = noticed.waits; missed = missed_same was.waits is.waits (opened ids) (λ all. tt) noticed.waits; leads = (same, refl); ends_are = refl; stays = noticed.stays; stops = λ bad. absurd (false≢true bad); last = λ bad. absurd (false≢true bad); lets_none = λ on. tt };
  }) refl refl refl tt

  -- and what comes after that
  pub since_through : (broken : Bool) (old : Content) (first middle last : Store S g) (t0 t1 t2 : Account) (ends more : List Ended) → middle.following ≡ first.following → (ends ≢ [] → t1.has_stopped ≡ false)
      → IsLedSinceOpening g first middle broken old t0 t1 ends → ((is : Bool) (now : Content) → HoldsAs g is now middle → IsLedOver g middle last is now t1 t2 more) → (ends ++ more ≢ [] → WasMissing t0.waits t2.waits old.executed)
      → IsLedSinceOpening g first last broken old t0 t2 (ends ++ more)
  since_through broken old first middle last t0 t1 t2 ends more same going a next missed =
      let b : Leads first.following middle last (record { broken = a.now_broken; content = a.new }) t1 t2 more =
      subst (λ n. Leads n middle last (record { broken = a.now_broken; content = a.new }) t1 t2 more) same (to_leads a.now_broken a.new middle last t1 t2 more (next a.now_broken a.new a.holds)) in
      let xs = a.noted_of.noted_of.notices in
      let ys = b.noted_of.notices in
      record {
        now_broken = b.now_broken;
        new = b.new;
        holds = b.holds;
        noted_of = since_on first.following old a.new b.new t0 t1 t2 ends more going a.noted_of b.noted_of missed (fails_more xs ys a.noted_of.fails b.fails (λ f. (b.still (a.breaks f)).2));
        breaks = λ f. elim (failure_more xs ys f) [ inl one ↦ (b.still (a.breaks one)).1 | inr two ↦ b.breaks two ];
        leaves = λ fresh now. left_then first.following middle last xs ys a.new b.new a.now_broken b.now_broken (a.leaves fresh) b.still (λ whole. b.leaves whole now) b.noted_of.leads a.breaks;
      }

  -- that the source was reached
  pub led_to_source : (broken : Bool) (old : Content) (store : Store S g) (was is : Account) → HoldsAs g broken old store → HasNotices was is (connected ∷ []) → IsLedOver g store store broken old was is []
  led_to_source broken old store was is holds noticed = quiet broken old store was is [] (record {
    now_broken = broken;
    new = old;
    holds = holds;
    noted_of = record {
      notices = connected ∷ [];
      noted = noticed.noted;
      waits = noticed.waits;
      missed = missed_same was.waits is.waits connected (λ ids. tt) noticed.waits;
      leads = refl;
      ends_are = refl;
      stays = noticed.stays;
      stops = λ bad. absurd (false≢true bad);
      last = λ bad. absurd (false≢true bad);
      lets_none = λ on. tt;
    };
  }) refl refl refl tt

  -- the end of a connection
  pub led_to_end : (broken : Bool) (old : Content) (store : Store S g) (end : Ended) (goes_on : Bool) (was is : Account) → HoldsAs g broken old store → HasNotices was is (ended end goes_on ∷ []) → goes_on ≡ not is.has_stopped
      → IsLedOver g store store broken old was is (end ∷ [])
  led_to_end broken old store end goes_on was is holds noticed asks = quiet broken old store was is (end ∷ []) (record {
    now_broken = broken;
    new = old;
    holds = holds;
    noted_of = record {
      notices = ended end goes_on ∷ [];
      noted = noticed.noted;
      waits = noticed.waits;
      missed = missed_same was.waits is.waits (ended end goes_on) (λ ids. tt) noticed.waits;
      leads = end_leads store.following old end goes_on;
      ends_are = refl;
      stays = noticed.stays;
      stops = λ bad. absurd (false≢true bad);
      last = end_stops end goes_on is.has_stopped asks;
      lets_none = λ on. tt;
    };
  }) refl refl refl tt

  -- a new transaction, before which the observer stops
  pub led_to_stop : (broken : Bool) (old : Content) (store : Store S g) (d : DeliveryValue) (was is : Account) → HoldsAs g broken old store → is_executed old d ≡ false → HasNotices was is (asked_about old d true) → is.has_stopped ≡ true
      → IsLedOver g store store broken old was is []
  led_to_stop broken old store d was is holds fresh asked on =
      let noticed : HasNotices was is (stopped d ∷ []) = subst (λ (b : Bool). HasNotices was is (if b then [] else stopped d ∷ [])) fresh asked in
      quiet broken old store was is [] (record {
        now_broken = broken;
        new = old;
        holds = holds;
        noted_of = record {
          notices = stopped d ∷ [];
          noted = noticed.noted;
          waits = noticed.waits;
          missed = missed_same was.waits is.waits (stopped d) (λ ids. tt) noticed.waits;
          leads = (fresh, tt, refl);
          ends_are = refl;
          stays = λ was_on. on;
          stops = λ stop. on;
          last = λ bad. absurd (false≢true bad);
          lets_none = λ was_on. tt;
        };
      }) refl refl refl tt

  -- a new one that is answered
  answered : (broken is : Bool) (old new : Content) (first last : Store S g) (d : DeliveryValue) (t0 t1 t2 : Account) (answer : Result Bool Reason) → is_executed old d ≡ false
      → Asks old d t0 t1 t2 answer → IsMadeBy first.following old d answer new → HoldsAs g is new last
      → (broken ≡ true → (last ≡ first) × (is ≡ true) × (applied_in (before d ∷ after d answer ∷ []) ≡ [])) → (fails_by answer ≡ true → is ≡ true)
      → (broken ≡ false → is ≡ true → (schema : Schema) × LeavesOnly g schema last (IsLeftOfNoted first.following (before d ∷ after d answer ∷ []) new)) → IsLedOver g first last broken old t0 t2 []
  answered broken is old new first last d t0 t1 t2 answer fresh a makes holds still breaks leaves =
      let asked : HasNotices t0 t1 (before d ∷ []) = subst (λ (b : Bool). HasNotices t0 t1 (if b then [] else before d ∷ [])) fresh a.asked in
      record {
        led = record {
          now_broken = is;
          new = new;
          holds = holds;
          noted_of = record {
            notices = before d ∷ after d answer ∷ [];
            noted = noted_more t0.noted t1.noted t2.noted (before d ∷ []) (after d answer ∷ []) asked.noted a.noticed.noted;
            waits = waits_more t0.waits t1.waits t2.waits (before d ∷ []) (after d answer ∷ []) asked.waits a.noticed.waits;
            missed = missed_more t0.waits t1.waits t2.waits (before d ∷ []) (after d answer ∷ []) asked.waits a.noticed.waits
                (missed_before t0.waits t1.waits d asked.waits (a.missed fresh)) (missed_same t1.waits t2.waits (after d answer) (λ ids. after_missed ids d answer) a.noticed.waits);
            leads = (refl, new, makes, refl);
            ends_are = refl;
            stays = λ on. a.noticed.stays (a.asked.stays on);
            stops = λ bad. absurd (false≢true bad);
            last = λ bad. absurd (false≢true bad);
            lets_none = λ on. absurd (false≢true (sym (a.goes_on fresh) ∙ a.asked.stays on));
          };
        };
        still = still;
        breaks = λ f. elim (or_cases (fails_by answer) false f) [ inl here ↦ breaks here | inr bad ↦ absurd (false≢true bad) ];
        fails = (λ f. refl, tt);
        leaves = leaves;
      }

  -- one that is executed
  repeated : (broken : Bool) (old : Content) (first last : Store S g) (d : DeliveryValue) (t0 t1 t2 : Account) (answer : Result Bool Reason) → is_executed old d ≡ true → LeadsBy first.following old (after d answer ∷ []) old
      → Asks old d t0 t1 t2 answer → HoldsAs g broken old last → last ≡ first → applied_in (after d answer ∷ []) ≡ [] → (fails_by answer ≡ true → broken ≡ true) → IsLedOver g first last broken old t0 t2 []
  repeated broken old first last d t0 t1 t2 answer known leads a holds same none breaks =
      let asked : HasNotices t0 t1 [] = subst (λ (b : Bool). HasNotices t0 t1 (if b then [] else before d ∷ [])) known a.asked in
      record {
        led = record {
          now_broken = broken;
          new = old;
          holds = holds;
          noted_of = record {
            notices = after d answer ∷ [];
            noted = noted_more t0.noted t1.noted t2.noted [] (after d answer ∷ []) asked.noted a.noticed.noted;
            waits = waits_more t0.waits t1.waits t2.waits [] (after d answer ∷ []) asked.waits a.noticed.waits;
            missed = missed_more t0.waits t1.waits t2.waits [] (after d answer ∷ []) asked.waits a.noticed.waits (missed_none t0.waits t1.waits asked.waits) (missed_same t1.waits t2.waits (after d answer) (λ ids. after_missed ids d answer) a.noticed.waits);
            leads = leads;
            ends_are = refl;
            stays = λ on. a.noticed.stays (a.asked.stays on);
            stops = λ bad. absurd (false≢true bad);
            last = λ bad. absurd (false≢true bad);
            lets_none = λ on. tt;
          };
        };
        still = λ failed. (same, failed, none);
        breaks = λ f. elim (or_cases (fails_by answer) false f) [ inl here ↦ breaks here | inr bad ↦ absurd (false≢true bad) ];
        fails = (λ f. refl, tt);
        leaves = λ fresh now. absurd (false≢true (sym fresh ∙ now));
      }

  -- a store that a failure has broken before
  pub led_broken : (old : Content) (first last : Store S g) (d : DeliveryValue) (t0 t1 t2 : Account) (r : Result Applied StoreFault) (out : Result Bool Reason) → HasFailed g first old
      → (r ≡ Err fault.Broken) × (last ≡ first) → out ≡ outcome_of r → Asks old d t0 t1 t2 out → IsLedOver g first last true old t0 t2 []
  led_broken old first last d t0 t1 t2 r out holds same is asked =
      let answer : Result Bool Reason = Err (Database fault.Broken) in
      let asks : Asks old d t0 t1 t2 answer = subst (λ (o : Result Bool Reason). Asks old d t0 t1 t2 o) (is ∙ ap outcome_of same.0) asked in
      let still : HoldsAs g true old last = subst (λ (s : Store S g). HasFailed g s old) (sym same.1) holds in
      elim (cases_Bool (is_executed old d)) [
        | inl known ↦ repeated true old first last d t0 t1 t2 answer known (known, refl) asks still same.1 refl (λ f. refl)
        | inr fresh ↦ answered true true old old first last d t0 t1 t2 answer fresh asks (fresh, refl) still (λ failed. (same.1, refl, refl)) (λ f. refl) (λ fresh_store now. absurd (false≢true (sym fresh_store)))
      ]

  by_answer : (old : Content) (first last : Store S g) (d : DeliveryValue) (t0 t1 t2 : Account) (r : Result Applied StoreFault) → Holds g first old → Applies g old d first last r → last.following ≡ first.following → TakesAlone g old d first last (outcome_of r)
      → Asks old d t0 t1 t2 (outcome_of r) → IsLedOver g first last false old t0 t2 []
  by_answer old first last d t0 t1 t2 (Ok applied.Done) holds it later alone asks = answered false false old it.after first last d t0 t1 t2 (Ok true) it.outcome.0 asks it.outcome it.holds (λ bad. absurd (false≢true bad)) (λ bad. absurd (false≢true bad)) (λ fresh bad. absurd (false≢true bad))
  by_answer old first last d t0 t1 t2 (Ok applied.Repeat) holds it later alone asks = repeated false old first last d t0 t1 t2 (Ok false) it.0 (it.0, refl) asks (subst (λ (s : Store S g). Holds g s old) (sym it.1) holds) it.1 refl (λ bad. absurd (false≢true bad))
  by_answer old first last d t0 t1 t2 (Err (fault.NoSuchRow at)) holds it later alone asks = answered false false old old first last d t0 t1 t2 (outcome_of (Err (fault.NoSuchRow at))) it.0.0 asks (it.0, refl) it.1 (λ bad. absurd (false≢true bad)) (λ bad. absurd (false≢true bad)) (λ fresh bad. absurd (false≢true bad))
  by_answer old first last d t0 t1 t2 (Err (fault.CountFull at)) holds it later alone asks = answered false false old old first last d t0 t1 t2 (outcome_of (Err (fault.CountFull at))) it.0.0 asks (it.0, refl) it.1 (λ bad. absurd (false≢true bad)) (λ bad. absurd (false≢true bad)) (λ fresh bad. absurd (false≢true bad))
  by_answer old first last d t0 t1 t2 (Err (fault.Database e)) holds it later alone asks =
      answered false true old old first last d t0 t1 t2 (outcome_of (Err (fault.Database e))) it.0 asks (it.0, refl) it.1 (λ bad. absurd (false≢true bad)) (λ f. refl)
      (λ fresh now. (
        (state g first.conn).now.schema,
        record {
          each = λ trees may.
              let l = alone.leaves trees may in
              (l.0, subst (λ n. AreOf (state g first.conn).now.schema n l.0 trees) (sym later) l.1, elim l.2 [ inl same ↦ inl same | inr more ↦ inr (inl (tt, more)) ]);
        },
      ))
  by_answer old first last d t0 t1 t2 (Err fault.Memory) holds it later alone asks =
      answered false true old old first last d t0 t1 t2 (outcome_of (Err fault.Memory)) it.0 asks (it.0, refl) it.1 (λ bad. absurd (false≢true bad)) (λ f. refl)
      (λ fresh now. (
        (state g first.conn).now.schema,
        record {
          each = λ trees may.
              let l = alone.leaves trees may in
              (l.0, subst (λ n. AreOf (state g first.conn).now.schema n l.0 trees) (sym later) l.1, inl l.2);
        },
      ))
  by_answer old first last d t0 t1 t2 (Err fault.Damaged) holds it later alone asks = absurd it
  by_answer old first last d t0 t1 t2 (Err (fault.Layout n)) holds it later alone asks = absurd it
  by_answer old first last d t0 t1 t2 (Err fault.Broken) holds it later alone asks = absurd it
  by_answer old first last d t0 t1 t2 (Err fault.Follows) holds it later alone asks = absurd it

  -- a whole one
  pub led_whole : (old : Content) (first last : Store S g) (d : DeliveryValue) (t0 t1 t2 : Account) (r : Result Applied StoreFault) (out : Result Bool Reason) → Holds g first old → Applies g old d first last r → last.following ≡ first.following → TakesAlone g old d first last out
      → out ≡ outcome_of r → Asks old d t0 t1 t2 out → IsLedOver g first last false old t0 t2 []
  led_whole old first last d t0 t1 t2 r out holds it later alone is asks =
      by_answer old first last d t0 t1 t2 r holds it later (subst (λ (o : Result Bool Reason). TakesAlone g old d first last o) is alone) (subst (λ (o : Result Bool Reason). Asks old d t0 t1 t2 o) is asks)
