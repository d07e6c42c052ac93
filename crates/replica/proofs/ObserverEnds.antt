-- How an observer may end a connection.
use Rattle.replica.proofs.Names.{◌≡◌, ◌≢◌, ◌≤◌, ◌∷◌, ◌++◌, ◌∙◌, [], List, All, Bool, true, false, length, arith, sym, subst, false≢true, Ended, Reason, ReadFailed, WriteFailed, Halted, Until, IsOwn, IsNoStreamFailure, Account, Notice, StillWaits, MayEnd, waits_for_none}
use Rattle.std.proofs.lemmas.List.Elements.{All-nil, All-push, All-weaker}
use Rattle.replica.specs.Noted.{IsAsked}
use Rattle.replica.proofs.Notices.{none_later}

pub own_may : (reason : Reason) (is : Account) → IsOwn reason → MayEnd reason is
own_may ReadFailed stopped h = absurd h
own_may WriteFailed stopped h = absurd h
own_may Halted stopped h = absurd h
own_may Until stopped h = absurd h
own_may _ stopped h = tt

-- an observer does not take back that it has stopped, or that it waits for nothing more
pub may_later : (reason : Reason) (was is : Account) (notices : List Notice) → (was.has_stopped ≡ true → is.has_stopped ≡ true) → StillWaits was.waits notices is.waits → MayEnd reason was → MayEnd reason is
may_later ReadFailed was is notices stays waits h = absurd h
may_later WriteFailed was is notices stays waits h = absurd h
may_later Halted was is notices stays waits h = stays h
may_later Until was is notices stays waits h = (stays h.0, none_later was.waits is.waits notices waits h.1)
may_later _ was is notices stays waits h = tt

-- as long as it has not stopped, it has ended no connection
going_may : (reason : Reason) (was is : Account) → was.has_stopped ≡ false → MayEnd reason was → MayEnd reason is
going_may ReadFailed was is on h = absurd h
going_may WriteFailed was is on h = absurd h
going_may Halted was is on h = absurd (false≢true (sym on ∙ h))
going_may Until was is on h = absurd (false≢true (sym on ∙ h.0))
going_may _ was is on h = tt

pub not_of_stream : (reason : Reason) (is : Account) → MayEnd reason is → IsNoStreamFailure reason
not_of_stream ReadFailed stopped h = absurd h
not_of_stream WriteFailed stopped h = absurd h
not_of_stream _ stopped h = tt

pub asked : (reason : Reason) (is : Account) → MayEnd reason is → IsAsked reason is
asked ReadFailed is h = absurd h
asked WriteFailed is h = absurd h
asked Halted is h = h
asked Until is h = h
asked _ is h = tt

pub asked_until : (reason : Reason) (is : Account) → IsAsked reason is → reason ≡ Until → waits_for_none is.waits ≡ true
asked_until reason is h same = (subst (λ r. IsAsked r is) same h).1

pub may_until : (reason : Reason) (is : Account) → MayEnd reason is → reason ≡ Until → waits_for_none is.waits ≡ true
may_until reason is h same = (subst (λ r. MayEnd r is) same h).1

abbrev may_all : List Ended → Account → Type 0
may_all ends is = All (λ (e : Ended). MayEnd e.reason is) ends

-- where ends mean that the observer has not stopped
pub ends_later : (ends : List Ended) (was is : Account) → (ends ≢ [] → was.has_stopped ≡ false) → may_all ends was → may_all ends is
ends_later [] was is going h = All-nil (λ (x : Ended). MayEnd x.reason is)
ends_later (e ∷ es) was is going h = All-weaker (λ (x : Ended). MayEnd x.reason was) (λ (x : Ended). MayEnd x.reason is) (λ x may. going_may x.reason was is (going (λ none. cc)) may) (e ∷ es) h

-- one more connection has ended, and that was reported
pub more_ends : (ends : List Ended) (end : Ended) (was between is : Account) (notices : List Notice) (all : List Ended) → (ends ≢ [] → was.has_stopped ≡ false) → (between.has_stopped ≡ true → is.has_stopped ≡ true) → StillWaits between.waits notices is.waits → all ≡ ends ++ end ∷ []
    → may_all ends was → MayEnd end.reason between → may_all all is
more_ends ends end was between is notices all going stays waits same h last =
    subst (λ (l : List Ended). may_all l is) (sym same) (All-push (λ (e : Ended). MayEnd e.reason is) ends end (ends_later ends was is going h) (may_later end.reason between is notices stays waits last))

-- what has stayed as it was stays once more
pub still : {X : Type 0} (H : X → Type 0) (old mid new : X) → mid ≡ old → H old → (H mid → new ≡ mid) → new ≡ old
still H old mid new same holds next = next (subst H (sym same) holds) ∙ same

-- where ends mean that the observer has not stopped, and it has, there is none, and after one more there is one
pub none_yet : (ends : List Ended) (stopped : Bool) → (ends ≢ [] → stopped ≡ false) → stopped ≡ true → length ends ≤ 1
none_yet [] stopped heeds on = omega arith
none_yet (e ∷ es) stopped heeds on = absurd (false≢true (sym (heeds (λ none. cc)) ∙ on))

pub one_at_most : (ends : List Ended) (end : Ended) (all : List Ended) → all ≡ ends ++ end ∷ [] → (stopped : Bool) → (ends ≢ [] → stopped ≡ false) → stopped ≡ true → length all ≤ 1
one_at_most [] end all is stopped heeds on = rw is (omega arith)
one_at_most (e ∷ es) end all is stopped heeds on = absurd (false≢true (sym (heeds (λ none. cc)) ∙ on))
