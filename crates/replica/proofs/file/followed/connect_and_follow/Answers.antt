use Rattle.replica.proofs.Names.{[], ◌∷◌, Ok, Err, refl, subst, Ids}
use Rattle.replica.proofs.Notices.{excludes_by, noted_more}
use Rattle.replica.specs.Noted.{opened, connected}
use Rattle.replica.proofs.Keeps.{keeps_connected, keeps_then, since_opened, since_then}
use Rattle.replica.proofs.file.followed.connect_and_follow.Goals as goal

pub returns-in-Ok-clause-connects : goal.returns-in-Ok-clause-connects
returns-in-Ok-clause-connects g c clean held holds =
    let followed = rw c.new-counted.ensures at c.follow_observed-end.ensures in
    record {
      stream = c.in-Ok.stream;
      given = subst (λ (ids : Ids). g.C.Connect.gives c.args.connect ids (Ok c.in-Ok.stream)) (c.executed-executed.ensures.value held.broken held.content holds) c.in-Ok.ensures;
      follows = followed.follows clean held.broken held.content holds;
      reported = followed.failures.reported;
    }

pub returns-in-Err-clause-connects : goal.returns-in-Err-clause-connects
returns-in-Err-clause-connects g c clean held holds =
    (subst (λ (ids : Ids). g.C.Connect.gives c.args.connect ids (Err c.in-Err.cause)) (c.executed-executed.ensures.value held.broken held.content holds) c.in-Err.ensures, refl)

pub returns-in-Ok-clause-keeps : goal.returns-in-Ok-clause-keeps
returns-in-Ok-clause-keeps g c =
    since_then g.S.Store (λ some. absurd (some refl)) refl (λ some. absurd (some refl)) (since_opened g.S.Store c.executed-executed.ensures.value c.opened.ensures.noticed (excludes_by (g.W.Observer.account c.args.observer.now) (g.W.Observer.account c.opened.new.self) c.executed-executed.result.now c.following.ensures c.opened.ensures.excludes))
    (keeps_then g.S.Store (keeps_connected g.S.Store c.connected.ensures.noticed) c.follow_observed-end.ensures.keeps)

pub returns-in-Err-clause-keeps : goal.returns-in-Err-clause-keeps
returns-in-Err-clause-keeps g c = since_opened g.S.Store c.executed-executed.ensures.value c.opened.ensures.noticed (excludes_by (g.W.Observer.account c.args.observer.now) (g.W.Observer.account c.opened.new.self) c.executed-executed.result.now c.following.ensures c.opened.ensures.excludes)

pub returns-in-Ok-clause-reached : goal.returns-in-Ok-clause-reached
returns-in-Ok-clause-reached g c =
    let account = g.W.Observer.account in
    let opening = c.opened.ensures.noticed in
    let later = c.follow_observed-end.ensures.keeps.grows in (
      c.executed-executed.result.now,
      later.0,
      noted_more (account c.args.observer.now).noted (account c.opened.new.self).noted (account c.follow_observed-end.new.observer).noted (opened c.executed-executed.result.now ∷ []) (connected ∷ later.0) opening.noted
          (noted_more (account c.opened.new.self).noted (account c.connected.new.self).noted (account c.follow_observed-end.new.observer).noted (connected ∷ []) later.0 c.connected.ensures.noticed.noted later.1),
    )

pub returns-in-Err-clause-reached : goal.returns-in-Err-clause-reached
returns-in-Err-clause-reached g c = (c.executed-executed.result.now, c.opened.ensures.noticed.noted)
