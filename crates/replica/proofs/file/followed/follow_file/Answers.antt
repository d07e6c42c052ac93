use Rattle.replica.proofs.Names.{[], Ok, Err, Result, IfOk, false, inl, refl, image_at, wanted_of, names_for}
use Rattle.replica.specs.Noted.{IsAsked}
use Rattle.replica.specs.FollowFile.{CountsFailures}
use Rattle.replica.proofs.ObserverEnds.{asked_until}
use Rattle.replica.proofs.CaptureFiles.{followed_into, closes_as, keeps_content, noted_of_files, reached_in_files}
use Rattle.replica.proofs.file.followed.follow_file.Goals as goal

both : {T E : Type 0} (r : Result T E) (P Q : T → Type 0) {R : T → Type 0} → ((x : T) → P x → Q x → R x) → IfOk r P → IfOk r Q → IfOk r R
both (Ok x) P Q f p q = f x p q
both (Err e) P Q f p q = tt

pub returns-clause-follows : goal.returns-clause-follows
returns-clause-follows g c names content files =
    followed_into _ names content c.in_ok-store.store c.connect_and_follow-connection.new.store (names_for (wanted_of c.args.only)) (record { left = g.T.Read.remaining; written = g.T.Write.contents; failures = g.T.Duplex.failures }) _ c.args.config c.connect_and_follow-connection.result c.close_file-closed.result
    c.connect_and_follow-connection.ensures.keeps.store.following (λ clean. let o = c.in_ok-store.ensures.opens (c.connect_and_follow-connection.ensures.keeps.store.clean clean) names content files in (o.0, o.1)) (c.in_ok-store.ensures.leaves names content files) c.connect_and_follow-connection.ensures.connects
    c.close_file-closed.ensures.copied c.close_file-closed.ensures.err

pub returns-clause-closing : goal.returns-clause-closing
returns-clause-closing g c =
    closes_as (wanted_of c.args.only) (image_at g.P.Start) c.in_ok-store.store c.connect_and_follow-connection.new.store.conn c.close_file-closed.result
    c.connect_and_follow-connection.ensures.keeps.store.clean c.in_ok-store.ensures.opens c.in_ok-store.ensures.entered c.close_file-closed.ensures.copied c.close_file-closed.ensures.err

pub returns-clause-noted : goal.returns-clause-noted
returns-clause-noted g c = record {
  notes = λ names content files.
      noted_of_files _ names content c.in_ok-store.store c.connect_and_follow-connection.new.store (λ file. inl refl) content (g.W.Observer.account c.args.observer.now) (g.W.Observer.account c.connect_and_follow-connection.new.observer) [] c.close_file-closed.result
      c.connect_and_follow-connection.ensures.keeps.store.following (λ clean. let o = c.in_ok-store.ensures.opens (c.connect_and_follow-connection.ensures.keeps.store.clean clean) names content files in (o.0, o.1))
      (λ clean holds. c.connect_and_follow-connection.ensures.keeps.notes clean false content holds) c.close_file-closed.ensures.copied c.close_file-closed.ensures.err;
  keeps = λ on names content files.
      keeps_content _ names content c.in_ok-store.store c.connect_and_follow-connection.new.store (names_for (wanted_of c.args.only)) c.close_file-closed.result
      c.connect_and_follow-connection.ensures.keeps.store.following (λ clean. let o = c.in_ok-store.ensures.opens (c.connect_and_follow-connection.ensures.keeps.store.clean clean) names content files in (o.0, o.1)) (c.in_ok-store.ensures.leaves names content files)
      (λ holds. c.connect_and_follow-connection.ensures.keeps.heeds false content holds on) c.close_file-closed.ensures.copied c.close_file-closed.ensures.err;
}

pub returns-clause-ends : goal.returns-clause-ends
returns-clause-ends g c =
    let was = g.W.Observer.account c.args.observer.now in
    let is = g.W.Observer.account c.connect_and_follow-connection.new.observer in
    both c.connect_and_follow-connection.result (λ done. CountsFailures done.0 done.1) (λ done. IsAsked done.0.reason is)
    (λ done counts asked. record {
      counts = counts;
      asked = asked;
      until = λ ends ids wants names content files.
          reached_in_files names content was is [] ids c.close_file-closed.result ((returns-clause-noted g c).notes names content files) wants (asked_until done.0.reason is asked ends);
    })
    c.connect_and_follow-connection.ensures.counts c.connect_and_follow-connection.ensures.asked
