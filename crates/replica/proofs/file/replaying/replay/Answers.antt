use Rattle.replica.proofs.Names.{◌≡◌, false, inl, refl, image_at, wanted_of, names_for, Ended, Until, MayEnd}
use Rattle.std.proofs.lemmas.List.Elements.{All-weaker}
use Rattle.replica.specs.NotedFile.{HaveReached}
use Rattle.replica.proofs.ObserverEnds.{may_until}
use Rattle.replica.proofs.CaptureFiles.{replayed, closes_as, keeps_content, noted_of_files, reached_in_files}
use Rattle.replica.proofs.file.replaying.replay.Goals as goal

pub returns-clause-replays : goal.returns-clause-replays
returns-clause-replays g c names content files =
    replayed _ names content c.in_ok-store.store c.read_captures-read.new.store c.args.config.now.limit g.R.Read.remaining c.args.captures.items c.read_captures-read.new.ends.items c.read_captures-read.result c.close_file-closed.result
    c.read_captures-read.ensures.keeps.store.following (λ clean. let o = c.in_ok-store.ensures.opens (c.read_captures-read.ensures.keeps.store.clean clean) names content files in (o.0, o.1)) c.read_captures-read.ensures.reads
    c.close_file-closed.ensures.copied c.close_file-closed.ensures.err

pub returns-clause-closing : goal.returns-clause-closing
returns-clause-closing g c =
    closes_as (wanted_of c.args.only) (image_at g.P.Start) c.in_ok-store.store c.read_captures-read.new.store.conn c.close_file-closed.result
    c.read_captures-read.ensures.keeps.store.clean c.in_ok-store.ensures.opens c.in_ok-store.ensures.entered c.close_file-closed.ensures.copied c.close_file-closed.ensures.err

pub returns-clause-noted : goal.returns-clause-noted
returns-clause-noted g c =
    record {
      notes = λ names content files.
          noted_of_files _ names content c.in_ok-store.store c.read_captures-read.new.store (λ file. inl refl) content (g.W.Observer.account c.args.observer.now) (g.W.Observer.account c.read_captures-read.new.observer) c.read_captures-read.new.ends.items c.close_file-closed.result
          c.read_captures-read.ensures.keeps.store.following (λ clean. let o = c.in_ok-store.ensures.opens (c.read_captures-read.ensures.keeps.store.clean clean) names content files in (o.0, o.1))
          (λ clean holds. c.read_captures-read.ensures.keeps.notes clean false content holds) c.close_file-closed.ensures.copied c.close_file-closed.ensures.err;
      keeps = λ on names content files.
          keeps_content _ names content c.in_ok-store.store c.read_captures-read.new.store (names_for (wanted_of c.args.only)) c.close_file-closed.result
          c.read_captures-read.ensures.keeps.store.following (λ clean. let o = c.in_ok-store.ensures.opens (c.read_captures-read.ensures.keeps.store.clean clean) names content files in (o.0, o.1)) (c.in_ok-store.ensures.leaves names content files)
          (λ holds. c.read_captures-read.ensures.keeps.heeds false content holds on) c.close_file-closed.ensures.copied c.close_file-closed.ensures.err;
    }

pub returns-clause-until : goal.returns-clause-until
returns-clause-until g c wanted wants names content files =
    All-weaker (λ (e : Ended). MayEnd e.reason (g.W.Observer.account c.read_captures-read.new.observer)) (λ (e : Ended). e.reason ≡ Until → HaveReached names content wanted c.close_file-closed.result)
    (λ e may is. reached_in_files names content (g.W.Observer.account c.args.observer.now) (g.W.Observer.account c.read_captures-read.new.observer) c.read_captures-read.new.ends.items wanted c.close_file-closed.result
    ((returns-clause-noted g c).notes names content files) wants (may_until e.reason (g.W.Observer.account c.read_captures-read.new.observer) may is))
    c.read_captures-read.new.ends.items c.read_captures-read.ensures.heeded.may_end

pub returns-in_err-store-clause-untouched : goal.returns-in_err-store-clause-untouched
returns-in_err-store-clause-untouched g c = λ failed. refl
