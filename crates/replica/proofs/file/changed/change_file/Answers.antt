use Rattle.replica.proofs.Names.{[], inl, refl, image_at, adopted, wanted_of, names_for}
use Rattle.replica.proofs.CaptureFiles.{closes_as, noted_of_files}
use Rattle.replica.proofs.ChangeFiles.{changed_into, keeps_whole}
use Rattle.replica.proofs.file.changed.change_file.Goals as goal

pub returns-clause-changes : goal.returns-clause-changes
returns-clause-changes g c names content files =
    changed_into _ names content c.in_ok-store.store c.change-applied.new.store (g.I.Deliveries.supply c.args.deliveries) c.args.gtids.now c.change-applied.result.0 c.change-applied.result.1 c.close_file-closed.result
    c.change-applied.ensures.keeps.following (λ clean. let o = c.in_ok-store.ensures.opens (c.change-applied.ensures.keeps.clean clean) names content files in (o.0, o.1)) c.change-applied.ensures.changes
    c.close_file-closed.ensures.copied c.close_file-closed.ensures.err

pub returns-clause-closing : goal.returns-clause-closing
returns-clause-closing g c =
    closes_as (wanted_of c.args.only) (image_at g.P.Start) c.in_ok-store.store c.change-applied.new.store.conn c.close_file-closed.result
    c.change-applied.ensures.keeps.clean c.in_ok-store.ensures.opens c.in_ok-store.ensures.entered c.close_file-closed.ensures.copied c.close_file-closed.ensures.err

pub returns-clause-noted : goal.returns-clause-noted
returns-clause-noted g c begun = record {
  notes = λ names content files.
      noted_of_files _ names content c.in_ok-store.store c.change-applied.new.store (λ file. inl refl) (adopted content c.args.gtids.now) (g.W.Observer.account c.args.observer.now) (g.W.Observer.account c.change-applied.new.observer) [] c.close_file-closed.result
      c.change-applied.ensures.keeps.following (λ clean. let o = c.in_ok-store.ensures.opens (c.change-applied.ensures.keeps.clean clean) names content files in (o.0, o.1))
      (λ clean holds. c.change-applied.ensures.notes clean content holds begun) c.close_file-closed.ensures.copied c.close_file-closed.ensures.err;
  keeps = λ on names content files.
      keeps_whole _ names content c.in_ok-store.store c.change-applied.new.store (λ file. inl refl) (names_for (wanted_of c.args.only)) (adopted content c.args.gtids.now) c.close_file-closed.result
      c.change-applied.ensures.keeps.following (λ clean. let o = c.in_ok-store.ensures.opens (c.change-applied.ensures.keeps.clean clean) names content files in (o.0, o.1))
      (λ clean holds. c.change-applied.ensures.heeds clean content holds on begun) c.close_file-closed.ensures.copied c.close_file-closed.ensures.err;
}
