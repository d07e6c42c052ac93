use Rattle.replica.proofs.Names.{None, image_at, names_for}
use Rattle.replica.specs.Clear.{clear_of}
use Rattle.replica.proofs.CaptureFiles.{closes_as}
use Rattle.replica.proofs.ClearFiles.{cleared_into, noted_since}
use Rattle.replica.proofs.ContentStays.{keeps_stayed}
use Rattle.replica.proofs.file.cleared.clear_file.Goals as goal

pub returns-clause-clears : goal.returns-clause-clears
returns-clause-clears g c names content files =
    cleared_into _ names content c.in_ok-store.store c.clear-end.new.store (clear_of c.args.schema.now c.args.table.now c.args.gtid c.args.at.now) c.clear-end.result c.close_file-closed.result
    c.clear-end.ensures.keeps.following (λ clean. let o = c.in_ok-store.ensures.opens (c.clear-end.ensures.keeps.clean clean) names content files in (o.0, o.1)) c.clear-end.ensures.clears
    c.close_file-closed.ensures.copied c.close_file-closed.ensures.err

pub returns-clause-closing : goal.returns-clause-closing
returns-clause-closing g c =
    closes_as None (image_at g.P.Start) c.in_ok-store.store c.clear-end.new.store.conn c.close_file-closed.result
    c.clear-end.ensures.keeps.clean c.in_ok-store.ensures.opens c.in_ok-store.ensures.entered c.close_file-closed.ensures.copied c.close_file-closed.ensures.err

pub returns-clause-noted : goal.returns-clause-noted
returns-clause-noted g c = record {
  notes = λ names content files.
      noted_since _ names content c.in_ok-store.store c.clear-end.new.store (g.W.Observer.account c.args.observer.now) (g.W.Observer.account c.clear-end.new.observer) c.close_file-closed.result
      c.clear-end.ensures.keeps.following (λ clean. let o = c.in_ok-store.ensures.opens (c.clear-end.ensures.keeps.clean clean) names content files in (o.0, o.1)) c.clear-end.ensures.notes
      c.close_file-closed.ensures.copied c.close_file-closed.ensures.err;
  keeps = λ on names content files.
      keeps_stayed _ names content c.in_ok-store.store c.clear-end.new.store (names_for None) content c.close_file-closed.result
      c.clear-end.ensures.keeps.following (λ clean. let o = c.in_ok-store.ensures.opens (c.clear-end.ensures.keeps.clean clean) names content files in (o.0, o.1)) (λ clean holds. c.clear-end.ensures.heeds clean content holds on)
      c.close_file-closed.ensures.copied c.close_file-closed.ensures.err;
}
