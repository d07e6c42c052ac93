use Rattle.replica.proofs.Names.{None, image_at}
use Rattle.replica.proofs.CaptureFiles.{closes_as}
use Rattle.replica.proofs.AdmitStore.{admits_in}
use Rattle.replica.proofs.file.admitting.admit_file.Goals as goal

pub returns-clause-admits : goal.returns-clause-admits
returns-clause-admits g c names content files =
    admits_in _ names content c.in_ok-store.store c.admit-done.new.store c.args.ask.tables.now c.args.ask.unkept.now c.args.ask.copy c.admit-done.result c.close_file-closed.result
    (λ clean. let o = c.in_ok-store.ensures.opens (c.admit-done.ensures.clean clean) names content files in (o.0, o.1)) (λ clean holds. c.admit-done.ensures.admits clean content holds)
    c.close_file-closed.ensures.copied c.close_file-closed.ensures.err

pub returns-clause-closing : goal.returns-clause-closing
returns-clause-closing g c =
    closes_as None (image_at g.P.Start) c.in_ok-store.store c.admit-done.new.store.conn c.close_file-closed.result
    c.admit-done.ensures.clean c.in_ok-store.ensures.opens c.in_ok-store.ensures.entered c.close_file-closed.ensures.copied c.close_file-closed.ensures.err
