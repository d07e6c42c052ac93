use Rattle.replica.proofs.Names.{subst, image_at, wanted_of, Names, Content, over_files}
use Rattle.replica.specs.Work.{HasWorked}
use Rattle.replica.proofs.CaptureFiles.{closes_as}
use Rattle.replica.proofs.ContentStays.{ends_with}
use Rattle.replica.proofs.file.work.in_file.Goals as goal

pub returns-clause-works : goal.returns-clause-works
returns-clause-works g c names content files =
    let is : Names → Content → Type 0 = λ n. g.K.Work.leads c.args.work.now c.work-done.new.self n content c.work-done.result in
    let may_leave : Names → Content → Content → Type 0 = λ n. g.K.Work.leaves c.args.work.now c.work-done.new.self n content c.work-done.result in
    ends_with _ names content c.in_ok-store.store c.work-done.new.store (is names) (may_leave names) c.close_file-closed.result
    c.work-done.ensures.keeps.following (λ clean. let o = c.in_ok-store.ensures.opens (c.work-done.ensures.keeps.clean clean) names content files in (o.0, o.1))
    (λ clean holds.
    let o = c.in_ok-store.ensures.opens (c.work-done.ensures.keeps.clean clean) names content files in
    let h = subst (λ n. HasWorked over_files (is n) (may_leave n) c.work-done.new.store) o.1 (c.work-done.ensures.works clean content holds) in
    (h.new, h.leads, h.stays))
    c.close_file-closed.ensures.copied c.close_file-closed.ensures.err

pub returns-clause-closing : goal.returns-clause-closing
returns-clause-closing g c =
    closes_as (wanted_of c.args.only) (image_at g.P.Start) c.in_ok-store.store c.work-done.new.store.conn c.close_file-closed.result
    c.work-done.ensures.keeps.clean c.in_ok-store.ensures.opens c.in_ok-store.ensures.entered c.close_file-closed.ensures.copied c.close_file-closed.ensures.err
