use Rattle.replica.proofs.Names.{false, inl, refl, sym, ap, ◌∙◌, subst, image_at, wanted_of, names_for, Supply}
use Rattle.gtid.specs.declared.identifier.Gtid.{Gtid}
use Rattle.gather.specs.Given.{empty_of, unless_last}
use Rattle.replica.specs.Copies.{loaded_by}
use Rattle.replica.specs.LoadFile.{LoadsTo, IsNotedOfLoad}
use Rattle.replica.proofs.CaptureFiles.{closes_as}
use Rattle.replica.proofs.LoadFiles.{loaded_into, noted_of_load, with_the_end}
use Rattle.replica.proofs.file.loaded.load_file.Goals as goal

pub returns-clause-loads : goal.returns-clause-loads
returns-clause-loads g c names content files =
    subst (λ (left : Supply). LoadsTo (names_for (wanted_of c.args.only)) names content (loaded_by left c.args.copy) c.load-applied.result.0 c.load-applied.result.1 c.close_file-closed.result)
    (with_the_end c.new-all.result.is_given (g.I.Deliveries.supply c.new-all.result.inner) (g.I.Deliveries.supply c.args.deliveries) c.new-all.result.last c.args.copy.first.source c.new-all.ensures.is_given (ap g.I.Deliveries.supply c.new-all.ensures.inner)
    (ap (λ (q : Gtid). q.source) c.new-all.ensures.last ∙ c.ended_mark.ensures.source) (ap (λ (q : Gtid). q.number) c.new-all.ensures.last ∙ c.ended_mark.ensures.number))
    (loaded_into _ names content c.in_ok-store.store c.load-applied.new.store (names_for (wanted_of c.args.only)) (loaded_by (unless_last c.new-all.result.is_given (g.I.Deliveries.supply c.new-all.result.inner) (empty_of c.new-all.result.last)) c.args.copy) c.load-applied.result.0 c.load-applied.result.1
    c.close_file-closed.result c.load-applied.ensures.keeps.following (λ clean. let o = c.in_ok-store.ensures.opens (c.load-applied.ensures.keeps.clean clean) names content files in (o.0, o.1)) c.load-applied.ensures.loads c.close_file-closed.ensures.copied
    c.close_file-closed.ensures.err)

pub returns-clause-closing : goal.returns-clause-closing
returns-clause-closing g c =
    closes_as (wanted_of c.args.only) (image_at g.P.Start) c.in_ok-store.store c.load-applied.new.store.conn c.close_file-closed.result c.load-applied.ensures.keeps.clean c.in_ok-store.ensures.opens c.in_ok-store.ensures.entered c.close_file-closed.ensures.copied
    c.close_file-closed.ensures.err

pub returns-clause-notes : goal.returns-clause-notes
returns-clause-notes g c names content files =
    subst (λ (left : Supply). IsNotedOfLoad names content (loaded_by left c.args.copy) (g.W.Observer.account c.args.observer.now) (g.W.Observer.account c.load-applied.new.observer) c.load-applied.result.1 c.close_file-closed.result)
    (with_the_end c.new-all.result.is_given (g.I.Deliveries.supply c.new-all.result.inner) (g.I.Deliveries.supply c.args.deliveries) c.new-all.result.last c.args.copy.first.source c.new-all.ensures.is_given (ap g.I.Deliveries.supply c.new-all.ensures.inner)
    (ap (λ (q : Gtid). q.source) c.new-all.ensures.last ∙ c.ended_mark.ensures.source) (ap (λ (q : Gtid). q.number) c.new-all.ensures.last ∙ c.ended_mark.ensures.number))
    (noted_of_load _ names content c.in_ok-store.store c.load-applied.new.store (λ file. inl refl) (loaded_by (unless_last c.new-all.result.is_given (g.I.Deliveries.supply c.new-all.result.inner) (empty_of c.new-all.result.last)) c.args.copy) (g.W.Observer.account c.args.observer.now) (g.W.Observer.account c.load-applied.new.observer) c.load-applied.result.1 c.close_file-closed.result
    c.load-applied.ensures.keeps.following (λ clean. let o = c.in_ok-store.ensures.opens (c.load-applied.ensures.keeps.clean clean) names content files in (o.0, o.1)) (λ clean holds. c.load-applied.ensures.notes clean content holds) c.close_file-closed.ensures.copied
    c.close_file-closed.ensures.err)
