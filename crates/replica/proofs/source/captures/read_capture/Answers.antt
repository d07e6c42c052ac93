use Rattle.std.proofs.Common.{ap, length}
use Rattle.replica.proofs.CaptureList.{read_one, broken_off, unread_one, first_of}
use Rattle.replica.proofs.Keeps.{keeps_same}
use Rattle.replica.proofs.source.captures.read_capture.Goals as goal

pub returns-in-Ok-clause-read : goal.returns-in-Ok-clause-read
returns-in-Ok-clause-read g c =
    read_one g.S.Store g.R.Read.remaining c.args.config.now.limit c.in-Ok.config.limit (length c.args.piece.now) c.args.store.now c.read_stream.new.store c.args.capture c.as_slice-first.result.now (g.R.Read.remaining c.read_stream.new.reader) c.read_stream.result
    (ap (λ s. s.limit) c.in-Ok.ensures) (first_of c.args.capture.first c.as_slice-first.result.now c.as_slice-first.ensures) c.read_stream.ensures.read c.read_stream.ensures.all

pub returns-in-Ok-clause-failed : goal.returns-in-Ok-clause-failed
returns-in-Ok-clause-failed g c =
    broken_off g.S.Store g.R.Read.remaining c.args.config.now.limit c.in-Ok.config.limit (length c.args.piece.now) c.args.store.now c.read_stream.new.store c.args.capture c.as_slice-first.result.now (g.R.Read.remaining c.read_stream.new.reader) c.read_stream.result
    (ap (λ s. s.limit) c.in-Ok.ensures) (first_of c.args.capture.first c.as_slice-first.result.now c.as_slice-first.ensures) c.read_stream.ensures.failed

pub returns-clause-read : goal.returns-clause-read
returns-clause-read g c clean was old holds =
    unread_one g.S.Store g.R.Read.remaining (λ h db is_open may. g.met.S.Store.settled h.store db is_open may) c.args.config.now.limit c.args.store.now was old c.args.capture holds

pub returns-clause-keeps : goal.returns-clause-keeps
returns-clause-keeps g c = keeps_same g.S.Store
