use Rattle.binlog.proofs.Names.{◌≡◌, ◌+◌, ◌++◌, ◌∙◌, length, rules, event_value}
use Rattle.gtid.specs.Appending.{AppendsBytes}
use Rattle.binlog.specs.Writing.{header_bytes, event_code, event_body}
use Rattle.gtid.proofs.Appending.{appends_then}
use Rattle.binlog.proofs.event.Event.write.Goals as goal

pub returns-clause-ok : goal.returns-clause-ok
returns-clause-ok c =
    let e = event_value c.args.self.now in
    let front : AppendsBytes c.reserve.new.self c.extend_from_slice.new.self c.header_bytes.result = search rules in
    let same : c.header_bytes.result ≡ header_bytes (event_code e) (19 + length (event_body e)) = c.header_bytes.ensures ∙ (λ i. header_bytes (c.event_code.ensures i) (19 + c.body_length-size.ensures i)) in
    let whole = appends_then front c.write_body.ensures in
    whole.items ∙ (λ i. c.reserve.ensures.items i ++ (same i ++ event_body e))
