use Rattle.std.proofs.Common.{sym, drop, length, ◌-◌}
use Rattle.std.proofs.lemmas.List.{take-append-drop}
use Rattle.columns.proofs.lines.read_front.Goals as goal

pub returns-clause-found : goal.returns-clause-found
returns-clause-found c =
    (drop (length c.args.text.now - length c.in_ok-name.rest.now) c.args.text.now, sym (take-append-drop (length c.args.text.now - length c.in_ok-name.rest.now) c.args.text.now))
