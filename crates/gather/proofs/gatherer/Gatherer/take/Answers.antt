use Rattle.gather.proofs.Names.{ap, sym, ◌∙◌, refl, ◌||◌, rows_value, table_value, format, commit, table_map, other_map, xid, has_format}
use Rattle.binlog.specs.Event.{begin, rows}
use Rattle.binlog.specs.EventView.{event_value}
use Rattle.gather.proofs.OneMoreEvent.{step_neutral, step_mark, step_gtid, continues, takes, refuses, keeps, formatted_from, false_or, true_or, rotates_or_stops}
use Rattle.gather.proofs.gatherer.Gatherer.take.Goals as goal

pub returns-in-Neutral-clause-taken : goal.returns-in-Neutral-clause-taken
returns-in-Neutral-clause-taken c = λ events ds b. rw c.in-Neutral.is (step_neutral events ds c.args.self.now.formatted c.args.self.now.state b)

pub returns-in-Format-clause-taken : goal.returns-in-Format-clause-taken
returns-in-Format-clause-taken c = λ events ds b. rw c.in-Format.is (step_mark events ds c.args.self.now.formatted _ c.args.self.now.state format refl b (true_or events))

pub returns-in-Rotate-clause-taken : goal.returns-in-Rotate-clause-taken
returns-in-Rotate-clause-taken c = λ events ds b.
    let formatted = c.args.self.now.formatted in
    let is = rotates_or_stops c.args.event.now c.in-Rotate.is in
    step_mark events ds formatted formatted c.args.self.now.state (event_value c.args.event.now) is.0 b (false_or formatted events b.has_format ∙ ap (λ f. has_format events || f) (sym is.1))

pub returns-in-Gtid-clause-taken : goal.returns-in-Gtid-clause-taken
returns-in-Gtid-clause-taken c = λ events ds b.
    let formatted = formatted_from c.args.self.now.formatted (rw c.in-Gtid.is at (sym c.lacks_format.ensures ∙ c.if-lacks_format.false)) in
    rw c.in-Gtid.is (step_gtid events ds c.args.self.now.formatted c.args.self.now.state c.in-Gtid.gtid formatted b)

pub returns-in-Begin-clause-taken : goal.returns-in-Begin-clause-taken
returns-in-Begin-clause-taken c = rw c.in-Begin.is (takes c.take_begin.result c.args.self.now.formatted c.args.self.now.state c.take_begin.new.state begin (continues begin refl refl) c.take_begin.ensures.taken)

pub returns-in-TableMap-clause-taken : goal.returns-in-TableMap-clause-taken
returns-in-TableMap-clause-taken c =
    let e = table_map (table_value c.in-TableMap.map) in
    rw c.in-TableMap.is (takes c.take_map.result c.args.self.now.formatted c.args.self.now.state c.take_map.new.state e (continues e refl refl) c.take_map.ensures.taken)

pub returns-in-OtherMap-clause-taken : goal.returns-in-OtherMap-clause-taken
returns-in-OtherMap-clause-taken c =
    let e = other_map c.in-OtherMap.id in
    rw c.in-OtherMap.is (takes c.take_other.result c.args.self.now.formatted c.args.self.now.state c.take_other.new.state e (continues e refl refl) c.take_other.ensures.taken)

pub returns-in-Rows-clause-taken : goal.returns-in-Rows-clause-taken
returns-in-Rows-clause-taken c =
    let e = rows (rows_value c.in-Rows.rows) in
    rw c.in-Rows.is (takes c.take_rows.result c.args.self.now.formatted c.args.self.now.state c.take_rows.new.state e (continues e refl refl) c.take_rows.ensures.taken)

pub returns-in-Rows-clause-fault : goal.returns-in-Rows-clause-fault
returns-in-Rows-clause-fault c =
    let formatted = formatted_from c.args.self.now.formatted (rw c.in-Rows.is at (sym c.lacks_format.ensures ∙ c.if-lacks_format.false)) in
    rw c.in-Rows.is (refuses c.take_rows.result c.args.self.now.formatted c.args.self.now.state (rows (rows_value c.in-Rows.rows)) formatted c.take_rows.ensures.fault)

pub returns-in-Commit-clause-taken : goal.returns-in-Commit-clause-taken
returns-in-Commit-clause-taken c =
    rw c.in-Commit.is (takes c.take_end.result c.args.self.now.formatted c.args.self.now.state c.take_end.new.state commit (continues commit refl refl) (c.take_end.ensures.taken commit refl))

pub returns-in-Xid-clause-taken : goal.returns-in-Xid-clause-taken
returns-in-Xid-clause-taken c =
    let e = xid c.in-Xid.number in
    let a = c.take_end-in-Xid in
    rw c.in-Xid.is (takes a.result c.args.self.now.formatted c.args.self.now.state a.new.state e (continues e refl refl) (a.ensures.taken e refl))

pub returns-in-TableMap-clause-memory : goal.returns-in-TableMap-clause-memory
returns-in-TableMap-clause-memory c =
    let formatted = formatted_from c.args.self.now.formatted (rw c.in-TableMap.is at (sym c.lacks_format.ensures ∙ c.if-lacks_format.false)) in
    rw c.in-TableMap.is (keeps c.take_map.result c.args.self.now.formatted c.args.self.now.state (table_map (table_value c.in-TableMap.map)) refl (λ block. refl) formatted c.take_map.ensures.memory)

pub returns-in-OtherMap-clause-memory : goal.returns-in-OtherMap-clause-memory
returns-in-OtherMap-clause-memory c =
    let formatted = formatted_from c.args.self.now.formatted (rw c.in-OtherMap.is at (sym c.lacks_format.ensures ∙ c.if-lacks_format.false)) in
    rw c.in-OtherMap.is (keeps c.take_other.result c.args.self.now.formatted c.args.self.now.state (other_map c.in-OtherMap.id) refl (λ block. refl) formatted c.take_other.ensures.memory)

pub returns-in-Rows-clause-memory : goal.returns-in-Rows-clause-memory
returns-in-Rows-clause-memory c =
    let formatted = formatted_from c.args.self.now.formatted (rw c.in-Rows.is at (sym c.lacks_format.ensures ∙ c.if-lacks_format.false)) in
    rw c.in-Rows.is (keeps c.take_rows.result c.args.self.now.formatted c.args.self.now.state (rows (rows_value c.in-Rows.rows)) refl (λ block. refl) formatted c.take_rows.ensures.memory)
