use Rattle.binlog.proofs.Names.{sym, subst, refl, event_value, table_value, rows_value, IsWritable}
use Rattle.binlog.proofs.EventBytes.{writes_format, writes_begin, writes_commit, writes_neutral, writes_stop, writes_map, map_of, writes_rows, rows_body_of, no_other_map}
use Rattle.binlog.proofs.event.Event.fits.Goals as goal

pub returns-in-Format : goal.returns-in-Format
returns-in-Format c = ((λ _. subst (λ e. IsWritable (event_value e)) (sym c.in-Format.is) writes_format), (λ _. refl))

pub returns-in-Begin : goal.returns-in-Begin
returns-in-Begin c = ((λ _. subst (λ e. IsWritable (event_value e)) (sym c.in-Begin.is) writes_begin), (λ _. refl))

pub returns-in-Commit : goal.returns-in-Commit
returns-in-Commit c = ((λ _. subst (λ e. IsWritable (event_value e)) (sym c.in-Commit.is) writes_commit), (λ _. refl))

pub returns-in-Neutral : goal.returns-in-Neutral
returns-in-Neutral c = ((λ _. subst (λ e. IsWritable (event_value e)) (sym c.in-Neutral.is) writes_neutral), (λ _. refl))

pub returns-in-Stop : goal.returns-in-Stop
returns-in-Stop c = ((λ _. subst (λ e. IsWritable (event_value e)) (sym c.in-Stop.is) writes_stop), (λ _. refl))

pub returns-in-Rotate : goal.returns-in-Rotate
returns-in-Rotate c = (
  (λ yes. subst (λ e. IsWritable (event_value e)) (sym c.in-Rotate.is) (c.rotate_fits.ensures.0 yes)),
  (λ w. c.rotate_fits.ensures.1 (subst (λ e. IsWritable (event_value e)) c.in-Rotate.is w)),
)

pub returns-in-Gtid : goal.returns-in-Gtid
returns-in-Gtid c = (
  (λ yes. subst (λ e. IsWritable (event_value e)) (sym c.in-Gtid.is) (c.gtid_fits.ensures.0 yes)),
  (λ w. c.gtid_fits.ensures.1 (subst (λ e. IsWritable (event_value e)) c.in-Gtid.is w)),
)

pub returns-in-TableMap : goal.returns-in-TableMap
returns-in-TableMap c =
    let map = c.in-TableMap.map in (
      (λ yes. subst (λ e. IsWritable (event_value e)) (sym c.in-TableMap.is) (writes_map (table_value map) (c.map_fits.ensures.0 yes))),
      (λ w. c.map_fits.ensures.1 (map_of (table_value map) (subst (λ e. IsWritable (event_value e)) c.in-TableMap.is w))),
    )

pub returns-in-OtherMap : goal.returns-in-OtherMap
returns-in-OtherMap c = ((λ no. absurd cc), (λ w. absurd (no_other_map c.in-OtherMap.id (subst (λ e. IsWritable (event_value e)) c.in-OtherMap.is w))))

pub returns-in-Rows : goal.returns-in-Rows
returns-in-Rows c =
    let rows = c.in-Rows.rows in (
      (λ yes. subst (λ e. IsWritable (event_value e)) (sym c.in-Rows.is) (writes_rows (rows_value rows) rows.in_event (c.rows_event_fits.ensures.0 yes))),
      (λ w. c.rows_event_fits.ensures.1 (rows_body_of (rows_value rows) (subst (λ e. IsWritable (event_value e)) c.in-Rows.is w))),
    )

pub returns-in-Xid : goal.returns-in-Xid
returns-in-Xid c = (
  (λ yes. subst (λ e. IsWritable (event_value e)) (sym c.in-Xid.is) (c.xid_fits.ensures.0 yes)),
  (λ w. c.xid_fits.ensures.1 (subst (λ e. IsWritable (event_value e)) c.in-Xid.is w)),
)
