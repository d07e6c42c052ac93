use Rattle.binlog.proofs.Names.{◌≡◌, ◌+◌, refl, arith, le-leb, leb-true, presents_size, rows_value}
use Rattle.binlog.proofs.RowsEventBytes.{spells_1, spells_3, spells_4, spells_9, has_by_width, by_width_1}
use Rattle.binlog.proofs.body.rows.rows_event_fits.Goals as goal

pub returns-in-1 : goal.returns-in-1
returns-in-1 c =
    let r = rows_value c.args.rows.now in
    let place : r.bytes_at ≡ r.columns_at + 1 + presents_size r.kind r.columns = omega (arith, c.in-1.is, c.presents_size.ensures.size, c.if-rows-presents_at.false) in (
      λ few. has_by_width r 1 c.if-rows.false (c.args.rows.now.some_columns, c.if-rows-gt-MOST_COLUMNS.false) (c.if-rows-lt29.false, c.if-rows-2.false) place (spells_1 r.columns (leb-true _ _ few)),
      λ has. le-leb _ _ (by_width_1 r place has),
    )

pub returns-in-3 : goal.returns-in-3
returns-in-3 c = (
  λ _. has_by_width (rows_value c.args.rows.now) 3 c.if-rows.false (c.args.rows.now.some_columns, c.if-rows-gt-MOST_COLUMNS.false) (c.if-rows-lt29.false, c.if-rows-2.false)
      (omega (arith, c.in-3.is, c.presents_size.ensures.size, c.if-rows-presents_at.false)) (spells_3 c.args.rows.now.columns c.if-rows-gt-MOST_COLUMNS.false),
  λ _. refl,
)

pub returns-in-4 : goal.returns-in-4
returns-in-4 c = (
  λ _. has_by_width (rows_value c.args.rows.now) 4 c.if-rows.false (c.args.rows.now.some_columns, c.if-rows-gt-MOST_COLUMNS.false) (c.if-rows-lt29.false, c.if-rows-2.false)
      (omega (arith, c.in-4.is, c.presents_size.ensures.size, c.if-rows-presents_at.false)) (spells_4 c.args.rows.now.columns c.if-rows-gt-MOST_COLUMNS.false),
  λ _. refl,
)

pub returns-in-9 : goal.returns-in-9
returns-in-9 c = (
  λ _. has_by_width (rows_value c.args.rows.now) 9 c.if-rows.false (c.args.rows.now.some_columns, c.if-rows-gt-MOST_COLUMNS.false) (c.if-rows-lt29.false, c.if-rows-2.false)
      (omega (arith, c.in-9.is, c.presents_size.ensures.size, c.if-rows-presents_at.false)) (spells_9 c.args.rows.now.columns c.if-rows-gt-MOST_COLUMNS.false),
  λ _. refl,
)
