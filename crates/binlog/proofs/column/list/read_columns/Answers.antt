use Rattle.std.proofs.Common.{◌≡◌, List, length, drop, sym, ap, subst, ◌∙◌, arith}
use Rattle.binlog.specs.Table.{AreColumns, codes_at, metadata_place}
use Rattle.binlog.specs.Columns.{columns_of, columns_at}
use Rattle.binlog.specs.declared.column.kind.ColumnKind.{ColumnKind}
use Rattle.binlog.proofs.WholeColumns.{standing, as_many, columns_reported, not_both}
use Rattle.binlog.proofs.column.list.read_columns.Goals as goal

pub returns-in_err-codes-clause-only : goal.returns-in_err-codes-clause-only
returns-in_err-codes-clause-only c kinds is = absurd (not_both kinds c.args.bytes.now c.args.at c.in_err-codes.field-0.0 is c.in_err-codes.ensures.fault)

pub encoded-requires : goal.encoded-requires
encoded-requires c =
    let s = standing c.args.bytes.now c.args.at (λ i. omega (arith, c.type_inv.bytes i)) c.in_ok-codes.ensures.none in
    (λ i. length (columns_of (c.in_ok-codes.ensures.codes i) (c.in_ok-codes.ensures.metadata i)))
    ∙ as_many (columns_at c.args.bytes.now c.args.at) (codes_at c.args.bytes.now c.args.at) (drop (metadata_place c.args.bytes.now c.args.at) c.args.bytes.now) s.columned
    ∙ sym (ap length c.in_ok-codes.ensures.codes)

pub returns-clause-found : goal.returns-clause-found
returns-clause-found c =
    let s = standing c.args.bytes.now c.args.at (λ i. omega (arith, c.type_inv.bytes i)) c.in_ok-codes.ensures.none in
    let value : c.encoded.result ≡ columns_at c.args.bytes.now c.args.at = c.encoded.ensures ∙ (λ i. columns_of (c.in_ok-codes.ensures.codes i) (c.in_ok-codes.ensures.metadata i)) in
    subst (λ (l : List ColumnKind). AreColumns l (drop c.args.at c.args.bytes.now)) (sym value) s.are

pub returns-clause-only : goal.returns-clause-only
returns-clause-only c kinds is =
    c.encoded.ensures ∙ (λ i. columns_of (c.in_ok-codes.ensures.codes i) (c.in_ok-codes.ensures.metadata i)) ∙ (columns_reported kinds c.args.bytes.now c.args.at is).columns
