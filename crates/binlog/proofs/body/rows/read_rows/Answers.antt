use Rattle.binlog.proofs.Names.{◌≡◌, ℕ, ◌+◌, ◌-◌, ◌≤◌, List, length, take, None, sym, ap, subst, ◌∙◌, arith, take_rest, none-some, err_from_is_err_and, little_number, count_width, count_at, number_at, RowsValue, IsRows, presents_size, Columns}
use Rattle.std.proofs.Common.{drop}
use Rattle.binlog.specs.Count.{no_count}
use Rattle.binlog.specs.Rows.{presents_fault}
use Rattle.binlog.proofs.Counts.{is_counted}
use Rattle.binlog.proofs.RowsHead.{AreParts, count_place, columns_of, rows_place, stated, is_rows, rows_reported, not_uncounted, rows_then, only_line}
use Rattle.binlog.proofs.body.rows.read_rows.Goals as goal

-- the extra length, as the code reads it
extra_is : (bytes : List ℕ) (read cast : ℕ) → cast ≡ read → read ≡ little_number 2 (take (length bytes - 27) (drop 27 bytes)) → cast ≡ number_at 2 bytes 27
extra_is bytes read cast a b = a ∙ b ∙ ap (little_number 2) (take_rest bytes 27)

pub returns-then-extra-lt2-clause-only : goal.returns-then-extra-lt2-clause-only
returns-then-extra-lt2-clause-only c r same is =
    let e = extra_is c.args.bytes.now _ _ c.from-extra.ensures c.read_u16.ensures in
    let extra = (rows_reported r c.args.bytes.now is).are.extra in
    omega (arith, extra, e, c.if-extra-lt2.true)

pub returns-then-bytes-columns_at-clause-only : goal.returns-then-bytes-columns_at-clause-only
returns-then-bytes-columns_at-clause-only c r same is =
    let e = extra_is c.args.bytes.now _ _ c.from-extra.ensures c.read_u16.ensures in
    let fits = (rows_reported r c.args.bytes.now is).are.extra_fits in
    omega (arith, fits, e, c.if-bytes-columns_at.true)

pub returns-in_err-columns-clause-only : goal.returns-in_err-columns-clause-only
returns-in_err-columns-clause-only c r same is =
    let e = extra_is c.args.bytes.now _ _ c.from-extra.ensures c.read_u16.ensures in
    let none = not_uncounted r.kind c.args.bytes.now (rows_reported r c.args.bytes.now is).are in
    absurd (none-some _ (sym none ∙ ap (λ n. no_count c.args.bytes.now (27 + n) Columns) (sym e) ∙ c.in_err-columns.ensures.fault))

pub returns-then-columns-lt1-clause-only : goal.returns-then-columns-lt1-clause-only
returns-then-columns-lt1-clause-only c r same is =
    let e = extra_is c.args.bytes.now _ _ c.from-extra.ensures c.read_u16.ensures in
    let n : c.in_ok-columns.columns ≡ columns_of c.args.bytes.now = c.in_ok-columns.ensures.value.0 ∙ ap (λ n. count_at c.args.bytes.now (27 + n)) e in
    let low = (rows_reported r c.args.bytes.now is).are.columns.0 in
    omega (arith, n, low, c.if-columns-lt1.true)

pub returns-then-columns-clause-only : goal.returns-then-columns-clause-only
returns-then-columns-clause-only c r same is =
    let e = extra_is c.args.bytes.now _ _ c.from-extra.ensures c.read_u16.ensures in
    let n : c.in_ok-columns.columns ≡ columns_of c.args.bytes.now = c.in_ok-columns.ensures.value.0 ∙ ap (λ n. count_at c.args.bytes.now (27 + n)) e in
    let high = (rows_reported r c.args.bytes.now is).are.columns.1 in
    omega (arith, n, high, c.if-columns.true)

pub returns-in_err-bytes_at-clause-only : goal.returns-in_err-bytes_at-clause-only
returns-in_err-bytes_at-clause-only c r same is =
    let e = extra_is c.args.bytes.now _ _ c.from-extra.ensures c.read_u16.ensures in
    let n : c.in_ok-columns.columns ≡ columns_of c.args.bytes.now = c.in_ok-columns.ensures.value.0 ∙ ap (λ n. count_at c.args.bytes.now (27 + n)) e in
    let w : c.in_ok-columns.width ≡ count_width c.args.bytes.now (count_place c.args.bytes.now) = c.in_ok-columns.ensures.value.1 ∙ ap (λ n. count_width c.args.bytes.now (27 + n)) e in
    let none = (rows_reported r c.args.bytes.now is).are.presents in
    absurd (none-some _ (sym none ∙ (λ i. presents_fault (same i) c.args.bytes.now (27 + sym e i + sym w i) (sym n i)) ∙ c.in_err-bytes_at.ensures.fault))

pub returns-in_err-bytes_at-clause-fault : goal.returns-in_err-bytes_at-clause-fault
returns-in_err-bytes_at-clause-fault c =
    let bytes = c.args.bytes.now in
    let e = extra_is bytes _ _ c.from-extra.ensures c.read_u16.ensures in
    let n : c.in_ok-columns.columns ≡ columns_of bytes = c.in_ok-columns.ensures.value.0 ∙ ap (λ n. count_at bytes (27 + n)) e in
    let w : c.in_ok-columns.width ≡ count_width bytes (count_place bytes) = c.in_ok-columns.ensures.value.1 ∙ ap (λ n. count_width bytes (27 + n)) e in
    let p = err_from_is_err_and c.from_residual-in_err-bytes_at.result c.from_residual-in_err-bytes_at.ensures.1 in
    let uncounted : no_count bytes (count_place bytes) Columns ≡ None = ap (λ n. no_count bytes (27 + n) Columns) (sym e) ∙ c.in_ok-columns.ensures.whole in
    let extra : 2 ≤ number_at 2 bytes 27 = omega (arith, e, c.if-extra-lt2.false) in
    let fits : count_place bytes ≤ length bytes = omega (arith, e, c.if-bytes-columns_at.false) in
    let low : 1 ≤ columns_of bytes = omega (arith, n, c.if-columns-lt1.false) in
    let high : columns_of bytes ≤ 4096 = omega (arith, n, c.if-columns.false) in
    let line = (λ i. presents_fault c.args.kind bytes (27 + sym e i + sym w i) (sym n i)) ∙ c.in_err-bytes_at.ensures.fault in
    let whole = rows_then c.args.kind bytes (omega arith) extra fits uncounted low high ∙ only_line _ _ line in
    rw (p.1, p.2) whole

parts : (c : goal.After-result-2-1) → AreParts c.args.kind c.args.bytes.now
parts c =
    let bytes = c.args.bytes.now in
    let e = extra_is bytes _ _ c.from-extra.ensures c.read_u16.ensures in
    let n : c.in_ok-columns.columns ≡ columns_of bytes = c.in_ok-columns.ensures.value.0 ∙ ap (λ n. count_at bytes (27 + n)) e in
    let w : c.in_ok-columns.width ≡ count_width bytes (count_place bytes) = c.in_ok-columns.ensures.value.1 ∙ ap (λ n. count_width bytes (27 + n)) e in
    let uncounted : no_count bytes (count_place bytes) Columns ≡ None = ap (λ n. no_count bytes (27 + n) Columns) (sym e) ∙ c.in_ok-columns.ensures.whole in
    record {
      head = omega arith;
      extra = omega (arith, e, c.if-extra-lt2.false);
      extra_fits = omega (arith, e, c.if-bytes-columns_at.false);
      count = is_counted bytes (count_place bytes) Columns (λ i. omega (arith, c.type_inv.bytes i)) uncounted;
      columns = (omega (arith, n, c.if-columns-lt1.false), omega (arith, n, c.if-columns.false));
      presents = (λ i. presents_fault c.args.kind bytes (27 + sym e i + sym w i) (sym n i)) ∙ c.in_ok-bytes_at.ensures.whole;
    }

value : (c : goal.After-result-2-1) → stated c.args.kind c.args.bytes.now ≡ record {
  id = c.read_u48.result;
  kind = c.args.kind;
  columns = c.in_ok-columns.columns;
  bytes = take (length c.args.bytes.now - c.in_ok-bytes_at.bytes_at) (drop c.in_ok-bytes_at.bytes_at c.args.bytes.now);
  columns_at = 27 + c.from-extra.result;
  bytes_at = c.in_ok-bytes_at.bytes_at;
}
value c =
    let bytes = c.args.bytes.now in
    let e = extra_is bytes _ _ c.from-extra.ensures c.read_u16.ensures in
    let n : c.in_ok-columns.columns ≡ columns_of bytes = c.in_ok-columns.ensures.value.0 ∙ ap (λ n. count_at bytes (27 + n)) e in
    let w : c.in_ok-columns.width ≡ count_width bytes (count_place bytes) = c.in_ok-columns.ensures.value.1 ∙ ap (λ n. count_width bytes (27 + n)) e in
    let id : c.read_u48.result ≡ number_at 6 bytes 19 = c.read_u48.ensures ∙ ap (little_number 6) (take_rest bytes 19) in
    let at : c.in_ok-bytes_at.bytes_at ≡ rows_place c.args.kind bytes = c.in_ok-bytes_at.ensures.end ∙ (λ i. 27 + e i + w i + presents_size c.args.kind (n i)) in
    let rest : take (length bytes - c.in_ok-bytes_at.bytes_at) (drop c.in_ok-bytes_at.bytes_at bytes) ≡ drop (rows_place c.args.kind bytes) bytes = take_rest bytes c.in_ok-bytes_at.bytes_at ∙ ap (λ k. drop k bytes) at in
    λ i. record { id = sym id i; kind = c.args.kind; columns = sym n i; bytes = sym rest i; columns_at = 27 + sym e i; bytes_at = sym at i }

pub returns-clause-found : goal.returns-clause-found
returns-clause-found c = subst (λ (v : RowsValue). IsRows v (drop 19 c.args.bytes.now)) (value c) (is_rows c.args.kind c.args.bytes.now (λ i. omega (arith, c.type_inv.bytes i)) (parts c))

pub returns-clause-only : goal.returns-clause-only
returns-clause-only c r same is = sym (value c) ∙ ap (λ k. stated k c.args.bytes.now) (sym same) ∙ (rows_reported r c.args.bytes.now is).is
