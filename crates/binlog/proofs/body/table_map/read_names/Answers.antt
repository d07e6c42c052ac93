use Rattle.binlog.proofs.Names.{◌≡◌, ℕ, ◌+◌, ◌≤◌, List, length, sym, ap, subst, ◌∙◌, arith, take_rest, little_number, number_at, IsNamed, terminator_place}
use Rattle.std.proofs.Common.{drop}
use Rattle.binlog.proofs.TableNames.{is_named, names_reported, found}
use Rattle.binlog.proofs.body.table_map.read_names.Goals as goal

pub returns-then-bytes-terminator-clause-only : goal.returns-then-bytes-terminator-clause-only
returns-then-bytes-terminator-clause-only c id schema table rest is = let t = names_reported id schema table rest c.args.bytes.now is in omega (arith, t.long)

pub returns-then-bytes-terminator-2-clause-only : goal.returns-then-bytes-terminator-2-clause-only
returns-then-bytes-terminator-2-clause-only c id schema table rest is = let t = names_reported id schema table rest c.args.bytes.now is in omega (arith, t.long)

pub returns-then-bytes-terminator-3-clause-only : goal.returns-then-bytes-terminator-3-clause-only
returns-then-bytes-terminator-3-clause-only c id schema table rest is = let t = names_reported id schema table rest c.args.bytes.now is in omega (arith, t.long)

pub returns-then-bytes-end-clause-only : goal.returns-then-bytes-end-clause-only
returns-then-bytes-end-clause-only c id schema table rest is =
    let f = found c.args.bytes.now c.from-terminator.result c.from.result c.from-terminator.ensures c.from.ensures in
    let t = names_reported id schema table rest c.args.bytes.now is in omega (arith, t.long, f.end)

pub returns-then-bytes-end-2-clause-only : goal.returns-then-bytes-end-2-clause-only
returns-then-bytes-end-2-clause-only c id schema table rest is =
    let f = found c.args.bytes.now c.from-terminator.result c.from.result c.from-terminator.ensures c.from.ensures in
    let t = names_reported id schema table rest c.args.bytes.now is in omega (arith, t.long, f.end)

pub returns-clause-found : goal.returns-clause-found
returns-clause-found c =
    let f = found c.args.bytes.now c.from-terminator.result c.from.result c.from-terminator.ensures c.from.ensures in
    let id_is : c.read_u48.result ≡ number_at 6 c.args.bytes.now 19 = c.read_u48.ensures ∙ ap (little_number 6) (take_rest c.args.bytes.now 19) in
    let long : terminator_place c.args.bytes.now + 1 ≤ length c.args.bytes.now = omega (arith, f.end) in
    subst (λ (q : ℕ × List ℕ × List ℕ × ℕ). IsNamed q.0 q.1 q.2 (drop q.3 c.args.bytes.now) (drop 19 c.args.bytes.now)) (λ i. (sym id_is i, sym f.schema i, sym f.table i, sym f.end i))
    (is_named c.args.bytes.now (λ i. omega (arith, c.type_inv.bytes i)) long)

pub returns-clause-values : goal.returns-clause-values
returns-clause-values c =
    let f = found c.args.bytes.now c.from-terminator.result c.from.result c.from-terminator.ensures c.from.ensures in
    let id_is : c.read_u48.result ≡ number_at 6 c.args.bytes.now 19 = c.read_u48.ensures ∙ ap (little_number 6) (take_rest c.args.bytes.now 19) in
    (id_is, f.schema, f.table)

pub returns-clause-only : goal.returns-clause-only
returns-clause-only c id schema table rest is =
    let f = found c.args.bytes.now c.from-terminator.result c.from.result c.from-terminator.ensures c.from.ensures in
    let id_is : c.read_u48.result ≡ number_at 6 c.args.bytes.now 19 = c.read_u48.ensures ∙ ap (little_number 6) (take_rest c.args.bytes.now 19) in
    let t = names_reported id schema table rest c.args.bytes.now is in
    (id_is ∙ t.id_is, f.schema ∙ t.schema_is, f.table ∙ t.table_is, ap (λ k. drop k c.args.bytes.now) f.end ∙ t.rest_is)
