use Rattle.binlog.proofs.Names.{◌≡◌, ℕ, List, ◌∷◌, [], map, sym, ap, ◌∙◌, rules, arith, type_code, ColumnKind}
use Rattle.gtid.proofs.Appending.{first_write, next_fits, next_write, last_write}
use Rattle.binlog.proofs.column.list.write_codes.Goals as goal

next : (left rest : List ColumnKind) (kind : ColumnKind) (code : ℕ) → left ≡ kind ∷ rest → code ≡ type_code kind → map type_code left ≡ code ∷ map type_code rest
next left rest kind code first is = ap (λ l. map type_code l) first ∙ ap (λ b. b ∷ map type_code rest) (sym is)

pub loop-column-init : goal.loop-column-init
loop-column-init c = first_write c.args.out.now _ _ (ap (λ l. map type_code l) (c.into_iter-column-iterator.ensures.into_iter_gives ∙ c.iter-column-items.ensures))

pub unwrap-requires : goal.unwrap-requires
unwrap-requires c =
    let fits = next_fits (c.code.result ∷ []) (map type_code c.next.new.self) c.loop-column.invariant (next _ _ _ _ c.in-Some.ensures.steps c.code.ensures) c.requires in
    c.push.ensures.succeeds (omega (arith, fits))

pub loop-column-preserved : goal.loop-column-preserved
loop-column-preserved c = next_write (c.code.result ∷ []) (map type_code c.next.new.self) c.loop-column.invariant (next _ _ _ _ c.in-Some.ensures.steps c.code.ensures) (search rules)

pub returns : goal.returns
returns c = last_write c.loop-column.invariant (ap (λ l. map type_code l) c.in-None.ensures.steps.0)
