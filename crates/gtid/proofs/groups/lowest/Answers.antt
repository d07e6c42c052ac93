use Rattle.gtid.proofs.Names.{inl, inr, arith, sym, common_steps, Less}
use Rattle.gtid.proofs.Lowest.{next_at, no_higher, lower}
use Rattle.gtid.proofs.groups.lowest.Goals as goal

pub returns-in-Greater-clause-some : goal.returns-in-Greater-clause-some
returns-in-Greater-clause-some c =
    inr (
      no_higher Less c.b-item.result.source c.args.left.now c.a-item.result (sym (lower c.cmp.result c.a-item.result.source c.b-item.result.source c.cmp.ensures c.in-Greater.is)) (λ e. cc) (grind (arith, common_steps)) c.a-item.is,
      next_at c.args.right.now c.b-item.result (grind (arith, common_steps)) c.b-item.is,
    )

pub returns-in_default : goal.returns-in_default
returns-in_default c = record {
  none = tt;
  some = inl (
    next_at c.args.left.now c.a-item.result (grind (arith, common_steps)) c.a-item.is,
    no_higher c.cmp.result c.a-item.result.source c.args.right.now c.b-item.result c.cmp.ensures c.in_default.not-Greater (grind (arith, common_steps)) c.b-item.is,
  );
}
