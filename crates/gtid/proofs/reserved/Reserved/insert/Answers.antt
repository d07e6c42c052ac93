use Rattle.gtid.proofs.Names.{◌≡◌, ap, sym, id}
use Rattle.gtid.proofs.Sets.{inserted}
use Rattle.gtid.proofs.reserved.Reserved.insert.Goals as goal

pub returns : goal.returns
returns c =
    let it = c.self.inside in
    let set = ap (λ p. p.0) c.self.view_is in
    let one : id it.gtid ≡ c.args.self.1 = ap (λ p. p.1) c.self.view_is in
    rw (sym one) (inserted it.groups.items c.insert_reserved.new.groups.items c.args.self.0 (id it.gtid) set c.insert_reserved.ensures.adds)
