-- The order of keys.
use Rattle.store.proofs.Names.{IsTotalOrder, Key, key_cmp}
use Rattle.std.specs.Cmp.{IsTotalOrder, on_total}
use Rattle.std.proofs.lemmas.Cmp.{then_total, nat_list_cmp_total}

pub key_total : IsTotalOrder key_cmp
key_total = then_total (on_total (λ (k : Key). k.schema) nat_list_cmp_total) (then_total (on_total (λ (k : Key). k.table) nat_list_cmp_total) (on_total (λ (k : Key). k.image) nat_list_cmp_total))
