use Rattle.store.proofs.Names.{map, rules, IsPermutation-map}
use Rattle.store.proofs.inserts.sorted_inserts.Goals as goal

pub returns : goal.returns
returns c = record {
  admitted = search rules;
  images = map (λ r. r.now) c.in_ok-images.images.items;
  adds = c.in_ok-images.ensures;
  same = IsPermutation-map (λ r. r.now) _ _ c.sort_unstable.ensures.permutation;
}
