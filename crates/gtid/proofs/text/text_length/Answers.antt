use Rattle.gtid.proofs.Names.{◌≡◌, ◌∙◌, ◌+◌, ◌-◌, ◌≤◌, ◌++◌, List, [], ◌∷◌, ap, sym, arith, codes, length, map, flat_map, get_or, take, take_all, join_by, length-append, block_text, of_group, Group}
use Rattle.std.proofs.Common.{drop}
use Rattle.gtid.specs.Blocks.{blocks}
use Rattle.gtid.proofs.Appending.{sum_all}
use Rattle.gtid.proofs.ByteLists.{bytes_from, item_next, items_end}
use Rattle.gtid.proofs.text.text_length.Goals as goal

joined : (groups : List Group) (first : Group) → 1 ≤ length groups → first ≡ get_or groups 0 first →
    join_by block_text (codes ",") (blocks groups) ≡ block_text (of_group first) ++ bytes_from (λ b. codes "," ++ block_text b) of_group (take (length groups - 1) (drop 1 groups)) 0
joined [] first some is = absurd (omega arith)
joined (g ∷ groups) first some is =
    ap (λ x. block_text (of_group x) ++ flat_map (λ b. codes "," ++ block_text b) (map of_group groups)) (sym is)
    ∙ ap (λ gs. block_text (of_group first) ++ flat_map (λ b. codes "," ++ block_text b) (map of_group gs)) (sym (take_all (length (g ∷ groups) - 1) groups (omega arith)))

pub loop-group-init : goal.loop-group-init
loop-group-init c =
    let left = bytes_from (λ b. codes "," ++ block_text b) of_group (take (length c.args.groups.now - 1) (drop 1 c.args.groups.now)) 0 in
    let all = joined c.args.groups.now c.first-item.result c.in-len1-up.len_at_least c.first-item.is in
    record { is = omega (arith, ap length all, length-append (block_text (of_group c.first-item.result)) left, c.group_length-sum.ensures); small = omega (arith, c.group_length-sum.type_inv) }

pub loop-group-preserved : goal.loop-group-preserved
loop-group-preserved c =
    let rest = take (length c.args.groups.now - 1) (drop 1 c.args.groups.now) in
    let is = item_next (λ b. codes "," ++ block_text b) of_group rest c.loop-group.group-index c.group-item.result c.loop-group-test.true c.group-item.is in
    let text = block_text (of_group c.group-item.result) in
    let left = bytes_from (λ b. codes "," ++ block_text b) of_group rest (c.loop-group.group-index + 1) in
    let before = c.loop-group.invariant in
    record {
      is = omega (arith, before.is, before.small, ap length is, length-append (codes "," ++ text) left, c.saturating_add.ensures, c.group_length.ensures, c.saturating_add-sum.ensures);
      small = omega (arith, c.saturating_add-sum.type_inv);
    }

pub returns : goal.returns
returns c = sum_all c.loop-group.invariant (ap length (items_end (λ b. codes "," ++ block_text b) of_group (take (length c.args.groups.now - 1) (drop 1 c.args.groups.now)) c.loop-group.group-index c.loop-group-test.false))
