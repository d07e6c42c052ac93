-- No source is below itself.
use Rattle.gtid.proofs.Names.{◌≡◌, ℕ, List, sym, ◌∙◌, Less, Equal, nat_cmp, slice_cmp, nat_list_cmp_total}
use Rattle.std.specs.Cmp.{tied_itself}

not_equal : Less ≡ Equal → ⊥
not_equal e = Prim.cc

pub not_below_itself : (s : List ℕ) → slice_cmp nat_cmp s s ≡ Less → ⊥
not_below_itself s less = not_equal (sym less ∙ tied_itself nat_list_cmp_total s)
