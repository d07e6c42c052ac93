-- A content with more GTIDs executed.
use Rattle.store.proofs.Names.{◌≡◌, Bool, true, false, ◌||◌, refl, sym, ap, ◌∙◌, Ids, id_cmp_total, id_cmp-same, Content, with_executed}
use Rattle.std.specs.FinSet as set
use Rattle.store.specs.Changes.{adopted}

or_known : (a b : Bool) → (b ≡ true → a ≡ true) → a ≡ (a || b)
or_known true b h = refl
or_known false true h = h refl
or_known false false h = refl

-- a set whose members are executed adds nothing
pub nothing_new : (content : Content) (executed ids : Ids) → executed ≡ content.executed → set.is_subset ids executed ≡ true → content ≡ adopted content ids
nothing_new content executed ids same within = ap (λ (all : Ids). with_executed all content) (set.same_set id_cmp_total id_cmp-same content.executed (set.union content.executed ids) (λ q.
    or_known (set.contains content.executed q) (set.contains ids q) (λ there. ap (λ (all : Ids). set.contains all q) (sym same) ∙ set.is_subset-contains id_cmp_total ids executed within q there)
    ∙ sym (set.contains-union id_cmp_total content.executed ids q)))

pub adopted_is : (content : Content) (executed after ids : Ids) → executed ≡ content.executed → after ≡ set.union executed ids → with_executed after content ≡ adopted content ids
adopted_is content executed after ids same is = ap (λ (all : Ids). with_executed all content) (is ∙ ap (λ (all : Ids). set.union all ids) same)
