use Rattle.binlog.proofs.Names.{◌≡◌, sym, inl, inr, subst, ap, refl, ◌∙◌, false≢true, cases_Bool, name_cmp, AreAmong, name_list}
use Rattle.std.proofs.Common.{subst₂}
use Rattle.std.specs.Bool.{IsTrue}
use Rattle.std.specs.FinSet as set
use Rattle.binlog.proofs.SameNames.{one_set, of_one_set}
use Rattle.binlog.proofs.filter.Follow.is_same.Goals as goal

pub returns-then-not-are_among : goal.returns-then-not-are_among
returns-then-not-are_among c =
    let a = c.deref.result.now in
    let b = c.deref-2.result.now in
    let left : set.from_list {R = name_cmp} (name_list a) ≡ c.args.self.now = ap (λ l. set.from_list (name_list l)) c.deref.ensures.value ∙ c.self.view_is in
    let right : set.from_list {R = name_cmp} (name_list b) ≡ c.args.other.now = ap (λ l. set.from_list (name_list l)) c.deref-2.ensures.value ∙ c.other.view_is in
    ((λ never. absurd (false≢true never)), (λ same. absurd (c.are_among.ensures.some c.if-not-are_among.true (of_one_set (name_list a) (name_list b) (left ∙ same ∙ sym right)))))

pub returns : goal.returns
returns c =
    let a = c.deref.result.now in
    let b = c.deref-2.result.now in
    let left : set.from_list {R = name_cmp} (name_list a) ≡ c.args.self.now = ap (λ l. set.from_list (name_list l)) c.deref.ensures.value ∙ c.self.view_is in
    let right : set.from_list {R = name_cmp} (name_list b) ≡ c.args.other.now = ap (λ l. set.from_list (name_list l)) c.deref-2.ensures.value ∙ c.other.view_is in
    let there = c.are_among.ensures.all (subst IsTrue (sym c.if-not-are_among.false) refl) in
    let d3 : c.deref-3.result.now ≡ b = c.deref-3.ensures.value ∙ sym c.deref-2.ensures.value in
    let d4 : c.deref-4.result.now ≡ a = c.deref-4.ensures.value ∙ sym c.deref.ensures.value in (
      (λ good. sym left ∙ one_set (name_list a) (name_list b) there (subst₂ (λ x y. AreAmong (name_list x) (name_list y)) d3 d4 (c.are_among-2.ensures.all good)) ∙ right),
      (λ same. elim (cases_Bool c.are_among-2.result) [
        | inl good ↦ subst IsTrue (sym good) refl
        | inr bad ↦ absurd (c.are_among-2.ensures.some bad (subst₂ (λ x y. AreAmong (name_list x) (name_list y)) (sym d3) (sym d4) (of_one_set (name_list b) (name_list a) (right ∙ sym same ∙ sym left))))
      ]),
    )
