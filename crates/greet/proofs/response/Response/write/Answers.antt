use Rattle.greet.proofs.Names.{◌≡◌, ◌++◌, ◌∷◌, [], length, sym, ap, subst, ◌∙◌, OnOk, response_lead, plugin_name}
use Rattle.wire.proofs.Cuts.{right_5}
use Rattle.greet.proofs.response.Response.write.Goals as goal

pub returns-clause-ok : goal.returns-clause-ok
returns-clause-ok c =
    let r = c.args.self.now in
    let u = c.deref.ensures.value in
    let a = c.deref-2.ensures.value in
    let n = c.len-size.ensures ∙ sym c.deref-2.ensures.len ∙ ap length a in
    subst (λ bytes. OnOk c.append.result (c.append.new.out.items ≡ c.args.out.now.items ++ bytes))
    ((λ i. response_lead ++ (u i ++ (0 ∷ n i ∷ (a i ++ (plugin_name ++ 0 ∷ []))))) ∙ sym (right_5 response_lead r.user.items (0 ∷ length r.auth.items ∷ r.auth.items) plugin_name (0 ∷ [])))
    c.append.ensures.ok
