use Rattle.greet.proofs.Names.{◌≡◌, ℕ, ◌+◌, ◌-◌, ◌≤◌, List, length, take, ap, ◌∙◌, arith, take_rest, little_number, dump_name_size, dump_set_size}
use Rattle.std.proofs.Common.{drop, length-drop}
use Rattle.greet.proofs.command.Dump.read_fields.Goals as goal

whole_is : (body : List ℕ) (name set n s : ℕ) → name ≡ n → set ≡ s → 22 + name ≤ length body → length (take (length body - (22 + name)) (drop (22 + name) body)) ≡ set → length body ≡ 22 + n + s
whole_is body name set n s name_is set_is enough all =
    omega (arith, name_is, set_is, enough, all, ap length (take_rest body (22 + name)), length-drop (22 + name) body)

pub returns-clause-whole : goal.returns-clause-whole
returns-clause-whole c =
    let body = c.args.body.now in
    let name : c.read_u32-name_size.result ≡ dump_name_size body = c.read_u32-name_size.ensures ∙ ap (little_number 4) (take_rest body 6) in
    let set : c.read_u32-set_size.result ≡ dump_set_size body =
    c.read_u32-set_size.ensures ∙ (ap (little_number 4) (take_rest body (18 + c.read_u32-name_size.result)) ∙ ap (λ k. little_number 4 (drop (18 + k) body)) name) in
    whole_is body c.read_u32-name_size.result c.read_u32-set_size.result (dump_name_size body) (dump_set_size body) name set c.if-body-name_size.false c.if-set-set_size.false
