use Rattle.greet.proofs.Names.{◌≡◌, ◌++◌, ◌∷◌, ◌^◌, [], get_or, take, sym, subst, ◌∙◌, OnOk, little_bytes, plugin_name}
use Rattle.std.proofs.Common.{◌/◌, drop, replicate}
use Rattle.greet.proofs.Cuts.{right_10}
use Rattle.greet.proofs.greeting.Greeting.write.Goals as goal

pub returns-clause-ok : goal.returns-clause-ok
returns-clause-ok c =
    let g = c.args.self.now in
    let n = g.capabilities in
    let v = c.deref.ensures.value in
    let first = c.split_at.ensures.front in
    let second = c.split_at.ensures.back in
    let t = c.to_le_bytes.ensures in
    let middle = c.middle.ensures in
    subst (λ bytes. OnOk c.append.result (c.append.new.out.items ≡ c.args.out.now.items ++ bytes))
    ((λ i. 10 ∷ (v i ++ (0 ∷ get_or (t i) 0 0 ∷ get_or (t i) 1 0 ∷ get_or (t i) 2 0 ∷ get_or (t i) 3 0 ∷ (first i ++ (middle i ++ (second i ++ (0 ∷ (plugin_name ++ 0 ∷ []))))))))
    ∙ sym (right_10 (10 ∷ g.version.items) (0 ∷ little_bytes 4 g.thread) (take 8 g.scramble) (0 ∷ little_bytes 2 n) (g.charset ∷ little_bytes 2 g.status) (little_bytes 2 (n / 2 ^ 16)) (21 ∷ replicate 10 0) (drop 8 g.scramble) (0 ∷ plugin_name) (0 ∷ [])))
    c.append.ensures.ok
