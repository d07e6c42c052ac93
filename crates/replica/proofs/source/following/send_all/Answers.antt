use Rattle.std.proofs.Common.{◌≡◌, ◌++◌, ◌+◌, ℕ, List, take, drop, length, rules, arith, subst, sym, ap, ◌∙◌, ◌-◌, ◌≤◌}
use Rattle.std.proofs.Math.Seq.{take-add}
use Rattle.std.proofs.lemmas.List.{take-take}
use Rattle.std.specs.Io.KnownBytes.{Appends}
use Rattle.std.proofs.KnownBytes.{Appends-trans, Keeps-trans}
use Rattle.replica.proofs.StreamFailures.{failed_later}
use Rattle.replica.proofs.source.following.send_all.Goals as goal

pub loop-at-preserved : goal.loop-at-preserved
loop-at-preserved g c =
    let entry = c.args.stream.now.stream in
    let before = c.loop-at.stream.stream in
    let after = c.send.new.self.stream in
    let xs = c.args.bytes.now in
    let a = c.loop-at.at in
    let n = c.in-Ok-1-to-max.taken in
    let within : a + n ≤ length xs = search rules in
    let same : take (a + n) xs ≡ take a xs ++ take n (take (length xs - a) (drop a xs)) =
    take-add a n xs ∙ ap (λ (l : List ℕ). take a xs ++ l) (sym (take-take n (length xs - a) (drop a xs) (omega (arith, within)))) in
    record {
      within = within;
      sent = subst (λ (l : List ℕ). Appends (g.T.Write.contents entry) (g.T.Write.contents after) l) (sym same)
          (Appends-trans (g.T.Write.contents entry) (g.T.Write.contents before) (g.T.Write.contents after) (take a xs) (take n (take (length xs - a) (drop a xs))) c.loop-at.invariant.sent c.in-Ok-1-to-max.ensures.bytes);
      apart = Keeps-trans (g.T.Read.remaining entry) (g.T.Read.remaining before) (g.T.Read.remaining after) c.loop-at.invariant.apart c.send.ensures.apart;
      writes = search rules;
      reads = search rules;
      reported = failed_later (g.T.Duplex.failures entry) (g.T.Duplex.failures before) (g.T.Duplex.failures after) 0 0 c.loop-at.invariant.reported (search (rules, c.send.ensures.reported));
    }
