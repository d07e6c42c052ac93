use Rattle.replica.proofs.Names.{◌++◌, List, ℕ, sym, ap, ◌∙◌, subst, SentFor, end_of}
use Rattle.replica.specs.Standing.{Stands, sends_on}
use Rattle.replica.proofs.Positions.{sent_of, stands-out}
use Rattle.replica.proofs.session.Session.take_out.Goals as goal

pub returns-clause-stands : goal.returns-clause-stands
unfolding Stands
returns-clause-stands c names pos is now s =
    let out = c.replace.new.dest in
    subst (λ (l : List ℕ). Stands (record c.args.self.now { out = out }) names (sends_on pos l) is now) (sym (ap (λ v. v.items) c.replace.ensures.value))
    (stands-out c.args.self.now names pos is now out (ap (λ v. v.items) c.replace.ensures.after ∙ c.new.ensures.items) s)

pub returns-clause-sent : goal.returns-clause-sent
returns-clause-sent c names pos is now s =
    subst (λ (l : List ℕ). SentFor c.args.self.now.config names pos.old.executed pos.read (end_of c.args.self.now).at (pos.sent ++ l)) (sym (ap (λ v. v.items) c.replace.ensures.value))
    (sent_of c.args.self.now names pos is now s)
