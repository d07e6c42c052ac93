use Rattle.scripted_source.proofs.Opens.{opens}
use Rattle.scripted_source.proofs.laws.opens.Goals as goal

pub returns : goal.returns
returns c bytes is = opens c.greetings.ensures.written c.args._scramble.now bytes c.told-_scramble is
