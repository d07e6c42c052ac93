use Rattle.first_copy.proofs.Names.{[], prepend_known}
use Rattle.first_copy.proofs.TextDigests.{made_of}
use Rattle.first_copy.proofs.summary.Summary.of.Goals as goal

pub returns-clause-source : goal.returns-clause-source
returns-clause-source g c = record {
  head = record { left = g.R.Read.remaining c.read_head.new.reader; took = c.in_ok-executed.ensures };
  source_is =
      let made = c.in_ok-loader.loader in
      made_of c.in_ok-executed.executed c.in_ok-first.first.source c.digest.result c.args.described.now (g.R.Read.remaining c.read_head.new.reader) (prepend_known made.line.items (g.R.Read.remaining made.reader)) c.take.new.loader.hasher
      c.in_ok-loader.ensures.text c.in_ok-first.ensures.source (c.in_ok-take.ensures.hashed [] c.in_ok-loader.ensures.begin.3 c.in_ok-loader.ensures.hasher) c.digest.ensures;
}
