use Rattle.wire.proofs.OnePacking as lemma
use Rattle.wire.proofs.laws.one_packing.Goals as goal

pub returns-clause-some : goal.returns-clause-some
returns-clause-some c = lemma.a_packing

pub returns-clause-one : goal.returns-clause-one
returns-clause-one c id m n payload a b = lemma.one_packing

pub returns-clause-length : goal.returns-clause-length
returns-clause-length c id next payload bytes = lemma.length_packing

pub returns-clause-none_begins : goal.returns-clause-none_begins
returns-clause-none_begins c i j m n p q a b x y = lemma.none_begins x y
