use Rattle.gtid.proofs.GroupSets.{one_front, no_fault_at_front}
use Rattle.gtid.proofs.OneFault.{one_fault}
use Rattle.gtid.proofs.SomeDecoding.{some_decoding}
use Rattle.gtid.proofs.laws.one_reading_of_bytes.Goals as goal

pub returns : goal.returns
returns c = record { some = some_decoding; one_set = one_front; no_fault = no_fault_at_front; one_fault = one_fault }
