-- What a stream reports of its own failures over several calls.
use Rattle.replica.proofs.Names.{◌≡◌, ℕ, ◌+◌, ◌<◌, ◌≤◌, Option, Some, None, refl, ap, arith, Reason, ReadFailed, WriteFailed, IsNoStreamFailure, HaveFailed}
use Rattle.replica.specs.declared.source.counted.Counted.{Counted}
use Rattle.replica.specs.Follow.{failed_reads_of, failed_writes_of, ReportsFailures}

-- no call was made
pub none_failed : (a : Option (ℕ × ℕ)) → HaveFailed a a 0 0
none_failed None = tt
none_failed (Some n) = (omega arith, omega arith)

-- nothing failed at first
pub failed_later : (a b c : Option (ℕ × ℕ)) (reads writes : ℕ) → HaveFailed a b 0 0 → HaveFailed b c reads writes → HaveFailed a c reads writes
failed_later a b None reads writes p q = tt
failed_later a None (Some z) reads writes p q = absurd q
failed_later None (Some y) (Some z) reads writes p q = absurd p
failed_later (Some x) (Some y) (Some z) reads writes p q = (omega (arith, p.0, q.0), omega (arith, p.1, q.1))

-- what the reason of the end says of the failures that were counted
pub reports : {T : Type 0} (failures : T → Option (ℕ × ℕ)) (before after : Counted T) (reason : Reason)
    → after.failed_reads ≡ before.failed_reads + failed_reads_of reason → after.failed_writes ≡ before.failed_writes + failed_writes_of reason
    → HaveFailed (failures before.stream) (failures after.stream) (failed_reads_of reason) (failed_writes_of reason) → ReportsFailures failures before after reason
reports failures before after reason reads writes reported = record {
  read_failed = (λ is. omega (arith, reads, ap failed_reads_of is), λ less. read_is reason (omega (arith, reads, less)));
  write_failed = (λ is. omega (arith, writes, ap failed_writes_of is), λ less. write_is reason (omega (arith, writes, less)));
  once = (omega (arith, reads, read_once reason), omega (arith, writes, write_once reason));
  counted = (reads, writes);
  reported = reported;
}
  where
    read_is : (reason : Reason) → 0 < failed_reads_of reason → reason ≡ ReadFailed
    read_is ReadFailed some = refl
    read_is _ some = absurd (omega (arith, some))

    write_is : (reason : Reason) → 0 < failed_writes_of reason → reason ≡ WriteFailed
    write_is WriteFailed some = refl
    write_is _ some = absurd (omega (arith, some))

    read_once : (reason : Reason) → failed_reads_of reason ≤ 1
    read_once ReadFailed = omega arith
    read_once _ = omega arith

    write_once : (reason : Reason) → failed_writes_of reason ≤ 1
    write_once WriteFailed = omega arith
    write_once _ = omega arith

-- the end is no failure of the stream
pub reports_none : {T : Type 0} (failures : T → Option (ℕ × ℕ)) (before after : Counted T) (reason : Reason) → IsNoStreamFailure reason
    → after.failed_reads ≡ before.failed_reads → after.failed_writes ≡ before.failed_writes → HaveFailed (failures before.stream) (failures after.stream) 0 0 → ReportsFailures failures before after reason
reports_none failures before after ReadFailed none reads writes reported = absurd none
reports_none failures before after WriteFailed none reads writes reported = absurd none
reports_none failures before after reason none reads writes reported = reports failures before after reason (omega (arith, reads)) (omega (arith, writes)) reported
