-- A database to whose executed set another set was added.
use Rattle.std.specs.Prelude.{◌≡◌, ◌⊎◌, true, Result, Ok, Err}
use Rattle.std.specs.FinSet as set
use Rattle.gtid.specs.Identifier.{Ids}
use Rattle.store.specs.State.{Content}
use Rattle.store.specs.Changes.{adopted}
use Rattle.store.specs.Faults.{IsFailure}
use Rattle.store.specs.declared.fault.StoreFault.TheVariants.{Database}
use Rattle.replica.specs.declared.file.adopting.AdoptFault.{AdoptFault}
use Rattle.replica.specs.declared.file.adopting.AdoptFault.TheVariants.{Unfinished, Begins, Failed}
use Rattle.replica.specs.Marks.{is_unfinished, NoneUnfinished}

-- The set was added, and this of it had not been executed, and no first copy was or is unfinished; or one was, or would be with the
-- set, or the database failed or memory ran out, and the content is the old one.
abbrev pub AdoptsTo : Content → Ids → Result Ids AdoptFault → Content → Type 0
AdoptsTo old ids (Ok added) new =
    (added ≡ set.difference ids old.executed) × NoneUnfinished old.executed × NoneUnfinished new.executed × (new ≡ adopted old ids)
AdoptsTo old ids (Err (Unfinished source)) new = (is_unfinished old.executed source ≡ true) × (new ≡ old)
AdoptsTo old ids (Err (Begins source)) new =
    NoneUnfinished old.executed × (is_unfinished (adopted old ids).executed source ≡ true) × (new ≡ old)
AdoptsTo old ids (Err (Failed cause)) new = NoneUnfinished old.executed × IsFailure cause × (new ≡ old)

-- What a crash leaves: the new content, or that with the set if the database failed.
abbrev pub IsLeftOfAdopt : Content → Ids → Result Ids AdoptFault → Content → Content → Type 0
IsLeftOfAdopt old ids (Err (Failed (Database e))) new left = (left ≡ new) ⊎ (left ≡ adopted old ids)
IsLeftOfAdopt old ids _ new left = left ≡ new
