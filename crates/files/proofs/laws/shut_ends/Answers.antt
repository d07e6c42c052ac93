use Rattle.files.proofs.Copies.{if_shut}
use Rattle.files.proofs.laws.shut_ends.Goals as goal

pub returns : goal.returns
returns c page_size files frames times copy written copied shut once =
    if_shut page_size files frames times written copy copied shut once
