use Rattle.store.proofs.Names.{refl, key_in}
use Rattle.store.proofs.Listings.{none_shown, given_entry}
use Rattle.store.proofs.listing.listed_in.Goals as goal

pub returns-in_err-key : goal.returns-in_err-key
returns-in_err-key c = λ e same lawful. absurd (none_shown c.args.row.now e c.in_err-key.ensures same)

pub returns : goal.returns
returns c = λ e same lawful.
    given_entry c.args.row.now e (key_in c.in_ok-key.key) c.in_ok-count.count c.in_ok-image.image c.in_ok-key.key.schema.now c.in_ok-key.key.table.now
    c.in_ok-key.ensures c.in_ok-count.ensures c.in_ok-image.ensures refl refl same lawful
