use Rattle.store.proofs.Names.{[], HasCleanDisk, Names, Content, IsAtRest, listed_text}
use Rattle.sqlite.specs.Held.{state}
use Rattle.sqlite.specs.Given.{HasGiven}
use Rattle.store.specs.Load.{ReadsOn}
use Rattle.store.specs.Listing.{IsListing}
use Rattle.store.proofs.listing.hand_all.Given as goal

abbrev pub invariant-rows : goal.invariant-rows
invariant-rows g l =
    let old = l.fn.rows.conn.now in
    let now = l.rows.conn.now in
    record {
      reads : ReadsOn g.S.Store l.fn.rows.conn l.rows.conn;
      listing : HasCleanDisk (state g.S.Store now) → HasGiven g.S.Store listed_text [] old [] → (names : Names) (content : Content) → IsAtRest (state g.S.Store old) names content
          → IsListing g.S.Store g.V.Visitor.row_gives old now l.fn.visitor l.visitor;
    }
