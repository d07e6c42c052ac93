use Rattle.std.proofs.Common.{decimal, refl, arith}
use Rattle.uuid.specs.Text.{hyphenated_text, lower}
use Rattle.gtid.proofs.PrintedText.{is_numeral, lowered}
use Rattle.gtid.proofs.laws.gtid_text_is_read.Goals as goal

pub returns : goal.returns
returns c q lawful = record {
  uuid = hyphenated_text lower q.0;
  digits = decimal q.1;
  text_is = refl;
  a_uuid = lowered q.0;
  a_numeral = is_numeral q.1 (omega (arith, lawful.2));
  lawful = lawful;
}
