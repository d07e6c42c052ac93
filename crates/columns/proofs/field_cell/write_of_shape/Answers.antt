use Rattle.columns.proofs.Names.{inl, inr}
use Rattle.columns.proofs.field_cell.write_of_shape.Goals as goal

pub returns-in-Integer : goal.returns-in-Integer
returns-in-Integer c = rw c.in-Integer.is (c.integer_cell.ensures c.args.out.now.items)

pub returns-in-Decimal : goal.returns-in-Decimal
returns-in-Decimal c = rw c.in-Decimal.is c.write_decimal.ensures

pub returns-in-Float : goal.returns-in-Float
returns-in-Float c = rw c.in-Float.is c.write_float.ensures

pub returns-in-Double : goal.returns-in-Double
returns-in-Double c = rw c.in-Double.is c.write_double.ensures

pub returns-in-Bits : goal.returns-in-Bits
returns-in-Bits c = rw c.in-Bits.is c.write_bit.ensures

pub returns-in-Year : goal.returns-in-Year
returns-in-Year c = rw c.in-Year.is c.write_year.ensures

pub returns-in-Date : goal.returns-in-Date
returns-in-Date c = rw c.in-Date.is c.write_date.ensures

pub returns-in-Time : goal.returns-in-Time
returns-in-Time c = rw c.in-Time.is c.write_time.ensures

pub returns-in-Datetime : goal.returns-in-Datetime
returns-in-Datetime c = rw c.in-Datetime.is c.write_datetime.ensures

pub returns-in-Timestamp : goal.returns-in-Timestamp
returns-in-Timestamp c = rw c.in-Timestamp.is c.write_timestamp.ensures

pub returns-in-Text : goal.returns-in-Text
returns-in-Text c = elim c.in-Text.is [ inl is ↦ rw is c.write_hex.ensures | inr is ↦ rw is c.write_hex.ensures ]
