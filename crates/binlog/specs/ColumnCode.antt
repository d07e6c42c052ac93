-- The codes of column types. MySQL Source Documentation, Binlog Event: binary_log::Table_map_event, and
-- enum_field_types of field_types.h. ENUM and SET stand in a table map as STRING, with their code as its real type.
use Rattle.std.specs.Prelude.{ℕ}

abbrev pub tiny : ℕ
tiny = 1

abbrev pub short : ℕ
short = 2

abbrev pub long : ℕ
long = 3

abbrev pub float : ℕ
float = 4

abbrev pub double : ℕ
double = 5

abbrev pub longlong : ℕ
longlong = 8

abbrev pub int24 : ℕ
int24 = 9

abbrev pub date : ℕ
date = 10

abbrev pub year : ℕ
year = 13

abbrev pub varchar : ℕ
varchar = 15

abbrev pub bit : ℕ
bit = 16

abbrev pub timestamp2 : ℕ
timestamp2 = 17

abbrev pub datetime2 : ℕ
datetime2 = 18

abbrev pub time2 : ℕ
time2 = 19

abbrev pub newdecimal : ℕ
newdecimal = 246

abbrev pub enum : ℕ
enum = 247

abbrev pub set : ℕ
set = 248

abbrev pub blob : ℕ
blob = 252

abbrev pub string : ℕ
string = 254
