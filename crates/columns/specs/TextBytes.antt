-- The bytes of a text, wherever they are.
use Rattle.std.specs.Prelude.{ℕ, List, string_bytes}
use Rattle.columns.specs.declared.text.Text.{Text}
use Rattle.columns.specs.declared.text.Text.TheVariants.{Same, Made}

abbrev pub bytes_of : Text → List ℕ
bytes_of (Same text) = text.now
bytes_of (Made text) = string_bytes text
