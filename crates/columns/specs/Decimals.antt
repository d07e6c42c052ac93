-- The values of DECIMAL. MySQL Reference Manual, "DECIMAL Data Type Characteristics", and MySQL Source Documentation,
-- `decimal2bin`.
use Rattle.std.specs.Prelude.{ℕ, ◌+◌, ◌-◌, ◌*◌, ◌/◌, ◌%◌, ◌^◌, Bool, true, false, ◌&&◌, ◌==◌, nat_lt, if◌then◌else◌, List, [], ◌∷◌, ◌++◌, length, take, drop, map, flat_map, replicate, decimal}
use Rattle.std.specs.Str.{byte}
use Rattle.byteorder.specs.Endian.{big_bytes}

-- each is a decimal digit
abbrev pub are_digits : List ℕ → Bool
are_digits [] = true
are_digits (d ∷ digits) = nat_lt d 10 && are_digits digits

-- each is zero
abbrev pub are_zeros : List ℕ → Bool
are_zeros [] = true
are_zeros (d ∷ digits) = d == 0 && are_zeros digits

-- the number that digits are, the highest first
abbrev pub digits_number : List ℕ → ℕ
digits_number [] = 0
digits_number (d ∷ digits) = d * 10 ^ length digits + digits_number digits

-- how many bytes a group of at most nine digits takes: a byte for two digits, and four for nine
abbrev pub group_size : ℕ → ℕ
group_size digits = if digits == 9 then 4 else (digits + 1) / 2

-- how many bytes the whole part or the fraction takes: groups of nine digits, and a group of those that are left over
abbrev pub part_size : ℕ → ℕ
part_size digits = digits / 9 * 4 + group_size (digits % 9)

abbrev pub decimal_size : ℕ → ℕ → ℕ
decimal_size precision scale = part_size (precision - scale) + part_size scale

-- How many digits each group has. What is left over by nines stands at the front of the whole part, and at the end of the
-- fraction.
abbrev pub group_digits : ℕ → ℕ → List ℕ
group_digits precision scale =
    (precision - scale) % 9 ∷ (replicate ((precision - scale) / 9) 9 ++ (replicate (scale / 9) 9 ++ (scale % 9 ∷ [])))

-- groups of so many digits each, as numbers
abbrev pub groups_bytes : List ℕ → List ℕ → List ℕ
groups_bytes [] digits = []
groups_bytes (size ∷ sizes) digits =
    big_bytes (group_size size) (digits_number (take size digits)) ++ groups_bytes sizes (drop size digits)

-- all bits inverted, of a negative value
abbrev pub inverted : Bool → List ℕ → List ℕ
inverted true bytes = map (λ b. 255 - b) bytes
inverted false bytes = bytes

-- the top bit of the first byte flipped
abbrev pub top_flipped : List ℕ → List ℕ
top_flipped [] = []
top_flipped (b ∷ bytes) = (b + 128) % 256 ∷ bytes

-- how many bytes groups take
abbrev pub groups_size : List ℕ → ℕ
groups_size [] = 0
groups_size (size ∷ sizes) = group_size size + groups_size sizes

abbrev pub decimal_bytes : Bool → ℕ → ℕ → List ℕ → List ℕ
decimal_bytes negative precision scale digits = top_flipped (inverted negative (groups_bytes (group_digits precision scale) digits))

abbrev pub digits_text : List ℕ → List ℕ
digits_text digits = flat_map decimal digits

-- without zeros in front, and one zero instead of no digits
abbrev pub significant : List ℕ → List ℕ
significant [] = 0 ∷ []
significant (d ∷ digits) = if d == 0 then significant digits else (d ∷ digits)

-- a minus sign in front of a value below zero
abbrev pub sign_part : Bool → List ℕ → List ℕ
sign_part negative digits = if are_zeros digits then [] else (if negative then byte "-" ∷ [] else [])

-- nothing, or a point and all digits
abbrev pub fraction_part : List ℕ → List ℕ
fraction_part [] = []
fraction_part (d ∷ digits) = byte "." ∷ digits_text (d ∷ digits)

-- the text of so many digits in front of the point, and of those after it
abbrev pub decimal_text : Bool → ℕ → ℕ → List ℕ → List ℕ
decimal_text negative precision scale digits =
    sign_part negative (take precision digits)
    ++ (digits_text (significant (take (precision - scale) digits)) ++ fraction_part (drop (precision - scale) (take precision digits)))

-- zeros in front of a text, up to this width
abbrev pub zero_filled : ℕ → List ℕ → List ℕ
zero_filled width text = replicate (width - length text) 48 ++ text

-- how wide a value of a type with ZEROFILL is: all its digits, and a point if some stand after it
abbrev pub filled_width : ℕ → ℕ → ℕ
filled_width precision scale = if scale == 0 then precision else precision + 1
