-- The text of a TIMESTAMP, and the numbers in it.
use Rattle.columns.proofs.Names.{◌≡◌, ℕ, suc, ◌+◌, ◌-◌, ◌*◌, ◌/◌, ◌%◌, ◌^◌, ◌<◌, ◌≤◌, ◌⊎◌, inl, inr, ◌||◌, ◌==◌, nat_lt, [], ◌∷◌, ◌++◌, length, replicate, refl, sym, subst, ◌∙◌, arith, IsTrue, cases_lt, ne_eqb, decimal_digit, zero_padded, clock_text, fraction_text, year_of, month_of, IsClockRange, is_stamp}
use Rattle.std.proofs.lemmas.Bool.{eq-eqb}
use Rattle.columns.specs.Dates.{date_text}
use Rattle.columns.specs.CalendarDays.{IsDayOf}
use Rattle.columns.specs.FieldForms.{IsDateRange}
use Rattle.columns.specs.Stamps.{stamp_text}
use Rattle.columns.specs.StampParts.{AreNone, IsClockOf, IsStampOf}
use Rattle.columns.specs.declared.value.stamp.Timestamp.{Timestamp}
use Rattle.columns.proofs.Types.{and_parts, le_of}
use Rattle.columns.proofs.CalendarDays.{day_range}

-- a value that is not 0 has a day and a time of day
pub record IsLater (seconds year month day hour minute second : ℕ) : Type 0 where
  pub some : 0 < seconds
  pub day_is : IsDayOf (seconds / 86400) year month day
  pub clock_is : IsClockOf (seconds % 86400) hour minute second

pub later_of : (seconds year month day hour minute second : ℕ) → (AreNone year month day hour minute second → ⊥) → IsStampOf seconds year month day hour minute second →
    IsLater seconds year month day hour minute second
later_of seconds year month day hour minute second some (inl none) = absurd (some none.1)
later_of seconds year month day hour minute second some (inr (above, dated, (hours, minutes, ones))) = record {
  some = above;
  day_is = dated;
  clock_is = (omega (arith, hours), omega (arith, minutes), omega (arith, ones));
}

-- days and a time of day as seconds
pub seconds_of : (days clock seconds year month day hour minute second : ℕ) → seconds ≡ days * 86400 + clock → clock < 86400 → 0 < seconds →
    IsDayOf days year month day → IsClockOf clock hour minute second → IsStampOf seconds year month day hour minute second
seconds_of days clock seconds year month day hour minute second is small some dated (hours, minutes, ones) =
    let same : days ≡ seconds / 86400 = omega (arith, is, small) in
    inr (some, subst (λ (n : ℕ). IsDayOf n year month day) same dated, (omega (arith, is, hours), omega (arith, is, minutes), omega (arith, is, ones)))

none_padded : (k : ℕ) → zero_padded k 0 ≡ replicate (k - 1) 48 ++ 48 ∷ []
none_padded k = let one = decimal_digit 0 (omega arith) in λ i. replicate (k - length (one i)) 48 ++ one i

none_text : (digits number : ℕ) → date_text 0 0 0 ++ 32 ∷ clock_text 0 0 0 digits number ≡
    48 ∷ (48 ∷ (48 ∷ (48 ∷ (45 ∷ (48 ∷ (48 ∷ (45 ∷ (48 ∷ (48 ∷ (32 ∷ (48 ∷ (48 ∷ (58 ∷ (48 ∷ (48 ∷ (58 ∷ (48 ∷ (48 ∷ fraction_text digits number))))))))))))))))))
none_text digits number =
    let four = none_padded 4 in
    let two = none_padded 2 in
    λ i. (four i ++ 45 ∷ (two i ++ 45 ∷ two i)) ++ 32 ∷ (two i ++ 58 ∷ (two i ++ 58 ∷ (two i ++ fraction_text digits number)))

-- the text is that of the numbers
pub text_of : (at : Timestamp) (year month day hour minute second : ℕ) → IsStampOf at.seconds year month day hour minute second →
    stamp_text at ≡ date_text year month day ++ 32 ∷ clock_text hour minute second at.fraction.digits at.fraction.number
text_of at year month day hour minute second (inl (none, (y, m, d, h, n, s))) =
    rw (eq-eqb at.seconds 0 none)
    (sym (none_text at.fraction.digits at.fraction.number)
    ∙ (λ i. date_text (sym y i) (sym m i) (sym d i) ++ 32 ∷ clock_text (sym h i) (sym n i) (sym s i) at.fraction.digits at.fraction.number))
text_of at year month day hour minute second (inr (some, (y, m, d), (h, n, s))) =
    rw (ne_eqb at.seconds 0 (λ none. omega (arith, some, none)))
    (λ i. date_text (y i) (m i) (d i) ++ 32 ∷ clock_text (h i) (n i) (s i) at.fraction.digits at.fraction.number)

-- each value has such numbers
pub record HasNumbers (at : Timestamp) : Type 0 where
  pub year : ℕ
  pub month : ℕ
  pub day : ℕ
  pub hour : ℕ
  pub minute : ℕ
  pub second : ℕ
  pub is : IsStampOf at.seconds year month day hour minute second
  pub dated : IsDateRange year month day
  pub early : hour < 100
  pub clocked : IsClockRange minute second

pub stamp_small : (seconds number : ℕ) → IsTrue (is_stamp seconds number) → seconds < 2 ^ 31
stamp_small seconds number lawful = le_of (suc seconds) (2 ^ 31) (and_parts (nat_lt seconds (2 ^ 31)) (nat_lt 0 seconds || number == 0) lawful).0

pub numbers_of : (at : Timestamp) → HasNumbers at
numbers_of at = by (cases_lt 0 at.seconds)
  where
    by : (0 < at.seconds) ⊎ (at.seconds ≤ 0) → HasNumbers at
    by (inr none) = record {
      year = 0;
      month = 0;
      day = 0;
      hour = 0;
      minute = 0;
      second = 0;
      is = inl (omega (arith, none), (refl, refl, refl, refl, refl, refl));
      dated = (omega arith, omega arith, omega arith);
      early = omega arith;
      clocked = (omega arith, omega arith);
    }
    by (inl some) =
        let days = at.seconds / 86400 in
        let range = day_range days (omega (arith, stamp_small at.seconds at.fraction.number at.lawful)) in
        record {
          year = (year_of days).0;
          month = (month_of (year_of days).0 (year_of days).1).0;
          day = (month_of (year_of days).0 (year_of days).1).1 + 1;
          hour = at.seconds / 3600 % 24;
          minute = at.seconds / 60 % 60;
          second = at.seconds % 60;
          is = inr (some, (refl, refl, refl), (refl, refl, refl));
          dated = (omega (arith, range.to), omega (arith, range.last), omega (arith, range.most));
          early = omega arith;
          clocked = (omega arith, omega arith);
        }
