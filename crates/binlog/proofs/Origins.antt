-- Where and when an event was written, by the whole event.
use Rattle.binlog.proofs.Names.{◌≡◌, ℕ, ◌+◌, ◌-◌, ◌<◌, ◌≤◌, ◌^◌, Bool, true, false, List, ◌∷◌, ◌++◌, length, get_or, take, inl, inr, refl, sym, ap, ◌∙◌, append_assoc, arith, length-append, length-drop, length-take, little_bytes, little_number, little_number-reads_back, little_from-lt, IsBytes, IsBytes-drop, first_left, drop_drop}
use Rattle.std.proofs.Common.{◌⊎◌, if◌then◌else◌, drop}
use Rattle.binlog.specs.Origin.{IsWrittenAt, IsCommittedAt, original_follows}
use Rattle.wire.proofs.Cuts.{number_at_front, cut, one, after}

-- ---- The header.

pub is_written_at : (bytes : List ℕ) → IsBytes bytes → 19 ≤ length bytes → IsWrittenAt (little_number 4 bytes) (little_number 4 (drop 5 bytes)) bytes
is_written_at bytes fits long =
    let f5 : 4 ≤ length (drop 5 bytes) = omega (arith, long, length-drop 5 bytes) in
    let c5 = number_at_front 4 (drop 5 bytes) f5 (IsBytes-drop 5 bytes fits) ∙ ap (λ t. little_bytes 4 (little_number 4 (drop 5 bytes)) ++ t) (drop_drop 5 4 bytes) in
    let c4 = one 4 bytes (omega (arith, long)) ∙ ap (λ t. get_or bytes 4 0 ∷ t) c5 in
    let c0 = number_at_front 4 bytes (omega (arith, long)) fits ∙ ap (λ t. little_bytes 4 (little_number 4 bytes) ++ t) c4 in
    record {
      code = get_or bytes 4 0;
      rest = drop 9 bytes;
      bytes_are = c0 ∙ sym (append_assoc (little_bytes 4 (little_number 4 bytes)) (get_or bytes 4 0 ∷ little_bytes 4 (little_number 4 (drop 5 bytes))) (drop 9 bytes));
      long = omega (arith, long, length-drop 9 bytes);
      fits = (little_from-lt 0 4 bytes fits, little_from-lt 0 4 (drop 5 bytes) (IsBytes-drop 5 bytes fits));
    }

pub record WrittenAt (seconds server_id : ℕ) (bytes : List ℕ) : Type 0 where
  pub long : 19 ≤ length bytes
  pub seconds_is : little_number 4 bytes ≡ seconds
  pub server_is : little_number 4 (drop 5 bytes) ≡ server_id

pub written_at : (seconds server_id : ℕ) (bytes : List ℕ) → IsWrittenAt seconds server_id bytes → WrittenAt seconds server_id bytes
written_at seconds server_id bytes is =
    let r5 = little_bytes 4 server_id ++ is.rest in
    let r4 = is.code ∷ r5 in
    let e : bytes ≡ little_bytes 4 seconds ++ r4 = is.bytes_are ∙ append_assoc (little_bytes 4 seconds) (is.code ∷ little_bytes 4 server_id) is.rest in
    let d5 : drop 5 bytes ≡ r5 = ap (drop 5) e ∙ after 4 1 (little_bytes 4 seconds) r4 refl in
    record {
      long = omega (arith, ap length e, length-append (little_bytes 4 seconds) r4, length-append (little_bytes 4 server_id) is.rest, is.long);
      seconds_is = ap (little_number 4) e ∙ little_number-reads_back 4 seconds r4 (omega (arith, is.fits.0));
      server_is = ap (little_number 4) d5 ∙ little_number-reads_back 4 server_id is.rest (omega (arith, is.fits.1));
    }

-- ---- The commit.

-- the bytes of a GTID event around the time of its commit
record Around (bytes : List ℕ) : Type 0 where
  pub bytes_are : bytes ≡ take 44 bytes ++ get_or bytes 44 0 ∷ (take 16 (drop 45 bytes) ++ (little_bytes 7 (little_number 7 (drop 61 bytes)) ++ drop 68 bytes))

around : (bytes : List ℕ) → IsBytes bytes → 68 ≤ length bytes → Around bytes
around bytes fits long =
    let f61 : 7 ≤ length (drop 61 bytes) = omega (arith, long, length-drop 61 bytes) in
    let c61 = number_at_front 7 (drop 61 bytes) f61 (IsBytes-drop 61 bytes fits) ∙ ap (λ t. little_bytes 7 (little_number 7 (drop 61 bytes)) ++ t) (drop_drop 61 7 bytes) in
    let c45 = cut 45 16 bytes ∙ ap (λ t. take 16 (drop 45 bytes) ++ t) c61 in
    let c44 = one 44 bytes (omega (arith, long)) ∙ ap (λ t. get_or bytes 44 0 ∷ t) c45 in
    record { bytes_are = cut 0 44 bytes ∙ ap (λ t. take 44 bytes ++ t) c44 }

right_4 : (a b c d : List ℕ) → a ++ b ++ c ++ d ≡ a ++ (b ++ (c ++ d))
right_4 a b c d = simp append_assoc

-- the event from the number in the 7 bytes
module _ (bytes : List ℕ) (fits : IsBytes bytes) (long : 68 ≤ length bytes) (gtid : get_or bytes 4 0 ≡ 33) (code : get_or bytes 44 0 ≡ 2) where
  sizes : (length (take 44 bytes) ≡ 44) × (length (take 16 (drop 45 bytes)) ≡ 16)
  sizes = (omega (arith, long, length-take 44 bytes), omega (arith, long, length-take 16 (drop 45 bytes), length-drop 45 bytes))

  found_as : (number : ℕ) → little_number 7 (drop 61 bytes) ≡ number →
      bytes ≡ take 44 bytes ++ 2 ∷ take 16 (drop 45 bytes) ++ little_bytes 7 number ++ drop 68 bytes
  found_as number is = (around bytes fits long).bytes_are
      ∙ (λ i. take 44 bytes ++ code i ∷ (take 16 (drop 45 bytes) ++ (little_bytes 7 (is i) ++ drop 68 bytes)))
      ∙ sym (right_4 (take 44 bytes) (2 ∷ take 16 (drop 45 bytes)) (little_bytes 7 number) (drop 68 bytes))

  pub is_committed_at : little_number 7 (drop 61 bytes) < 2 ^ 55 → IsCommittedAt (little_number 7 (drop 61 bytes)) bytes
  is_committed_at small = record {
    head = take 44 bytes;
    order = take 16 (drop 45 bytes);
    has_original = false;
    rest = drop 68 bytes;
    bytes_are = found_as (little_number 7 (drop 61 bytes)) refl;
    sizes = sizes;
    is_gtid = gtid;
    fits = small;
  }

  pub is_committed_again : 2 ^ 55 ≤ little_number 7 (drop 61 bytes) → IsCommittedAt (little_number 7 (drop 61 bytes) - 2 ^ 55) bytes
  is_committed_again large =
      let below : little_number 7 (drop 61 bytes) < 2 ^ 56 = little_from-lt 0 7 (drop 61 bytes) (IsBytes-drop 61 bytes fits) in
      record {
        head = take 44 bytes;
        order = take 16 (drop 45 bytes);
        has_original = true;
        rest = drop 68 bytes;
        bytes_are = found_as (little_number 7 (drop 61 bytes) - 2 ^ 55 + 2 ^ 55) (omega (arith, large));
        sizes = sizes;
        is_gtid = gtid;
        fits = omega (arith, large, below);
      }

pub record CommittedAt (number : ℕ) (bytes : List ℕ) : Type 0 where
  pub long : 68 ≤ length bytes
  pub gtid_is : get_or bytes 4 0 ≡ 33
  pub code_is : get_or bytes 44 0 ≡ 2
  pub number_is : little_number 7 (drop 61 bytes) ≡ number

-- with the highest bit or without it
with_bit : (bytes : List ℕ) (number : ℕ) (head order rest : List ℕ) → bytes ≡ head ++ 2 ∷ order ++ little_bytes 7 number ++ rest → (length head ≡ 44) × (length order ≡ 16)
    → get_or bytes 4 0 ≡ 33 → number < 2 ^ 56 → CommittedAt number bytes
with_bit bytes number head order rest bytes_are sizes gtid small =
    let r61 = little_bytes 7 number ++ rest in
    let r45 = order ++ r61 in
    let r44 = 2 ∷ r45 in
    let e : bytes ≡ head ++ r44 = bytes_are ∙ right_4 head (2 ∷ order) (little_bytes 7 number) rest in
    let d44 : drop 44 bytes ≡ r44 = ap (drop 44) e ∙ after 44 0 head r44 sizes.0 in
    let d45 : drop 45 bytes ≡ r45 = sym (drop_drop 44 1 bytes) ∙ ap (drop 1) d44 in
    let d61 : drop 61 bytes ≡ r61 = sym (drop_drop 45 16 bytes) ∙ ap (drop 16) d45 ∙ after 16 0 order r61 sizes.1 in
    record {
      long = omega (arith, ap length e, length-append head r44, length-append order r61, length-append (little_bytes 7 number) rest, sizes.0, sizes.1);
      gtid_is = gtid;
      code_is = first_left 44 2 bytes r45 d44;
      number_is = ap (little_number 7) d61 ∙ little_number-reads_back 7 number rest (omega (arith, small));
    }

-- what the bytes have of an event that was committed at this time
pub committed_at : (micros : ℕ) (bytes : List ℕ) → IsCommittedAt micros bytes → CommittedAt micros bytes ⊎ CommittedAt (micros + 2 ^ 55) bytes
committed_at micros bytes is = by_bit is.has_original is.bytes_are where
  by_bit : (has_original : Bool) → bytes ≡ is.head ++ 2 ∷ is.order ++ little_bytes 7 (if has_original then micros + original_follows else micros) ++ is.rest
      → CommittedAt micros bytes ⊎ CommittedAt (micros + 2 ^ 55) bytes
  by_bit false are = inl (with_bit bytes micros is.head is.order is.rest are is.sizes is.is_gtid (omega (arith, is.fits)))
  by_bit true are = inr (with_bit bytes (micros + 2 ^ 55) is.head is.order is.rest are is.sizes is.is_gtid (omega (arith, is.fits)))
