-- Threads and texts of statements, by the whole event, and texts by their places.
use Rattle.byteorder.specs.Endian.{little_bytes, little_number}
use Rattle.byteorder.specs.Numbers.{little_number-reads_back, little_from-lt}
use Rattle.std.proofs.Common.{◌≡◌, ℕ, ◌≤◌, Bool, List, [], ◌∷◌, ◌++◌, length, take, refl, sym, ap, ◌∙◌, append_assoc, arith, eq-eqb, ne_eqb}
use Rattle.std.proofs.lemmas.List.{length-drop, length-append, length-take}
use Rattle.wire.proofs.Cuts.{IsBytes, IsBytes-drop, drop_drop}
use Rattle.std.proofs.Common.{◌≢◌, if◌then◌else◌, drop, Option, Some}
use Rattle.std.specs.Prelude.{◌==◌, slice_index}
use Rattle.wire.proofs.Cuts.{number_at_front, cut, after}
use Rattle.feed.specs.Statements.{IsSentBy, IsStatementText, text_after}

pub is_sent_by : (bytes : List ℕ) → IsBytes bytes → 23 ≤ length bytes → IsSentBy (little_number 4 (drop 19 bytes)) bytes
is_sent_by bytes fits long =
    let f19 : 4 ≤ length (drop 19 bytes) = omega (arith, long, length-drop 19 bytes) in
    let c19 = number_at_front 4 (drop 19 bytes) f19 (IsBytes-drop 19 bytes fits) ∙ ap (λ t. little_bytes 4 (little_number 4 (drop 19 bytes)) ++ t) (drop_drop 19 4 bytes) in
    record {
      head = take 19 bytes;
      rest = drop 23 bytes;
      bytes_are = cut 0 19 bytes ∙ ap (λ t. take 19 bytes ++ t) c19 ∙ sym (append_assoc (take 19 bytes) (little_bytes 4 (little_number 4 (drop 19 bytes))) (drop 23 bytes));
      long = omega (arith, long, length-take 19 bytes);
      fits = little_from-lt 0 4 (drop 19 bytes) (IsBytes-drop 19 bytes fits);
    }

pub sent_by : (thread : ℕ) (bytes : List ℕ) → IsSentBy thread bytes → (23 ≤ length bytes) × (little_number 4 (drop 19 bytes) ≡ thread)
sent_by thread bytes is =
    let rest = little_bytes 4 thread ++ is.rest in
    let e : bytes ≡ is.head ++ rest = is.bytes_are ∙ append_assoc is.head (little_bytes 4 thread) is.rest in
    let d : drop 19 bytes ≡ rest = ap (drop 19) e ∙ after 19 0 is.head rest is.long in (
      omega (arith, ap length e, length-append is.head rest, is.long, length-append (little_bytes 4 thread) is.rest),
      ap (little_number 4) d ∙ little_number-reads_back 4 thread is.rest (omega (arith, is.fits)),
    )

pub is_text_of : (bytes : List ℕ) → 20 ≤ length bytes → slice_index bytes 4 ≡ 29 → IsStatementText (drop 20 bytes) bytes
is_text_of bytes long is = record {
  head = take 20 bytes;
  bytes_are = cut 0 20 bytes;
  long = omega (arith, long, length-take 20 bytes);
  is_query = is;
}

pub text_is : (text bytes : List ℕ) → IsStatementText text bytes → (20 ≤ length bytes) × (drop 20 bytes ≡ text)
text_is text bytes is = (
  omega (arith, ap length is.bytes_are, length-append is.head text, is.long),
  ap (drop 20) is.bytes_are ∙ after 20 0 is.head text is.long,
)

-- the last text is the one at its place
pub last_there : (known : Option (List ℕ)) (texts : List (ℕ × List ℕ)) (place : ℕ) (text : List ℕ) → text_after known (texts ++ (place, text) ∷ []) place ≡ Some text
last_there known [] place text = ap (λ (b : Bool). if b then Some text else known) (eq-eqb place place refl)
last_there known (t ∷ rest) place text = last_there (if t.0 == place then Some t.1 else known) rest place text

-- and at no other
pub last_elsewhere : (known : Option (List ℕ)) (texts : List (ℕ × List ℕ)) (place n : ℕ) (text : List ℕ) → n ≢ place → text_after known (texts ++ (place, text) ∷ []) n ≡ text_after known texts n
last_elsewhere known [] place n text other = ap (λ (b : Bool). if b then Some text else known) (ne_eqb place n (λ same. other (sym same)))
last_elsewhere known (t ∷ rest) place n text other = last_elsewhere (if t.0 == n then Some t.1 else known) rest place n text other
