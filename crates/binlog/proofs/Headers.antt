-- The frame of an event and the refusals of its header.
use Rattle.binlog.proofs.Names.{◌≡◌, ℕ, ◌≤◌, Bool, not, ◌==◌, List, ◌∷◌, ◌++◌, length, get_or, take, None, refl, sym, ap, ◌∙◌, append_assoc, arith, nat_le, le-ltb, eq-eqb, eqb-true, not-false, length-append, length-drop, length-take, little_bytes, little_number, little_number-reads_back, little_from-lt, IsFramed, refuse, needs, number_at, Size, IsBytes, IsBytes-drop, first_left, drop_drop}
use Rattle.std.proofs.Common.{drop}
use Rattle.binlog.specs.Header.{header_fault}
use Rattle.binlog.proofs.Tables.{passes, not_refused, is_there}
use Rattle.wire.proofs.Cuts.{number_at_front, cut, one, after}

right : (a b c d e : List ℕ) → a ++ b ++ c ++ d ++ e ≡ a ++ (b ++ (c ++ (d ++ e)))
right a b c d e = simp append_assoc

-- Bytes of the size that they state are framed.
pub is_framed : (bytes : List ℕ) → IsBytes bytes → 19 ≤ length bytes → little_number 4 (drop 9 bytes) ≡ length bytes →
    IsFramed (get_or bytes 4 0) (nat_le 128 (get_or bytes 17 0)) (drop 19 bytes) bytes
is_framed bytes fits long size =
    let f9 : 4 ≤ length (drop 9 bytes) = omega (arith, long, length-drop 9 bytes) in
    let c17 : drop 17 bytes ≡ get_or bytes 17 0 ∷ get_or bytes 18 0 ∷ drop 19 bytes = one 17 bytes (omega (arith, long)) ∙ ap (λ t. get_or bytes 17 0 ∷ t) (one 18 bytes (omega (arith, long))) in
    let c13 = cut 13 4 bytes ∙ ap (λ t. take 4 (drop 13 bytes) ++ t) c17 in
    let c9 = number_at_front 4 (drop 9 bytes) f9 (IsBytes-drop 9 bytes fits) ∙ ap (λ t. little_bytes 4 (little_number 4 (drop 9 bytes)) ++ t) (drop_drop 9 4 bytes ∙ c13) in
    let c5 = cut 5 4 bytes ∙ ap (λ t. take 4 (drop 5 bytes) ++ t) c9 in
    let c4 = one 4 bytes (omega (arith, long)) ∙ ap (λ t. get_or bytes 4 0 ∷ t) c5 in
    let c0 = cut 0 4 bytes ∙ ap (λ t. take 4 bytes ++ t) c4 in
    record {
      timestamp = take 4 bytes;
      server_id = take 4 (drop 5 bytes);
      position = take 4 (drop 13 bytes);
      low_flags = get_or bytes 17 0;
      high_flags = get_or bytes 18 0;
      bytes_are = c0 ∙ ap (λ n. take 4 bytes ++ get_or bytes 4 0 ∷ (take 4 (drop 5 bytes) ++ (little_bytes 4 n ++ (take 4 (drop 13 bytes) ++ get_or bytes 17 0 ∷ get_or bytes 18 0 ∷ drop 19 bytes)))) size
          ∙ sym (right (take 4 bytes) (get_or bytes 4 0 ∷ take 4 (drop 5 bytes)) (little_bytes 4 (length bytes)) (take 4 (drop 13 bytes)) (get_or bytes 17 0 ∷ get_or bytes 18 0 ∷ drop 19 bytes));
      sizes = (omega (arith, long, length-take 4 bytes), omega (arith, long, length-take 4 (drop 5 bytes), length-drop 5 bytes), omega (arith, long, length-take 4 (drop 13 bytes), length-drop 13 bytes));
      a_size = let fits4 = little_from-lt 0 4 (drop 9 bytes) (IsBytes-drop 9 bytes fits) in omega (arith, size, fits4);
      unkept = refl;
    }

-- The fields of framed bytes at each offset.
pub record Reported (code : ℕ) (may_ignore : Bool) (body bytes : List ℕ) : Type 0 where
  pub long : 19 ≤ length bytes
  pub code_is : code ≡ get_or bytes 4 0
  pub size_is : little_number 4 (drop 9 bytes) ≡ length bytes
  pub mark_is : may_ignore ≡ nat_le 128 (get_or bytes 17 0)
  pub body_is : body ≡ drop 19 bytes

pub reported : (code : ℕ) (may_ignore : Bool) (body bytes : List ℕ) → IsFramed code may_ignore body bytes → Reported code may_ignore body bytes
reported code may_ignore body bytes is =
    let r17 = is.low_flags ∷ is.high_flags ∷ body in
    let r13 = is.position ++ r17 in
    let r9 = little_bytes 4 (length bytes) ++ r13 in
    let r5 = is.server_id ++ r9 in
    let r4 = code ∷ r5 in
    let all = is.timestamp ++ r4 in
    let e : bytes ≡ all = is.bytes_are ∙ right is.timestamp (code ∷ is.server_id) (little_bytes 4 (length bytes)) is.position r17 in
    let d4 : drop 4 all ≡ r4 = after 4 0 is.timestamp r4 is.sizes.0 in
    let d5 : drop 5 all ≡ r5 = after 4 1 is.timestamp r4 is.sizes.0 in
    let d9 : drop 9 all ≡ r9 = sym (drop_drop 5 4 all) ∙ ap (drop 4) d5 ∙ after 4 0 is.server_id r9 is.sizes.1 in
    let d13 : drop 13 all ≡ r13 = sym (drop_drop 9 4 all) ∙ ap (drop 4) d9 in
    let d17 : drop 17 all ≡ r17 = sym (drop_drop 13 4 all) ∙ ap (drop 4) d13 ∙ after 4 0 is.position r17 is.sizes.2 in
    let d19 : drop 19 all ≡ body = sym (drop_drop 17 2 all) ∙ ap (drop 2) d17 in
    record {
      long = omega (arith, ap length e, length-append is.timestamp r4, length-append is.server_id r9, length-append is.position r17, is.sizes.0, is.sizes.1, is.sizes.2);
      code_is = sym (first_left 4 code bytes r5 (ap (drop 4) e ∙ d4));
      size_is = ap (λ t. little_number 4 (drop 9 t)) e ∙ ap (little_number 4) d9 ∙ little_number-reads_back 4 (length bytes) r13 (omega (arith, is.a_size));
      mark_is = is.unkept ∙ ap (nat_le 128) (sym (first_left 17 is.low_flags bytes (is.high_flags ∷ body) (ap (drop 17) e ∙ d17)));
      body_is = sym (ap (drop 19) e ∙ d19);
    }

-- Framed bytes have no fault,
pub no_fault : (code : ℕ) (may_ignore : Bool) (body bytes : List ℕ) → IsFramed code may_ignore body bytes → header_fault bytes ≡ None
unfolding header_fault
no_fault code may_ignore body bytes is =
    let t = reported code may_ignore body bytes is in
    let h4 : 4 ≤ length bytes = omega (arith, t.long) in
    let h5 : 5 ≤ length bytes = omega (arith, t.long) in
    let h9 : 9 ≤ length bytes = omega (arith, t.long) in
    let h13 : 13 ≤ length bytes = omega (arith, t.long) in
    let h17 : 17 ≤ length bytes = omega (arith, t.long) in
    rw (le-ltb _ _ h4, le-ltb _ _ h5, le-ltb _ _ h9, le-ltb _ _ h13, le-ltb _ _ h17, le-ltb _ _ t.long, eq-eqb _ _ t.size_is) refl

-- bytes without one state their size,
pub stated : (bytes : List ℕ) → header_fault bytes ≡ None → (19 ≤ length bytes) × (little_number 4 (drop 9 bytes) ≡ length bytes)
unfolding header_fault
stated bytes none =
    let p1 = passes (needs bytes 0 4) _ none in
    let p2 = passes (needs bytes 4 1) _ p1.1 in
    let p3 = passes (needs bytes 5 4) _ p2.1 in
    let p4 = passes (needs bytes 9 4) _ p3.1 in
    let p5 = passes (needs bytes 13 4) _ p4.1 in
    let p6 = passes (needs bytes 17 2) _ p5.1 in
    let p7 = passes (refuse (not (number_at 4 bytes 9 == length bytes)) Size 9) _ p6.1 in
    (is_there bytes 17 2 p6.0, eqb-true _ _ (not-false (number_at 4 bytes 9 == length bytes) (not_refused (not (number_at 4 bytes 9 == length bytes)) Size 9 p7.0)))

-- and what they say is determined.
pub one_frame : (code code' : ℕ) (may_ignore may_ignore' : Bool) (body body' bytes : List ℕ) →
    IsFramed code may_ignore body bytes → IsFramed code' may_ignore' body' bytes → (code ≡ code') × (may_ignore ≡ may_ignore') × (body ≡ body')
one_frame code code' may_ignore may_ignore' body body' bytes is is' =
    let t = reported code may_ignore body bytes is in
    let t' = reported code' may_ignore' body' bytes is' in
    (t.code_is ∙ sym t'.code_is, t.mark_is ∙ sym t'.mark_is, t.body_is ∙ sym t'.body_is)
