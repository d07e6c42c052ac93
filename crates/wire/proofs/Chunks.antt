-- The full chunks at the front of a payload.
use Rattle.wire.proofs.Names.{◌≡◌, ℕ, zero, suc, ◌+◌, ◌*◌, ◌≤◌, List, [], ◌∷◌, ◌++◌, length, take, refl, ap, sym, ◌∙◌, append_assoc, arith, length-drop, take-append-drop, concat, AllByRecursion, IsFullChunk, full_chunks}
use Rattle.std.proofs.Common.{drop}
use Rattle.std.proofs.lemmas.List.{take-append-le, drop-append-le, drop-drop, length-take-le}
use Rattle.wire.specs.Packet.{full_chunk}

none : (n : ℕ) → 0 * n ≡ 0
none n = omega arith

pub one_more : (n m : ℕ) → suc n * m ≡ m + n * m
one_more n m = omega arith

pub full_chunks_full : (n : ℕ) (xs : List ℕ) → n * full_chunk ≤ length xs → AllByRecursion IsFullChunk (full_chunks n xs)
full_chunks_full zero xs h = tt
full_chunks_full (suc n) xs h =
    (length-take-le full_chunk xs (omega arith), full_chunks_full n (drop full_chunk xs) (omega (arith, length-drop full_chunk xs)))

pub length-full_chunks : (n : ℕ) (xs : List ℕ) → length (full_chunks n xs) ≡ n
length-full_chunks zero xs = refl
length-full_chunks (suc n) xs = ap suc (length-full_chunks n (drop full_chunk xs))

-- full chunks and the rest after them are all the bytes
pub concat-full_chunks : (n : ℕ) (xs : List ℕ) → concat (full_chunks n xs) ++ drop (n * full_chunk) xs ≡ xs
concat-full_chunks zero xs = ap (λ k. drop k xs) (none full_chunk)
concat-full_chunks (suc n) xs =
    ap (λ k. (take full_chunk xs ++ concat (full_chunks n (drop full_chunk xs))) ++ drop k xs) (one_more n full_chunk)
    ∙ ap (λ r. (take full_chunk xs ++ concat (full_chunks n (drop full_chunk xs))) ++ r) (sym (drop-drop (n * full_chunk) full_chunk xs))
    ∙ append_assoc (take full_chunk xs) (concat (full_chunks n (drop full_chunk xs))) (drop (n * full_chunk) (drop full_chunk xs))
    ∙ ap (λ r. take full_chunk xs ++ r) (concat-full_chunks n (drop full_chunk xs))
    ∙ take-append-drop full_chunk xs

-- bytes after them change nothing
pub full_chunks-append : (n : ℕ) (xs ys : List ℕ) → n * full_chunk ≤ length xs → full_chunks n (xs ++ ys) ≡ full_chunks n xs
full_chunks-append zero xs ys h = refl
full_chunks-append (suc n) xs ys h =
    (λ i. take-append-le full_chunk xs ys (omega arith) i ∷ full_chunks n (drop-append-le full_chunk xs ys (omega arith) i))
    ∙ ap (λ ps. take full_chunk xs ∷ ps) (full_chunks-append n (drop full_chunk xs) ys (omega (arith, length-drop full_chunk xs)))

pub full_chunks-more : (n : ℕ) (xs : List ℕ) → full_chunks (suc n) xs ≡ full_chunks n xs ++ take full_chunk (drop (n * full_chunk) xs) ∷ []
full_chunks-more zero xs = ap (λ k. take full_chunk (drop k xs) ∷ []) (sym (none full_chunk))
full_chunks-more (suc n) xs =
    ap (λ ps. take full_chunk xs ∷ ps) (full_chunks-more n (drop full_chunk xs))
    ∙ ap (λ r. take full_chunk xs ∷ (full_chunks n (drop full_chunk xs) ++ take full_chunk r ∷ [])) (drop-drop (n * full_chunk) full_chunk xs)
    ∙ ap (λ k. take full_chunk xs ∷ (full_chunks n (drop full_chunk xs) ++ take full_chunk (drop k xs) ∷ [])) (sym (one_more n full_chunk))
