-- The bytes of a packing are those of its payload.
use Rattle.std.proofs.Common.{ℕ, suc, ◌<◌, ◌%◌, List, [], ◌∷◌, ◌++◌, length, sym, subst, append_assoc}
use Rattle.std.specs.List.{AllByRecursion, concat}
use Rattle.byteorder.specs.Endian.{little_bytes}
use Rattle.wire.specs.Packet.{packet, packets, IsPacking}

pub all_front : {A : Type 0} (P : A → Type 0) (xs ys : List A) → AllByRecursion P (xs ++ ys) → AllByRecursion P xs
all_front P [] ys h = tt
all_front P (x ∷ xs) ys h = (h.0, all_front P xs ys h.1)

pub all_back : {A : Type 0} (P : A → Type 0) (xs ys : List A) → AllByRecursion P (xs ++ ys) → AllByRecursion P ys
all_back P [] ys h = h
all_back P (x ∷ xs) ys h = all_back P xs ys h.1

pub all_both : {A : Type 0} (P : A → Type 0) (xs ys : List A) → AllByRecursion P xs → AllByRecursion P ys → AllByRecursion P (xs ++ ys)
all_both P [] ys g h = h
all_both P (x ∷ xs) ys g h = (g.0, all_both P xs ys g.1 h)

of_packet : (id : ℕ) (chunk rest : List ℕ) → AllByRecursion (λ b. b < 256) (packet id chunk ++ rest) → AllByRecursion (λ b. b < 256) chunk
of_packet id chunk rest h =
    let one : AllByRecursion (λ b. b < 256) (little_bytes 3 (length chunk) ++ (id % 256 ∷ chunk)) = all_front (λ b. b < 256) (packet id chunk) rest h in
    let tail : AllByRecursion (λ b. b < 256) (id % 256 ∷ chunk) = all_back (λ b. b < 256) (little_bytes 3 (length chunk)) (id % 256 ∷ chunk) one in
    tail.1

payload_bytes : (id : ℕ) (chunks : List (List ℕ)) (last : List ℕ) → AllByRecursion (λ b. b < 256) (packets id (chunks ++ last ∷ [])) → AllByRecursion (λ b. b < 256) (concat chunks ++ last)
payload_bytes id [] last h = of_packet id last [] h
payload_bytes id (chunk ∷ chunks) last h =
    let rest = payload_bytes (suc id) chunks last (all_back (λ b. b < 256) (packet id chunk) (packets (suc id) (chunks ++ last ∷ [])) h) in
    subst (λ l. AllByRecursion (λ b. b < 256) l) (sym (append_assoc chunk (concat chunks) last))
    (all_both (λ b. b < 256) chunk (concat chunks ++ last) (of_packet id chunk (packets (suc id) (chunks ++ last ∷ [])) h) rest)

pub packed_bytes : (id : ℕ) (p packing : List ℕ) (next : ℕ) → IsPacking id p packing next → AllByRecursion (λ b. b < 256) packing → AllByRecursion (λ b. b < 256) p
packed_bytes id p packing next k h = subst (λ l. AllByRecursion (λ b. b < 256) l) (sym k.cut) (payload_bytes id k.chunks k.last (subst (λ l. AllByRecursion (λ b. b < 256) l) k.packed h))
