-- A packing as it grows, packet by packet.
use Rattle.wire.proofs.Names.{◌≡◌, ℕ, suc, ◌+◌, ◌%◌, ◌<◌, List, [], ◌∷◌, ◌++◌, length, refl, ap, sym, ◌∙◌, append_assoc, arith, append-nil, concat, AllByRecursion, packet, packets, IsFullChunk}
use Rattle.std.proofs.lemmas.List.{length_push}
use Rattle.std.proofs.lemmas.List.Folds.{concat-append}
use Rattle.wire.specs.Packet.{full_chunk, AppendsPacking}

mod-mod : (n : ℕ) → n % 256 % 256 ≡ n % 256
mod-mod n = omega arith

pub mod-next : (n m : ℕ) → m ≡ n % 256 → (m + 1) % 256 ≡ (n + 1) % 256
mod-next n m e = omega arith

packet-mod : (n : ℕ) (chunk : List ℕ) → packet (n % 256) chunk ≡ packet n chunk
packet-mod n chunk = rw mod-mod refl

plus-none : (id : ℕ) → id ≡ id + 0
plus-none id = omega arith

plus-suc : (id n : ℕ) → suc id + n ≡ id + suc n
plus-suc id n = omega arith

pub packets-push : (id : ℕ) (chunks : List (List ℕ)) (chunk : List ℕ) →
    packets id (chunks ++ chunk ∷ []) ≡ packets id chunks ++ packet (id + length chunks) chunk
packets-push id [] chunk = append-nil (packet id chunk) ∙ ap (λ n. packet n chunk) (plus-none id)
packets-push id (p ∷ chunks) chunk =
    ap (λ more. packet id p ++ more) (packets-push (suc id) chunks chunk)
    ∙ ap (λ n. packet id p ++ (packets (suc id) chunks ++ packet n chunk)) (plus-suc id (length chunks))
    ∙ sym (append_assoc (packet id p) (packets (suc id) chunks) (packet (id + suc (length chunks)) chunk))

concat-push : (chunks : List (List ℕ)) (chunk : List ℕ) → concat (chunks ++ chunk ∷ []) ≡ concat chunks ++ chunk
concat-push chunks chunk = concat-append chunks (chunk ∷ []) ∙ ap (λ more. concat chunks ++ more) (append-nil chunk)

pub all-push : (chunks : List (List ℕ)) (chunk : List ℕ) → AllByRecursion IsFullChunk chunks → IsFullChunk chunk → AllByRecursion IsFullChunk (chunks ++ chunk ∷ [])
all-push [] chunk all full = (full, tt)
all-push (p ∷ chunks) chunk all full = (all.0, all-push chunks chunk all.1 full)

-- full chunks of the payload have been appended, and the rest is left
pub record Packed (id : ℕ) (payload start now rest : List ℕ) (due : ℕ) : Type 0 where
  pub chunks : List (List ℕ)
  pub full : AllByRecursion IsFullChunk chunks
  pub cut : payload ≡ concat chunks ++ rest
  pub appended : now ≡ start ++ packets id chunks
  pub is_due : due ≡ (id + length chunks) % 256

due-push : (id : ℕ) (chunks : List (List ℕ)) (chunk : List ℕ) → id + length chunks + 1 ≡ id + length (chunks ++ chunk ∷ [])
due-push id chunks chunk = omega (arith, length_push chunks chunk)

pub packed_more : {id : ℕ} {payload start now rest : List ℕ} {due : ℕ} (p : Packed id payload start now rest due) (chunk others new : List ℕ) (next : ℕ) →
    IsFullChunk chunk → rest ≡ chunk ++ others → new ≡ now ++ packet due chunk → next ≡ (due + 1) % 256 → Packed id payload start new others next
packed_more {id} {payload} {start} {now} {rest} {due} p chunk others new next full is_rest is_new is_next = record {
  chunks = p.chunks ++ chunk ∷ [];
  full = all-push p.chunks chunk p.full full;
  cut = p.cut ∙ ap (λ more. concat p.chunks ++ more) is_rest ∙ sym (append_assoc (concat p.chunks) chunk others) ∙ ap (λ front. front ++ others) (sym (concat-push p.chunks chunk));
  appended = is_new
      ∙ (λ i. p.appended i ++ (ap (λ n. packet n chunk) p.is_due ∙ packet-mod (id + length p.chunks) chunk) i)
      ∙ append_assoc start (packets id p.chunks) (packet (id + length p.chunks) chunk)
      ∙ ap (λ more. start ++ more) (sym (packets-push id p.chunks chunk));
  is_due = is_next ∙ mod-next (id + length p.chunks) due p.is_due ∙ ap (λ n. n % 256) (due-push id p.chunks chunk);
}

pub packed_last : {id : ℕ} {payload start now rest : List ℕ} {due : ℕ} (p : Packed id payload start now rest due) (new : List ℕ) (next : ℕ) →
    length rest < full_chunk → new ≡ now ++ packet due rest → next ≡ (due + 1) % 256 → AppendsPacking id payload start new next
packed_last {id} {payload} {start} {now} {rest} {due} p new next short is_new is_next = record {
  bytes = packets id (p.chunks ++ rest ∷ []);
  appended = is_new
      ∙ (λ i. p.appended i ++ (ap (λ n. packet n rest) p.is_due ∙ packet-mod (id + length p.chunks) rest) i)
      ∙ append_assoc start (packets id p.chunks) (packet (id + length p.chunks) rest)
      ∙ ap (λ more. start ++ more) (sym (packets-push id p.chunks rest));
  packing = record {
    chunks = p.chunks;
    last = rest;
    full = p.full;
    short = short;
    cut = p.cut;
    packed = refl;
    follows = is_next ∙ mod-next (id + length p.chunks) due p.is_due;
  };
}
