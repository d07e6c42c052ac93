use Rattle.binlog.proofs.Names.{◌≡◌, ℕ, ◌++◌, List, [], ◌∷◌, refl, length, take, ap, sym, ◌∙◌, arith, length-append, bytes_eq-Decides, false≢true, take-append-drop}
use Rattle.std.specs.Str.{bytes_eq}
use Rattle.binlog.proofs.TableSets.{itself}
use Rattle.binlog.proofs.reading.after.Goals as goal

pub returns-then-bytes-lead-clause-none : goal.returns-then-bytes-lead-clause-none
returns-then-bytes-lead-clause-none c none rest is =
    let sum = ap (λ (l : List ℕ). length l) is ∙ length-append c.args.lead.now rest in
    let short = c.if-bytes-lead.true in
    absurd (omega (arith, sum, short))

-- the first bytes of two parts, as many as the first has, are the first
front_is : (lead rest : List ℕ) → take (length lead) (lead ++ rest) ≡ lead
front_is [] rest = refl
front_is (x ∷ lead) rest = ap (λ l. x ∷ l) (front_is lead rest)

pub returns-then-is_same-clause-some : goal.returns-then-is_same-clause-some
returns-then-is_same-clause-some c =
    sym (take-append-drop (length c.args.lead.now) c.args.bytes.now)
    ∙ (λ i. (sym c.split_at.ensures.front ∙ (bytes_eq-Decides c.split_at.result.0.now c.args.lead.now).0 (sym c.is_same.ensures ∙ c.if-is_same.true)) i ++ sym c.split_at.ensures.back i)

pub returns-else-is_same-clause-none : goal.returns-else-is_same-clause-none
returns-else-is_same-clause-none c none rest is =
    let front : c.split_at.result.0.now ≡ c.args.lead.now = c.split_at.ensures.front ∙ ap (λ (l : List ℕ). take (length c.args.lead.now) l) is ∙ front_is c.args.lead.now rest in
    false≢true (sym c.if-is_same.false ∙ c.is_same.ensures ∙ ap (λ (l : List ℕ). bytes_eq l c.args.lead.now) front ∙ itself c.args.lead.now)
