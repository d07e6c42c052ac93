use Rattle.columns.proofs.Names.{◌≡◌, ◌++◌, length, ap, refl, arith, take, get_or, List, ℕ, ◌∙◌, sym, subst, rules, IsUtf8, has_written_of_eq}
use Rattle.std.proofs.Output.{has_written_append}
use Rattle.std.proofs.lemmas.Str.{IsCharBoundary-start, IsCharBoundary-after_ascii}
use Rattle.columns.specs.Escapes.{escape, escaped}
use Rattle.columns.proofs.EscapeCodes.{pair_written, rest_written, pair_small}
use Rattle.columns.proofs.escape.WithEscapesDisplay.fmt.Goals as goal

pub loop-i-init : goal.loop-i-init
loop-i-init g c = record {
  within = omega arith;
  cut = IsCharBoundary-start c.args.self.now.text.now (subst IsUtf8 c.as_bytes-byte-items.ensures.value c.as_bytes-byte-items.ensures.utf8);
  plain = λ k a b. absurd (omega (arith, b));
  written = λ plain. search rules;
}

pub loop-i-preserved : goal.loop-i-preserved
loop-i-preserved g c =
    let pair : escape c.args.self.now.layer (get_or c.args.self.now.text.now c.loop-i.i 0) ≡ c.in-Some.pair.now =
    ap (λ (xs : List ℕ). escape c.args.self.now.layer (get_or xs c.loop-i.i 0)) (sym c.as_bytes-byte-items.ensures.value) ∙ c.in-Some.ensures.0 in
    record {
      within = omega arith;
      cut = IsCharBoundary-after_ascii c.args.self.now.text.now c.loop-i.i (subst IsUtf8 c.as_bytes-byte-items.ensures.value c.as_bytes-byte-items.ensures.utf8) (omega arith)
          (pair_small c.args.self.now.layer (get_or c.args.self.now.text.now c.loop-i.i 0) (omega (arith, ap length pair, c.in-Some.ensures.1)));
      plain = λ k a b. absurd (omega (arith, a, b));
      written = λ p.
          let start = c.loop-i.invariant.written p in
          let one = has_written_append _ _ _ _ _ _ start (c.in_ok-write_str.ensures.writes start.plain refl) in
          let two = has_written_append _ _ _ _ _ _ one (c.in_ok-write_str-2.ensures.writes one.plain refl) in
          has_written_of_eq _ _ _ _ _
          (pair_written c.args.self.now.layer c.args.self.now.text.now c.loop-i.start c.loop-i.i _ _ c.loop-i.invariant.within (omega arith) c.loop-i.invariant.plain c.range.ensures.value pair) two;
    }

pub returns-clause-writes : goal.returns-clause-writes
returns-clause-writes g c p ok =
    let start = c.loop-i.invariant.written p in
    let one = has_written_append _ _ _ _ _ _ start (c.write_str-2.ensures.writes start.plain ok) in
    has_written_of_eq _ _ _ _ _
    ((λ i. escaped c.args.self.now.layer (take c.loop-i.start c.args.self.now.text.now) ++ c.range_from.ensures.value i) ∙
    rest_written c.args.self.now.layer c.args.self.now.text.now c.loop-i.start (omega arith) (λ k a b. c.loop-i.invariant.plain k a (omega (arith, b)))) one
