use Rattle.std.proofs.Common.{◌≡◌, ℕ, ◌+◌, List, ◌∷◌, map, length, arith, refl, sym, ap, ◌∙◌}
use Rattle.std.specs.List.{enumerate_from}
use Rattle.bstr.specs.Text.{lines_of, without_terminator}
use Rattle.dmf_text.specs.ProblemLine.{IsArcInFront}
use Rattle.dmf_text.proofs.LineLemmas.{lines-bstr}
use Rattle.dmf_text.proofs.line.Lines.next_of_problem.Goals as goal

-- the lines that are left are an arc's line and those behind it
arc-first : (bytes behind : List ℕ) (left now : List (List ℕ)) (tail head cap : ℕ) (is : IsArcInFront bytes tail head cap behind)
    → map without_terminator (lines_of bytes) ≡ left → now ≡ map without_terminator (lines_of behind) → left ≡ is.line ∷ now
arc-first bytes behind left now tail head cap is left_is now_is =
    sym left_is ∙ lines-bstr bytes ∙ is.first ∙ ap (λ l. is.line ∷ l) (sym (now_is ∙ lines-bstr behind))

pub overflow_add-self : goal.overflow_add-self
overflow_add-self c =
    let long = ap length (arc-first _ c.in-Some.behind.now _ _ _ _ _ c.in-Some.ensures c.as_bytes.ensures refl) in
    omega (arith, long, c.self.invariant)

pub invariant_of-self : goal.invariant_of-self
invariant_of-self c =
    let long = ap length (arc-first _ c.in-Some.behind.now _ _ _ _ _ c.in-Some.ensures c.as_bytes.ensures c.lines-self-inside.ensures.value) in
    omega (arith, long, c.self.invariant)

pub returns-in-Some : goal.returns-in-Some
returns-in-Some c = record {
  line = c.in-Some.ensures.line;
  steps = sym c.self.view_is ∙ ap (enumerate_from (c.self.inside.given + 1))
      (arc-first _ c.in-Some.behind.now _ _ _ _ _ c.in-Some.ensures c.as_bytes.ensures c.lines-self-inside.ensures.value);
  is = c.in-Some.ensures.is_arc;
}
