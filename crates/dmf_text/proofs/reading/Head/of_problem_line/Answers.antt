use Rattle.std.proofs.Common.{◌≡◌, ◌^◌, ◌&&◌, ◌∷◌, [], ℕ, List, true, false, Some, None, Ok, Err, arith, codes, refl, sym, ap, ◌∙◌, nat_le}
use Rattle.std.proofs.lemmas.Bool.{and_left, and_right, le-leb, lt-leb, not-true, not-false}
use Rattle.std.specs.Str.{bytes_eq}
use Rattle.dmf_text.specs.declared.fault.ProblemFaultKind.TheVariants.{NotMax, CountOutOfRange}
use Rattle.dmf_text.specs.Number.{number_of}
use Rattle.dmf_text.specs.Judging.{◌>>◌, expect}
use Rattle.dmf_text.specs.Problem.{Facts, Counts, counts_named}
use Rattle.dmf_text.specs.Reading.{no_facts, with_line}
use Rattle.dmf_text.proofs.reading.Head.of_problem_line.Goals as goal
use Rattle.dmf_text.proofs.reading.Head.of_problem_line.Goals.{In_ok-arcs, then-nodes-lt2-via-then-nodes-lt2, then-nodes-lt2-via-else-nodes-lt2+then-nodes-from}
use Rattle.dmf_text.proofs.reading.Head.of_problem_line.Goals.{then-nodes-lt2-via-else-nodes-lt2+else-nodes-from+then-arcs-from}

-- a problem line of three fields
other-word : (f g h : List ℕ) → bytes_eq f (codes "max") ≡ false → counts_named (f ∷ g ∷ h ∷ []) ≡ Err NotMax
unfolding counts_named
other-word f g h no-max = rw no-max refl

-- the word and the numbers of a line that is read
record Reads (f g h : List ℕ) (nodes arcs : ℕ) : Type 0 where
  word : bytes_eq f (codes "max") ≡ true
  first : Ok nodes ≡ number_of g
  second : Ok arcs ≡ number_of h

reads : (c : In_ok-arcs) → Reads c.in_ok-word.word.now c.in_ok-word.nodes.now c.in_ok-word.arcs.now c.in_ok-nodes.nodes c.in_ok-arcs.arcs
reads c = record {
  word = ap (bytes_eq c.in_ok-word.word.now) (sym c.as_slice.ensures) ∙ not-false _ (sym c.ne.ensures ∙ c.if-ne.false);
  first = c.in_ok-nodes.ensures;
  second = c.in_ok-arcs.ensures;
}

module _ (f g h : List ℕ) (nodes arcs : ℕ) (is : Reads f g h nodes arcs) where
  abbrev counts : Counts
  counts = record { nodes = nodes; arcs = arcs }

  line-judged : counts_named (f ∷ g ∷ h ∷ []) ≡ (expect (nat_le 2 nodes && nat_le nodes (2 ^ 24)) CountOutOfRange >>
      (expect (nat_le arcs (2 ^ 27)) CountOutOfRange >> Ok counts))
  unfolding counts_named
  line-judged = rw (is.word, ← is.first, ← is.second) refl

  line-says : ◌≡◌ {A = Facts} (record { counts = Some counts; source = None; sink = None; arcs = [] }) (with_line no_facts (codes "p" ∷ f ∷ g ∷ h ∷ []))
  line-says = rw (← is.first, ← is.second) refl

pub returns-then-ne : goal.returns-then-ne
returns-then-ne c =
    let word = c.in_ok-word.word.now in
    let no-max : bytes_eq word (codes "max") ≡ false = ap (bytes_eq word) (sym c.as_slice.ensures) ∙ not-true _ (sym c.ne.ensures ∙ c.if-ne.true) in
    rw c.in_ok-word.ensures (other-word word c.in_ok-word.nodes.now c.in_ok-word.arcs.now no-max)

pub returns-then-nodes-lt2 : goal.returns-then-nodes-lt2
returns-then-nodes-lt2 c =
    let nodes = c.in_ok-nodes.nodes in
    let arcs = c.in_ok-arcs.arcs in
    let is = reads (goal.at.returns-then-nodes-lt2 c).In_ok-arcs in
    rw (c.in_ok-word.ensures, line-judged _ _ _ _ _ is)
    (elim c.then-nodes-lt2.branch [
      | then-nodes-lt2-via-then-nodes-lt2 w ↦ rw (and_left _ _ (lt-leb 2 nodes w.if-nodes-lt2.true)) refl
      | then-nodes-lt2-via-else-nodes-lt2+then-nodes-from w ↦
          rw (and_right _ _ (lt-leb nodes (2 ^ 24) (omega (arith, w.from.ensures, w.if-nodes-from.true)))) refl
      | then-nodes-lt2-via-else-nodes-lt2+else-nodes-from+then-arcs-from w ↦
          rw (
            le-leb 2 nodes w.if-nodes-lt2.false,
            le-leb nodes (2 ^ 24) (omega (arith, w.from.ensures, w.if-nodes-from.false)),
            lt-leb arcs (2 ^ 27) (omega (arith, w.from-else-nodes-from.ensures, w.if-arcs-from.true)),
          ) refl
    ])

pub returns : goal.returns
returns c =
    let is = reads (goal.at.returns c).In_ok-arcs in
    let nodes = c.in_ok-nodes.nodes in
    let arcs = c.in_ok-arcs.arcs in
    let low = le-leb 2 nodes c.if-nodes-lt2.false in
    let high = le-leb nodes (2 ^ 24) (omega (arith, c.from.ensures, c.if-nodes-from.false)) in
    let few = le-leb arcs (2 ^ 27) (omega (arith, c.from-else-nodes-from.ensures, c.if-arcs-from.false)) in
    rw c.in_ok-word.ensures (line-judged _ _ _ _ _ is ∙ rw (low, high, few) refl, line-says _ _ _ _ _ is)
