-- Reading a written problem gives the network of its open arcs.
use Rattle.std.proofs.Common.{◌≡◌, ℕ, ◌+◌, ◌^◌, ◌<◌, ◌≤◌, List, [], ◌∷◌, ◌++◌, length, map, true, false, not, Some, Ok, codes, decimal, arith, refl}
use Rattle.std.proofs.Common.{sym, ap, ◌∙◌, append_assoc, append-nil, length-append, zero-add}
use Rattle.std.proofs.lemmas.Bool.{cond_both, and_from, not-true, lt-ltb, le-leb, ne_eqb}
use Rattle.std.proofs.lemmas.List.Elements.{recursion_from_All}
use Rattle.std.proofs.lemmas.List.Sums.{length-filter, count_by-le-length, sum_by-append, sum_by-cons}
use Rattle.std.proofs.lemmas.List.Filters.{sum_by-filter_both}
use Rattle.std.specs.List.{AllByRecursion}
use Rattle.dmf_state.specs.declared.arc.Arc.{Arc}
use Rattle.dmf_node.specs.Node.{IsNode, is_node}
use Rattle.dmf_state.specs.Arc.{IsArc, capacity_sum, open_count}
use Rattle.dmf_state.specs.Network.{Network, IsNetwork}
use Rattle.dmf_text.specs.Judging.{Line}
use Rattle.dmf_text.specs.Problem.{Facts, Counts, facts_of, counts_named, judged_problem, node_named, judged_node, judged_arc, judged, ended, state_of}
use Rattle.dmf_text.specs.Problem.{problem_fault, problem_after, problem_of}
use Rattle.dmf_text.specs.Reading.{with_line}
use Rattle.dmf_text.specs.Written.{open_arcs, arc_fields, problem_lines, problem_text, open_network, idle_state}
use Rattle.dmf_text.proofs.JudgingLemmas.{outcome-good, outcome-end}
use Rattle.dmf_text.proofs.ProblemLemmas.{facts_of-push}
use Rattle.dmf_text.proofs.WrittenLines.{IsField, AreFields, plain, IsWritten, is-written, lines-written}

is-node : (nodes v : ℕ) → IsNode nodes v → is_node nodes v ≡ true
is-node nodes v node = and_from _ _ (le-leb 1 v node.from_one) (le-leb v nodes node.to_last)

-- ---- the arc lines

-- what the lines say up to these arcs
abbrev after-arcs : Counts → ℕ → ℕ → List Arc → Facts
after-arcs counts source sink arcs = record { counts = Some counts; source = Some source; sink = Some sink; arcs = arcs }

-- an arc of a written problem
pub record IsOpenArc (nodes : ℕ) (arc : Arc) : Type 0 where
  pub is_arc : IsArc nodes arc
  pub opened : arc.closed ≡ false
  pub tail : IsWritten arc.tail
  pub head : IsWritten arc.head
  pub cap : IsWritten arc.cap

module _ (counts : Counts) (source sink : ℕ) where
  module _ (done : List Arc) (arc : Arc) (is : IsOpenArc counts.nodes arc) where
    arc-good : length done < counts.arcs → capacity_sum done + arc.cap < 2 ^ 64
        → judged_arc (after-arcs counts source sink done) (decimal arc.tail ∷ decimal arc.head ∷ decimal arc.cap ∷ []) ≡ Ok tt
    unfolding judged_arc
    arc-good fewer fits =
        rw (lt-ltb _ _ fewer, is.tail.reads, is.head.reads, is.cap.reads, is-node _ _ is.is_arc.tail, is-node _ _ is.is_arc.head, lt-ltb _ _ fits) refl

    with-arc : with_line (after-arcs counts source sink done) (arc_fields arc) ≡ after-arcs counts source sink (done ++ arc ∷ [])
    with-arc =
        rw (is.tail.reads, is.head.reads, is.cap.reads) (ap (λ c. after-arcs counts source sink (done ++ record arc { closed = c } ∷ [])) (sym is.opened))

  ended-good : (arcs : List Arc) → counts.arcs ≤ length arcs
      → ended (after-arcs counts source sink arcs) ≡ Ok (state_of (after-arcs counts source sink arcs))
  unfolding ended
  ended-good arcs enough = rw (le-leb counts.arcs (length arcs) enough) refl

  arcs-walk : (todo done : List Arc) (before : List Line) → facts_of before ≡ after-arcs counts source sink done → AllByRecursion (IsOpenArc counts.nodes) todo
      → length done + length todo ≡ counts.arcs → capacity_sum (done ++ todo) < 2 ^ 64
      → problem_after before (map arc_fields todo) ≡ Ok (state_of (after-arcs counts source sink (done ++ todo)))
  arcs-walk [] done before facts are count fits =
      rw append-nil
      (outcome-end facts_of judged ended problem_fault before (Ok (state_of (after-arcs counts source sink done)))
      (sym (ap ended facts ∙ ended-good done (omega arith))))
  arcs-walk (arc ∷ todo) done before facts are count fits =
      let sums = sum_by-append (λ a. a.cap) done (arc ∷ todo) in
      let split = sum_by-cons (λ a. a.cap) arc todo in
      let fewer : length done < counts.arcs = omega arith in
      let joined : (done ++ arc ∷ []) ++ todo ≡ done ++ arc ∷ todo = append_assoc done (arc ∷ []) todo in
      outcome-good facts_of judged ended problem_fault before (arc_fields arc) (map arc_fields todo)
      (ap (λ s. judged s (arc_fields arc)) facts ∙ arc-good done arc are.0 fewer (omega (arith, sums, split)))
      ∙ rw (← joined)
      (arcs-walk todo (done ++ arc ∷ []) (before ++ arc_fields arc ∷ [])
      (facts_of-push before (arc_fields arc) ∙ ap (λ s. with_line s (arc_fields arc)) facts ∙ with-arc done arc are.0)
      are.1 (omega (arith, length-append done (arc ∷ []))) (rw joined fits))

-- ---- the whole text

open-are : (nodes : ℕ) (arcs : List Arc) → nodes ≤ 2 ^ 24 → capacity_sum arcs < 2 ^ 64 → AllByRecursion (IsArc nodes) arcs
    → AllByRecursion (IsOpenArc nodes) (open_arcs arcs)
open-are nodes [] few fits are = tt
open-are nodes (arc ∷ arcs) few fits are =
    let tail = are.0.tail in
    let head = are.0.head in
    let sums = sum_by-cons (λ a. a.cap) arc arcs in
    let more = open-are nodes arcs few (omega (arith, sums)) are.1 in
    cond_both (not arc.closed) (arc ∷ open_arcs arcs) (open_arcs arcs) (λ l. AllByRecursion (IsOpenArc nodes) l)
    (λ t. (
      record {
        is_arc = are.0;
        opened = not-true _ t;
        tail = is-written arc.tail (omega (arith, tail.to_last));
        head = is-written arc.head (omega (arith, head.to_last));
        cap = is-written arc.cap (omega (arith, sums));
      },
      more,
    ))
    (λ t. more)

letter-field : (b : ℕ) → plain b ≡ true → IsField (b ∷ [])
letter-field b is = record { some = omega arith; all = and_from _ _ is refl }

arcs-are : (nodes : ℕ) (arcs : List Arc) → AllByRecursion (IsOpenArc nodes) arcs → AllByRecursion AreFields (map arc_fields arcs)
arcs-are nodes [] are = tt
arcs-are nodes (arc ∷ arcs) are =
    let is = are.0 in
    ((letter-field 97 refl, (is.tail.field, (is.head.field, (is.cap.field, tt)))), arcs-are nodes arcs are.1)

-- NODES and ARCS as they are written
abbrev pub counts_of : Network → Counts
counts_of n = record { nodes = n.nodes; arcs = open_count n.arcs }

module _ (n : Network) (is : IsNetwork n) where
  few-arcs : open_count n.arcs ≤ 2 ^ 27
  few-arcs = omega (arith, is.at_most_arcs, count_by-le-length (λ arc. not arc.closed) n.arcs)

  nodes : IsWritten n.nodes
  nodes = is-written n.nodes (omega (arith, is.at_most_nodes))

  arcs : IsWritten (open_count n.arcs)
  arcs = is-written (open_count n.arcs) (omega (arith, few-arcs))

  source : IsWritten n.source
  source = is-written n.source (omega (arith, is.source.to_last, is.at_most_nodes))

  sink : IsWritten n.sink
  sink = is-written n.sink (omega (arith, is.sink.to_last, is.at_most_nodes))

  are-open : AllByRecursion (IsOpenArc n.nodes) (open_arcs n.arcs)
  are-open = open-are n.nodes n.arcs is.at_most_nodes is.capacities (recursion_from_All (IsArc n.nodes) n.arcs is.arcs)

  open-fits : capacity_sum (open_arcs n.arcs) < 2 ^ 64
  open-fits =
      let both = sum_by-filter_both (λ arc. not arc.closed) (λ arc. not (not arc.closed)) (λ arc. refl) (λ arc. arc.cap) n.arcs in
      omega (arith, both, is.capacities)

  lines-are : AllByRecursion AreFields (problem_lines n)
  lines-are = (
    (letter-field 112 refl, (record { some = omega arith; all = refl }, (nodes.field, (arcs.field, tt)))),
    (
      (letter-field 110 refl, (source.field, (letter-field 115 refl, tt))),
      ((letter-field 110 refl, (sink.field, (letter-field 116 refl, tt))), arcs-are n.nodes (open_arcs n.arcs) are-open),
    ),
  )

  -- the problem line, the source's line, and the sink's line
  abbrev p : Line
  p = codes "p" ∷ codes "max" ∷ decimal n.nodes ∷ decimal (open_count n.arcs) ∷ []

  abbrev s : Line
  s = codes "n" ∷ decimal n.source ∷ codes "s" ∷ []

  abbrev t : Line
  t = codes "n" ∷ decimal n.sink ∷ codes "t" ∷ []

  problem-good : judged (facts_of []) p ≡ Ok tt
  unfolding judged_problem counts_named
  problem-good = rw (nodes.reads, arcs.reads, le-leb _ _ is.at_least_two_nodes, le-leb _ _ is.at_most_nodes, le-leb _ _ few-arcs) refl

  source-good : judged (facts_of (p ∷ [])) s ≡ Ok tt
  unfolding judged_node node_named
  source-good = rw (nodes.reads, source.reads, is-node _ _ is.source) refl

  sink-good : judged (facts_of (p ∷ s ∷ [])) t ≡ Ok tt
  unfolding judged_node node_named
  sink-good = rw (nodes.reads, source.reads, sink.reads, is-node _ _ is.sink, ne_eqb n.sink n.source (λ same. is.two_terminals (sym same))) refl

  -- the text stands for the network of the open arcs, with no flow on it
  pub round-trip : problem_of (problem_text n) ≡ Ok (idle_state (open_network n))
  round-trip =
      let rest : List Line = map arc_fields (open_arcs n.arcs) in
      ap (problem_after []) (lines-written (problem_lines n) lines-are)
      ∙ outcome-good facts_of judged ended problem_fault [] p (s ∷ t ∷ rest) problem-good
      ∙ outcome-good facts_of judged ended problem_fault (p ∷ []) s (t ∷ rest) source-good
      ∙ outcome-good facts_of judged ended problem_fault (p ∷ s ∷ []) t rest sink-good
      ∙ arcs-walk (counts_of n) n.source n.sink (open_arcs n.arcs) [] (p ∷ s ∷ t ∷ []) (rw (nodes.reads, arcs.reads, source.reads, sink.reads) refl) are-open
      (zero-add (length (open_arcs n.arcs)) ∙ length-filter (λ arc. not arc.closed) n.arcs) open-fits
