-- A problem text without a fault stands for a state.
use Rattle.std.proofs.Common.{◌≡◌, ℕ, ◌+◌, ◌^◌, ◌<◌, ◌≤◌, ◌==◌, ◌&&◌, ◌||◌, List, [], ◌∷◌, ◌++◌, length, map, replicate, true, false, Option}
use Rattle.std.proofs.Common.{Some, None, is_some, is_none, unwrap_or, Result, Ok, Err, codes, arith, refl, sym, ap, ◌∙◌, subst, ⊎_elim, append-nil}
use Rattle.std.proofs.Common.{length-append, if◌then◌else◌, nat_lt, nat_le}
use Rattle.std.proofs.lemmas.Bool.{cases_Bool, cond_both, and_parts, leb-true, ltb-true, not-true, not_from_false, ne_eqb, eqb-false}
use Rattle.std.proofs.lemmas.List.Elements.{All-push, All-nil}
use Rattle.std.proofs.lemmas.List.Sums.{sum_by_push, sum_by-cons}
use Rattle.std.proofs.lemmas.Int.{ints}
use Rattle.std.proofs.lemmas.Option.{IfSome_then}
use Rattle.std.proofs.lemmas.Slice.Eq.{bytes_eq-Decides}
use Rattle.std.specs.List.{All, zip}
use Rattle.std.specs.Option.{IfSome, option_map}
use Rattle.std.specs.Result.{result_unwrap_or}
use Rattle.std.specs.Str.{bytes_eq}
use Rattle.std.specs.Str.Lines.{lines}
use Rattle.dmf_state.specs.declared.arc.Arc.{Arc}
use Rattle.dmf_node.specs.Node.{IsNode, is_node}
use Rattle.dmf_state.specs.Arc.{IsArc, open_arc, capacity_sum}
use Rattle.dmf_state.specs.Flow.{flow_at, AreWithinCapacities}
use Rattle.dmf_state.specs.NetworkState.{NetworkState, IsState}
use Rattle.dmf_text.specs.declared.digits.NumberFault.{NumberFault}
use Rattle.dmf_text.specs.declared.fault.ProblemFaultKind.TheVariants.{ProblemLineExpected, SecondProblemLine, NotMax, FieldCount, NodeOutOfRange}
use Rattle.dmf_text.specs.declared.fault.ProblemFaultKind.TheVariants.{NotSourceOrSink, SecondTerminal, SameTerminals, ArcBeforeTerminals, TooManyArcs}
use Rattle.dmf_text.specs.declared.fault.ProblemFaultKind.TheVariants.{TooFewArcs, SumTooLarge}
use Rattle.dmf_text.specs.Fields.{fields}
use Rattle.dmf_text.specs.Number.{number_of}
use Rattle.dmf_text.specs.Judging.{Line, field, number_at, map_fault, outcome_after}
use Rattle.dmf_text.specs.Problem.{Facts, Counts, facts_of, node_count, arc_count, number_fault, number_in, counts_named, judged_problem, node_named, own}
use Rattle.dmf_text.specs.Problem.{other, differs, judged_node, judged_arc, judged, ended, state_of, problem_fault, problem_after, problem_of}
use Rattle.dmf_text.specs.Reading.{with_line}
use Rattle.dmf_text.proofs.PassedJudgements.{passed, held, passed-value, at-line, at-line-then}
use Rattle.dmf_text.proofs.JudgingLemmas.{or-none}
use Rattle.dmf_text.proofs.ProblemLemmas.{facts_of-push}
use Rattle.dmf_text.proofs.ReadingLemmas.{node-from}

-- ---- what good fields give, and absent values

-- the field spells the number
spelled : (behind : List (List ℕ)) (i n : ℕ) → number_in i behind ≡ Ok n → number_at i behind ≡ n
spelled behind i n good =
    let P : Result ℕ NumberFault → Type 0 = λ r. map_fault number_fault r ≡ Ok n → result_unwrap_or r 0 ≡ n in
    (elim (number_of (field i behind)) as P [ Ok m ↦ λ e. (let same : m ≡ n = cc in same) | Err fault ↦ λ e. absurd (let no : ⊥ = cc in no) ]) good

none-is : {A : Type 0} (o : Option A) → is_none o ≡ true → o ≡ None
none-is None is = refl
none-is (Some x) is = absurd (let no : ⊥ = cc in no)

-- ---- what good lines say together

-- The arcs are as the arcs of a network with so many nodes are, and no more than this.
record AreArcs (nodes most : ℕ) (arcs : List Arc) : Type 0 where
  each : All (IsArc nodes) arcs
  few : length arcs ≤ most
  fits : capacity_sum arcs < 2 ^ 64

-- The counts are within the limits, the terminals are two nodes, and the arcs are as the arcs of a network are.
record Sound (facts : Facts) : Type 0 where
  counts : IfSome facts.counts (λ c. (2 ≤ c.nodes) × (c.nodes ≤ 2 ^ 24) × (c.arcs ≤ 2 ^ 27))
  source : IfSome facts.source (IsNode (node_count facts))
  sink : IfSome facts.sink (IsNode (node_count facts))
  two : IfSome facts.source (λ v. differs v facts.sink ≡ true)
  arcs : AreArcs (node_count facts) (arc_count facts) facts.arcs

sound-nothing : Sound (facts_of [])
sound-nothing = record { counts = tt; source = tt; sink = tt; two = tt; arcs = record { each = All-nil _; few = omega arith; fits = omega arith } }

-- ---- one good line more

-- the first problem line
sound-counted : (facts : Facts) (c : Counts) → Sound facts → facts.counts ≡ None → 2 ≤ c.nodes → c.nodes ≤ 2 ^ 24 → c.arcs ≤ 2 ^ 27
    → Sound (record facts { counts = Some c })
sound-counted facts c sound none low high most =
    let no-nodes : node_count facts ≡ 0 = ap (λ o. unwrap_or (option_map (λ (d : Counts). d.nodes) o) 0) none in
    let no-arcs : arc_count facts ≡ 0 = ap (λ o. unwrap_or (option_map (λ (d : Counts). d.arcs) o) 0) none in
    let few = sound.arcs.few in
    record {
      counts = (low, high, most);
      source = IfSome_then facts.source sound.source (λ v node. absurd (omega (arith, node.from_one, node.to_last, no-nodes)));
      sink = IfSome_then facts.sink sound.sink (λ v node. absurd (omega (arith, node.from_one, node.to_last, no-nodes)));
      two = sound.two;
      arcs = record { each = λ k d below. absurd (omega (arith, few, no-arcs, below)); few = omega (arith, few, no-arcs); fits = sound.arcs.fits };
    }

-- If one number differs from another, so does the other from it.
differs-back : (w : ℕ) (o : Option ℕ) → differs w o ≡ true → IfSome o (λ v. differs v (Some w) ≡ true)
differs-back w None apart = tt
differs-back w (Some v) apart = not_from_false _ (ne_eqb v w (λ same. eqb-false w v (not-true _ apart) (sym same)))

-- one arc line more
arcs-more : (nodes most : ℕ) (arcs : List Arc) (arc : Arc) → AreArcs nodes most arcs → IsArc nodes arc → length arcs < most
    → capacity_sum arcs + arc.cap < 2 ^ 64 → AreArcs nodes most (arcs ++ arc ∷ [])
arcs-more nodes most arcs arc are is fewer small = record {
  each = All-push (IsArc nodes) arcs arc are.each is;
  few = (let long = length-append arcs (arc ∷ []) in omega (arith, long, fewer));
  fits = (let sum = sum_by_push (λ (a : Arc). a.cap) arcs arc in omega (arith, sum, small));
}

module _ (facts : Facts) (behind : List (List ℕ)) (sound : Sound facts) where
  sound-counts : judged_problem facts behind ≡ Ok tt → Sound (with_line facts (codes "p" ∷ behind))
  unfolding judged_problem counts_named
  sound-counts good =
      let once = passed (is_none facts.counts) SecondProblemLine _ tt good in
      let named = passed-value _ _ tt once.1 in
      let three = passed (length behind == 3) FieldCount _ named.value named.is in
      let word = passed (bytes_eq (field 0 behind) (codes "max")) NotMax _ named.value three.1 in
      let nodes = passed-value _ _ named.value word.1 in
      let arcs = passed-value _ _ named.value nodes.rest in
      let range = passed _ _ _ named.value arcs.rest in
      let few = passed _ _ _ named.value range.1 in
      let none = none-is facts.counts once.0 in
      let nodes-is = spelled behind 1 nodes.value nodes.is in
      let arcs-is = spelled behind 2 arcs.value arcs.is in
      let counts : Counts = record { nodes = nodes.value; arcs = arcs.value } in
      simp (none, nodes-is, arcs-is, or-none, append-nil)
      (sound-counted facts counts sound none
      (leb-true 2 nodes.value (and_parts _ _ range.0).0) (leb-true nodes.value (2 ^ 24) (and_parts _ _ range.0).1) (leb-true arcs.value (2 ^ 27) few.0))

  sound-arc : judged_arc facts behind ≡ Ok tt → Sound (with_line facts (codes "a" ∷ behind))
  unfolding judged_arc
  sound-arc good =
      let counted = passed (is_some facts.counts) ProblemLineExpected _ tt good in
      let named = passed (is_some facts.source && is_some facts.sink) ArcBeforeTerminals _ tt counted.1 in
      let fewer = passed (nat_lt (length facts.arcs) (arc_count facts)) TooManyArcs _ tt named.1 in
      let three = passed (length behind == 3) FieldCount _ tt fewer.1 in
      let tail = passed-value (number_in 0 behind) _ tt three.1 in
      let head = passed-value (number_in 1 behind) _ tt tail.rest in
      let cap = passed-value (number_in 2 behind) _ tt head.rest in
      let tail-in = passed (is_node (node_count facts) tail.value) NodeOutOfRange _ tt cap.rest in
      let head-in = passed (is_node (node_count facts) head.value) NodeOutOfRange _ tt tail-in.1 in
      let small = held (nat_lt (capacity_sum facts.arcs + cap.value) (2 ^ 64)) SumTooLarge head-in.1 in
      simp (spelled behind 0 tail.value tail.is, spelled behind 1 head.value head.is, spelled behind 2 cap.value cap.is, or-none)
      (record {
        counts = sound.counts;
        source = sound.source;
        sink = sound.sink;
        two = sound.two;
        arcs = arcs-more _ _ facts.arcs (open_arc tail.value head.value cap.value) sound.arcs
            (record { tail = node-from _ _ tail-in.0; head = node-from _ _ head-in.0; closed = λ is. absurd (let no : ⊥ = cc in no) })
            (ltb-true _ _ fewer.0) (ltb-true _ _ small);
      })

  -- a node line whose letter is this one
  module _ (node : ℕ) (node-is : number_at 0 behind ≡ node) (range : is_node (node_count facts) node ≡ true)
      (once : is_none (own (field 1 behind) facts) ≡ true) (apart : differs node (other (field 1 behind) facts) ≡ true) where
    sound-s : field 1 behind ≡ codes "s" → Sound (with_line facts (codes "n" ∷ behind))
    sound-s letter =
        let none = none-is facts.source (sym (ap (λ l. is_none (own l facts)) letter) ∙ once) in
        let two = sym (ap (λ l. differs node (other l facts)) letter) ∙ apart in
        simp (letter, node-is, none, or-none, append-nil)
        (record { counts = sound.counts; source = node-from _ _ range; sink = sound.sink; two = two; arcs = sound.arcs })

    sound-t : field 1 behind ≡ codes "t" → Sound (with_line facts (codes "n" ∷ behind))
    sound-t letter =
        let none = none-is facts.sink (sym (ap (λ l. is_none (own l facts)) letter) ∙ once) in
        let two = differs-back node facts.source (sym (ap (λ l. differs node (other l facts)) letter) ∙ apart) in
        simp (letter, node-is, none, or-none, append-nil)
        (record { counts = sound.counts; source = sound.source; sink = node-from _ _ range; two = two; arcs = sound.arcs })

  sound-terminal : judged_node facts behind ≡ Ok tt → Sound (with_line facts (codes "n" ∷ behind))
  unfolding judged_node node_named
  sound-terminal good =
      let counted = passed (is_some facts.counts) ProblemLineExpected _ tt good in
      let named = passed-value (node_named (node_count facts) behind) _ tt counted.1 in
      let two = passed (length behind == 2) FieldCount _ named.value named.is in
      let node = passed-value (number_in 0 behind) _ named.value two.1 in
      let letter = passed (bytes_eq (field 1 behind) (codes "s") || bytes_eq (field 1 behind) (codes "t")) NotSourceOrSink _ named.value node.rest in
      let range = passed (is_node (node_count facts) node.value) NodeOutOfRange (Ok node.value) named.value letter.1 in
      let same : node.value ≡ named.value = (let ok = range.1 in cc) in
      let node-is : number_at 0 behind ≡ named.value = spelled behind 0 node.value node.is ∙ same in
      let is-node = ap (is_node (node_count facts)) (sym same) ∙ range.0 in
      let once = passed (is_none (own (field 1 behind) facts)) SecondTerminal _ tt named.rest in
      let apart = held (differs named.value (other (field 1 behind) facts)) SameTerminals once.1 in
      ⊎_elim
      (λ s. sound-s named.value node-is is-node once.0 apart ((bytes_eq-Decides (field 1 behind) (codes "s")).0 s))
      (λ not-s. sound-t named.value node-is is-node once.0 apart
      ((bytes_eq-Decides (field 1 behind) (codes "t")).0 (sym (ap (λ b. b || bytes_eq (field 1 behind) (codes "t")) not-s) ∙ letter.0)))
      (cases_Bool (bytes_eq (field 1 behind) (codes "s")))

-- a line of any kind
sound-line : (facts : Facts) (line : Line) → Sound facts → judged facts line ≡ Ok tt → Sound (with_line facts line)
sound-line facts [] sound good = simp (or-none, append-nil) sound
sound-line facts (kind ∷ behind) sound good =
    let at : (letter : List ℕ) → (judged facts (letter ∷ behind) ≡ Ok tt → Sound (with_line facts (letter ∷ behind))) → bytes_eq kind letter ≡ true
    → Sound (with_line facts (kind ∷ behind))
    = λ letter here same.
    subst (λ k. judged facts (k ∷ behind) ≡ Ok tt → Sound (with_line facts (k ∷ behind))) (sym ((bytes_eq-Decides kind letter).0 same)) here good in
    ⊎_elim (at (codes "a") (sound-arc facts behind sound))
    (λ (not-a : bytes_eq kind (codes "a") ≡ false). ⊎_elim (at (codes "n") (sound-terminal facts behind sound))
    (λ (not-n : bytes_eq kind (codes "n") ≡ false). ⊎_elim (at (codes "p") (sound-counts facts behind sound))
    (λ (not-p : bytes_eq kind (codes "p") ≡ false). simp (not-a, not-n, not-p, or-none, append-nil) sound)
    (cases_Bool (bytes_eq kind (codes "p"))))
    (cases_Bool (bytes_eq kind (codes "n"))))
    (cases_Bool (bytes_eq kind (codes "a")))

-- ---- the end

-- a flow of 0 is within the capacities
idle-within : (arcs : List Arc) → AreWithinCapacities arcs (replicate (length arcs) 0)
idle-within [] = tt
idle-within (arc ∷ arcs) = (omega arith, idle-within arcs)

-- and its sums are 0
idle-flow : (end : Arc → ℕ) (arcs : List Arc) (v : ℕ) → flow_at end arcs (replicate (length arcs) 0) v ≡ 0
idle-flow end [] v = refl
idle-flow end (arc ∷ arcs) v =
    let f : Arc × ℕ → ℕ = λ p. if end p.0 == v then p.1 else 0 in
    let none : f (arc, 0) ≡ 0 = cond_both (end arc == v) 0 0 (λ n. n ≡ 0) (λ _. refl) (λ _. refl) in
    omega (arith, none, sum_by-cons f (arc, 0) (zip arcs (replicate (length arcs) 0)), idle-flow end arcs v)

sound-state : (c : Counts) (source sink : ℕ) (arcs : List Arc)
    → Sound (record { counts = Some c; source = Some source; sink = Some sink; arcs = arcs })
    → IsState (state_of (record { counts = Some c; source = Some source; sink = Some sink; arcs = arcs }))
sound-state c source sink arcs sound = record {
  network = record {
    at_least_two_nodes = sound.counts.0;
    at_most_nodes = sound.counts.1;
    source = sound.source;
    sink = sound.sink;
    two_terminals = eqb-false source sink (not-true _ sound.two);
    arcs = sound.arcs.each;
    at_most_arcs = omega (arith, sound.counts.2, sound.arcs.few);
    capacities = sound.arcs.fits;
  };
  flow = record { within = idle-within arcs; conserved = λ v inner. idle-flow (λ a. a.tail) arcs v ∙ sym (idle-flow (λ a. a.head) arcs v) };
  value_from_zero = omega (arith, ints, idle-flow (λ a. a.tail) arcs source, idle-flow (λ a. a.head) arcs source);
}

-- the end of a text without a fault
ended-state : (counts : Option Counts) (source sink : Option ℕ) (arcs : List Arc) (s : NetworkState)
    → Sound (record { counts = counts; source = source; sink = sink; arcs = arcs })
    → ended (record { counts = counts; source = source; sink = sink; arcs = arcs }) ≡ Ok s → IsState s
unfolding ended
ended-state None source sink arcs s sound good = absurd (let no : ⊥ = cc in no)
ended-state (Some c) None sink arcs s sound good = absurd (let no : ⊥ = cc in no)
ended-state (Some c) (Some v) None arcs s sound good = absurd (let no : ⊥ = cc in no)
ended-state (Some c) (Some v) (Some w) arcs s sound good =
    let enough = passed (nat_le c.arcs (length arcs)) TooFewArcs _ s good in
    let is : state_of (record { counts = Some c; source = Some v; sink = Some w; arcs = arcs }) ≡ s = (let ok = enough.1 in cc) in
    subst IsState is (sound-state c v w arcs sound)

-- ---- the whole text

accepted-after : (before more : List Line) (s : NetworkState) → Sound (facts_of before) → problem_after before more ≡ Ok s → IsState s
unfolding outcome_after
accepted-after before [] s sound good =
    ended-state _ _ _ _ s sound (at-line problem_fault (length before + 1) (ended (facts_of before)) s good)
accepted-after before (line ∷ more) s sound good =
    let first = at-line-then problem_fault (length before + 1) (judged (facts_of before) line) (problem_after (before ++ line ∷ []) more) s good in
    accepted-after (before ++ line ∷ []) more s
    (subst Sound (sym (facts_of-push before line)) (sound-line (facts_of before) line sound first.0)) first.1

-- A problem text that is accepted stands for a state.
pub accepted-is-state : (text : List ℕ) (s : NetworkState) → problem_of text ≡ Ok s → IsState s
accepted-is-state text s = accepted-after [] (map fields (lines text)) s sound-nothing
