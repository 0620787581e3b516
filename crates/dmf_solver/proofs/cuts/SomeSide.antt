-- Every network has a smallest side, and a flow is greatest or some flow has a larger value.
use Rattle.std.proofs.Common.{ℕ, zero, suc, ◌≡◌, ◌+◌, ◌-◌, List, [], ◌∷◌, ◌++◌, length, get_or, Bool, true, false, refl, ap, sym, ◌∙◌, subst, arith, ⊎_elim}
use Rattle.std.proofs.Common.{inl, inr}
use Rattle.std.proofs.lemmas.Bool.{both_ways, cases_eq}
use Rattle.std.proofs.lemmas.List.{get_or_append_left, get_or_push, length_push}
use Rattle.dmf_node.specs.Node.{IsNode}
use Rattle.dmf_state.specs.Network.{Network, IsNetwork}
use Rattle.dmf_state.specs.Flow.{IsFlow}
use Rattle.dmf_state.specs.NetworkState.{IsState}
use Rattle.dmf_state.specs.Cut.{cut_capacity}
use Rattle.dmf_state.specs.Side.{CutSide, IsSmallestSide, has_node}
use Rattle.dmf_path.specs.Path.{HasNoPath}
use Rattle.dmf_solver.specs.Residual.{residual_steps}
use Rattle.dmf_solver.specs.Change.{Solve}
use Rattle.dmf_solver.specs.Laws.{HasSmallestSide, IsGreatestOrSurpassed, SolvedIsGreatest}
use Rattle.dmf_state.proofs.Ascending.{AreMarkedUpTo, marked-skip, marked-push}
use Rattle.dmf_solver.proofs.cuts.Reached.{is_reached, AreReachedFrom-is_reached}
use Rattle.dmf_solver.proofs.cuts.MaxFlowMinCut.{AreReached, reached-capacity}
use Rattle.dmf_solver.proofs.cuts.SmallestSide.{IsSmallestSide-reached}
use Rattle.dmf_solver.proofs.solving.ResidualSteps.{AreSteps-residual}
use Rattle.dmf_path.proofs.paths.SomeLeast.{SomeLeast, least-or-none}
use Rattle.dmf_solver.proofs.cuts.LargerFlow.{surpassed, no_path-from_greatest}
use Rattle.dmf_solver.proofs.cuts.GreatestFlow.{some-greatest_flow, greatest-from_no_path}
use Rattle.dmf_solver.proofs.changes.OneOutcome.{one-outcome}
use Rattle.dmf_solver.proofs.changes.SomeOutcome.{some-outcome}

-- ---- the list of the nodes of a set

-- for each of the first `count` nodes, whether the set has the node
abbrev marks_of : (ℕ → Bool) → ℕ → List Bool
marks_of has zero = []
marks_of has (suc count) = marks_of has count ++ has (suc count) ∷ []

marks-long : (has : ℕ → Bool) (count : ℕ) → length (marks_of has count) ≡ count
marks-long has zero = refl
marks-long has (suc count) = omega (arith, length_push (marks_of has count) (has (suc count)), marks-long has count)

-- The mark of a node says whether the set has the node.
mark-is : (has : ℕ → Bool) (count v : ℕ) → IsNode count v → get_or (marks_of has count) (v - 1) false ≡ has v
mark-is has zero v node = absurd (omega (arith, node.from_one, node.to_last))
mark-is has (suc count) v node =
    let long = marks-long has count in
    ⊎_elim
    (λ (last : v ≡ suc count). get_or_push (marks_of has count) (has (suc count)) false (v - 1) (omega (arith, long, last)) ∙ ap has (sym last))
    (λ earlier. get_or_append_left (marks_of has count) (has (suc count) ∷ []) false (v - 1) (omega (arith, long, earlier, node.from_one, node.to_last))
    ∙ mark-is has count v (record { from_one = node.from_one; to_last = omega (arith, earlier, node.to_last) }))
    (cases_eq v (suc count))

-- The ascending list of the marked ones among the first nodes.
record Listed (marks : List Bool) (count : ℕ) : Type 0 where
  ids : List ℕ
  are : AreMarkedUpTo marks count ids

-- none of no nodes
none-listed : (marks : List Bool) → Listed marks 0
none-listed marks = record {
  ids = [];
  are = record {
    ascending = λ k h. absurd (omega (arith, h));
    marked = λ v. (λ has. absurd (both_ways false refl has), λ is. absurd (omega (arith, is.0.from_one, is.0.to_last)));
  };
}

-- one more node
next-listed : (marks : List Bool) (count : ℕ) (mark : Bool) → get_or marks count false ≡ mark → Listed marks count → Listed marks (count + 1)
next-listed marks count true is before = record { ids = before.ids ++ (count + 1) ∷ []; are = marked-push marks count before.ids is before.are }
next-listed marks count false is before = record { ids = before.ids; are = marked-skip marks count before.ids is before.are }

listed : (marks : List Bool) (count : ℕ) → Listed marks count
listed marks zero = none-listed marks
listed marks (suc count) =
    let one_more : count + 1 ≡ suc count = omega arith in
    subst (λ k. Listed marks k) one_more (next-listed marks count (get_or marks count false) refl (listed marks count))

-- ---- the smallest side

-- If no path leads to the sink, the list of the reached nodes is the smallest side.
some-side_of : (n : Network) (flows : List ℕ) → IsNetwork n → IsFlow n flows → HasNoPath (residual_steps n.arcs flows) n.source n.sink
    → (side : CutSide) × IsSmallestSide n side
some-side_of n flows network flow none =
    let steps = residual_steps n.arcs flows in
    let has : ℕ → Bool = is_reached steps n.nodes n.source in
    let r = AreReachedFrom-is_reached steps n.nodes n.source in
    let list : Listed (marks_of has n.nodes) n.nodes = listed (marks_of has n.nodes) n.nodes in
    let reached : AreReached n flows (has_node list.ids) = record {
      of_nodes = λ v inside. ((list.are.marked v).0 inside).0;
      reached = λ v inside.
          let is = (list.are.marked v).0 inside in
          r.reached v (sym (mark-is has n.nodes v is.0) ∙ is.1);
      every = λ v node path leads. (list.are.marked v).1 (node, mark-is has n.nodes v node ∙ r.every v node path leads);
    } in
    let capacity = cut_capacity n.arcs (has_node list.ids) in (
      record { ids = list.ids; capacity = capacity },
      IsSmallestSide-reached n flows list.ids capacity network flow none reached list.are.ascending
          (reached-capacity n flows (has_node list.ids) network flow none reached),
    )

-- A network has a smallest side, the one of its maximum flow.
pub some-smallest_side : HasSmallestSide
some-smallest_side n network =
    let greatest = some-greatest_flow n network in
    some-side_of n greatest.0 network greatest.1.flow (no_path-from_greatest n greatest.0 network greatest.1)

-- ---- maximum flows

-- A flow is greatest, or some flow has a larger value.
pub greatest-or-surpassed : IsGreatestOrSurpassed
greatest-or-surpassed n flows network flow = ⊎_elim
    (λ (none : HasNoPath (residual_steps n.arcs flows) n.source n.sink). inl (greatest-from_no_path n flows network flow none))
    (λ (found : SomeLeast (residual_steps n.arcs flows) n.source n.sink). inr (surpassed n flows found.path network flow found.least))
    (least-or-none (residual_steps n.arcs flows) (AreSteps-residual n.nodes n.arcs flows network.arcs).ascending n.source n.sink)

-- Solving a state makes a maximum flow: it has one outcome, and that is a state.
pub solved-greatest : SolvedIsGreatest
solved-greatest s t state becomes =
    let outcome = some-outcome s Solve state refl in
    let after : IsState t = subst IsState (sym (one-outcome s t outcome.after Solve state becomes outcome.becomes)) outcome.state in
    let none = subst (λ n. HasNoPath (residual_steps n.arcs t.flows) n.source n.sink) (sym becomes.0) becomes.1.no_path in
    greatest-from_no_path t.network t.flows after.network after.flow none
