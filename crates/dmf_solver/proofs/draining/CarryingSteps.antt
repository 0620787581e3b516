-- Each carrying step of a flow leads along an arc that carries flow, or is the return link.
use Rattle.std.proofs.Common.{ℕ, ◌≡◌, ◌+◌, ◌*◌, ◌<◌, ◌≤◌, List, length, get_or, ◌-◌, true, ltb, sym, subst}
use Rattle.std.proofs.Common.{refl, arith, ⊎_elim, pos, ◌≤ℤ◌}
use Rattle.std.specs.List.{Contains}
use Rattle.std.proofs.lemmas.Bool.{ltb-true, lt-ltb, cases_lt}
use Rattle.std.proofs.lemmas.List.{get_or_past}
use Rattle.std.proofs.lemmas.Int.{ints}
use Rattle.std.proofs.lemmas.List.Elements.{Contains-get_or, Contains-append_cases, Contains-append_left, Contains-append_right}
use Rattle.dmf_state.specs.declared.arc.Arc.{Arc}
use Rattle.dmf_path.specs.Step.{Step}
use Rattle.dmf_node.specs.Node.{IsNode}
use Rattle.dmf_state.specs.Arc.{no_arc}
use Rattle.dmf_state.specs.Network.{Network, IsNetwork, arc_number, has_arc}
use Rattle.dmf_state.specs.Flow.{flow_on, IsFlow, flow_value}
use Rattle.dmf_path.specs.Steps.{IsStep, AreSteps}
use Rattle.dmf_solver.specs.Drain.{carried, carried_from, value_or_zero, return_link, carrying_steps}
use Rattle.dmf_state.proofs.ChangedArc.{has_arc-within}
use Rattle.dmf_solver.proofs.pairs.ByArc.{ByArc, step-at, has-step, optional-each, optional-has, optional-ascends, ascending-append, ascending-by_arc}
use Rattle.dmf_solver.proofs.solving.ResidualSteps.{LeadsAlong}
use Rattle.dmf_solver.proofs.draining.Carrying.{CarryFlow, path_back-not_none}
use Rattle.dmf_path.proofs.paths.SomeLeast.{SomePath, SomeLeast, path-or-none, least-path}

-- The step leads along an arc of the list, whose first arc is number `j`, and its room is the flow on the arc.
pub record CarriesAlong (j : ℕ) (arcs : List Arc) (flows : List ℕ) (s : Step) : Type 0 where
  pub index : ℕ
  pub leads : LeadsAlong j arcs index s
  pub room_is : s.room ≡ get_or flows index 0
  pub has_room : 0 < s.room

-- The step is the return link.
pub record IsReturnLink (n : Network) (flows : List ℕ) (s : Step) : Type 0 where
  pub from_sink : s.from ≡ n.sink
  pub to_source : s.to ≡ n.source
  pub rank_is : s.rank ≡ 2 * length n.arcs + 2
  pub room_is : s.room ≡ value_or_zero n flows
  pub has_room : 0 < s.room

-- The step leads along an arc that carries flow, or is the return link.
pub data IsCarrying (n : Network) (flows : List ℕ) (s : Step) : Type 0 where
  along : CarriesAlong 1 n.arcs flows s → IsCarrying n flows s
  returns : IsReturnLink n flows s → IsCarrying n flows s

-- the steps along the arcs that carry flow, arc by arc
abbrev pub by_carried : ByArc
by_carried = record {
  own = carried;
  all = carried_from;
  none = λ j flows. refl;
  short = λ j arc arcs. refl;
  more = λ j arc arcs flow flows. refl;
}

-- the step along an arc, and the return link
abbrev along_arc : ℕ → Arc → ℕ → Step
along_arc j arc flow = record { from = arc.tail; to = arc.head; rank = 2 * j; room = flow }

abbrev link : Network → List ℕ → Step
link n flows = record { from = n.sink; to = n.source; rank = 2 * length n.arcs + 2; room = value_or_zero n flows }

-- What holds of the step of an arc holds of each of its steps,
pub carried-each : (P : Step → Type 0) (j : ℕ) (arc : Arc) (flow : ℕ) (s : Step)
    → (0 < flow → P (record { from = arc.tail; to = arc.head; rank = 2 * j; room = flow })) → Contains (carried j arc flow) s → P s
carried-each P j arc flow s holds c = optional-each P (ltb 0 flow) (along_arc j arc flow) s (λ some. holds (ltb-true 0 flow some)) c

-- and each step of the list is of this kind.
carried-contained : (j : ℕ) (arcs : List Arc) (flows : List ℕ) (s : Step) → Contains (carried_from j arcs flows) s → CarriesAlong j arcs flows s
carried-contained j arcs flows s c =
    let at = step-at by_carried j arcs flows s c in
    carried-each (CarriesAlong j arcs flows) (j + at.index) (get_or arcs at.index no_arc) (get_or flows at.index 0) s
    (λ some. record {
      index = at.index;
      leads = record { within = at.within; rank_is = refl; tail = refl; head = refl };
      room_is = refl;
      has_room = some;
    })
    at.has

link-contained : (n : Network) (flows : List ℕ) (s : Step) → Contains (return_link n flows) s → IsReturnLink n flows s
link-contained n flows s c =
    optional-each (IsReturnLink n flows) (ltb 0 (value_or_zero n flows)) (link n flows) s
    (λ some. record { from_sink = refl; to_source = refl; rank_is = refl; room_is = refl; has_room = ltb-true 0 (value_or_zero n flows) some }) c

-- Each carrying step leads along an arc that carries flow, or is the return link.
pub carrying-contained : (n : Network) (flows : List ℕ) (s : Step) → Contains (carrying_steps n flows) s → IsCarrying n flows s
carrying-contained n flows s c =
    ⊎_elim
    (λ (own : Contains (carried_from 1 n.arcs flows) s). along (carried-contained 1 n.arcs flows s own))
    (λ (last : Contains (return_link n flows) s). returns (link-contained n flows s last))
    (Contains-append_cases (carried_from 1 n.arcs flows) (return_link n flows) s c)

-- Each carrying step has room.
pub carrying-room : (n : Network) (flows : List ℕ) (s : Step) → IsCarrying n flows s → 0 < s.room
carrying-room n flows s (along c) = c.has_room
carrying-room n flows s (returns c) = c.has_room

-- both ends of a carrying step are nodes
IsStep-carrying : (n : Network) (flows : List ℕ) (s : Step) → IsNetwork n → IsCarrying n flows s → IsStep n.nodes s
IsStep-carrying n flows s network (along c) =
    let arc = network.arcs c.index no_arc c.leads.within in
    (subst (IsNode n.nodes) (sym c.leads.tail) arc.tail, subst (IsNode n.nodes) (sym c.leads.head) arc.head)
IsStep-carrying n flows s network (returns c) =
    (subst (IsNode n.nodes) (sym c.from_sink) network.sink, subst (IsNode n.nodes) (sym c.to_source) network.source)

-- The carrying steps are steps between nodes in the order of their ranks.
pub AreSteps-carrying : (n : Network) (flows : List ℕ) → IsNetwork n → AreSteps n.nodes (carrying_steps n flows)
AreSteps-carrying n flows network = record {
  between = λ k d h. IsStep-carrying n flows _ network (carrying-contained n flows _ (Contains-get_or (carrying_steps n flows) k d h));
  ascending = ascending-append (carried_from 1 n.arcs flows) (return_link n flows)
      (ascending-by_arc by_carried (λ j arc flow. optional-ascends (ltb 0 flow) (along_arc j arc flow))
      (λ j arc flow s. carried-each (λ t. (2 * j ≤ t.rank) × (t.rank < 2 * j + 2)) j arc flow s (λ _. (omega arith, omega arith)))
      1 n.arcs flows)
      (optional-ascends (ltb 0 (value_or_zero n flows)) (link n flows))
      (λ s t own last.
      let c = carried-contained 1 n.arcs flows s own in
      let r = link-contained n flows t last in
      omega (arith, c.leads.rank_is, c.leads.within, r.rank_is));
}

-- The step of an arc that carries flow is a carrying step.
pub carrying-has : (n : Network) (flows : List ℕ) (k : ℕ) → k < length n.arcs → 0 < get_or flows k 0
    → (s : Step) × Contains (carrying_steps n flows) s × LeadsAlong 1 n.arcs k s
carrying-has n flows k within some =
    let s = along_arc (1 + k) (get_or n.arcs k no_arc) (get_or flows k 0) in
    let long : k < length flows = ⊎_elim (λ (inside : k < length flows). inside)
    (λ (past : length flows ≤ k). omega (arith, some, get_or_past flows k 0 past)) (cases_lt k (length flows)) in (
      s,
      Contains-append_left (carried_from 1 n.arcs flows) (return_link n flows) s
          (has-step by_carried 1 n.arcs flows s k within long (optional-has (ltb 0 (get_or flows k 0)) s (lt-ltb 0 (get_or flows k 0) some))),
      record { within = within; rank_is = refl; tail = refl; head = refl },
    )

-- The carrying steps carry the whole flow.
pub CarryFlow-carrying : (n : Network) (flows : List ℕ) → IsNetwork n → CarryFlow n flows (carrying_steps n flows)
CarryFlow-carrying n flows network = record {
  arrive = λ s has. (IsStep-carrying n flows s network (carrying-contained n flows s has)).1;
  along = λ k within some.
      let found = carrying-has n flows k within some in
      (found.0, found.1, found.2.tail, found.2.head);
  returns = λ positive.
      let some : 0 < value_or_zero n flows = omega (arith, ints, positive) in (
        link n flows,
        Contains-append_right (carried_from 1 n.arcs flows) (return_link n flows) (link n flows)
            (optional-has (ltb 0 (value_or_zero n flows)) (link n flows) (lt-ltb 0 (value_or_zero n flows) some)),
        refl,
        refl,
      );
}

-- The flow on an arc comes back: a path of carrying steps leads from its head to its tail.
pub carrying-path : (n : Network) (flows : List ℕ) (j : ℕ) → IsNetwork n → IsFlow n flows → pos 0 ≤ℤ flow_value n flows → has_arc n j ≡ true
    → 0 < flow_on flows j → SomePath (carrying_steps n flows) (arc_number n j).head (arc_number n j).tail
carrying-path n flows j network flow from_zero has some =
    ⊎_elim
    (λ none. absurd (path_back-not_none n flows (carrying_steps n flows) (j - 1) network flow from_zero (CarryFlow-carrying n flows network)
    (has_arc-within n j has).1 some none))
    (λ found. found)
    (path-or-none (carrying_steps n flows) (arc_number n j).head (arc_number n j).tail)

-- So there is a least such path.
pub carrying-least : (n : Network) (flows : List ℕ) (j : ℕ) → IsNetwork n → IsFlow n flows → pos 0 ≤ℤ flow_value n flows → has_arc n j ≡ true
    → 0 < flow_on flows j → SomeLeast (carrying_steps n flows) (arc_number n j).head (arc_number n j).tail
carrying-least n flows j network flow from_zero has some =
    least-path (carrying_steps n flows) (AreSteps-carrying n flows network).ascending (arc_number n j).head (arc_number n j).tail
    (carrying-path n flows j network flow from_zero has some)
