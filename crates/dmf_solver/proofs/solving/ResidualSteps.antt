-- Each residual step of a flow leads along an arc that can carry more flow, or against an arc that carries flow.
use Rattle.std.proofs.Common.{ℕ, ◌≡◌, ◌+◌, ◌*◌, ◌<◌, ◌≤◌, List, ◌++◌, length, get_or, ltb, sym, subst, refl, ◌-◌}
use Rattle.std.proofs.Common.{arith, ⊎_elim}
use Rattle.std.specs.List.{Contains, All}
use Rattle.std.proofs.lemmas.Bool.{ltb-true, lt-ltb}
use Rattle.std.proofs.lemmas.List.Elements.{Contains-get_or, Contains-append_cases, Contains-append_left, Contains-append_right}
use Rattle.dmf_state.specs.declared.arc.Arc.{Arc}
use Rattle.dmf_path.specs.Step.{Step}
use Rattle.dmf_node.specs.Node.{IsNode}
use Rattle.dmf_state.specs.Arc.{IsArc}
use Rattle.dmf_path.specs.Steps.{IsStep, AreSteps}
use Rattle.dmf_solver.specs.Residual.{forward_step, backward_step, residual_from, residual_steps}
use Rattle.dmf_state.specs.Arc.{no_arc}
use Rattle.dmf_solver.proofs.pairs.ByArc.{ByArc, step-at, optional-each, optional-has, IsBefore, optional-ascends, ascending-append, ascending-by_arc}

-- The step leads along the arc at index `k`, where the first arc is number `j`.
pub record LeadsAlong (j : ℕ) (arcs : List Arc) (k : ℕ) (s : Step) : Type 0 where
  pub within : k < length arcs
  pub rank_is : s.rank ≡ 2 * (j + k)
  pub tail : s.from ≡ (get_or arcs k no_arc).tail
  pub head : s.to ≡ (get_or arcs k no_arc).head

-- The step leads against the arc at index `k`, where the first arc is number `j`.
pub record LeadsAgainst (j : ℕ) (arcs : List Arc) (k : ℕ) (s : Step) : Type 0 where
  pub within : k < length arcs
  pub rank_is : s.rank ≡ 2 * (j + k) + 1
  pub head : s.from ≡ (get_or arcs k no_arc).head
  pub tail : s.to ≡ (get_or arcs k no_arc).tail

-- The step leads along an arc, and its room is the arc's residual capacity; or against an arc, and its room is the arc's flow.
pub data IsResidual (j : ℕ) (arcs : List Arc) (flows : List ℕ) (s : Step) : Type 0 where
  along : (k : ℕ) → LeadsAlong j arcs k s → s.room + get_or flows k 0 ≡ (get_or arcs k no_arc).cap → 0 < s.room → IsResidual j arcs flows s
  against : (k : ℕ) → LeadsAgainst j arcs k s → s.room ≡ get_or flows k 0 → 0 < s.room → IsResidual j arcs flows s

-- the residual steps, arc by arc
abbrev pub by_residual : ByArc
by_residual = record {
  own = λ j arc flow. forward_step j arc flow ++ backward_step j arc flow;
  all = residual_from;
  none = λ j flows. refl;
  short = λ j arc arcs. refl;
  more = λ j arc arcs flow flows. refl;
}

module _ (j : ℕ) (arc : Arc) (flow : ℕ) where
  abbrev ahead : Step
  ahead = record { from = arc.tail; to = arc.head; rank = 2 * j; room = arc.cap - flow }

  abbrev behind : Step
  behind = record { from = arc.head; to = arc.tail; rank = 2 * j + 1; room = flow }

  -- What holds of the step along an arc, and of that against it, holds of each step of the arc.
  pub residual-each : (P : Step → Type 0) (s : Step) → (flow < arc.cap → P ahead) → (0 < flow → P behind)
      → Contains (forward_step j arc flow ++ backward_step j arc flow) s → P s
  residual-each P s first second c =
      ⊎_elim
      (optional-each P (ltb flow arc.cap) ahead s (λ more. first (ltb-true flow arc.cap more)))
      (optional-each P (ltb 0 flow) behind s (λ some. second (ltb-true 0 flow some)))
      (Contains-append_cases (forward_step j arc flow) (backward_step j arc flow) s c)

  -- An arc that can carry more flow has the step along it,
  pub residual-ahead : flow < arc.cap → Contains (forward_step j arc flow ++ backward_step j arc flow) ahead
  residual-ahead more =
      Contains-append_left (forward_step j arc flow) (backward_step j arc flow) ahead (optional-has (ltb flow arc.cap) ahead (lt-ltb flow arc.cap more))

  -- and one that carries flow the step against it.
  pub residual-behind : 0 < flow → Contains (forward_step j arc flow ++ backward_step j arc flow) behind
  residual-behind some = Contains-append_right (forward_step j arc flow) (backward_step j arc flow) behind (optional-has (ltb 0 flow) behind (lt-ltb 0 flow some))

-- each step of the list is of this kind
pub residual-contained : (j : ℕ) (arcs : List Arc) (flows : List ℕ) (s : Step) → Contains (residual_from j arcs flows) s → IsResidual j arcs flows s
residual-contained j arcs flows s c =
    let at = step-at by_residual j arcs flows s c in
    residual-each (j + at.index) (get_or arcs at.index no_arc) (get_or flows at.index 0) (IsResidual j arcs flows) s
    (λ more. along at.index (record { within = at.within; rank_is = refl; tail = refl; head = refl }) (omega arith) (omega arith))
    (λ some. against at.index (record { within = at.within; rank_is = refl; head = refl; tail = refl }) refl some)
    at.has

-- both ends of a residual step are nodes
pub IsStep-residual : (nodes j : ℕ) (arcs : List Arc) (flows : List ℕ) (s : Step) → All (IsArc nodes) arcs → IsResidual j arcs flows s → IsStep nodes s
IsStep-residual nodes j arcs flows s all (along k leads room has) =
    let arc = all k no_arc leads.within in
    (subst (IsNode nodes) (sym leads.tail) arc.tail, subst (IsNode nodes) (sym leads.head) arc.head)
IsStep-residual nodes j arcs flows s all (against k leads room has) =
    let arc = all k no_arc leads.within in
    (subst (IsNode nodes) (sym leads.head) arc.head, subst (IsNode nodes) (sym leads.tail) arc.tail)

-- The residual steps are steps between nodes in the order of their ranks.
pub AreSteps-residual : (nodes : ℕ) (arcs : List Arc) (flows : List ℕ) → All (IsArc nodes) arcs → AreSteps nodes (residual_steps arcs flows)
AreSteps-residual nodes arcs flows all = record {
  between = λ k d h. IsStep-residual nodes 1 arcs flows _ all (residual-contained 1 arcs flows _ (Contains-get_or (residual_steps arcs flows) k d h));
  ascending = ascending-by_arc by_residual
      (λ j arc flow. ascending-append (forward_step j arc flow) (backward_step j arc flow)
      (optional-ascends (ltb flow arc.cap) (ahead j arc flow)) (optional-ascends (ltb 0 flow) (behind j arc flow))
      (λ s t. optional-each (λ u. Contains (backward_step j arc flow) t → IsBefore u t) (ltb flow arc.cap) (ahead j arc flow) s
      (λ _. optional-each (IsBefore (ahead j arc flow)) (ltb 0 flow) (behind j arc flow) t (λ _. omega arith))))
      (λ j arc flow s. residual-each j arc flow (λ t. (2 * j ≤ t.rank) × (t.rank < 2 * j + 2)) s
      (λ _. (omega arith, omega arith)) (λ _. (omega arith, omega arith)))
      1 arcs flows;
}
