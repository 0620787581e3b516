-- What a `State` is to its callers: a network with a flow on it.
-- Public: a public contract says no more than this.
use Rattle.std.specs.Prelude.{ℕ, List, [], ◌∷◌, ◌++◌, pos, ◌≤ℤ◌}
use Rattle.dmf_state.specs.declared.arc.Arc.{Arc}
use Rattle.dmf_state.specs.Network.{Network, IsNetwork}
use Rattle.dmf_state.specs.Flow.{IsFlow, flow_value}

-- a network, and one number for each of its arcs
pub record NetworkState : Type 0 where
  pub network : Network
  pub flows : List ℕ

-- It is a state if the numbers are a flow whose value is not negative.
pub record IsState (s : NetworkState) : Type 0 where
  pub network : IsNetwork s.network
  pub flow : IsFlow s.network s.flows
  pub value_from_zero : pos 0 ≤ℤ flow_value s.network s.flows

-- the state without arcs
abbrev pub without_arcs : ℕ → ℕ → ℕ → NetworkState
without_arcs nodes source sink =
    record { network = record { nodes = nodes; source = source; sink = sink; arcs = [] }; flows = [] }

-- the state with these flows in place of its own
abbrev pub with_flows : NetworkState → List ℕ → NetworkState
with_flows s flows = record { network = s.network; flows = flows }

-- the network with one more arc, the last
abbrev pub with_last_arc : Network → Arc → Network
with_last_arc n arc =
    record { nodes = n.nodes; source = n.source; sink = n.sink; arcs = n.arcs ++ arc ∷ [] }

-- the state with one more arc, the last, which carries no flow
abbrev pub with_idle_arc : NetworkState → Arc → NetworkState
with_idle_arc s arc = record { network = with_last_arc s.network arc; flows = s.flows ++ 0 ∷ [] }
