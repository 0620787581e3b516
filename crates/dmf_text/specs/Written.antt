-- The bytes of written texts.
-- Public: a public contract says no more than this.
use Rattle.std.specs.Prelude.{ℕ, List, [], ◌∷◌, ◌++◌, not, codes, decimal, filter, length, map, nat_abs, replicate}
use Rattle.std.specs.List.{join_with_byte, flat_map, zip}
use Rattle.dmf_state.specs.declared.arc.Arc.{Arc}
use Rattle.dmf_state.specs.Arc.{open_count}
use Rattle.dmf_state.specs.Flow.{flow_value}
use Rattle.dmf_state.specs.Network.{Network}
use Rattle.dmf_state.specs.NetworkState.{NetworkState}
use Rattle.dmf_state.specs.Side.{CutSide}
use Rattle.dmf_text.specs.Judging.{Line}

-- a line: its fields with one space between each two, and a line feed
unfoldable pub written_line : Line → List ℕ
written_line line = join_with_byte 32 line ++ 10 ∷ []

-- lines, one after the other
unfoldable pub written : List Line → List ℕ
written lines = flat_map written_line lines

-- the arcs that are not closed
abbrev pub open_arcs : List Arc → List Arc
open_arcs arcs = filter (λ arc. not arc.closed) arcs

-- `a TAIL HEAD CAP`
abbrev pub arc_fields : Arc → Line
arc_fields arc = codes "a" ∷ decimal arc.tail ∷ decimal arc.head ∷ decimal arc.cap ∷ []

-- the lines of the arcs that are open
abbrev pub arcs_text : List Arc → List ℕ
arcs_text arcs = written (map arc_fields (open_arcs arcs))

-- the problem of a network: the problem line, the node lines, and its open arcs in order
abbrev pub problem_lines : Network → List Line
problem_lines n =
    (codes "p" ∷ codes "max" ∷ decimal n.nodes ∷ decimal (open_count n.arcs) ∷ [])
    ∷ (codes "n" ∷ decimal n.source ∷ codes "s" ∷ [])
    ∷ (codes "n" ∷ decimal n.sink ∷ codes "t" ∷ [])
    ∷ map arc_fields (open_arcs n.arcs)

abbrev pub problem_text : Network → List ℕ
problem_text n = written (problem_lines n)

-- the network without its closed arcs
abbrev pub open_network : Network → Network
open_network n = record { nodes = n.nodes; source = n.source; sink = n.sink; arcs = open_arcs n.arcs }

-- a network without flow
abbrev pub idle_state : Network → NetworkState
idle_state n = record { network = n; flows = replicate (length n.arcs) 0 }

-- the open arcs of a list of arcs with their flows
abbrev pub open_flows : List (Arc × ℕ) → List (Arc × ℕ)
open_flows flows = filter (λ p. not p.0.closed) flows

-- `f TAIL HEAD FLOW`
abbrev pub flow_fields : Arc × ℕ → Line
flow_fields p = codes "f" ∷ decimal p.0.tail ∷ decimal p.0.head ∷ decimal p.1 ∷ []

-- the lines of the open arcs with their flows
abbrev pub flows_text : List (Arc × ℕ) → List ℕ
flows_text flows = written (map flow_fields (open_flows flows))

-- the solution of a state: the value of its flow, which is not negative, and then the flow on each open arc in order, also where it is
-- 0
abbrev pub solution_lines : NetworkState → List Line
solution_lines s =
    (codes "s" ∷ decimal (nat_abs (flow_value s.network s.flows)) ∷ [])
    ∷ map flow_fields (open_flows (zip s.network.arcs s.flows))

abbrev pub solution_text : NetworkState → List ℕ
solution_text s = written (solution_lines s)

-- `c side ID`
abbrev pub side_fields : ℕ → Line
side_fields id = codes "c" ∷ codes "side" ∷ decimal id ∷ []

-- a line for each of these nodes
abbrev pub nodes_text : List ℕ → List ℕ
nodes_text ids = written (map side_fields ids)

-- a cut: its capacity, and then the nodes of its side in order
abbrev pub cut_lines : CutSide → List Line
cut_lines side = (codes "c" ∷ codes "cut" ∷ decimal side.capacity ∷ []) ∷ map side_fields side.ids

abbrev pub cut_text : CutSide → List ℕ
cut_text side = written (cut_lines side)
