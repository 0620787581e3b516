-- Why a network cannot take a new arc.
-- Public: a public contract says no more than this.
use Rattle.std.specs.Prelude.{ℕ, ◌+◌, ◌^◌, ◌&&◌, if◌then◌else◌, length, nat_lt, Option, Some, None}
use Rattle.dmf_state.specs.declared.fault.ArcFault.{ArcFault}
use Rattle.dmf_state.specs.declared.fault.ArcFault.TheVariants.{NoSuchNode, TooManyArcs, SumTooLarge}
use Rattle.dmf_state.specs.declared.fault.NetFault.{NetFault}
use Rattle.dmf_state.specs.declared.fault.NetFault.TheVariants as net
use Rattle.dmf_node.specs.Node.{is_node}
use Rattle.dmf_state.specs.Arc.{capacity_sum}
use Rattle.dmf_state.specs.Network.{Network}

-- why the network cannot take an arc from `tail` to `head` of this capacity: the first reason that holds
abbrev pub arc_fault : Network → ℕ → ℕ → ℕ → Option ArcFault
arc_fault n tail head cap =
    if is_node n.nodes tail && is_node n.nodes head then
    (if nat_lt (length n.arcs) (2 ^ 27) then
    (if nat_lt (capacity_sum n.arcs + cap) (2 ^ 64) then None else Some SumTooLarge)
    else Some TooManyArcs)
    else Some NoSuchNode

-- the same reason, as a fault of building a network
abbrev pub net_fault : ArcFault → NetFault
net_fault NoSuchNode = net.NoSuchNode
net_fault TooManyArcs = net.TooManyArcs
net_fault SumTooLarge = net.SumTooLarge
