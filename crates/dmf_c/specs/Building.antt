-- A network that is built of arrays.
-- Public: a public contract says no more than this.
use Rattle.std.specs.Prelude.{ℕ, ◌≡◌, ◌+◌, ◌⊎◌, List, ◌∷◌, Option, Some, None, Result, Ok, Err, Bool, ◌^◌, ◌&&◌, not, length, nat_eq, nat_le, MatchBool}
use Rattle.dmf_node.specs.Node.{is_node}
use Rattle.dmf_state.specs.declared.fault.ArcFault.{ArcFault}
use Rattle.dmf_state.specs.declared.fault.ArcFault.TheVariants.{NoSuchNode, TooManyArcs, SumTooLarge}
use Rattle.dmf_state.specs.Arc.{open_arc}
use Rattle.dmf_state.specs.ArcFault.{arc_fault}
use Rattle.dmf_state.specs.NetworkState.{NetworkState, without_arcs, with_idle_arc}
use Rattle.dmf_history.specs.Timeline.{Timeline, start}
use Rattle.dmf_c.specs.Status.{DMF_OK, DMF_NO_MEMORY, DMF_NO_SUCH_NODE, DMF_TOO_MANY_ARCS, DMF_SUM_TOO_LARGE, DMF_BAD_LENGTH, DMF_BAD_NUMBER, DMF_MAX_PAST}

-- the number of an arc's fault
abbrev pub fault_code : ArcFault → ℕ
fault_code NoSuchNode = DMF_NO_SUCH_NODE
fault_code TooManyArcs = DMF_TOO_MANY_ARCS
fault_code SumTooLarge = DMF_SUM_TOO_LARGE

-- an arc that is refused: its index, and why
pub record RefusedArc : Type 0 where
  pub index : ℕ
  pub fault : ArcFault

-- this fault at this index, or what comes after
abbrev pub or_fault : Option ArcFault → ℕ → Result NetworkState RefusedArc → Result NetworkState RefusedArc
or_fault None i rest = rest
or_fault (Some fault) i rest = Err (record { index = i; fault = fault })

-- The state with these arcs appended, one after another; or the first arc that is refused, its index counted on from `i`.
abbrev pub built : ℕ → NetworkState → List ℕ → List ℕ → List ℕ → Result NetworkState RefusedArc
built i s (tail ∷ tails) (head ∷ heads) (cap ∷ caps) =
    or_fault (arc_fault s.network tail head cap) i (built (i + 1) (with_idle_arc s (open_arc tail head cap)) tails heads caps)
built i s tails heads caps = Ok s

-- the network has from 2 to 2^24 nodes, and its source and its sink are two of them
abbrev pub has_terminals : ℕ → ℕ → ℕ → Bool
has_terminals nodes source sink =
    nat_le 2 nodes && nat_le nodes (2 ^ 24) && is_node nodes source && is_node nodes sink && not (nat_eq source sink)

-- The answer about a network that has been built: its session, with the index unchanged, or the arc that is refused.
abbrev pub OpensBuilt : ℕ → Result NetworkState RefusedArc → ℕ → Option Timeline → ℕ → ℕ → Type 0
OpensBuilt past (Ok s) code session index told = (code ≡ DMF_OK) × (session ≡ Some (start past s)) × (told ≡ index)
OpensBuilt past (Err arc) code session index told = (code ≡ fault_code arc.fault) × (told ≡ arc.index)

-- The answer to who opens a session on the network of these arrays: that they are not of one length, that a number is out of range, that
-- memory was refused, or what the arcs make. `index` and `told` are what stands
-- at `bad_arc` before and after the call.
abbrev pub Opens : ℕ → ℕ → ℕ → List ℕ → List ℕ → List ℕ → ℕ → ℕ → Option Timeline → ℕ → ℕ → Type 0
Opens nodes source sink tails heads caps past code session index told =
    MatchBool (nat_eq (length heads) (length tails) && nat_eq (length caps) (length tails))
    (MatchBool (has_terminals nodes source sink && nat_le past DMF_MAX_PAST)
    ((code ≡ DMF_NO_MEMORY) ⊎ OpensBuilt past (built 0 (without_arcs nodes source sink) tails heads caps) code session index told)
    ((code ≡ DMF_BAD_NUMBER) × (told ≡ 0)))
    ((code ≡ DMF_BAD_LENGTH) × (told ≡ 0))
