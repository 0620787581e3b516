-- Flow that is sent along a path step by step, and taken back.
-- Private: only contracts inside the crate and proofs use this.
use Rattle.std.specs.Prelude.{ℕ, zero, suc, ◌≡◌, ◌≤◌, true, false, List, slice_index_or, slice_set}
use Rattle.dmf_state.specs.Flow.{flow_on}
use Rattle.dmf_state.specs.Network.{Network, arc_number, has_arc}
use Rattle.dmf_vital.specs.declared.along.Carried.{Carried}
use Rattle.dmf_vital.specs.declared.exits.Exits.{Exits}
use Rattle.dmf_vital.specs.declared.hop.Hop.{Hop}
use Rattle.dmf_vital.specs.Exits.{is_barred}
use Rattle.dmf_vital.specs.Hop.{from_of, room_of}

-- what a read past the last gives
abbrev pub nothing_carried : Carried
nothing_carried = record { index = 0; flow = 0 }

-- the flows once the first of these arcs, as many as the number says, carry again what they carried before, the last change first
unfoldable pub taken_back : List Carried → ℕ → List ℕ → List ℕ
taken_back before zero flows = flows
taken_back before (suc k) flows =
    taken_back before k (slice_set flows (slice_index_or before k nothing_carried).index (slice_index_or before k nothing_carried).flow)

-- Taking back gives these flows.
pub record IsTakenBack (before : List Carried) (count : ℕ) (now first : List ℕ) : Type 0 where
  pub is : taken_back before count now ≡ first

-- The step leads from node `at`, over an arc that is not barred, and has room for this amount.
pub record GoesOn (n : Network) (e : Exits) (at : ℕ) (hop : Hop) (amount : ℕ) (flows : List ℕ) : Type 0 where
  pub is_there : has_arc n hop.arc ≡ true
  pub other : is_barred n e hop.arc ≡ false
  pub from : from_of hop.against (arc_number n hop.arc) ≡ at
  pub room : amount ≤ room_of hop.against (arc_number n hop.arc) (flow_on flows hop.arc)

-- what a read past the last step gives
abbrev pub no_step : Hop
no_step = record { arc = 0; against = false }
