-- Maximum flows, as the textbooks have them (Ahuja, Magnanti and Orlin, Network Flows, section 1.2).
-- Public: a public contract says no more than this.
use Rattle.std.specs.Prelude.{ℕ, List, ◌≤ℤ◌, ◌<ℤ◌}
use Rattle.dmf_state.specs.Network.{Network}
use Rattle.dmf_state.specs.Flow.{IsFlow, flow_value}

-- No flow of the network has a larger value; flows of negative value count too.
pub record IsGreatest (n : Network) (flows : List ℕ) : Type 0 where
  pub flow : IsFlow n flows
  pub none_larger : (other : List ℕ) → IsFlow n other → flow_value n other ≤ℤ flow_value n flows

-- Some flow of the network has a larger value.
pub record IsSurpassed (n : Network) (flows : List ℕ) : Type 0 where
  pub larger : List ℕ
  pub flow : IsFlow n larger
  pub exceeds : flow_value n flows <ℤ flow_value n larger
