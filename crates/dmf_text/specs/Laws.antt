-- What the contracts of the laws say of texts.
-- Public: a public contract says no more than this.
use Rattle.std.specs.Prelude.{ℕ, ◌≡◌, List, Ok}
use Rattle.dmf_state.specs.NetworkState.{NetworkState, IsState}
use Rattle.dmf_text.specs.Problem.{problem_of}

-- If a problem text stands for something, that is a state: a network with a flow on it.
abbrev pub AcceptedIsState : Type 0
AcceptedIsState = (text : List ℕ) (s : NetworkState) → problem_of text ≡ Ok s → IsState s
