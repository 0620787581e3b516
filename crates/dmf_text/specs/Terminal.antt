-- The terminals that node lines name.
-- Private: only contracts inside the crate and proofs use this.
use Rattle.std.specs.Prelude.{ℕ, ◌≡◌, List, Ok, true, codes}
use Rattle.dmf_node.specs.Node.{is_node}
use Rattle.dmf_text.specs.declared.terminal.Terminal.{Terminal}
use Rattle.dmf_text.specs.declared.terminal.Terminal.TheVariants.{Source, Sink}
use Rattle.dmf_text.specs.Judging.{field, number_at}
use Rattle.dmf_text.specs.Problem.{node_named}

-- the letter of a terminal
abbrev pub letter_of : Terminal → List ℕ
letter_of Source = codes "s"
letter_of Sink = codes "t"

-- the node line names this terminal and node
pub record Names (nodes : ℕ) (behind : List (List ℕ)) (terminal : Terminal) (node : ℕ) : Type 0 where
  pub good : node_named nodes behind ≡ Ok node
  pub letter : field 1 behind ≡ letter_of terminal
  pub number : number_at 0 behind ≡ node
  pub range : is_node nodes node ≡ true
