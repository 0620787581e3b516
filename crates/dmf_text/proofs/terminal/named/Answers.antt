use Rattle.std.proofs.Common.{◌≡◌, ◌||◌, ◌∷◌, [], ℕ, List, true, false, Ok, Err, arith, codes, refl, sym, ◌∙◌}
use Rattle.std.proofs.lemmas.Bool.{and_from, and_left, and_right, le-leb, lt-leb}
use Rattle.std.specs.Str.{bytes_eq}
use Rattle.dmf_node.specs.Node.{is_node}
use Rattle.dmf_text.specs.declared.fault.ProblemFaultKind.TheVariants.{NotSourceOrSink, NodeOutOfRange}
use Rattle.dmf_text.specs.declared.terminal.Terminal.{Terminal}
use Rattle.dmf_text.specs.declared.terminal.Terminal.TheVariants.{Source, Sink}
use Rattle.dmf_text.specs.Number.{number_of}
use Rattle.dmf_text.specs.Judging.{◌>>◌, expect}
use Rattle.dmf_text.specs.Problem.{node_named}
use Rattle.dmf_text.specs.Terminal.{letter_of, Names}
use Rattle.dmf_text.proofs.terminal.named.Goals as goal
use Rattle.dmf_text.proofs.terminal.named.Goals.{then-node-lt1-via-then-node-lt1, then-node-lt1-via-else-node-lt1+then-node-from}

-- a node line of two fields, of which the first is this number
module _ (nodes : ℕ) (f g : List ℕ) (node : ℕ) (number : number_of f ≡ Ok node) where
  line-judged : node_named nodes (f ∷ g ∷ []) ≡ (expect (bytes_eq g (codes "s") || bytes_eq g (codes "t")) NotSourceOrSink >>
      (expect (is_node nodes node) NodeOutOfRange >> Ok node))
  unfolding node_named
  line-judged = rw number refl

  other-letter : bytes_eq g (codes "s") ≡ false → bytes_eq g (codes "t") ≡ false → node_named nodes (f ∷ g ∷ []) ≡ Err NotSourceOrSink
  other-letter not-s not-t = line-judged ∙ rw (not-s, not-t) refl

  out-of-range : (terminal : Terminal) → g ≡ letter_of terminal → is_node nodes node ≡ false → node_named nodes (f ∷ g ∷ []) ≡ Err NodeOutOfRange
  out-of-range Source letter no-node = line-judged ∙ rw (letter, no-node) refl
  out-of-range Sink letter no-node = line-judged ∙ rw (letter, no-node) refl

  names : (terminal : Terminal) → g ≡ letter_of terminal → is_node nodes node ≡ true → Names nodes (f ∷ g ∷ []) terminal node
  names Source letter range = record { good = line-judged ∙ rw (letter, range) refl; letter = letter; number = rw number refl; range = range }
  names Sink letter range = record { good = line-judged ∙ rw (letter, range) refl; letter = letter; number = rw number refl; range = range }

pub returns-in_default : goal.returns-in_default
returns-in_default c =
    rw c.in_ok-node.ensures (other-letter c.args.nodes _ _ _ (sym c.in_ok-node-2.ensures) c.in_default.ensures.0 c.in_default.ensures.1)

pub returns-then-node-lt1 : goal.returns-then-node-lt1
returns-then-node-lt1 c =
    let node = c.in_ok-node-2.node in
    let no-node : is_node c.args.nodes node ≡ false = elim c.then-node-lt1.branch [
      | then-node-lt1-via-then-node-lt1 w ↦ and_left _ _ (lt-leb 1 node w.if-node-lt1.true)
      | then-node-lt1-via-else-node-lt1+then-node-from w ↦ and_right _ _ (lt-leb node c.args.nodes (omega (arith, w.from.ensures, w.if-node-from.true)))
    ] in
    rw c.in_ok-node.ensures (out-of-range c.args.nodes _ _ node (sym c.in_ok-node-2.ensures) c.in-Some.terminal c.in-Some.ensures no-node)

pub returns : goal.returns
returns c =
    let node = c.in_ok-node-2.node in
    let range : is_node c.args.nodes node ≡ true = and_from _ _ (le-leb 1 node c.if-node-lt1.false)
    (le-leb node c.args.nodes (omega (arith, c.from.ensures, c.if-node-from.false))) in
    rw c.in_ok-node.ensures (names c.args.nodes _ _ node (sym c.in_ok-node-2.ensures) c.in-Some.terminal c.in-Some.ensures range)
