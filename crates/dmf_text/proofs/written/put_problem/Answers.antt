use Rattle.std.proofs.Common.{◌≡◌, ℕ, List, [], ◌∷◌, ◌++◌, codes, decimal, refl, subst}
use Rattle.dmf_text.specs.Writing.{Writes}
use Rattle.dmf_text.specs.Written.{written_line, arcs_text, problem_text}
use Rattle.dmf_text.proofs.WrittenLemmas.{problem_text-lines}
use Rattle.dmf_text.proofs.WritingLemmas.{first-failed, first-put}
use Rattle.dmf_text.proofs.written.put_problem.Given.{Over}
use Rattle.dmf_text.proofs.written.put_problem.Goals as goal
use Rattle.dmf_text.proofs.written.put_problem.Goals.{After-put_line, After-put_terminal, After-put_terminal-2}

-- the node line of a terminal
abbrev node_line : ℕ → List ℕ → List ℕ
node_line v letter = written_line (codes "n" ∷ decimal v ∷ letter ∷ [])

-- the text is the three lines, and the arcs after them
first : (g : Over) (c : After-put_line g) → let n = c.args.state.now.network in problem_text n
    ≡ written_line (codes "p" ∷ codes "max" ∷ decimal c.from-nodes.result ∷ decimal c.from-arcs.result ∷ [])
    ++ (node_line n.source (codes "s") ++ (node_line n.sink (codes "t") ++ arcs_text n.arcs))
first g c = rw (c.from-nodes.ensures, c.nodes.ensures.value, c.from-arcs.ensures, c.open_count.ensures.value) (problem_text-lines c.args.state.now.network)

second : (g : Over) (c : After-put_terminal g) → let n = c.args.state.now.network in
    node_line n.source (codes "s") ++ (node_line n.sink (codes "t") ++ arcs_text n.arcs)
    ≡ node_line c.source.result (codes "s") ++ (node_line n.sink (codes "t") ++ arcs_text n.arcs)
second g c = rw c.source.ensures.value refl

third : (g : Over) (c : After-put_terminal-2 g) → let n = c.args.state.now.network in
    node_line n.sink (codes "t") ++ arcs_text n.arcs ≡ node_line c.sink.result (codes "t") ++ arcs_text n.arcs
third g c = rw c.sink.ensures.value refl

pub returns-in_err-put_line-clause-written : goal.returns-in_err-put_line-clause-written
returns-in_err-put_line-clause-written g c =
    let at = goal.at.returns-in_err-put_line-clause-written g c in
    first-failed _ _ _ _ _ _ _ c.from_residual.ensures.1 (first g at.After-put_line) c.in_err-put_line.ensures

pub returns-in_err-put_terminal-clause-written : goal.returns-in_err-put_terminal-clause-written
returns-in_err-put_terminal-clause-written g c =
    let at = goal.at.returns-in_err-put_terminal-clause-written g c in
    first-put _ (g.W.Sink.written c.put_line.new.out) _ _ _ _ _ (first g at.After-put_line) c.in_ok-put_line.ensures
    (first-failed _ _ _ _ _ _ _ c.from_residual-in_err-put_terminal.ensures.1 (second g at.After-put_terminal) c.in_err-put_terminal.ensures)

pub returns-in_err-put_terminal-2-clause-written : goal.returns-in_err-put_terminal-2-clause-written
returns-in_err-put_terminal-2-clause-written g c =
    let at = goal.at.returns-in_err-put_terminal-2-clause-written g c in
    first-put _ (g.W.Sink.written c.put_line.new.out) _ _ _ _ _ (first g at.After-put_line) c.in_ok-put_line.ensures
    (first-put _ (g.W.Sink.written c.put_terminal.new.out) _ _ _ _ _ (second g at.After-put_terminal) c.in_ok-put_terminal.ensures
    (first-failed _ _ _ _ _ _ _ c.from_residual-in_err-put_terminal-2.ensures.1 (third g at.After-put_terminal-2) c.in_err-put_terminal-2.ensures))

pub returns-clause-written : goal.returns-clause-written
returns-clause-written g c =
    let at = goal.at.returns-clause-written g c in
    first-put _ (g.W.Sink.written c.put_line.new.out) _ _ _ _ _ (first g at.After-put_line) c.in_ok-put_line.ensures
    (first-put _ (g.W.Sink.written c.put_terminal.new.out) _ _ _ _ _ (second g at.After-put_terminal) c.in_ok-put_terminal.ensures
    (first-put _ (g.W.Sink.written c.put_terminal-2.new.out) _ _ _ _ _ (third g at.After-put_terminal-2) c.in_ok-put_terminal-2.ensures
    (subst (λ arcs. Writes (g.W.Sink.written c.put_terminal-2.new.out) (g.W.Sink.written c.put_arcs.new.out) c.put_arcs.result (arcs_text arcs))
    c.arcs.ensures.value c.put_arcs.ensures)))
