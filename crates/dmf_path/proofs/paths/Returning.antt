-- A path along labels that fall once out of marked nodes leads back to none of them.
use Rattle.std.proofs.Common.{ℕ, ◌≡◌, ◌≤◌, Bool, true, List, [], ◌∷◌, get_or, zero, suc, inl, inr, ap, sym, ◌∙◌, arith, Contains, IsTrue}
use Rattle.std.proofs.lemmas.Bool.{cases_Bool}
use Rattle.dmf_node.specs.Node.{IsNode}
use Rattle.dmf_links.specs.Links.{Links, AreLinks, ArePlaces, pairs_at}
use Rattle.dmf_path.specs.ClosedSide.{is_marked, NoneReturns}
use Rattle.dmf_path.specs.Pair.{steps_of}
use Rattle.dmf_path.specs.Step.{Step}
use Rattle.dmf_path.specs.Through.{FallOnce}
use Rattle.dmf_path.specs.Walk.{IsWalk}
use Rattle.dmf_path.proofs.paths.LeastTrail.{walk-of_path}
use Rattle.dmf_path.proofs.paths.OpenPaths.{head-node}
use Rattle.dmf_path.proofs.paths.Steps.{path_on}

module _ (l : Links) (places rooms labels : List ℕ) {start goal : ℕ} (marks : List Bool) (links : AreLinks l) (once : FallOnce l rooms labels start goal marks) where
  -- On a walk a step to a marked node comes from one.
  none-back : (v : ℕ) (ps : List ℕ) → IsNode l.nodes v → get_or labels v 0 ≤ l.nodes → IsWalk l labels rooms goal v ps → (s : Step)
      → Contains (path_on l places rooms ps) s → IsTrue (is_marked marks s.to) → IsTrue (is_marked marks s.from)
  none-back v [] node low walk s c inside = absurd (omega (arith, c.1))
  none-back v (p ∷ ps) node low walk s (zero, within, is) inside =
      let head : ℕ = get_or l.heads p 0 in
      let to : is_marked marks head ≡ true = ap (λ (t : Step). is_marked marks t.to) is ∙ inside in
      let from : is_marked marks v ≡ true = elim (cases_Bool (is_marked marks v)) [
        | inl in_it ↦ in_it
        | inr off_it ↦
            let falls = once.above v head node (head-node l v p links node walk.0.lies) off_it to (λ none. omega (arith, none, low, links.at_most_nodes))
            (λ none. omega (arith, none, walk.0.falls, low, links.at_most_nodes)) in
            absurd (omega (arith, falls, walk.0.falls))
      ] in
      ap (λ (t : Step). is_marked marks t.from) (sym is) ∙ ap (is_marked marks) (links.at_tail v p node walk.0.lies) ∙ from
  none-back v (p ∷ ps) node low walk s (suc k, within, is) inside =
      none-back (get_or l.heads p 0) ps (head-node l v p links node walk.0.lies) (omega (arith, low, walk.0.falls)) walk.1 s (k, omega (arith, within), is) inside

  -- A path as long as the label of the start is such a walk.
  pub none-returns : ArePlaces l places → IsNode l.nodes start → IsNode l.nodes goal
      → NoneReturns (steps_of (pairs_at l places rooms)) start goal (get_or labels start 0) marks
  none-returns are start_is goal_is path leads long s c inside =
      let found = walk-of_path l places rooms labels start goal path links are start_is goal_is once.sound leads (omega (arith, long, once.goal_label)) in
      none-back start found.0.on start_is once.sound.start_label found.1 s (rw found.0.steps c) inside
