-- Paths of steps, as lists of links with room.
use Rattle.std.proofs.Common.{ℕ, ◌≡◌, ◌<◌, List, [], ◌∷◌, get_or, refl, ap, ◌∙◌}
use Rattle.dmf_path.specs.Step.{Step}
use Rattle.dmf_node.specs.Node.{IsNode}
use Rattle.dmf_path.specs.Path.{IsPath}
use Rattle.dmf_path.specs.Pair.{steps_of}
use Rattle.dmf_links.specs.Links.{Links, LiesAt, AreLinks, ArePlaces, AreRooms, tail_of, pairs_at}
use Rattle.dmf_links.proofs.tables.LinkPlaces.{lies-within, room-used}
use Rattle.dmf_path.proofs.paths.Steps.{path_on}
use Rattle.dmf_path.proofs.paths.LinkSteps.{link-of_step, step-of_link}

-- Links with room lead from node `v` to the goal, each next one from the head of the one before.
abbrev pub IsOpenPath : Links → List ℕ → ℕ → ℕ → List ℕ → Type 0
IsOpenPath l rooms goal v [] = v ≡ goal
IsOpenPath l rooms goal v (p ∷ ps) =
    LiesAt l v p × (0 < get_or rooms p 0) × IsOpenPath l rooms goal (get_or l.heads p 0) ps

-- The head of a link is a node.
pub head-node : (l : Links) (v p : ℕ) → AreLinks l → IsNode l.nodes v → LiesAt l v p → IsNode l.nodes (get_or l.heads p 0)
head-node l v p links node lies = (links.each p (lies-within l v p links node lies)).head

-- The steps of links with room that lead to the goal are a path.
pub path-of_links : (l : Links) (places rooms : List ℕ) (goal v : ℕ) (ps : List ℕ) → AreLinks l → ArePlaces l places → AreRooms l rooms
    → IsNode l.nodes v → IsOpenPath l rooms goal v ps → IsPath (steps_of (pairs_at l places rooms)) v goal (path_on l places rooms ps)
path-of_links l places rooms goal v [] links are fit node leads = leads
path-of_links l places rooms goal v (p ∷ ps) links are fit node leads =
    let within = lies-within l v p links node leads.0 in (
      step-of_link l places rooms links are p within (room-used l rooms p fit within leads.1) leads.1,
      links.at_tail v p node leads.0,
      path-of_links l places rooms goal (get_or l.heads p 0) ps links are fit (head-node l v p links node leads.0) leads.2,
    )

-- The path is one of links with room.
pub record IsPathOn (l : Links) (places rooms : List ℕ) (goal v : ℕ) (path : List Step) : Type 0 where
  pub on : List ℕ
  pub steps : path_on l places rooms on ≡ path
  pub leads : IsOpenPath l rooms goal v on

-- Each path is one of links with room.
pub links-of_path : (l : Links) (places rooms : List ℕ) (goal v : ℕ) (path : List Step) → AreLinks l → ArePlaces l places
    → IsPath (steps_of (pairs_at l places rooms)) v goal path → IsPathOn l places rooms goal v path
links-of_path l places rooms goal v [] links are leads = record { on = []; steps = refl; leads = leads }
links-of_path l places rooms goal v (s ∷ path) links are leads =
    let link = link-of_step l places rooms links are s leads.0 in
    let rest = links-of_path l places rooms goal s.to path links are leads.2 in
    let p : ℕ = link.place in
    let tail : tail_of l p ≡ v = ap (λ (t : Step). t.from) link.step ∙ leads.1 in
    let to : get_or l.heads p 0 ≡ s.to = ap (λ (t : Step). t.to) link.step in
    record {
      on = p ∷ rest.on;
      steps = λ i. link.step i ∷ rest.steps i;
      leads = (rw tail at (links.each p link.within).lies, link.room, rw to rest.leads);
    }
