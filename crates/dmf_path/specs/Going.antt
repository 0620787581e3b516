-- What a search has while it looks for the next path.
-- Private: only contracts inside the crate and proofs use this.
use Rattle.std.specs.Prelude.{◌≡◌, true}
use Rattle.dmf_links.specs.LinkTable.{links_of}
use Rattle.dmf_path.specs.declared.ball.Ball.{Ball}
use Rattle.dmf_path.specs.declared.levels.Levels.{Levels}
use Rattle.dmf_path.specs.declared.residual.Residual.{Residual}
use Rattle.dmf_path.specs.declared.trail.Trail.{Trail}
use Rattle.dmf_path.specs.Ball.{IsAround, IsFit}
use Rattle.dmf_path.specs.Held.{way_of}
use Rattle.dmf_path.specs.BothEnds.{AreSoundBetween, AreWhole}
use Rattle.dmf_path.specs.Residual.{residual_of, with_settled_rooms}
use Rattle.dmf_path.specs.Searching.{labelling_of, AreReady, IsReady, IsSearching, MayLast}

-- What a search has between two looks for a path: labels that are sound, with current links and held pushes; what another search may keep of
-- them; and nodes near some goal.
pub record IsBetweenLooks (links : Residual) (levels : Levels) (ball : Ball) (trail : Trail) : Type 0 where
  pub searching : IsSearching (residual_of links) (labelling_of levels) (way_of trail)
  pub ready : AreReady levels
  pub lasting : MayLast levels (with_settled_rooms (residual_of links) (way_of trail))
  pub fit : IsFit ball (with_settled_rooms (residual_of links) (way_of trail))

-- What it has while it looks for one: all this, and the nodes near the goal.
pub record Goes (links : Residual) (levels : Levels) (ball : Ball) (trail : Trail) : Type 0 where
  pub keeps : IsBetweenLooks links levels ball trail
  pub around : IsAround ball trail.goal

-- What it has once the nodes are labelled anew: all but the labels is as it was, with no push held, and the labels are sound.
pub record IsRelabelledFor (links : Residual) (levels : Levels) (ball : Ball) (trail : Trail) : Type 0 where
  pub before : Levels
  pub goes : Goes links before ball trail
  pub settled : with_settled_rooms (residual_of links) (way_of trail) ≡ residual_of links
  pub current : levels.current ≡ before.current
  pub ready : IsReady links.table.value.nodes levels.near levels.far
  pub sound : AreSoundBetween (links_of links.table.value) links.rooms.items levels.near.labels trail.start trail.goal
  pub whole : levels.all ≡ true → AreWhole (links_of links.table.value) levels.near.labels links.rooms.items
