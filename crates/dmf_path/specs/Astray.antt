-- Links that a walk to a goal passes.
-- Private: only contracts inside the crate and proofs use this.
use Rattle.std.specs.Prelude.{ℕ, ◌≡◌, ◌≢◌, ◌<◌, ◌≤◌, ◌⊎◌, true, slice_index}
use Rattle.dmf_links.specs.Links.{Links}
use Rattle.dmf_path.specs.declared.ball.Ball.{Ball}
use Rattle.dmf_path.specs.Windows.{IsWithin}

-- The node is not the goal, and no link is left; or so many links are left, but by what is known more lead from the node to the goal.
abbrev pub IsAstray : Ball → ℕ → ℕ → ℕ → Type 0
IsAstray ball goal left node =
    ((left ≡ 0) × (node ≢ goal)) ⊎ ((0 < left) × (left ≤ ball.radius) × (left < slice_index ball.around.labels node))

-- The opposite of the link at place `p` lies outside the window of its node, so the link has no room.
abbrev pub IsOutside : Ball → Links → ℕ → Type 0
IsOutside ball l p = (ball.windows.known ≡ true) × (¬ IsWithin ball.windows (slice_index l.heads p) (slice_index l.partners p))

-- The link at place `p` leads to such a node, or has no room.
abbrev pub LeadsAstray : Ball → Links → ℕ → ℕ → ℕ → Type 0
LeadsAstray ball l goal left p = IsAstray ball goal left (slice_index l.heads p) ⊎ IsOutside ball l p
