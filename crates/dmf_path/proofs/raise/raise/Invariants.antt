use Rattle.std.proofs.Common.{ℕ, ◌≡◌, false, List}
use Rattle.dmf_node.specs.Node.{IsNode}
use Rattle.dmf_links.specs.LinkTable.{links_of}
use Rattle.dmf_path.specs.Raising.{AreRaised}
use Rattle.dmf_path.specs.Residual.{residual_of}
use Rattle.dmf_path.specs.Walk.{IsWalk}
use Rattle.dmf_path.proofs.raise.raise.Given as goal

-- A walk from the node to the goal is part of one from the start, if the trial has raised no label.
abbrev pub invariant-loop : goal.invariant-loop
invariant-loop l = record {
  raised : AreRaised (residual_of l.links) l.ends.goal (record { labels = l.fn.near.labels; current = l.fn.current })
      (record { labels = l.near.labels; current = l.current });
  node : IsNode l.links.table.value.nodes l.node;
  back : l.is_raised ≡ false → (ps : List ℕ) → IsWalk (links_of l.links.table.value) l.near.labels l.links.rooms.items l.ends.goal l.node ps
      → (qs : List ℕ) × IsWalk (links_of l.links.table.value) l.near.labels l.links.rooms.items l.ends.goal l.ends.start qs;
}
