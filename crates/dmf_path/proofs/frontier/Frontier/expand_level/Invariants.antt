use Rattle.std.proofs.Common.{◌≡◌, ◌+◌, ◌-◌, ◌<◌, ◌≤◌, length}
use Rattle.dmf_links.specs.LinkTable.{links_of}
use Rattle.dmf_path.specs.Frontier.{AreApart, next_label}
use Rattle.dmf_path.proofs.labels.Expanding.{IsLevel}
use Rattle.dmf_path.proofs.frontier.Frontier.expand_level.Given as goal

abbrev pub invariant-loop-self : goal.invariant-loop-self
invariant-loop-self g l = record {
  level : IsLevel (links_of l.table) (g.O.OpenLinks.flags l.opens) l.self.roots l.level l.self.labels l.self.queue l.self.done;
  apart : AreApart l.self.labels l.others;
  first : l.self.done ≡ l.fn.self.done → (l.self.done < length l.self.queue) × (next_label l.self ≡ l.level);
  further : l.fn.self.done ≤ l.self.done;
  roots : l.self.roots ≡ l.fn.self.roots;
}

abbrev pub decreases-loop-self : goal.decreases-loop-self
decreases-loop-self g l = l.table.nodes + 1 - l.self.done
