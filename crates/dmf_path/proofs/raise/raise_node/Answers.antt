-- The first link of the node is current, and the label has risen, or stayed.
use Rattle.std.proofs.Common.{◌≡◌, ◌+◌, ◌<◌, length, get_or, set, sym, ◌∙◌, arith}
use Rattle.std.proofs.lemmas.List.{get_or_default, get_or-set_same}
use Rattle.dmf_links.specs.LinkTable.{links_of}
use Rattle.dmf_path.specs.Raising.{AreRaised}
use Rattle.dmf_path.specs.Residual.{residual_of}
use Rattle.dmf_path.proofs.labels.RaisedLabels.{MayRise, moved, risen, raised-again}
use Rattle.dmf_path.proofs.raise.raise_node.Goals as goal
use Rattle.dmf_path.proofs.raise.raise_node.Goals.{After-label, After-set_label}

-- the first link
first : (c : After-label) → get_or c.args.links.now.table.value.first.items c.args.node 0 ≡ c.index.result.now
first c =
    let table = c.args.links.now.table.value in
    let within : c.args.node < length table.first.items = omega (arith, c.requires.node.to_last, table.are.first_long) in
    get_or_default table.first.items c.args.node 0 c.index.result.now within ∙ sym (rw c.deref-4.ensures at c.index.ensures)

-- It is current.
back : (c : After-label) → AreRaised (residual_of c.args.links.now) c.args.goal (record { labels = c.args.near.now.labels; current = c.args.current.now })
    (record { labels = c.args.near.now.labels; current = set c.args.current.now c.args.node c.index.result.now })
back c = moved c.requires.labels c.requires.node (omega (arith, first c))
    (omega (arith, first c, c.args.links.now.table.value.are.ascending c.args.node c.requires.node.to_last))
    (λ p lies before is. absurd (omega (arith, first c, lies.from, before)))

-- The label may rise.
may : (c : After-set_label) → MayRise (links_of c.args.links.now.table.value) c.args.links.now.rooms.items c.args.goal
    (record { labels = c.args.near.now.labels; current = set c.args.current.now c.args.node c.index.result.now }) c.args.node (c.least_label-label.result + 1)
may c =
    let at = (goal.at.After-set_label c).After-label in
    let long : c.args.node < length c.args.current.now = omega (arith, c.requires.node.to_last, c.requires.labels.current_is.one_each) in
    let least = rw c.labels.ensures at c.least_label-label.ensures in
    record {
      links = c.args.links.now.table.value.are;
      roomy = c.args.links.now.rooms_are;
      whole = c.requires.labels.whole;
      node = c.requires.node;
      other = c.requires.other;
      current = get_or-set_same c.args.current.now c.args.node c.index.result.now 0 long ∙ sym (first at);
      higher = omega (arith, c.if-label.true, c.label.ensures);
      small = omega (arith, rw c.deref-3.ensures at c.if-label-deref.false);
      low = λ p lies room. omega (arith, least.most p lies room);
    }

pub returns-then-label : goal.returns-then-label
returns-then-label c =
    let at = (goal.at.returns-then-label c).After-label in
    rw c.set_label.ensures (record { raised = raised-again (back at) (risen (may (goal.at.returns-then-label c).After-set_label) (back at).further) })

pub returns-else-label : goal.returns-else-label
returns-else-label c = record { raised = back (goal.at.returns-else-label c).After-label }
