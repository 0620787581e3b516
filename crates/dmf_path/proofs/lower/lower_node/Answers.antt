-- The label falls.
use Rattle.std.proofs.Common.{◌≤◌, slice_index, arith, ◌∙◌}
use Rattle.dmf_links.specs.LinkTable.{links_of}
use Rattle.dmf_path.proofs.labels.LoweredLabels.{MayFall, lowered-from, whole-fallen, less-fallen, noted-fallen}
use Rattle.dmf_path.proofs.lower.lower_node.Goals as goal
use Rattle.dmf_path.proofs.lower.lower_node.Goals.{After-set_label}

-- It may.
may : (c : After-set_label) → MayFall (links_of c.args.links.now.table.value) c.args.links.now.rooms.items c.args.links.now.flags.items
    c.args.near.now.labels c.args.node c.saturating_sub-label.result
may c = record {
  links = c.args.links.now.table.value.are;
  roomy = c.args.links.now.rooms_are;
  flagged = c.args.links.now.flags_are;
  whole = c.requires.labels.whole;
  node = c.requires.node;
  lower = omega (arith, c.if-label-own.false, c.label-own.ensures);
  labelled = λ none. c.if-own.false (c.label-own.ensures ∙ none);
  top =
      let low : c.top_before.result ≤ slice_index c.args.near.now.labels c.args.node =
      omega (arith, c.if-label-own.false, c.saturating_sub-label.ensures, c.label-own.ensures) in
      let top = rw c.labels.ensures at c.top_before.ensures in
      λ p lies opened. omega (arith, top low p lies opened, c.saturating_sub-label.ensures);
}

pub returns-then-own-clause-lowered : goal.returns-then-own-clause-lowered
returns-then-own-clause-lowered c = lowered-from c.requires.labels

pub returns-clause-lowered : goal.returns-clause-lowered
returns-clause-lowered c =
    let may = may (goal.at.returns-clause-lowered c).After-set_label in
    let m = rw (c.labels-2.ensures, c.set_label.ensures) at c.make_current.ensures in
    rw c.set_label.ensures (record {
      whole = whole-fallen may;
      current_is = m.current;
      noted = λ noted. noted-fallen may m.less m.back;
      less = less-fallen may;
    })
