-- All nodes from which paths lead to the goal are labelled.
use Rattle.std.proofs.Common.{refl, arith}
use Rattle.dmf_links.specs.LinkTable.{links_of}
use Rattle.dmf_path.specs.Labels.{AreLabels}
use Rattle.dmf_path.proofs.labels.Labelled.{labelled-one, whole-labelled}
use Rattle.dmf_path.proofs.paths.Reaching.{parted-unlabelled}
use Rattle.dmf_path.proofs.relabel.label_all.Goals as goal
use Rattle.dmf_path.proofs.relabel.label_all.Goals.{After-label_from}

-- the labels
labels : (c : After-label_from) → AreLabels (links_of c.args.links.now.table.value) c.args.links.now.flags.items c.args.ends.goal 0 c.label_from.new.self.labels
labels c = rw (c.deref.ensures, c.deref-2.ensures.value) at c.label_from.ensures

pub returns-clause-whole : goal.returns-clause-whole
returns-clause-whole c =
    let links = c.args.links.now in
    let are = labels (goal.at.returns-clause-whole c).After-label_from in
    whole-labelled links.rooms.items links.flags.items links.table.value.are links.flags_are are are.zero

pub returns-clause-relabelled : goal.returns-clause-relabelled
returns-clause-relabelled c =
    let links = c.args.links.now in
    let are = labels (goal.at.returns-clause-relabelled c).After-label_from in
    let told = c.has_label_or_mark.ensures in
    record {
      ready = record { one_label_each = are.one_each; far_is = c.requires.far_is };
      labelled = λ yes.
          let has = told.has yes in
          labelled-one links.rooms.items links.flags.items links.table.value.are links.flags_are are c.requires.start_is has
          (omega (arith, has, are.small c.args.ends.start c.requires.start_is, are.zero, links.table.value.are.at_most_nodes));
      none = λ no. parted-unlabelled links.rooms.items links.flags.items links.table.value.are links.flags_are are are.zero (told.none no)
          c.has_label_or_mark.new.marks (told.marks no);
      current = refl;
    }
