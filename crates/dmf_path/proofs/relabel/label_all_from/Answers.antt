-- The labels are made of the distances from the start.
use Rattle.std.proofs.Common.{◌≡◌, ◌+◌, map, get_or, length, replicate, refl, ap, ◌∙◌, arith}
use Rattle.std.proofs.lemmas.List.{length-replicate}
use Rattle.dmf_links.specs.Links.{open_flag}
use Rattle.dmf_links.specs.LinkTable.{links_of}
use Rattle.dmf_path.specs.BothEnds.{AreTurned}
use Rattle.dmf_path.specs.Labels.{AreLabels, no_label}
use Rattle.dmf_path.specs.Reach.{Reach}
use Rattle.dmf_path.proofs.labels.FromStart.{whole-turned, labelled-turned}
use Rattle.dmf_path.proofs.paths.Reaching.{AreOpen, AreOpen-map, parted-labelled}
use Rattle.dmf_path.proofs.relabel.label_all_from.Goals as goal
use Rattle.dmf_path.proofs.relabel.label_all_from.Goals.{After-label_from, After-turn}

-- the distances
distances : (c : After-label_from) → AreLabels (links_of c.args.links.now.table.value) (map open_flag c.args.links.now.rooms.items) c.args.ends.start 0
    c.label_from.new.self.labels
distances c = rw (c.deref.ensures, c.deref-2.ensures.value) at c.label_from.ensures

opened : (c : After-label_from) → AreOpen (links_of c.args.links.now.table.value) c.args.links.now.rooms.items (map open_flag c.args.links.now.rooms.items)
opened c =
    let rooms = c.args.links.now.rooms.items in
    AreOpen-map (links_of c.args.links.now.table.value) rooms (map open_flag rooms) c.args.links.now.rooms_are refl

pub returns-then-not-has_label-clause-relabelled : goal.returns-then-not-has_label-clause-relabelled
returns-then-not-has_label-clause-relabelled c =
    let at = (goal.at.returns-then-not-has_label-clause-relabelled c).After-label_from in
    let links = c.args.links.now in
    let labels = c.label_from.new.self.labels in
    let are = distances at in
    let unset : get_or labels c.args.ends.goal 0 ≡ no_label = c.has_label.ensures.none c.if-not-has_label.true in
    let all : AreLabels (links_of links.table.value) (map open_flag links.rooms.items) c.args.ends.start c.args.ends.goal labels = record {
      one_each = are.one_each;
      roots_are = are.roots_are;
      zero = are.zero;
      small = are.small;
      near = λ v p node lies opened below. are.near v p node lies opened (omega (arith, below, unset, are.zero));
      backed = are.backed;
    } in
    record {
      ready = record {
        one_label_each = ap length c.requires.near_is ∙ length-replicate (links.table.value.nodes + 1) no_label;
        far_is = ap (λ (f : Reach). f.labels) c.unlabel.ensures ∙ ap (λ n. replicate n no_label) are.one_each;
      };
      labelled = λ found. absurd (cc);
      none = λ _. parted-labelled links.rooms.items links.table.value.are (opened at) all unset c.mark_labelled.new.marks
          (rw c.labels.ensures at c.mark_labelled.ensures);
      current = refl;
    }

-- the labels that are made of them
turned : (c : After-turn) → AreTurned c.args.links.now.table.value.nodes c.label_from.new.self.labels c.turn.new.self.labels
turned c = rw c.deref-3.ensures at c.turn.ensures

pub returns-clause-whole : goal.returns-clause-whole
returns-clause-whole c found =
    let at = (goal.at.returns-clause-whole c).After-label_from in
    let links = c.args.links.now in
    whole-turned links.rooms.items (map open_flag links.rooms.items) links.table.value.are (opened at) (distances at)
    (turned (goal.at.returns-clause-whole c).After-turn)

pub returns-clause-relabelled : goal.returns-clause-relabelled
returns-clause-relabelled c =
    let at = (goal.at.returns-clause-relabelled c).After-label_from in
    let links = c.args.links.now in
    let are = turned (goal.at.returns-clause-relabelled c).After-turn in
    record {
      ready = record {
        one_label_each = are.one_each;
        far_is = ap (λ (f : Reach). f.labels) c.unlabel-2.ensures ∙ ap (λ n. replicate n no_label) (distances at).one_each;
      };
      labelled = λ _. labelled-turned links.rooms.items (map open_flag links.rooms.items) links.table.value.are (opened at) (distances at) are
          c.requires.start_is c.requires.goal_is (c.has_label.ensures.has c.if-not-has_label.false);
      none = λ lost. absurd (cc);
      current = refl;
    }
