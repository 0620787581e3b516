-- Two searches begin and meet, and their labels are joined.
use Rattle.std.proofs.Common.{◌≡◌, ◌+◌, get_or, map, replicate, refl, ap, sym, ◌∙◌, arith}
use Rattle.std.proofs.lemmas.List.{length-map}
use Rattle.dmf_links.specs.Links.{open_flag}
use Rattle.dmf_links.specs.LinkTable.{links_of}
use Rattle.dmf_path.specs.BothEnds.{HasMetAt}
use Rattle.dmf_path.specs.Labels.{no_label}
use Rattle.dmf_path.specs.Reach.{Reach}
use Rattle.dmf_path.proofs.labels.BothEnds.{labelled-met, met-sum}
use Rattle.dmf_path.proofs.labels.Labelling.{label-below, starts-spread}
use Rattle.dmf_path.proofs.labels.Meeting.{begun-rest, begun-apart}
use Rattle.dmf_path.proofs.paths.Reaching.{AreOpen-map}
use Rattle.dmf_path.proofs.relabel.label_from_both.Goals as goal
use Rattle.dmf_path.proofs.relabel.label_from_both.Goals.{In-Some, After-label-2}

pub meet-requires : goal.meet-requires
meet-requires c =
    let links = c.args.links.now in
    let near = c.begin.ensures in
    let far = c.begin-2.ensures in
    let goal_is = c.requires.goal_is in
    let start_is = c.requires.start_is in
    let nodes = links.table.value.nodes in
    record {
      goal = rw near (record { node = goal_is; alone = refl });
      start = rw far (record { node = start_is; alone = refl });
      goal_side = starts-spread goal_is links.flags_are.0 c.requires.near_is near;
      start_side = starts-spread start_is (length-map links.rooms.items open_flag ∙ links.rooms_are.0) c.requires.far_is far;
      goal_rest = rw near (begun-rest c.args.ends.goal c.args.levels.now.near.labels);
      start_rest = rw far (begun-rest c.args.ends.start c.args.levels.now.far.labels);
      apart = rw (near, far, c.requires.near_is, c.requires.far_is) (begun-apart (nodes + 1) c.args.ends.goal c.args.ends.start c.requires.apart
          (omega (arith, goal_is.to_last)) (omega (arith, start_is.to_last)));
    }

-- where the searches meet
has_met : (c : In-Some) → HasMetAt (links_of c.args.links.now.table.value) c.args.links.now.flags.items (map open_flag c.args.links.now.rooms.items)
    c.args.ends.start c.args.ends.goal c.in-Some.node c.meet.new.to_goal.labels c.meet.new.from_start.labels
has_met c = rw (c.begin.ensures, c.begin-2.ensures) at (c.in-Some.ensures.on.met c.in-Some.node refl)

-- the sum of the two labels there, as it is read
sum : (c : After-label-2) → c.label.result + c.label-2.result
    ≡ get_or c.meet.new.to_goal.labels c.in-Some.node 0 + get_or c.meet.new.from_start.labels c.in-Some.node 0
sum c = omega (arith, c.label.ensures, c.label-2.ensures)

pub label-requires : goal.label-requires
label-requires c =
    let met = has_met (goal.at.label-requires c).In-Some in
    omega (arith, met.met.node.to_last, met.goal_side.one_each)

pub label-requires-2 : goal.label-requires-2
label-requires-2 c =
    let met = has_met (goal.at.label-requires-2 c).In-Some in
    omega (arith, met.met.node.to_last, met.start_side.one_each)

pub overflow_add-long : goal.overflow_add-long
overflow_add-long c =
    let at = goal.at.overflow_add-long c in
    let met = has_met at.In-Some in
    omega (arith, sum at.After-label-2, met-sum met.met, met.long, c.args.links.now.table.value.are.at_most_nodes)

pub join-requires : goal.join-requires
join-requires c =
    let at = goal.at.join-requires c in
    let met = has_met at.In-Some in
    let near = c.in-Some.ensures.on.goal_side in
    let far = c.in-Some.ensures.on.start_side in
    record {
      one_label_each = near.one_each ∙ sym far.one_each;
      counted = omega (arith, near.counted, near.one_each);
      labelled = λ i before none. omega (arith, none, label-below far i c.args.links.now.table.value.are before);
      small = omega (arith, sum at.After-label-2, met-sum met.met, met.long, c.args.links.now.table.value.are.at_most_nodes);
    }

pub returns-clause-relabelled : goal.returns-clause-relabelled
returns-clause-relabelled c =
    let links = c.args.links.now in
    let l = links_of links.table.value in
    let rooms = links.rooms.items in
    let at = goal.at.returns-clause-relabelled c in
    let on = c.in-Some.ensures.on in
    record {
      ready = record {
        one_label_each = c.join.ensures.joined.one_each ∙ on.goal_side.one_each;
        far_is = ap (λ (f : Reach). f.labels) c.unlabel-2.ensures ∙ ap (λ n. replicate n no_label) on.start_side.one_each;
      };
      labelled = λ _. labelled-met rooms links.flags.items links.table.value.are links.flags_are (AreOpen-map l rooms (map open_flag rooms) links.rooms_are refl)
          c.requires.start_is c.requires.goal_is (has_met at.In-Some) (sum at.After-label-2) c.join.ensures.joined;
      none = λ lost. absurd (cc);
      current = refl;
    }

pub returns-in_default-clause-relabelled : goal.returns-in_default-clause-relabelled
returns-in_default-clause-relabelled c =
    let links = c.args.links.now in
    let on = c.in_default.ensures.on in
    record {
      ready = record {
        one_label_each = on.goal_side.one_each;
        far_is = ap (λ (f : Reach). f.labels) c.unlabel.ensures ∙ ap (λ n. replicate n no_label) on.start_side.one_each;
      };
      labelled = λ found. absurd (cc);
      none = λ _. rw (c.begin.ensures, c.begin-2.ensures) at (c.in_default.ensures.none refl);
      current = refl;
    }
