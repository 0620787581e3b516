-- The search ended without the goal: no path is left.
use Rattle.std.proofs.Common.{map, refl, ◌∙◌}
use Rattle.std.proofs.lemmas.List.{length-map}
use Rattle.dmf_links.specs.Links.{open_flag}
use Rattle.dmf_links.specs.LinkTable.{links_of}
use Rattle.dmf_path.proofs.labels.Labelling.{starts-spread}
use Rattle.dmf_path.proofs.paths.Reaching.{AreOpen-map, parted-labelled}
use Rattle.dmf_path.proofs.relabel.misses_goal.Goals as goal

pub label_within-ended-requires-clause-so_far : goal.label_within-ended-requires-clause-so_far
label_within-ended-requires-clause-so_far c =
    let links = c.args.links.now in
    rw (c.deref.ensures, c.deref-2.ensures.value)
    (starts-spread c.requires.start_is (length-map links.rooms.items open_flag ∙ links.rooms_are.0) c.requires.near_is c.begin.ensures)

pub returns-then-not-has_label-clause-enclosed : goal.returns-then-not-has_label-clause-enclosed
returns-then-not-has_label-clause-enclosed c _ =
    let links = c.args.links.now in
    let l = links_of links.table.value in
    let rooms = links.rooms.items in
    let are = rw (c.deref.ensures, c.deref-2.ensures.value, c.begin.ensures) at (c.label_within-ended.ensures.labels c.if-ended.true) in
    record {
      ready = record { one_label_each = are.one_each; far_is = c.requires.far_is };
      labelled = λ found. absurd (cc);
      none = λ _. parted-labelled rooms links.table.value.are (AreOpen-map l rooms (map open_flag rooms) links.rooms_are refl) are
          (c.has_label.ensures.none c.if-not-has_label.true) c.mark_labelled.new.marks (rw c.labels.ensures at c.mark_labelled.ensures);
      current = refl;
    }
