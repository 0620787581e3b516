-- No link is passed, and the goal's label falls or stays.
use Rattle.std.proofs.Common.{◌∙◌, [], arith}
use Rattle.std.specs.Vec.{with_items}
use Rattle.std.proofs.lemmas.List.{with_items_is}
use Rattle.dmf_links.specs.LinkTable.{links_of}
use Rattle.dmf_path.specs.Searching.{AreNoted}
use Rattle.dmf_path.specs.Walk.{AreSkipped}
use Rattle.dmf_path.proofs.labels.Redirected.{none-passed}
use Rattle.dmf_path.proofs.searches.Beginning.{first-queued, skipped-first}
use Rattle.dmf_path.proofs.phase.lower_goal.Goals as goal

pub returns : goal.returns
returns c =
    let was = c.requires.led.may in
    let links = c.args.links.now in
    let l = links_of links.table.value in
    let levels = c.args.levels.now in
    let labels = levels.near.labels in
    let set = c.set_current.new.current in
    let first = first-queued l labels levels.near.queue set was.ready.one_label_each c.queue.ensures.queued
    (rw (c.deref.ensures, c.queue.ensures.value) at c.set_current.ensures.first) in
    let skipped : AreSkipped l labels links.rooms.items set =
    skipped-first l labels links.rooms.items set links.table.value.are was.lasting.whole.small first in
    let none : AreNoted l labels links.rooms.items set [] = record {
      within = λ i x none. absurd (omega (arith, none));
      each = λ v p node lies before can. absurd (skipped v p node lies before can);
    } in
    let kept = with_items_is levels.current set (c.set_current.auto.current ∙ c.deref_mut.ensures.len) in
    let start = c.lower_node.ensures.others c.args.start c.requires.apart in
    let e = rw (c.deref_mut-2.ensures.value, kept) at c.lower_node.ensures.lowered in
    let current = with_items_is (with_items levels.current set) c.lower_node.new.current (c.lower_node.auto.current ∙ c.deref_mut-2.ensures.len) in
    let still = e.noted [] none in
    record {
      led = record {
        may = record {
          ready = record { one_label_each = e.whole.small.0; far_is = was.ready.far_is };
          current_is = rw current e.current_is;
          lasting = rw current (record { whole = e.whole; skipped = λ known. rw c.clear.ensures.none still });
          labelled = λ none. was.labelled (omega (arith, none, start));
          above = omega (arith, was.above, start, e.less c.args.goal);
          fit = was.fit;
          start_is = was.start_is;
          goal_is = was.goal_is;
        };
        passed = rw current (none-passed c.args.goal still);
      };
    }
