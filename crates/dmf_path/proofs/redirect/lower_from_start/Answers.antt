-- The labels are lowered, and the noted links stay noted.
use Rattle.std.proofs.Common.{◌∙◌, arith}
use Rattle.std.proofs.lemmas.List.{with_items_is}
use Rattle.dmf_path.proofs.redirect.lower_from_start.Goals as goal

pub returns-then-not-is_from_start-clause-may : goal.returns-then-not-is_from_start-clause-may
returns-then-not-is_from_start-clause-may c =
    let was = c.requires in
    record {
      ready = was.ready;
      current_is = was.current_is;
      lasting = was.lasting;
      labelled = was.labelled;
      above = was.above;
      fit = c.keep_for.ensures.fit _ was.fit;
      start_is = was.start_is;
      goal_is = was.goal_is;
    }

pub surround-requires : goal.surround-requires
surround-requires c = record { fit = c.requires.fit; goal = c.requires.goal_is }

pub lower_labels-requires : goal.lower_labels-requires
lower_labels-requires c =
    let was = c.requires in
    record {
      goal = omega (arith, was.goal_is.to_last, was.ready.one_label_each);
      fit = c.surround.ensures.fit;
      labels = rw c.deref_mut.ensures.value (record { whole = was.lasting.whole; current_is = was.current_is });
    }

pub returns-clause-may : goal.returns-clause-may
returns-clause-may c =
    let levels = c.args.levels.now in
    let was = c.requires in
    let start = c.lower_labels.ensures.start in
    let e = rw c.deref_mut.ensures.value at c.lower_labels.ensures.lowered in
    let current = with_items_is levels.current c.lower_labels.new.current (c.lower_labels.auto.current ∙ c.deref_mut.ensures.len) in
    record {
      ready = record { one_label_each = e.whole.small.0; far_is = was.ready.far_is };
      current_is = rw current e.current_is;
      lasting = rw current (record { whole = e.whole; skipped = λ known. e.noted levels.noted.places.items (was.lasting.skipped known) });
      labelled = λ none. was.labelled (omega (arith, none, start));
      above = omega (arith, was.above, start, e.less c.args.goal);
      fit = c.surround.ensures.fit;
      start_is = was.start_is;
      goal_is = was.goal_is;
    }

pub returns-clause-around : goal.returns-clause-around
returns-clause-around c = c.surround.ensures.around
