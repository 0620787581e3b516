-- The labels have risen, and the noted links stay noted.
use Rattle.std.proofs.Common.{◌∙◌, arith}
use Rattle.std.proofs.lemmas.List.{with_items_is}
use Rattle.dmf_path.proofs.phase.mend.Goals as goal

pub raise-requires : goal.raise-requires
raise-requires c =
    let was = c.requires.led in
    record {
      start = was.may.start_is;
      labels = rw c.deref_mut.ensures.value (record { whole = was.may.lasting.whole; current_is = was.may.current_is; passed = was.passed });
    }

pub returns-then-not-is_from_start-clause-led : goal.returns-then-not-is_from_start-clause-led
returns-then-not-is_from_start-clause-led c =
    let levels = c.args.levels.now in
    let was = c.requires.led.may in
    let e = rw c.deref_mut.ensures.value at c.raise.ensures.raised in
    let current = with_items_is levels.current c.raise.new.current (c.raise.auto.current ∙ c.deref_mut.ensures.len) in
    record {
      may = record {
        ready = record { one_label_each = e.further.whole.small.0; far_is = was.ready.far_is };
        current_is = rw current e.further.current_is;
        lasting = rw current (record { whole = e.further.whole; skipped = λ known. e.noted levels.noted.places.items (was.lasting.skipped known) });
        labelled = e.labelled c.args.start was.labelled;
        above = omega (arith, was.above, e.more c.args.start, e.goal_is);
        fit = was.fit;
        start_is = was.start_is;
        goal_is = was.goal_is;
      };
      passed = rw current e.further.passed;
    }
