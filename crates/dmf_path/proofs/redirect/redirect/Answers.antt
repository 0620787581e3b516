-- Labels of all nodes may lead from the start to the goal.
use Rattle.std.proofs.Common.{arith}
use Rattle.dmf_path.proofs.redirect.redirect.Goals as goal

pub refit-requires-clause-may : goal.refit-requires-clause-may
refit-requires-clause-may c =
    let usable = c.requires.usable in
    record {
      ready = usable.ready;
      current_is = usable.current_is;
      lasting = (usable.kept c.if-not-levels.false).lasting;
      labelled = c.has_label.ensures.has c.if-not-has_label.false;
      above = omega (arith, c.label.ensures, c.label-else-not-has_label.ensures, c.if-label.false);
      fit = c.requires.fit;
      start_is = c.requires.start;
      goal_is = c.requires.goal;
    }
