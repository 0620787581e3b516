-- The links that are noted are current again, so no admissible one is passed.
use Rattle.std.proofs.Common.{◌≡◌, false, ap, ◌∙◌}
use Rattle.std.proofs.lemmas.List.{with_items_is}
use Rattle.dmf_path.specs.declared.noted.Noted.{Noted}
use Rattle.dmf_path.proofs.labels.Redirected.{none-noted, none-passed}
use Rattle.dmf_path.proofs.redirect.refit.Goals as goal

pub returns-clause-led : goal.returns-clause-led
returns-clause-led c =
    let was = c.lower_from_start.ensures in
    let may = was.may in
    let levels = c.lower_from_start.new.levels in
    let known : levels.noted.lost ≡ false = ap (λ (n : Noted). n.lost) was.noted ∙ c.requires.noted in
    let e = rw (c.deref.ensures, c.deref-2.ensures.value, c.deref_mut.ensures.value) at c.bring_back.ensures in
    let current = c.bring_back.new.current in
    let current_is = with_items_is levels.current current (c.bring_back.auto.current ∙ c.deref_mut.ensures.len) in
    let none = none-noted current (may.lasting.skipped known) e.less e.back in
    record {
      may = record {
        ready = may.ready;
        current_is = rw current_is e.current;
        lasting = record { whole = may.lasting.whole; skipped = λ known. rw (current_is, c.clear.ensures.none) none };
        labelled = may.labelled;
        above = may.above;
        fit = may.fit;
        start_is = may.start_is;
        goal_is = may.goal_is;
      };
      passed = rw current_is (none-passed c.args.goal none);
    }
