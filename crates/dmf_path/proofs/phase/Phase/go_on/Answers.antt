-- What the walk keeps, with the current links put back.
use Rattle.std.proofs.Common.{◌∙◌}
use Rattle.std.proofs.lemmas.List.{with_items_is}
use Rattle.dmf_path.specs.Ball.{IsFit}
use Rattle.dmf_path.specs.Searching.{Sought}
use Rattle.std.proofs.Common.{ap, sym, subst}
use Rattle.dmf_path.proofs.labels.Lasting.{lasting}
use Rattle.dmf_path.proofs.phase.Phase.go_on.Goals as goal

pub walk-requires : goal.walk-requires
walk-requires c =
    let is = c.self.invariant in
    record {
      searching = rw (c.labels.ensures, c.deref_mut.ensures.value) is.searching;
      fit = is.fit;
      around = rw (← c.self.view_is) at c.requires;
    }

pub invariant_of-self : goal.invariant_of-self
invariant_of-self c =
    let is = c.self.invariant in
    let e = c.walk.ensures in
    let of = c.self.inside in
    let current = with_items_is of.levels.current c.walk.new.current (c.walk.auto.current ∙ c.deref_mut.ensures.len) in
    let skipped = rw (c.labels.ensures, c.deref_mut.ensures.value) at e.skipped in
    record {
      searching = rw current (rw c.labels.ensures at e.searching);
      ready = is.ready;
      lasting = λ all.
          let was = is.lasting all in
          lasting _ _ _ _ e.same (record { whole = was.whole; skipped = rw current (skipped was.skipped) });
      fit = subst (λ (s : Sought). IsFit of.ball s.residual) (sym e.same) is.fit;
    }

pub returns-clause-on : goal.returns-clause-on
returns-clause-on c =
    let e = c.walk.ensures in
    rw (← c.self.view_is) (record {
      on = record { same = e.same; around = λ some. (rw (← c.self.view_is) at c.requires) some ∙ sym (ap (λ (s : Sought). s.goal) e.same) };
      found_is = e.found;
    })

pub returns-clause-none : goal.returns-clause-none
returns-clause-none c false_is ps = rw (← c.self.view_is) ((rw c.labels.ensures at (c.walk.ensures.none false_is)) ps)
