-- No labels were set aside before, and those that are now have no node.
use Rattle.std.proofs.Common.{◌≡◌, inl, inr, [], ap, sym, ◌∙◌, subst, arith}
use Rattle.std.proofs.lemmas.Bool.{false≢true}
use Rattle.std.proofs.lemmas.Bool.Decides.{eqb_tells}
use Rattle.std.proofs.lemmas.List.{nil_from_length}
use Rattle.dmf_path.specs.declared.aside.Aside.{Aside}
use Rattle.dmf_path.specs.declared.levels.Levels.{Levels}
use Rattle.dmf_path.specs.Held.{way_of}
use Rattle.dmf_path.specs.Phase.{Phased, sought_by}
use Rattle.dmf_path.specs.Residual.{residual_of, with_settled_rooms}
use Rattle.dmf_path.specs.Searching.{Sought, searched, AreAside, AreUsable}
use Rattle.dmf_path.proofs.labels.Asides.{aside-one}
use Rattle.dmf_path.proofs.searches.Phases.{marked-again}
use Rattle.dmf_path.proofs.search.Search.keep_two.Goals as goal

pub invariant_of-phase : goal.invariant_of-phase
invariant_of-phase c =
    let is = c.phase-2.invariant in
    record {
      searching = is.searching;
      ready = is.ready;
      lasting = λ all. record { whole = (is.lasting all).whole; skipped = λ known. let no = c.in_ok-noted.ensures in absurd (cc) };
      fit = c.in_ok-ball.ensures _;
    }

pub invariant_of-self-2 : goal.invariant_of-self-2
invariant_of-self-2 c =
    let asides = c.self.inside.asides in
    let of = c.phase.inside in
    let is = c.phase.invariant in
    let i = c.self.invariant in
    let r = with_settled_rooms (residual_of of.links) (way_of of.trail) in
    let levels : Levels = record c.in_ok-levels.levels { noted = c.in_ok-levels-2.field-0 } in
    let new = rw c.deref-2.ensures at c.in_ok-levels.ensures in
    let aside : Aside = record { levels = levels; ends = record { start = of.trail.start; goal = of.trail.goal } } in
    let len : asides.len ≡ 0 = elim (eqb_tells asides.len 0) [
      | inl none ↦ none.1
      | inr other ↦ absurd (false≢true (sym other.0 ∙ sym c.is_empty.ensures ∙ c.if-not-is_empty.false))
    ] in
    let none : asides.items ≡ [] = nil_from_length asides.items (omega (arith, len, asides.ok.0)) in
    let usable : AreUsable levels r of.trail.goal = record {
      ready = new.ready;
      goal_is = is.searching.aimed.goal_is;
      current_is = new.current;
      kept = λ all. let no = new.all in absurd (cc);
    } in
    let two : AreAside c.push.new.self.items r =
    subst (λ sets. AreAside sets r) (sym c.in_ok-push.ensures.items) (aside-one asides.items aside r none c.if-phase.false usable) in
    let same = ap sought_by (c.phase.view_is ∙ sym c.phase-2.view_is) in (
      record {
        places_are = rw (← c.phase-2.view_is) at i.0.places_are;
        numbers_are = rw (← c.phase-2.view_is) at i.0.numbers_are;
        asides_are = subst (λ (s : Sought). AreAside c.push.new.self.items s.residual) same two;
      },
      marked-again (λ fresh. record { fresh = fresh.fresh; none_last = fresh.none_last }) (rw (← c.phase-2.view_is) at i.1),
    )

pub returns : goal.returns
returns c = rw (← c.self.view_is) (ap (λ (p : Phased). searched (sought_by p) c.self.inside.places.value) c.phase-2.view_is)
