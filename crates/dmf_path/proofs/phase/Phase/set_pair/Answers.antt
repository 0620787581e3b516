-- A phase that has not begun holds no push, and goes on whatever the rooms are.
use Rattle.std.proofs.Common.{ap, sym, ◌∙◌, subst}
use Rattle.dmf_links.specs.Links.{Links}
use Rattle.dmf_links.specs.LinkTable.{links_of}
use Rattle.dmf_path.specs.Held.{way_of}
use Rattle.dmf_path.specs.Phase.{MayRise}
use Rattle.dmf_path.specs.Residual.{ResidualLinks, residual_of, pair_set}
use Rattle.dmf_path.specs.Searching.{labelling_of, IsFresh, IsSearching}
use Rattle.dmf_path.specs.Walk.{AreCurrent}
use Rattle.dmf_path.proofs.searches.SearchTurns.{plainly, searching-over, told-fresh}
use Rattle.dmf_path.proofs.phase.Phase.set_pair.Goals as goal
use Rattle.dmf_path.proofs.phase.Phase.set_pair.Goals.{After-set_pair}

pub set_pair-requires : goal.set_pair-requires
set_pair-requires c = record {
  within = rw (← c.self.view_is) at c.requires.within;
  fits = c.requires.fits;
  used = rw (← c.self.view_is) at c.requires.used;
}

-- The rooms could rise,
may : (c : After-set_pair) → MayRise (record {
  links = c.self.inside.links;
  levels = c.self.inside.levels;
  ball = c.self.inside.ball;
  trail = c.self.inside.trail;
})
may c = rw (← c.self.view_is) at c.requires.fresh

-- and the phase still has not begun.
goes : (c : After-set_pair) → IsSearching (residual_of c.set_pair.new.self) (labelling_of c.self.inside.levels) (way_of c.self.inside.trail)
    × IsFresh (links_of c.set_pair.new.self.table.value) c.self.inside.levels.near.labels c.self.inside.trail.start
goes c =
    let is = c.self.invariant.searching in
    let links = ap (λ (x : ResidualLinks). x.links) c.set_pair.ensures in
    searching-over (residual_of c.set_pair.new.self) is (may c).fresh.fresh (ap (λ (l : Links). l.nodes) links) c.set_pair.new.self.table.value.are
    c.set_pair.new.self.rooms_are (subst (λ (l : Links). AreCurrent l c.self.inside.levels.current.items) (sym links) is.under_way.walking.current_is)

pub invariant_of-self : goal.invariant_of-self
invariant_of-self c =
    let may = may c in
    record {
      searching = (goes c).0;
      ready = c.self.invariant.ready;
      lasting = λ all. let none = may.fresh.none_last in absurd (cc);
      fit = may.fit _;
    }

pub returns : goal.returns
returns c =
    let of = c.self.inside in
    let is = c.self.invariant.searching in
    let may = may c in
    let told = told-fresh (residual_of c.set_pair.new.self) is may.fresh.fresh ∙ c.set_pair.ensures
    ∙ ap (λ (x : ResidualLinks). pair_set x c.args.place c.args.along c.args.against) (sym (told-fresh (residual_of of.links) is may.fresh.fresh)) in
    rw (← c.self.view_is) (record {
      fresh = record { fresh = (goes c).1; none_last = may.fresh.none_last };
      set = ap (λ (x : ResidualLinks). plainly x (way_of of.trail)) told;
    })
