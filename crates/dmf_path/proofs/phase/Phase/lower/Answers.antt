-- The link is released, and its room lowered.
use Rattle.std.proofs.Common.{◌<◌, ◌≤◌, length, get_or, ap, sym, ◌∙◌, subst, arith}
use Rattle.dmf_path.specs.Ball.{IsFit}
use Rattle.dmf_path.specs.Held.{way_of}
use Rattle.dmf_path.specs.Phase.{with_residual}
use Rattle.dmf_path.specs.Residual.{ResidualLinks, residual_of, room_lowered, with_settled_rooms}
use Rattle.dmf_path.specs.Searching.{Sought, labelling_of, AreLasting}
use Rattle.dmf_path.proofs.labels.InsideBall.{fit-falls}
use Rattle.dmf_path.proofs.labels.Lasting.{lasting-opens}
use Rattle.dmf_path.proofs.rooms.Pushed.{opens-none}
use Rattle.dmf_path.proofs.searches.SearchTurns.{plainly}
use Rattle.dmf_path.proofs.slots.Released.{IsLowered, is-lowered}
use Rattle.dmf_path.proofs.phase.Phase.lower.Goals as goal
use Rattle.dmf_path.proofs.phase.Phase.lower.Goals.{After-lower}

pub lower-requires : goal.lower-requires
lower-requires c =
    let e = rw (← c.self.view_is) at c.release.ensures in
    record {
      within = omega (arith, c.requires.within, ap (λ (s : Sought). length s.residual.links.heads) e.alike.same);
      room = omega (arith, c.requires.room, e.room, ap (λ (s : Sought). get_or s.residual.rooms c.args.place 0) e.alike.same);
    }

-- what the phase keeps then
lowered : (c : After-lower) → IsLowered (residual_of c.self.inside.links) (labelling_of c.self.inside.levels) (way_of c.self.inside.trail) c.args.place
    c.args.amount (residual_of c.lower.new.self)
lowered c =
    let e = rw (← c.self.view_is) at c.release.ensures in
    let within : c.args.place < length c.self.inside.links.table.value.heads.items = omega (arith, c.requires.within, ap (λ (s : Sought). length s.residual.links.heads) e.alike.same) in
    let enough : c.args.amount ≤ get_or (with_settled_rooms (residual_of c.self.inside.links) (way_of c.self.inside.trail)).rooms c.args.place 0 =
    omega (arith, c.requires.room, ap (λ (s : Sought). get_or s.residual.rooms c.args.place 0) e.alike.same) in
    is-lowered c.args.place c.args.amount c.self.invariant.searching within enough e.off e.room c.lower.ensures c.lower.new.self.rooms_are

pub invariant_of-self : goal.invariant_of-self
invariant_of-self c =
    let low = lowered (goal.at.invariant_of-self c).After-lower in
    let of = c.self.inside in
    let is = c.self.invariant in
    let v = labelling_of of.levels in
    let before = with_settled_rooms (residual_of of.links) (way_of of.trail) in
    let rooms = (room_lowered before c.args.place c.args.amount).rooms in
    record {
      searching = low.searching;
      ready = is.ready;
      lasting = λ all. subst (AreLasting v of.levels.noted) (sym low.told_is)
          (lasting-opens v of.levels.noted before rooms (opens-none before.links v.labels before.rooms rooms low.none) (is.lasting all));
      fit = subst (IsFit of.ball) (sym low.told_is) (fit-falls of.ball before rooms (λ never. low.none) is.fit);
    }

pub returns : goal.returns
returns c =
    let low = lowered (goal.at.returns c).After-lower in
    let e = rw (← c.self.view_is) at c.release.ensures in
    record {
      lowered = ap (λ (x : ResidualLinks). plainly x (way_of c.self.inside.trail)) low.told_is
          ∙ ap (λ (s : Sought). with_residual s (room_lowered s.residual c.args.place c.args.amount)) e.alike.same;
      levels = e.alike.levels;
    }
