-- The phase has not begun, and the ball is forgotten.
use Rattle.std.proofs.Common.{◌≡◌, refl, subst}
use Rattle.dmf_path.specs.Phase.{sought_by, HasNotBegun, IsMarked}
use Rattle.dmf_path.proofs.searches.Phases.{fresh-mark}
use Rattle.dmf_path.proofs.phase.Phase.forget.Goals as goal
use Rattle.dmf_path.proofs.phase.Phase.forget.Goals.{Joined-not-is_fresh, then-not-is_fresh, else-not-is_fresh}

-- The phase has begun anew, or had not begun.
anew : (c : Joined-not-is_fresh) → HasNotBegun c.if-not-is_fresh.self × (sought_by c.if-not-is_fresh.self ≡ sought_by c.args.self.now)
anew c = elim c.if-not-is_fresh.branch [
  | then-not-is_fresh w ↦ rw w.self-is (w.begin_anew.ensures.fresh, w.begin_anew.ensures.same)
  | else-not-is_fresh w ↦ rw w.self-is (fresh-mark (subst (IsMarked c.args.self.now) w.if-not-is_fresh.false c.requires), refl)
]

pub invariant_of-self : goal.invariant_of-self
invariant_of-self c =
    let is = c.self.invariant in
    record { searching = is.searching; ready = is.ready; lasting = is.lasting; fit = c.forget.ensures.fit _ }

pub returns : goal.returns
returns c =
    let anew = rw (← c.self.view_is) at (anew (goal.at.returns c).Joined-not-is_fresh) in
    record {
      fresh = record { fresh = record { fresh = anew.0.fresh; none_last = anew.0.none_last }; fit = c.forget.ensures.fit };
      same = anew.1;
    }
