-- What is known of a phase stays where its links, its start and its labels stay.
use Rattle.std.proofs.Common.{ℕ, ◌≡◌, Bool, true, length, ap, sym, ◌∙◌, subst}
use Rattle.dmf_links.specs.Links.{Links}
use Rattle.dmf_links.specs.LinkTable.{links_of}
use Rattle.dmf_path.specs.declared.ball.Ball.{Ball}
use Rattle.dmf_path.specs.declared.levels.Levels.{Levels}
use Rattle.dmf_path.specs.Ball.{IsAround}
use Rattle.dmf_path.specs.Held.{way_of, filled_slots}
use Rattle.dmf_path.specs.Phase.{Phased, sought_by, HasNotBegun, IsAlike, IsMarked, begun, fresh}
use Rattle.dmf_path.specs.Residual.{residual_of}
use Rattle.dmf_path.specs.Searching.{Sought, IsFresh}
use Rattle.dmf_path.proofs.slots.Settled.{length-settled}

-- A phase that has not begun still has not.
pub not-begun-alike : {old new : Phased} → links_of new.links.table.value ≡ links_of old.links.table.value → new.trail.start ≡ old.trail.start
    → new.levels ≡ old.levels → HasNotBegun old → HasNotBegun new
not-begun-alike {old} {new} links start levels is = record {
  fresh = subst (λ (l : Links). IsFresh l new.levels.near.labels new.trail.start) (sym links)
      (subst (λ (v : ℕ). IsFresh (links_of old.links.table.value) new.levels.near.labels v) (sym start)
      (subst (λ (x : Levels). IsFresh (links_of old.links.table.value) x.near.labels old.trail.start) (sym levels) is.fresh));
  none_last = ap (λ (x : Levels). x.all) levels ∙ is.none_last;
}

-- So the mark as fresh stays right,
pub marked-again : {old new : Phased} {is_fresh : Bool} → (HasNotBegun old → HasNotBegun new) → IsMarked old is_fresh → IsMarked new is_fresh
marked-again still (begun is_not) = begun is_not
marked-again still (fresh is) = fresh (still is)

pub marked-alike : {old new : Phased} {is_fresh : Bool} → links_of new.links.table.value ≡ links_of old.links.table.value
    → new.trail.start ≡ old.trail.start → new.levels ≡ old.levels → IsMarked old is_fresh → IsMarked new is_fresh
marked-alike links start levels is = marked-again (not-begun-alike links start levels) is

-- what the mark as fresh says about a phase
pub fresh-mark : {p : Phased} → IsMarked p true → HasNotBegun p
fresh-mark (begun is_not) = absurd (cc)
fresh-mark (fresh is) = is

-- What a phase knows of the nodes near the goal is about the same goal.
pub around-alike : {old new : Phased} → IsAlike old new → IsAround old.ball old.trail.goal → IsAround new.ball new.trail.goal
around-alike {old} {new} alike around =
    subst (λ (s : Sought). IsAround new.ball s.goal) (sym alike.same) (subst (λ (b : Ball). IsAround b old.trail.goal) (sym alike.ball) around)

-- There is a settled room for each link.
pub rooms-long : (p : Phased) → length (sought_by p).residual.rooms ≡ length (sought_by p).residual.links.heads
rooms-long p =
    let r = residual_of p.links in
    let w = way_of p.trail in
    length-settled r.links r.takes_back w.sent (filled_slots w) r.rooms ∙ p.links.rooms_are.0
