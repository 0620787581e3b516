-- A bridge joins a node reached ahead to one reached from behind.
use Rattle.std.proofs.Common.{ℕ, ◌≡◌, ◌<◌, Bool, true, false, not, List, refl, ap, sym, ◌∙◌, subst}
use Rattle.std.proofs.lemmas.Bool.{both_ways, false_from_ne_true, true_from_ne_false}
use Rattle.dmf_state.specs.declared.arc.Arc.{Arc}
use Rattle.dmf_state.specs.Network.{Network, arc_number, has_arc}
use Rattle.dmf_vital.specs.declared.exits.Exits.{Exits}
use Rattle.dmf_vital.specs.declared.hop.Hop.{Hop}
use Rattle.dmf_vital.specs.declared.tree.Reached.{Reached}
use Rattle.dmf_vital.specs.Exits.{is_barred}
use Rattle.dmf_vital.specs.Hop.{from_of, to_of, turned}
use Rattle.dmf_vital.specs.Tree.{place_of, back_of, room_over, IsBridge, IsCrossing, IsStepped}

-- The step that a search goes over from behind is that of the other direction.
pub from-turned : (against : Bool) (arc : Arc) → from_of (not against) arc ≡ to_of against arc
from-turned true arc = refl
from-turned false arc = refl

pub to-turned : (against : Bool) (arc : Arc) → to_of (not against) arc ≡ from_of against arc
to-turned true arc = refl
to-turned false arc = refl

pub turned-same : (b : Bool) → turned b b ≡ false
turned-same true = refl
turned-same false = refl

pub turned-false : (b t : Bool) → turned b t ≡ false → t ≡ b
turned-false true true e = refl
turned-false true false e = absurd (both_ways true e refl)
turned-false false t e = e

-- A step to a node that was reached before is a bridge, or leads to one of the same end.
pub met-stepped : (n : Network) (flows : List ℕ) (e : Exits) (nodes : List Reached) (back there : Bool) (hop : Hop) (met : Bool) → met ≡ turned back there
    → has_arc n hop.arc ≡ true → is_barred n e hop.arc ≡ false → 0 < place_of nodes (from_of hop.against (arc_number n hop.arc))
    → back_of nodes (from_of hop.against (arc_number n hop.arc)) ≡ back → 0 < room_over n flows back hop.against hop.arc
    → 0 < place_of nodes (to_of hop.against (arc_number n hop.arc)) → back_of nodes (to_of hop.against (arc_number n hop.arc)) ≡ there
    → IsStepped n flows e nodes back hop met
met-stepped n flows e nodes back there hop true is has other reached end room to side = record {
  is_there = has;
  other = other;
  room = room;
  from_reached = reached;
  from_end = end;
  to_reached = to;
  to_end = λ same. both_ways true (is ∙ ap (turned back) (sym side ∙ same) ∙ turned-same back) refl;
}
met-stepped n flows e nodes back there hop false is has other reached end room to side =
    λ _ _ _ _. (to, side ∙ turned-false back there (sym is))

-- A bridge as it is from the node that was reached ahead.
pub bridge-crossing : (n : Network) (flows : List ℕ) (e : Exits) (nodes : List Reached) (back : Bool) (hop : Hop) → IsBridge n flows e nodes back hop
    → IsCrossing n flows e nodes (record { arc = hop.arc; against = turned back hop.against })
bridge-crossing n flows e nodes false hop is = record {
  is_there = is.is_there;
  other = is.other;
  room = is.room;
  from_reached = is.from_reached;
  from_ahead = is.from_end;
  to_reached = is.to_reached;
  to_behind = true_from_ne_false (back_of nodes (to_of hop.against (arc_number n hop.arc))) is.to_end;
}
bridge-crossing n flows e nodes true hop is =
    let arc : Arc = arc_number n hop.arc in
    let from = from-turned hop.against arc in
    let to = to-turned hop.against arc in
    record {
      is_there = is.is_there;
      other = is.other;
      room = is.room;
      from_reached = subst (λ u. 0 < place_of nodes u) (sym from) is.to_reached;
      from_ahead = ap (back_of nodes) from ∙ false_from_ne_true (back_of nodes (to_of hop.against arc)) is.to_end;
      to_reached = subst (λ u. 0 < place_of nodes u) (sym to) is.from_reached;
      to_behind = ap (back_of nodes) to ∙ is.from_end;
    }
