-- What a search has reached stays as it is while it reaches more.
use Rattle.std.proofs.Common.{ℕ, ◌≡◌, ◌-◌, ◌<◌, Bool, List, get_or, set, refl, ap, ◌∙◌, arith}
use Rattle.std.proofs.lemmas.List.{get_or-set_other}
use Rattle.dmf_state.specs.Network.{Network, arc_number}
use Rattle.dmf_vital.specs.declared.exits.Exits.{Exits}
use Rattle.dmf_vital.specs.declared.tree.Reached.{Reached}
use Rattle.dmf_vital.specs.Hop.{from_of, to_of}
use Rattle.dmf_vital.specs.Tree.{not_reached, at_node, place_of, back_of, IsReachedBy, IsEntered, KeepsReached, LeadsToReached}

pub kept-none : (nodes : List Reached) → KeepsReached nodes nodes
kept-none nodes v some = refl

pub place-kept : (before after : List Reached) (v : ℕ) → KeepsReached before after → 0 < place_of before v → place_of after v ≡ place_of before v
place-kept before after v kept some = ap (λ (r : Reached). r.place) (kept v some)

pub kept-in_turn : (a b c : List Reached) → KeepsReached a b → KeepsReached b c → KeepsReached a c
kept-in_turn a b c first second v some = second v (omega (arith, some, place-kept a b v first some)) ∙ first v some

-- Setting what is known of a node that was not reached keeps the others.
pub kept-set : (nodes : List Reached) (v : ℕ) (now : Reached) → place_of nodes v ≡ 0 → KeepsReached nodes (set nodes (v - 1) now)
kept-set nodes v now new u some =
    get_or-set_other nodes (v - 1) (u - 1) now not_reached
    (λ (e : u - 1 ≡ v - 1). let same : place_of nodes u ≡ place_of nodes v = ap (λ i. (get_or nodes i not_reached).place) e in omega (arith, same, new, some))

-- Of a node that was reached before the end is known as well.
pub back-kept : (before after : List Reached) (v : ℕ) → KeepsReached before after → 0 < place_of before v → back_of after v ≡ back_of before v
back-kept before after v kept some = ap (λ (r : Reached). r.back) (kept v some)

-- A step that leads to a reached node still does.
pub leads-kept : (n : Network) (flows : List ℕ) (e : Exits) (before after : List Reached) (back against : Bool) (v i : ℕ) → KeepsReached before after
    → LeadsToReached n flows e before back against v i → LeadsToReached n flows e after back against v i
leads-kept n flows e before after back against v i kept leads there other from room =
    let to : ℕ = to_of against (arc_number n i) in
    let was = leads there other from room in
    (omega (arith, was.0, place-kept before after to kept was.0), back-kept before after to kept was.0 ∙ was.1)

-- A node that was reached by a step still was.
pub by-kept : (n : Network) (flows : List ℕ) (e : Exits) (before after : List Reached) (v : ℕ) (by : Reached) → KeepsReached before after
    → IsReachedBy n flows e before v by → IsReachedBy n flows e after v by
by-kept n flows e before after v by kept is =
    let u : ℕ = from_of by.hop.against (arc_number n by.hop.arc) in
    let same = kept u is.from_reached in
    let place : place_of after u ≡ place_of before u = ap (λ (r : Reached). r.place) same in
    let width : (at_node after u).width ≡ (at_node before u).width = ap (λ (r : Reached). r.width) same in
    record {
      is_there = is.is_there;
      other = is.other;
      leads_to = is.leads_to;
      from_reached = omega (arith, is.from_reached, place);
      from_before = omega (arith, is.from_before, place);
      same_end = back-kept before after u kept is.from_reached ∙ is.same_end;
      narrows = omega (arith, is.narrows, width);
      fits = is.fits;
    }

-- An exit that enters a reached node still does.
pub entered-kept : (n : Network) (flows : List ℕ) (e : Exits) (before after : List Reached) (i : ℕ) → KeepsReached before after
    → IsEntered n flows e before i → IsEntered n flows e after i
entered-kept n flows e before after i kept is there exit carries level =
    let to : ℕ = (arc_number n i).head in
    let was = is there exit carries level in
    (omega (arith, was.0, place-kept before after to kept was.0), back-kept before after to kept was.0 ∙ was.1)
