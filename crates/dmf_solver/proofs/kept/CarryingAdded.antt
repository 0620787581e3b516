-- The carrying search of a state with one more arc, on which nothing flows, or without it.
use Rattle.std.proofs.Common.{◌≡◌, ◌-◌, ◌==◌, Bool, true, false, [], ◌∷◌, ◌++◌, length, Option, Some, None, refl, ap, sym, ◌∙◌, subst, arith}
use Rattle.std.specs.Prelude.{insert, remove, IfSome}
use Rattle.std.proofs.lemmas.List.{length_push}
use Rattle.std.proofs.lemmas.Slice.Zip.{AllZip-long}
use Rattle.dmf_links.specs.declared.pair.Pair.{Pair}
use Rattle.dmf_links.specs.Pair.{without_room}
use Rattle.dmf_path.specs.Search.{Searched, with_pairs}
use Rattle.dmf_state.specs.declared.arc.Arc.{Arc}
use Rattle.dmf_state.specs.Direction.{HasIdleLast}
use Rattle.dmf_state.specs.NetworkState.{NetworkState, IsState, with_idle_arc}
use Rattle.dmf_state.specs.Revert.{without_last}
use Rattle.dmf_state.proofs.Reverting.{without_last-idle}
use Rattle.dmf_solver.specs.CarryingNetwork.{carrying_pair, return_of, MayCarry}
use Rattle.dmf_solver.specs.ResidualNetwork.{residual_pair}
use Rattle.dmf_solver.proofs.pairs.ArcPairs.{pairs-inserted, pairs-removed}
use Rattle.dmf_solver.proofs.kept.CarryingFollowed.{carries-made}
use Rattle.dmf_solver.proofs.pairs.CarryingPairs.{by_carrying_pair}

bare-by : (arc : Arc) (loop : Bool) → (arc.tail == arc.head) ≡ loop → carrying_pair arc 0 ≡ without_room (residual_pair arc 0)
bare-by arc true e = rw e refl
bare-by arc false e = rw e refl

-- The pair of an arc on which nothing flows has no room.
bare : (arc : Arc) → carrying_pair arc 0 ≡ without_room (residual_pair arc 0)
bare arc = bare-by arc (arc.tail == arc.head) refl

-- So the search carries with the arc, where there is a search,
pub some-added : (s : NetworkState) (arc : Arc) → IsState (with_idle_arc s arc) → (p : Option Pair) → p ≡ residual_pair arc 0
    → (old : Option Searched) → IfSome old (MayCarry s) → (found : Option Searched) → IfSome found (λ new. (o : Searched) × ((old ≡ Some o)
    × (new ≡ with_pairs o (insert o.pairs (length o.pairs - 1) (without_room p)))))
    → IfSome found (MayCarry (with_idle_arc s arc))
some-added s arc state p has old may None made = tt
some-added s arc state p has old may (Some new) (o, (same, made)) =
    let carries : MayCarry s o = subst (λ (x : Option Searched). IfSome x (MayCarry s)) same may in
    let one_each : length s.flows ≡ length s.network.arcs =
    omega (arith, AllZip-long _ (s.network.arcs ++ arc ∷ []) (s.flows ++ 0 ∷ []) state.flow.within, length_push s.network.arcs arc, length_push s.flows 0) in (
      carries.0,
      carries-made s (with_idle_arc s arc) carries.0 carries.0 (λ ps. insert ps (length ps - 1) (without_room p)) o new carries.1 made refl
          (pairs-inserted by_carrying_pair s.network.arcs s.flows arc (without_room p) (return_of s.network carries.0) one_each
          (bare arc ∙ sym (ap without_room has))),
    )

-- and without it.
pub some-before : (t : NetworkState) → HasIdleLast t → (old : Option Searched) → IfSome old (MayCarry t) → (found : Option Searched)
    → IfSome found (λ new. (o : Searched) × ((old ≡ Some o) × (new ≡ with_pairs o (remove o.pairs (length o.pairs - 2)))))
    → IfSome found (MayCarry (without_last t))
some-before t has old may None made = tt
some-before t has old may (Some new) (o, (found, made)) =
    let s = has.before in
    let arc = has.arc in
    let with : MayCarry (with_idle_arc s arc) o =
    subst (λ u. MayCarry u o) (sym has.gives) (subst (λ (x : Option Searched). IfSome x (MayCarry t)) found may) in
    let same : without_last t ≡ s = ap without_last (sym has.gives) ∙ without_last-idle s arc in
    subst (λ u. MayCarry u new) (sym same) (
      with.0,
      carries-made (with_idle_arc s arc) s with.0 with.0 (λ ps. remove ps (length ps - 2)) o new with.1 made refl
          (pairs-removed by_carrying_pair s.network.arcs s.flows arc (return_of s.network with.0) (AllZip-long _ s.network.arcs s.flows has.state.flow.within)),
    )
