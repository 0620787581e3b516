use Rattle.std.proofs.Common.{◌≡◌, ◌<◌, [], ◌∷◌, ◌++◌, length, take, ap, sym, ◌∙◌, arith}
use Rattle.std.proofs.lemmas.List.{take_more, take_all}
use Rattle.dmf_path.specs.Held.{way_of, filled_slots}
use Rattle.dmf_path.specs.Residual.{residual_of, with_settled_rooms}
use Rattle.dmf_path.proofs.slots.Settled.{length-settled}
use Rattle.dmf_path.proofs.reach.settled_rooms.Goals as goal
use Rattle.dmf_path.proofs.reach.settled_rooms.Goals.{After-len-place-end}

-- as many rooms are told as there are
all_told : (c : After-len-place-end) → length (with_settled_rooms (residual_of c.args.links.now) (way_of c.args.trail.now)).rooms ≡ c.len-place-end.result
all_told c =
    let r = residual_of c.args.links.now in
    let w = way_of c.args.trail.now in
    omega (arith, c.len-place-end.ensures, c.args.links.now.rooms.ok.0, length-settled r.links r.takes_back w.sent (filled_slots w) r.rooms)

pub loop-place-preserved : goal.loop-place-preserved
loop-place-preserved c =
    let r = residual_of c.args.links.now in
    let w = way_of c.args.trail.now in
    let rooms = (with_settled_rooms r w).rooms in
    let i = c.loop-place.place in
    let within : i < length rooms = omega (arith, c.loop-place-test.true, all_told (goal.at.loop-place-preserved c).After-len-place-end) in
    c.in_ok-push.ensures.items ∙ ap (λ xs. xs ++ c.settled_room.result ∷ []) c.loop-place.invariant
    ∙ ap (λ x. take i rooms ++ x ∷ []) c.settled_room.ensures ∙ sym (take_more rooms i 0 within)

pub returns : goal.returns
returns c =
    let r = residual_of c.args.links.now in
    let w = way_of c.args.trail.now in
    c.loop-place.invariant ∙ take_all c.loop-place.place (with_settled_rooms r w).rooms
    (omega (arith, c.loop-place-test.false, all_told (goal.at.returns c).After-len-place-end))
