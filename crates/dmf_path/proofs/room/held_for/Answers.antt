use Rattle.std.proofs.Common.{ℕ, List, [], ap, sym, ◌∙◌, unwrap_or}
use Rattle.dmf_path.specs.declared.trail.Slot.{Slot}
use Rattle.std.proofs.lemmas.List.{append-nil, take_rest}
use Rattle.dmf_path.specs.Held.{way_of, held_for, walked_slots, rest_slots}
use Rattle.dmf_path.proofs.slots.Leaving.{HaveLeft-split}
use Rattle.dmf_path.proofs.slots.SettledRoom.{held-split}
use Rattle.dmf_path.proofs.room.held_for.Goals as goal

pub held_in-requires-clause-have : goal.held_in-requires-clause-have
held_in-requires-clause-have c =
    let w = way_of c.args.trail.now in
    rw c.deref.ensures.value (HaveLeft-split _ _ (walked_slots w) (rest_slots w) c.requires.have).0

pub returns-in-Some : goal.returns-in-Some
returns-in-Some c =
    let w = way_of c.args.trail.now in
    let found = rw c.deref.ensures.value at c.in-Some.ensures in
    sym (held-split _ _ (walked_slots w) (rest_slots w) _ ∙ ap (λ o. unwrap_or o (held_for w.sent c.args.rooms.now (rest_slots w) c.args.place)) (sym found))

pub held_in-requires-in-None-clause-have : goal.held_in-requires-in-None-clause-have
held_in-requires-in-None-clause-have c =
    let w = way_of c.args.trail.now in
    rw (c.deref-2.ensures.value, take_rest) (HaveLeft-split _ _ (walked_slots w) (rest_slots w) c.requires.have).1

pub returns-in-None : goal.returns-in-None
returns-in-None c =
    let w = way_of c.args.trail.now in
    let rest : ℕ = held_for w.sent c.args.rooms.now (rest_slots w) c.args.place in
    let none = rw c.deref.ensures.value at c.in-None.ensures in
    let found = rw (c.deref-2.ensures.value, take_rest) at c.held_in-in-None.ensures in
    c.unwrap_or.ensures ∙ ap (λ o. unwrap_or o 0) found
    ∙ sym (ap (λ (ss : List Slot). held_for w.sent c.args.rooms.now ss c.args.place) (sym (append-nil (rest_slots w))) ∙ held-split _ _ (rest_slots w) [] _)
    ∙ sym (held-split _ _ (walked_slots w) (rest_slots w) _ ∙ ap (λ o. unwrap_or o rest) (sym none))
