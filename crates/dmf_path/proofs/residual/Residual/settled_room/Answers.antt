use Rattle.std.proofs.Common.{◌≡◌, ap, sym, ◌∙◌, arith, get_or}
use Rattle.std.proofs.lemmas.List.{get_or_default}
use Rattle.dmf_links.specs.LinkTable.{links_of}
use Rattle.dmf_path.specs.Held.{way_of, filled_slots}
use Rattle.dmf_path.proofs.slots.Settled.{held-le}
use Rattle.dmf_path.proofs.slots.SettledRoom.{rooms_with-empty, room-along, room-back, room-fits}
use Rattle.dmf_path.proofs.residual.Residual.settled_room.Goals as goal
use Rattle.dmf_path.proofs.residual.Residual.settled_room.Goals.{After-index-room}

-- the link's room, as it is read
room_read : (c : After-index-room) → c.index-room.result.now ≡ get_or c.args.self.now.rooms.items c.args.place 0
room_read c =
    c.index-room.ensures ∙ get_or_default c.args.self.now.rooms.items c.args.place _ 0 (omega (arith, c.requires.place, c.args.self.now.rooms_are.0))

pub returns-then-is_empty : goal.returns-then-is_empty
returns-then-is_empty c =
    let a = c.args.self.now in
    room_read (goal.at.returns-then-is_empty c).After-index-room
    ∙ ap (λ rs. get_or rs c.args.place 0) (sym (rooms_with-empty (links_of a.table.value) a.takes_back (way_of c.args.trail.now) a.rooms.items
    (c.is_empty.ensures c.if-is_empty.true)))

pub overflow_sub-left : goal.overflow_sub-left
overflow_sub-left c =
    let a = c.args.self.now in
    let room = room_read (goal.at.overflow_sub-left c).After-index-room in
    omega (
      arith,
      room,
      rw c.deref.ensures.value at c.held_for.ensures,
      held-le c.args.trail.now.sent a.rooms.items (filled_slots (way_of c.args.trail.now)) c.args.place,
    )

pub returns-then-not-self : goal.returns-then-not-self
returns-then-not-self c =
    let a = c.args.self.now in
    let room = room_read (goal.at.returns-then-not-self c).After-index-room in
    rw (room, c.held_for.ensures, c.deref.ensures.value)
    (sym (room-along (links_of a.table.value) c.args.trail.now.sent (filled_slots (way_of c.args.trail.now)) a.rooms.items c.args.place
    (omega (arith, c.requires.place, a.rooms_are.0)) c.if-not-self.true))

pub overflow_add-result : goal.overflow_add-result
overflow_add-result c =
    let a = c.args.self.now in
    let slots = filled_slots (way_of c.args.trail.now) in
    let room = room_read (goal.at.overflow_add-result c).After-index-room in
    omega (
      arith,
      room,
      rw c.deref.ensures.value at c.held_for.ensures,
      rw (c.deref-2.ensures.value, c.opposite.ensures.is, c.deref-3.ensures) at c.held_for-2.ensures,
      room-back (links_of a.table.value) c.args.trail.now.sent slots a.rooms.items c.args.place
          (omega (arith, c.requires.place, a.rooms_are.0)) c.if-not-self.false,
      room-fits a.takes_back c.args.trail.now.sent slots a.rooms.items c.args.place a.table.value.are a.rooms_are c.requires.place,
    )

pub returns : goal.returns
returns c =
    let a = c.args.self.now in
    let slots = filled_slots (way_of c.args.trail.now) in
    let room = room_read (goal.at.returns c).After-index-room in
    rw (room, c.held_for.ensures, c.held_for-2.ensures, c.deref.ensures.value, c.deref-2.ensures.value, c.opposite.ensures.is, c.deref-3.ensures)
    (sym (room-back (links_of a.table.value) c.args.trail.now.sent slots a.rooms.items c.args.place
    (omega (arith, c.requires.place, a.rooms_are.0)) c.if-not-self.false))
