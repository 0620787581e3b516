use Rattle.std.proofs.Common.{ℕ, ◌≡◌, ◌<◌, ◌≤◌, get_or, ap, sym, ◌∙◌, arith, ⊎_elim}
use Rattle.std.proofs.lemmas.Bool.{cases_lt}
use Rattle.std.proofs.lemmas.List.{get_or_default}
use Rattle.dmf_links.specs.Links.{open_flag}
use Rattle.dmf_links.specs.LinkTable.{links_of}
use Rattle.dmf_path.specs.Held.{way_of}
use Rattle.dmf_links.proofs.rooms.Flags.{flag-of_room}
use Rattle.dmf_path.proofs.slots.SettledRoom.{rooms_with-empty}
use Rattle.dmf_path.proofs.residual.Residual.opposite_room.Goals as goal

-- If the flag is 0, there is no room.
no-room : (room flag : ℕ) → flag ≡ open_flag room → flag ≡ 0 → room ≡ 0
no-room room flag told is =
    ⊎_elim
    (λ (some : 0 < room). absurd (omega (arith, told, is, flag-of_room room some)))
    (λ (none : room ≤ 0). omega (arith, none))
    (cases_lt 0 room)

pub returns-then-is_empty : goal.returns-then-is_empty
returns-then-is_empty c =
    let a = c.args.self.now in
    let p = c.args.place in
    let flag : get_or a.flags.items p 0 ≡ 0 =
    sym (c.index.ensures ∙ get_or_default a.flags.items p _ 0 (omega (arith, a.flags_are.0, c.requires.place))) ∙ c.if-index-eq0.true in
    sym (no-room _ _ (a.flags_are.1 p c.requires.place) flag)
    ∙ ap (λ rs. get_or rs (get_or a.table.value.partners.items p 0) 0) (sym (rooms_with-empty (links_of a.table.value) a.takes_back
    (way_of c.args.trail.now) a.rooms.items (c.is_empty.ensures c.if-is_empty.true)))
