-- The walk goes on along the link that a turn finds, once a slot is free for it.
use Rattle.std.proofs.Common.{ℕ, ◌≡◌, ◌+◌, ◌<◌, length, get_or, ap, sym, ◌∙◌, subst, arith}
use Rattle.std.proofs.Math.Nat.{mul-le-mul_right}
use Rattle.std.proofs.lemmas.List.{get_or_default, get_or-set_same}
use Rattle.dmf_node.specs.Node.{IsNode}
use Rattle.dmf_links.specs.Links.{Links, LiesAt, AreLinks, AreRooms}
use Rattle.dmf_path.specs.Walk.{IsAdmissible}
use Rattle.dmf_path.specs.Held.{Way, IsSlot, slot_at, entered}
use Rattle.dmf_path.specs.Residual.{ResidualLinks, MakesWay, free, leaves}
use Rattle.dmf_links.proofs.tables.LinkPlaces.{lies-within}
use Rattle.dmf_path.proofs.walks.OneTurn.{Turn, moved, work_left, where-ends, told-room, node-within, not_passed-set, on-turned}
use Rattle.dmf_path.proofs.slots.TurnSlots.{IsOnWay, IsMade, slots-left, first-leaves, made-aim, way-made, on-entered}

-- The turn found a link: it falls, and has room.
pub record IsFound (t : Turn) : Type 0 where
  pub found : t.place < t.end
  pub room : 0 < get_or t.r.rooms t.place 0
  pub falls : get_or t.labels (get_or t.r.links.heads t.place 0) 0 + 1 ≡ get_or t.labels t.node 0
  pub above : get_or t.labels t.w.goal 0 < get_or t.labels t.node 0

-- Once the slot is free, the links are the same.
made-links : {r : ResidualLinks} {w : Way} {next : ResidualLinks} {new : Way} → MakesWay r w next new → next.links ≡ r.links
made-links (free less is kept) = ap (λ (x : ResidualLinks). x.links) kept
made-links (leaves meets is put) = ap (λ (x : ResidualLinks). x.links) put

module _ {t : Turn} (f : IsFound t) where
  -- The link found lies at the node, and is one of the links.
  lies-found : LiesAt t.r.links t.node t.place
  lies-found = record {
    from = omega (arith, t.from, t.on.come.walking.current_is.from t.node t.on.come.is_node);
    below = omega (arith, f.found, where-ends t);
  }

  within-found : t.place < length t.r.links.heads
  within-found = lies-within t.r.links t.node t.place t.links t.on.come.is_node lies-found

  -- There is a slot for it,
  pub slot-found : t.w.walked < length t.w.slots
  slot-found = omega (arith, slots-left t.on, f.above)

  -- and if the first link of the rest has the slot, that link can leave.
  pub slot-first : t.w.walked ≡ t.w.rest → IsSlot t.r.links t.w.sent t.r.rooms (slot_at t.w.slots t.w.rest)
  slot-first meets = (first-leaves t.on t.links t.start_is (omega (arith, meets, slot-found))).slot

  module _ {next : ResidualLinks} {new : Way} (way : MakesWay t.r t.w next new) where
    -- Then the link found is still there.
    pub found-within : t.place < length next.links.heads
    found-within = subst (λ (l : Links). t.place < length l.heads) (sym (made-links way)) within-found

    -- Over it less work is left,
    pub less-found : {head : ℕ} → head ≡ get_or next.links.heads t.place head
        → work_left t.aim.links t.labels t.w.start (moved t) head < work_left t.aim.links t.labels t.w.start t.current t.node
    less-found {head} read =
        let is : head ≡ get_or t.r.links.heads t.place 0 = read ∙ ap (λ (l : Links). get_or l.heads t.place head) (made-links way)
        ∙ get_or_default t.r.links.heads t.place head 0 within-found in
        let most = not_passed-set (length t.aim.links.heads) t.current t.node t.place (node-within t) t.from in
        omega (arith, ap (λ v. get_or t.labels v 0) is, f.falls, mul-le-mul_right (get_or t.labels t.w.start 0 + 1) most)

    module _ (sums : AreRooms next.links next.rooms) where
      -- the slot is free,
      pub is-made : IsMade next t.labels (moved t) t.aim new t.node
      is-made = way-made (on-turned t) t.links t.start_is t.other slot-found way sums

      -- and the walk goes on.
      pub on-found : {head : ℕ} → head ≡ get_or next.links.heads t.place head
          → IsOnWay next t.labels (moved t) t.aim (entered new t.place (get_or next.rooms t.place 0)) head
      on-found {head} read =
          let can : IsAdmissible t.r.links t.labels t.aim.rooms t.node t.place =
          record { lies = lies-found; room = omega (arith, told-room t lies-found f.falls, f.room); falls = f.falls } in
          let at = subst (λ (l : Links). AreLinks l × IsNode l.nodes t.w.start × IsAdmissible l t.labels t.aim.rooms t.node t.place) (sym (made-links way))
          (t.links, t.start_is, can) in
          rw (read ∙ get_or_default next.links.heads t.place head 0 found-within)
          (on-entered at.0 (subst (IsNode next.links.nodes) (sym (made-aim way).start) at.1) is-made
          (get_or-set_same t.current t.node t.place 0 (node-within t)) at.2)
