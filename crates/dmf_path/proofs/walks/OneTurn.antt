-- One turn of a walk: it takes an admissible link of its node, or steps back if there is none to take.
use Rattle.std.proofs.Common.{ℕ, ◌≡◌, ◌≢◌, ◌+◌, ◌-◌, ◌*◌, ◌<◌, ◌≤◌, List, [], ◌∷◌, ◌++◌, length, set, take, get_or, sum_by, ap, sym, subst, ◌∙◌}
use Rattle.std.proofs.Common.{arith, inl, inr, true}
use Rattle.std.proofs.Math.Nat.{mul-le-mul_right}
use Rattle.std.proofs.lemmas.Bool.{cases_lt}
use Rattle.std.specs.List.{All}
use Rattle.std.proofs.lemmas.List.{get_or-set_same, get_or_default, length-set, nil_from_length}
use Rattle.std.proofs.lemmas.List.Elements.{All-push, Contains-append_left, Contains-push}
use Rattle.std.proofs.lemmas.List.Sums.{sum_by-set}
use Rattle.dmf_node.specs.Node.{IsNode}
use Rattle.dmf_links.specs.Links.{Links, LiesAt, AreLinks, AreRooms, tail_of}
use Rattle.dmf_path.specs.declared.ball.Ball.{Ball}
use Rattle.dmf_path.specs.Astray.{IsOutside, LeadsAstray}
use Rattle.dmf_path.specs.Ball.{AreNear}
use Rattle.dmf_path.specs.Windows.{AreWindows}
use Rattle.dmf_path.specs.Walk.{IsTrail, IsWalk, end_of}
use Rattle.dmf_path.specs.Held.{Way, places_of, walked_slots, slot_at, stepped_back}
use Rattle.dmf_path.specs.Residual.{ResidualLinks, put_once_on}
use Rattle.dmf_path.specs.Searching.{AreNoted, IsNoted}
use Rattle.dmf_links.proofs.tables.LinkPlaces.{lies-partner, lies-within}
use Rattle.dmf_path.proofs.labels.InBall.{near-path}
use Rattle.dmf_path.proofs.paths.LeastTrail.{walk-path}
use Rattle.dmf_path.proofs.paths.OpenPaths.{head-node}
use Rattle.dmf_path.proofs.labels.Spreading.{cases-set}
use Rattle.dmf_path.proofs.walks.Walking.{label-trail, IsTrail-split, end_of-append, end-node, dead-end, walking-set, come-back}
use Rattle.dmf_path.proofs.walks.SoFar.{goal-joint, is-free, free-room}
use Rattle.dmf_path.proofs.walks.LastNode.{walk-end, last-link_within}
use Rattle.dmf_path.proofs.slots.TurnSlots.{IsOnWay, on-moved, last-places, on-back}

-- What is noted stays so when another link is.
noted-more : (l : Links) (noted : List ℕ) (q v p : ℕ) → IsNoted l noted v p → IsNoted l (noted ++ q ∷ []) v p
noted-more l noted q v p is =
    record { place = is.place; noted_is = Contains-append_left noted (q ∷ []) is.place is.noted_is; tail = is.tail; before = is.before }

-- A node's current link, which is passed and noted
pub noted-step : {l : Links} {labels rooms current noted : List ℕ} (v q : ℕ) → v < length current → get_or current v 0 ≡ q → tail_of l q ≡ v
    → q < length l.heads → AreNoted l labels rooms current noted → AreNoted l labels rooms (set current v (q + 1)) (noted ++ q ∷ [])
noted-step {l = l} {current = current} {noted = noted} v q inside stands tail within are = record {
  within = All-push (λ p. p < length l.heads) noted q are.within within;
  each = λ u p node lies early admissible. elim (cases-set current v u (q + 1) inside) [
    | inr other ↦ noted-more l noted q u p (are.each u p node lies (omega (arith, early, other.1)) admissible)
    | inl here ↦ elim (cases_lt p q) [
      | inl less ↦ noted-more l noted q u p (are.each u p node lies (omega (arith, less, stands, ap (λ x. get_or current x 0) here.0)) admissible)
      | inr same ↦ record { place = q; noted_is = Contains-push noted q; tail = tail ∙ sym here.0; before = omega (arith, same) }
    ]
  ];
}

-- The walk's last node, the place of the link that it takes, or where the node's links end, and that of the first admissible link passed.
pub record Turn : Type 0 where
  pub r : ResidualLinks
  pub labels : List ℕ
  pub current : List ℕ
  pub aim : ResidualLinks
  pub w : Way
  pub node : ℕ
  pub skip : ℕ
  pub place : ℕ
  pub end : ℕ
  pub ball : Ball
  pub links : AreLinks r.links
  pub start_is : IsNode r.links.nodes w.start
  pub on : IsOnWay r labels current aim w node
  pub other : node ≢ w.joint
  pub end_read : end ≡ get_or r.links.first (node + 1) end
  pub near : 0 < ball.radius → AreNear aim.links aim.rooms w.goal ball.radius ball.around.labels
  pub windows : ball.windows.known ≡ true → AreWindows ball.windows aim
  pub from : get_or current node 0 ≤ place
  pub skipped : get_or current node 0 ≤ skip
  pub order : skip ≤ place
  pub to : place ≤ end
  pub first : (p : ℕ) → get_or current node 0 ≤ p → p < skip → 0 < get_or r.rooms p 0
      → get_or labels (get_or r.links.heads p 0) 0 + 1 ≢ get_or labels node 0
  pub only : get_or labels w.goal 0 < get_or labels node 0 → (p : ℕ) → get_or current node 0 ≤ p → p < place → 0 < get_or r.rooms p 0
      → get_or labels (get_or r.links.heads p 0) 0 + 1 ≡ get_or labels node 0
      → LeadsAstray ball r.links w.goal (get_or labels node 0 - get_or labels w.goal 0 - 1) p

-- the current links once that of the node has moved on
abbrev pub moved : Turn → List ℕ
moved t = set t.current t.node t.place

-- the place of the walk's last link, and those of the links before it
abbrev pub last : Turn → ℕ
last t = (slot_at t.w.slots (t.w.walked - 1)).place

abbrev pub before_last : Turn → List ℕ
before_last t = places_of (take (t.w.walked - 1) t.w.slots)

-- the number of links that are not yet passed, each weighted by the work until the walk comes back to it, and what is left of this work
abbrev pub work_left : Links → List ℕ → ℕ → List ℕ → ℕ → ℕ
work_left l labels start current node = sum_by (λ p. length l.heads - p) current * (get_or labels start 0 + 1) + get_or labels node 0

-- A current link that moves on leaves at most as much work,
pub not_passed-set : (n : ℕ) (current : List ℕ) (v p : ℕ) → v < length current → get_or current v 0 ≤ p
    → sum_by (λ q. n - q) (set current v p) ≤ sum_by (λ q. n - q) current
not_passed-set n current v p within on = omega (arith, sum_by-set (λ q. n - q) current v p 0 within)

-- and less if it stood at a link.
passed-set : (n : ℕ) (current : List ℕ) (v p : ℕ) → v < length current → get_or current v 0 < p → get_or current v 0 < n
    → sum_by (λ q. n - q) (set current v p) < sum_by (λ q. n - q) current
passed-set n current v p within on one = omega (arith, sum_by-set (λ q. n - q) current v p 0 within)

module _ (t : Turn) where
  -- where the links of the node end
  pub where-ends : get_or t.r.links.first (t.node + 1) 0 ≡ t.end
  where-ends = get_or_default t.r.links.first (t.node + 1) 0 t.end (omega (arith, t.on.come.is_node.to_last, t.links.first_long)) ∙ sym t.end_read

  -- The room of a link that falls from the walk's last node is its settled room.
  pub told-room : {p : ℕ} → LiesAt t.r.links t.node p → get_or t.labels (get_or t.r.links.heads p 0) 0 + 1 ≡ get_or t.labels t.node 0
      → get_or t.aim.rooms p 0 ≡ get_or t.r.rooms p 0
  told-room {p} lies falls = ap (λ (x : ResidualLinks). get_or x.rooms p 0) (sym t.on.same)
      ∙ free-room t.r.takes_back t.r.rooms t.on.holding.rooms_are.0 (is-free t.on.way t.links t.start_is t.on.come.is_node t.on.come.arrives t.other lies falls)

  -- A link before the one found is one of the node,
  lies-before : (p : ℕ) → get_or t.current t.node 0 ≤ p → p < t.place → LiesAt t.r.links t.node p
  lies-before p later before = record {
    from = omega (arith, later, t.on.come.walking.current_is.from t.node t.on.come.is_node);
    below = omega (arith, before, t.to, where-ends);
  }

  -- and if it lies before the first one passed, it is not admissible by the settled rooms.
  first-told : (p : ℕ) → get_or t.current t.node 0 ≤ p → p < t.skip → 0 < get_or t.aim.rooms p 0
      → get_or t.labels (get_or t.r.links.heads p 0) 0 + 1 ≢ get_or t.labels t.node 0
  first-told p later before room falls =
      t.first p later before (omega (arith, room, told-room (lies-before p later (omega (arith, before, t.order))) falls)) falls

  -- what is known of the nodes near the goal
  near-told : 0 < t.ball.radius → AreNear t.r.links t.aim.rooms t.w.goal t.ball.radius t.ball.around.labels
  near-told some = subst (λ (x : ResidualLinks). AreNear x.links t.aim.rooms t.w.goal t.ball.radius t.ball.around.labels) (sym t.on.same) (t.near some)

  -- A link outside the windows has no settled room.
  outside-told : (p : ℕ) → LiesAt t.r.links t.node p → 0 < get_or t.aim.rooms p 0 → ¬ IsOutside t.ball t.r.links p
  outside-told p lies room out =
      let within : p < length t.r.links.heads = lies-within t.r.links t.node p t.links t.on.come.is_node lies in
      let link = t.links.each p within in
      let right = subst (AreWindows t.ball.windows) (sym t.on.same) (t.windows out.0) in
      let settled = subst (λ (x : ResidualLinks). 0 < get_or x.rooms p 0) (sym t.on.same) room in
      out.1 (right.open_links (get_or t.r.links.heads p 0) (get_or t.r.links.partners p 0) link.head (lies-partner t.r.links p t.links within)
      (rw (sym link.partner_back) at settled))

  -- No walk begins with it: the goal is not so near.
  none-told : (p : ℕ) (ps : List ℕ) → get_or t.current t.node 0 ≤ p → p < t.place → ¬ IsWalk t.r.links t.labels t.aim.rooms t.w.goal t.node (p ∷ ps)
  none-told p ps later before walk =
      let path = walk-path t.r.links t.aim.rooms t.labels t.w.goal t.node (p ∷ ps) walk in
      let room : 0 < get_or t.r.rooms p 0 = omega (arith, walk.0.room, told-room (lies-before p later before) walk.0.falls) in
      elim (t.only (omega (arith, path.1)) p later before room walk.0.falls) [
        | inr out ↦ outside-told p (lies-before p later before) walk.0.room out
        | inl (inl none) ↦
            let last : ps ≡ [] = nil_from_length ps (omega (arith, path.1, none.0)) in
            none.1 (subst (λ qs. IsWalk t.r.links t.labels t.aim.rooms t.w.goal (get_or t.r.links.heads p 0) qs) last walk.1)
        | inl (inr far) ↦
            let head_is = head-node t.r.links t.node p t.links t.on.come.is_node walk.0.lies in
            let long : length ps ≤ t.ball.radius = omega (arith, path.1, far.1) in
            let most = near-path t.links (near-told (omega (arith, far.0, far.1))) (get_or t.r.links.heads p 0) ps head_is path.0.2 long in
            omega (arith, most, far.2, path.1)
      ]

  -- The node has a current link.
  pub node-within : t.node < length t.current
  node-within = omega (arith, t.on.come.walking.current_is.one_each, t.on.come.is_node.to_last)

  -- With the node's current link moved on, the walk is still on its way.
  pub on-turned : IsOnWay t.r t.labels (moved t) t.aim t.w t.node
  on-turned = on-moved t.on t.place t.other (walking-set t.place t.on.come t.from (omega (arith, where-ends, t.to)) none-told)

  -- Each admissible link that is passed in this way is noted, if one is that is not after it.
  noted-turned : {noted more : List ℕ} → AreNoted t.aim.links t.labels t.aim.rooms t.current noted → All (λ q. q < length t.aim.links.heads) more
      → ((v p : ℕ) → IsNoted t.aim.links noted v p → IsNoted t.aim.links more v p)
      → ((p : ℕ) → t.skip ≤ p → p < t.place → IsNoted t.aim.links more t.node p)
      → AreNoted t.aim.links t.labels t.aim.rooms (moved t) more
  noted-turned {more = more} are within kept passed = record {
    within = within;
    each = λ v p node lies before admissible. elim (cases-set t.current t.node v t.place node-within) [
      | inr other ↦ kept v p (are.each v p node lies (omega (arith, before, other.1)) admissible)
      | inl here ↦ elim (cases_lt p (get_or t.current t.node 0)) [
        | inl early ↦ kept v p (are.each v p node lies (omega (arith, early, ap (λ u. get_or t.current u 0) here.0)) admissible)
        | inr later ↦ elim (cases_lt p t.skip) [
          | inl less ↦ absurd (first-told p later less admissible.room
              (subst (λ (x : ResidualLinks). get_or t.labels (get_or x.links.heads p 0) 0 + 1 ≡ get_or t.labels t.node 0) (sym t.on.same)
              (admissible.falls ∙ ap (λ u. get_or t.labels u 0) here.0)))
          | inr more_on ↦ subst (λ u. IsNoted t.aim.links more u p) (sym here.0) (passed p more_on (omega (arith, before, here.1)))
        ]
      ]
    ];
  }

  -- So the first link passed may be noted,
  pub noted-from : {noted more : List ℕ} → AreNoted t.aim.links t.labels t.aim.rooms t.current noted → more ≡ noted ++ t.skip ∷ []
      → t.skip < t.place → AreNoted t.aim.links t.labels t.aim.rooms (moved t) more
  noted-from {noted = noted} are is moves =
      let lies = lies-before t.skip t.skipped moves in
      let tail : tail_of t.aim.links t.skip ≡ t.node =
      subst (λ (x : ResidualLinks). tail_of x.links t.skip ≡ t.node) t.on.same (t.links.at_tail t.node t.skip t.on.come.is_node lies) in
      let within : t.skip < length t.aim.links.heads =
      subst (λ (x : ResidualLinks). t.skip < length x.links.heads) t.on.same (lies-within t.r.links t.node t.skip t.links t.on.come.is_node lies) in
      rw is (noted-turned are (All-push (λ q. q < length t.aim.links.heads) noted t.skip are.within within) (noted-more t.aim.links noted t.skip)
      (λ p later before. record { place = t.skip; noted_is = Contains-push noted t.skip; tail = tail; before = later }))

  -- and none need be, if none is passed.
  pub noted-same : {noted : List ℕ} → t.place ≤ t.skip → AreNoted t.aim.links t.labels t.aim.rooms t.current noted
      → AreNoted t.aim.links t.labels t.aim.rooms (moved t) noted
  noted-same none are = noted-turned are are.within (λ v p is. is) (λ p later before. absurd (omega (arith, none, later, before)))

  -- all links of the node are passed
  all-passed : t.end ≤ t.place → get_or t.r.links.first (t.node + 1) 0 ≤ get_or (moved t) t.node 0
  all-passed none = omega (arith, where-ends, get_or-set_same t.current t.node t.place 0 node-within)

  -- If no link is found and no link is in the walk, no walk leads on from the start.
  pub no-walk : t.end ≤ t.place → t.w.walked ≡ 0 → (ps : List ℕ) → ¬ IsWalk t.r.links t.labels t.aim.rooms t.w.goal t.w.start ps
  no-walk none empty ps walk =
      let is : t.w.start ≡ t.node = sym (ap (λ n. end_of t.r.links t.w.start (places_of (take n t.w.slots))) empty) ∙ t.on.come.arrives in
      dead-end t.r.links t.labels t.aim.rooms (moved t) t.w.goal on-turned.come.walking.passed t.on.come.is_node
      (goal-joint t.on.way t.on.come.arrives t.other) (all-passed none) ps (subst (λ v. IsWalk t.r.links t.labels t.aim.rooms t.w.goal v ps) is walk)

  module _ (some : 0 < t.w.walked) where
    popped : places_of (walked_slots t.w) ≡ before_last t ++ last t ∷ []
    popped = last-places t.w some (omega (arith, t.on.way.order, t.on.way.within))

    -- the walk before its last link
    before : IsTrail t.r.links t.labels t.aim.rooms (moved t) t.w.start (before_last t)
        × IsTrail t.r.links t.labels t.aim.rooms (moved t) (end_of t.r.links t.w.start (before_last t)) (last t ∷ [])
    before = IsTrail-split t.r.links t.labels t.aim.rooms (moved t) t.w.start (before_last t) (last t ∷ [])
        (subst (IsTrail t.r.links t.labels t.aim.rooms (moved t) t.w.start) popped on-turned.come.walking.trail_is)

    before-node : IsNode t.r.links.nodes (end_of t.r.links t.w.start (before_last t))
    before-node = end-node t.labels t.aim.rooms (moved t) t.w.start (before_last t) t.links t.start_is before.0

    tail-is : tail_of t.r.links (last t) ≡ end_of t.r.links t.w.start (before_last t)
    tail-is = t.links.at_tail (end_of t.r.links t.w.start (before_last t)) (last t) before-node before.1.0.lies

    -- The last link of the walk is one of the links.
    pub back-within : last t < length t.r.links.heads
    back-within = lies-within t.r.links (end_of t.r.links t.w.start (before_last t)) (last t) t.links before-node before.1.0.lies

    -- Once it has left, the walk leads to the node from which it led.
    pub back-tail : {new : Way} (tail : ℕ) → new ≡ stepped_back t.w → (new.walked ≡ 0 → tail ≡ new.start)
        → (0 < new.walked → tail ≡ get_or t.r.links.heads (slot_at new.slots (new.walked - 1)).place 0) → tail ≡ tail_of t.r.links (last t)
    back-tail tail step first more =
        sym (walk-end t.r.links (stepped_back t.w) tail (omega (arith, t.on.way.order, t.on.way.within)) (rw step at first) (rw step at more)) ∙ sym tail-is

    -- Then the walk's last link is one of the links too.
    pub back-last : {new : Way} → new ≡ stepped_back t.w → 0 < new.walked → (slot_at new.slots (new.walked - 1)).place < length t.r.links.heads
    back-last step = rw step (last-link_within t.labels t.aim.rooms (moved t) (stepped_back t.w) t.links t.start_is
        (omega (arith, t.on.way.order, t.on.way.within)) before.0)

    module _ {tail : ℕ} (is : tail ≡ tail_of t.r.links (last t)) where
      -- The node to which the walk leads then has a current link,
      pub back-tail_within : tail < length (moved t)
      back-tail_within = omega (arith, is, tail-is, before-node.to_last, length-set t.current t.node t.place, t.on.come.walking.current_is.one_each)

      -- there less work is left,
      pub less-back : {back : ℕ} → back ≡ last t
          → work_left t.aim.links t.labels t.w.start (set (moved t) tail (back + 1)) tail < work_left t.aim.links t.labels t.w.start t.current t.node
      less-back at =
          let n : ℕ = length t.aim.links.heads in
          let same : length t.r.links.heads ≡ n = ap (λ (x : ResidualLinks). length x.links.heads) t.on.same in
          let stands : get_or (moved t) tail 0 ≡ last t = ap (λ v. get_or (moved t) v 0) (is ∙ tail-is) ∙ before.1.1 in
          let less = passed-set n (moved t) tail (last t + 1) back-tail_within (omega (arith, stands)) (omega (arith, stands, back-within, same)) in
          let most = not_passed-set n t.current t.node t.place node-within t.from in
          let fewer : sum_by (λ p. n - p) (set (moved t) tail (last t + 1)) + 1 ≤ sum_by (λ p. n - p) t.current = omega (arith, less, most) in
          let label = label-trail t.r.links t.labels t.aim.rooms (moved t) t.w.start (before_last t) before.0 in
          rw at (omega (arith, ap (λ v. get_or t.labels v 0) (is ∙ tail-is), label, mul-le-mul_right (get_or t.labels t.w.start 0 + 1) fewer))

      -- the link over which the walk steps back is noted,
      pub noted-back : {noted more : List ℕ} {back : ℕ} → AreNoted t.aim.links t.labels t.aim.rooms (moved t) noted → back ≡ last t
          → more ≡ noted ++ back ∷ [] → AreNoted t.aim.links t.labels t.aim.rooms (set (moved t) tail (back + 1)) more
      noted-back {noted = noted} {back = back} are at more =
          let stands : get_or (moved t) tail 0 ≡ back = ap (λ v. get_or (moved t) v 0) (is ∙ tail-is) ∙ before.1.1 ∙ sym at in
          let within : back < length t.aim.links.heads =
          subst (λ (x : ResidualLinks). back < length x.links.heads) t.on.same (omega (arith, at, back-within)) in
          let from : tail_of t.aim.links back ≡ tail =
          subst (λ (x : ResidualLinks). tail_of x.links back ≡ tail) t.on.same (ap (tail_of t.r.links) at ∙ sym is) in
          rw more (noted-step tail back back-tail_within stands from within are)

      -- and the walk steps back.
      pub on-stepped : {next : ResidualLinks} {new : Way} {back : ℕ} → t.end ≤ t.place → next ≡ put_once_on t.r t.w.sent (slot_at t.w.slots (t.w.walked - 1))
          → new ≡ stepped_back t.w → AreRooms next.links next.rooms → back ≡ last t → IsOnWay next t.labels (set (moved t) tail (back + 1)) t.aim new tail
      on-stepped none put step sums at =
          let head : get_or t.r.links.heads (last t) 0 ≡ t.node = sym (end_of-append t.r.links t.w.start (before_last t) (last t ∷ []))
          ∙ ap (λ ps. end_of t.r.links t.w.start ps) (sym popped) ∙ t.on.come.arrives in
          let come = come-back (before_last t) (last t) t.links t.start_is (rw popped at on-turned.come) (goal-joint t.on.way t.on.come.arrives t.other)
          (all-passed none) in
          rw (at, put, step) (on-back on-turned t.links t.start_is (last t + 1) some
          (omega (arith, before.1.0.falls, ap (λ u. get_or t.labels u 0) head, ap (λ u. get_or t.labels u 0) (is ∙ tail-is))) (rw is come)
          (subst (λ (x : ResidualLinks). AreRooms x.links x.rooms) put sums))

-- The link found leads to a node above the goal whose links are all passed.
pub record IsSpent (t : Turn) : Type 0 where
  pub found : t.place < t.end
  pub above : get_or t.labels t.w.goal 0 < get_or t.labels (get_or t.r.links.heads t.place 0) 0
  pub passed : get_or t.r.links.first (get_or t.r.links.heads t.place 0 + 1) 0 ≤ get_or (moved t) (get_or t.r.links.heads t.place 0) 0

module _ (t : Turn) (found : t.place < t.end) where
  lies-spent : LiesAt t.r.links t.node t.place
  lies-spent = record {
    from = omega (arith, t.from, t.on.come.walking.current_is.from t.node t.on.come.is_node);
    below = omega (arith, found, where-ends t);
  }

  pub within-spent : t.place < length t.r.links.heads
  within-spent = lies-within t.r.links t.node t.place t.links t.on.come.is_node lies-spent

-- The walk passes it.
module _ {t : Turn} (is : IsSpent t) where
  stands-spent : get_or (moved t) t.node 0 ≡ t.place
  stands-spent = get_or-set_same t.current t.node t.place 0 (node-within t)

  inside-spent : t.node < length (moved t)
  inside-spent = omega (arith, node-within t, length-set t.current t.node t.place)

  -- It is still on its way,
  pub on-spent : IsOnWay t.r t.labels (set (moved t) t.node (t.place + 1)) t.aim t.w t.node
  on-spent =
      let head_is = (t.links.each t.place (within-spent t is.found)).head in
      let other : get_or t.r.links.heads t.place 0 ≢ t.w.goal = λ same. omega (arith, is.above, ap (λ u. get_or t.labels u 0) same) in
      let none : (p : ℕ) (ps : List ℕ) → get_or (moved t) t.node 0 ≤ p → p < t.place + 1 → ¬ IsWalk t.r.links t.labels t.aim.rooms t.w.goal t.node (p ∷ ps) =
      λ p ps later before walk.
      let at : p ≡ t.place = omega (arith, later, before, stands-spent) in
      dead-end t.r.links t.labels t.aim.rooms (moved t) t.w.goal (on-turned t).come.walking.passed head_is other is.passed ps
      (subst (λ u. IsWalk t.r.links t.labels t.aim.rooms t.w.goal u ps) (ap (λ q. get_or t.r.links.heads q 0) at) walk.1) in
      on-moved (on-turned t) (t.place + 1) t.other
      (walking-set (t.place + 1) (on-turned t).come (omega (arith, stands-spent)) (omega (arith, where-ends t, is.found)) none)

  -- less work is left,
  pub less-spent : work_left t.aim.links t.labels t.w.start (set (moved t) t.node (t.place + 1)) t.node
      < work_left t.aim.links t.labels t.w.start t.current t.node
  less-spent =
      let n : ℕ = length t.aim.links.heads in
      let same : length t.r.links.heads ≡ n = ap (λ (x : ResidualLinks). length x.links.heads) t.on.same in
      let less = passed-set n (moved t) t.node (t.place + 1) inside-spent (omega (arith, stands-spent))
      (omega (arith, stands-spent, within-spent t is.found, same)) in
      let most = not_passed-set n t.current t.node t.place (node-within t) t.from in
      let fewer : sum_by (λ p. n - p) (set (moved t) t.node (t.place + 1)) + 1 ≤ sum_by (λ p. n - p) t.current = omega (arith, less, most) in
      omega (arith, mul-le-mul_right (get_or t.labels t.w.start 0 + 1) fewer)

  -- and the link is noted.
  pub noted-spent : {noted more : List ℕ} → AreNoted t.aim.links t.labels t.aim.rooms (moved t) noted → more ≡ noted ++ t.place ∷ []
      → AreNoted t.aim.links t.labels t.aim.rooms (set (moved t) t.node (t.place + 1)) more
  noted-spent are more =
      let tail : tail_of t.aim.links t.place ≡ t.node =
      subst (λ (x : ResidualLinks). tail_of x.links t.place ≡ t.node) t.on.same (t.links.at_tail t.node t.place t.on.come.is_node (lies-spent t is.found)) in
      let within : t.place < length t.aim.links.heads =
      subst (λ (x : ResidualLinks). t.place < length x.links.heads) t.on.same (within-spent t is.found) in
      rw more (noted-step t.node t.place inside-spent stands-spent tail within are)
