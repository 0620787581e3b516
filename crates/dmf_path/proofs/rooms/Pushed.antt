-- What a push along a trail keeps: labels stay valid, what was passed stays passed, and the links of the trail that still
-- have room are one.
use Rattle.std.proofs.Common.{ℕ, ◌≡◌, ◌+◌, ◌-◌, ◌<◌, ◌⊎◌, inl, inr, Bool, false, List, [], ◌∷◌, length, get_or, take, zero, suc, ap, sym, ◌∙◌, arith}
use Rattle.std.proofs.lemmas.Bool.{cases_eq}
use Rattle.std.proofs.lemmas.List.{get_or-set_other, get_or-set_same}
use Rattle.std.specs.List.{All}
use Rattle.dmf_node.specs.Node.{IsNode}
use Rattle.dmf_links.specs.Links.{Links, LiesAt, AreLinks, tail_of}
use Rattle.dmf_path.specs.Walk.{IsAdmissible, IsWalk, AreValid, ArePassed, IsTrail, pushed_once, pushed}
use Rattle.dmf_links.proofs.tables.LinkPlaces.{lies-within}
use Rattle.dmf_path.proofs.rooms.Pushing.{own, partner, other, is_beside, once-own, once-other, length-pushed_once}

-- The link at place `p` of node `v` falls: it leads to a label that is lower by one.
pub record Falls (l : Links) (labels : List ℕ) (v p : ℕ) : Type 0 where
  pub within : p < length l.heads
  pub tail : tail_of l p ≡ v
  pub label : get_or labels (get_or l.heads p 0) 0 + 1 ≡ get_or labels v 0

-- Links that fall lead on from node `v`.
abbrev pub FallsOn : Links → List ℕ → ℕ → List ℕ → Type 0
FallsOn l labels v [] = Unit {0}
FallsOn l labels v (p ∷ ps) = Falls l labels v p × FallsOn l labels (get_or l.heads p 0) ps

-- an admissible link falls
pub Falls-admissible : {l : Links} {labels rooms : List ℕ} {v p : ℕ} → AreLinks l → IsNode l.nodes v → IsAdmissible l labels rooms v p → Falls l labels v p
Falls-admissible {l} {v} {p} links node can = record {
  within = lies-within l v p links node can.lies;
  tail = links.at_tail v p node can.lies;
  label = can.falls;
}

-- so do the links of a trail
pub FallsOn-trail : {l : Links} (labels rooms current : List ℕ) (v : ℕ) (ps : List ℕ) → AreLinks l → IsNode l.nodes v → IsTrail l labels rooms current v ps
    → FallsOn l labels v ps
FallsOn-trail labels rooms current v [] links node trail = tt
FallsOn-trail {l} labels rooms current v (p ∷ ps) links node trail =
    let falls = Falls-admissible links node trail.0 in
    (falls, FallsOn-trail labels rooms current (get_or l.heads p 0) ps links (links.each p falls.within).head trail.2)

-- A link that has room in `new` had room in `old`, or leads up by one label.
abbrev pub OpensUpwards : Links → List ℕ → List ℕ → List ℕ → Type 0
OpensUpwards l labels old new =
    (v p : ℕ) → IsNode l.nodes v → LiesAt l v p → 0 < get_or new p 0
    → (0 < get_or old p 0) ⊎ (get_or labels (get_or l.heads p 0) 0 ≡ get_or labels v 0 + 1)

-- No link has room in `new` that had none in `old`.
abbrev pub NoneOpens : List ℕ → List ℕ → Type 0
NoneOpens old new = (p : ℕ) → 0 < get_or new p 0 → 0 < get_or old p 0

-- Such rooms open links upwards alone.
pub opens-none : (l : Links) (labels old new : List ℕ) → NoneOpens old new → OpensUpwards l labels old new
opens-none l labels old new none v p node lies room = inl (none p room)

-- Taking room away opens none.
pub none-lowered : (l : Links) (rooms : List ℕ) (q amount : ℕ) → length rooms ≡ length l.heads → q < length l.heads
    → NoneOpens rooms (pushed_once l false amount q rooms)
none-lowered l rooms q amount long within p room = elim (cases_eq p q) [
  | inl same ↦
      let now = get_or-set_same rooms q (get_or rooms q 0 - amount) 0 (omega (arith, long, within)) in
      omega (arith, room, now, ap (λ r. get_or (pushed_once l false amount q rooms) r 0) same, ap (λ r. get_or rooms r 0) same)
  | inr apart ↦ omega (arith, room, get_or-set_other rooms q p (get_or rooms q 0 - amount) 0 apart)
]

-- So a push opens none that is not taken back.
pub none-pushed : (l : Links) (amount : ℕ) (labels rooms : List ℕ) (u : ℕ) (qs : List ℕ) → length rooms ≡ length l.heads → FallsOn l labels u qs
    → NoneOpens rooms (pushed l false amount qs rooms)
none-pushed l amount labels rooms u [] long falls p room = room
none-pushed l amount labels rooms u (q ∷ qs) long falls p room =
    none-lowered l rooms q amount long falls.0.within p
    (none-pushed l amount labels (pushed_once l false amount q rooms) (get_or l.heads q 0) qs
    (length-pushed_once l false amount q rooms ∙ long) falls.1 p room)

-- A push along a link that falls opens at most its opposite.
opens-once : {l : Links} (takes_back : Bool) (amount : ℕ) {labels : List ℕ} (rooms : List ℕ) {u q : ℕ} → AreLinks l → length rooms ≡ length l.heads
    → Falls l labels u q → OpensUpwards l labels rooms (pushed_once l takes_back amount q rooms)
opens-once {l} takes_back amount {labels} rooms {u} {q} links long falls v p node lies room =
    let within = lies-within l v p links node lies in
    elim (is_beside q p links falls.within within) [
      | own same ↦
          let mine = once-own takes_back amount q rooms links long falls.within in
          inl (omega (arith, room, mine, ap (λ r. get_or (pushed_once l takes_back amount q rooms) r 0) same, ap (λ r. get_or rooms r 0) same))
      | partner same back ↦
          let tail : get_or l.heads q 0 ≡ v = ap (λ r. get_or l.heads r 0) (sym back) ∙ links.at_tail v p node lies in
          let head : get_or l.heads p 0 ≡ u = ap (λ r. get_or l.heads r 0) same ∙ falls.tail in
          inr (ap (λ r. get_or labels r 0) head ∙ sym falls.label ∙ ap (λ r. get_or labels r 0 + 1) tail)
      | other a b c d ↦ inl (omega (arith, room, once-other l takes_back amount q p rooms a b))
    ]

-- the same for a push along several links that fall
pub opens-pushed : {l : Links} (takes_back : Bool) (amount : ℕ) (labels rooms : List ℕ) (u : ℕ) (qs : List ℕ) → AreLinks l → length rooms ≡ length l.heads
    → FallsOn l labels u qs → OpensUpwards l labels rooms (pushed l takes_back amount qs rooms)
opens-pushed takes_back amount labels rooms u [] links long falls v p node lies room = inl room
opens-pushed {l} takes_back amount labels rooms u (q ∷ qs) links long falls v p node lies room =
    elim (opens-pushed takes_back amount labels (pushed_once l takes_back amount q rooms) (get_or l.heads q 0) qs links
    (length-pushed_once l takes_back amount q rooms ∙ long) falls.1 v p node lies room) [
      | inl had ↦ opens-once takes_back amount rooms links long falls.0 v p node lies had
      | inr up ↦ inr up
    ]

-- Labels stay valid.
pub AreValid-opens : (l : Links) (labels old new : List ℕ) (top : ℕ) → OpensUpwards l labels old new → AreValid l labels old top → AreValid l labels new top
AreValid-opens l labels old new top opens valid v p node lies room below = elim (opens v p node lies room) [
  | inl had ↦ valid v p node lies had below
  | inr up ↦ omega (arith, up)
]

-- A link that is admissible was admissible before,
pub admissible-before : (l : Links) (labels old new : List ℕ) (v p : ℕ) → IsNode l.nodes v → OpensUpwards l labels old new → IsAdmissible l labels new v p
    → IsAdmissible l labels old v p
admissible-before l labels old new v p node opens can = record {
  lies = can.lies;
  room = elim (opens v p node can.lies can.room) [
    | inl had ↦ had
    | inr up ↦ absurd (omega (arith, up, can.falls))
  ];
  falls = can.falls;
}

-- so a walk was one
walk-before : {l : Links} (labels old new : List ℕ) (goal : ℕ) {v : ℕ} (ps : List ℕ) → AreLinks l → IsNode l.nodes v → OpensUpwards l labels old new
    → IsWalk l labels new goal v ps → IsWalk l labels old goal v ps
walk-before labels old new goal [] links node opens walks = walks
walk-before {l} labels old new goal {v} (p ∷ ps) links node opens walks =
    let can = admissible-before l labels old new v p node opens walks.0 in
    (can, walk-before labels old new goal ps links (links.each p (lies-within l v p links node can.lies)).head opens walks.1)

-- and passed links stay passed.
pub ArePassed-opens : (l : Links) (labels old new : List ℕ) (goal : ℕ) (current : List ℕ) → AreLinks l → OpensUpwards l labels old new
    → ArePassed l labels old goal current → ArePassed l labels new goal current
ArePassed-opens l labels old new goal current links opens passed v p ps node lies before walks =
    passed v p ps node lies before (walk-before labels old new goal (p ∷ ps) links node opens walks)

-- The links of a trail that still have room are a trail.
pub IsTrail-open : (l : Links) (labels old new current : List ℕ) (v : ℕ) (ps : List ℕ) → IsTrail l labels old current v ps → All (λ p. 0 < get_or new p 0) ps
    → IsTrail l labels new current v ps
IsTrail-open l labels old new current v [] trail room = tt
IsTrail-open l labels old new current v (p ∷ ps) trail room = (
  record { lies = trail.0.lies; room = room 0 0 (omega arith); falls = trail.0.falls },
  trail.1,
  IsTrail-open l labels old new current (get_or l.heads p 0) ps trail.2 (λ k d h. room (suc k) d (omega (arith, h))),
)

-- A prefix of a trail is a trail.
pub IsTrail-take : (l : Links) (labels rooms current : List ℕ) (v k : ℕ) (ps : List ℕ) → IsTrail l labels rooms current v ps
    → IsTrail l labels rooms current v (take k ps)
IsTrail-take l labels rooms current v zero ps trail = tt
IsTrail-take l labels rooms current v (suc k) [] trail = tt
IsTrail-take l labels rooms current v (suc k) (p ∷ ps) trail = (trail.0, trail.1, IsTrail-take l labels rooms current (get_or l.heads p 0) k ps trail.2)
