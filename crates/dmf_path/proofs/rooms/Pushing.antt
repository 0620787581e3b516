-- Pushing along links, one after the other: the rooms and the flags afterwards.
use Rattle.std.proofs.Common.{ℕ, ◌≡◌, ◌≢◌, ◌+◌, ◌-◌, ◌^◌, ◌<◌, Bool, true, false, cond, List, [], ◌∷◌, length, get_or, set, refl, ap, sym, ◌∙◌, arith, inl, inr, subst}
use Rattle.std.proofs.Common.{get_or-set_other, get_or-set_same, length-set}
use Rattle.std.proofs.lemmas.Bool.{cases_eq}
use Rattle.dmf_links.specs.Links.{Links, AreLinks, AreRooms, AreFlags, IsSpare, open_flag}
use Rattle.dmf_path.specs.Walk.{pushed_once, pushed}
use Rattle.dmf_links.proofs.tables.LinkPlaces.{partner-other}

-- a push leaves as many rooms
pub length-pushed_once : (l : Links) (takes_back : Bool) (amount p : ℕ) (rooms : List ℕ) → length (pushed_once l takes_back amount p rooms) ≡ length rooms
length-pushed_once l true amount p rooms = simp length-set
length-pushed_once l false amount p rooms = simp length-set

-- A push leaves as many rooms as there were.
pub length-pushed : (l : Links) (takes_back : Bool) (amount : ℕ) (ps rooms : List ℕ) → length (pushed l takes_back amount ps rooms) ≡ length rooms
length-pushed l takes_back amount [] rooms = refl
length-pushed l takes_back amount (p ∷ ps) rooms = length-pushed l takes_back amount ps
    (pushed_once l takes_back amount p rooms) ∙ length-pushed_once l takes_back amount p rooms

-- the room of the link itself afterwards
pub once-own : {l : Links} (takes_back : Bool) (amount p : ℕ) (rooms : List ℕ) → AreLinks l → length rooms ≡ length l.heads → p < length l.heads
    → get_or (pushed_once l takes_back amount p rooms) p 0 ≡ get_or rooms p 0 - amount
once-own {l} true amount p rooms links long within =
    let other : p ≢ get_or l.partners p 0 = λ e. partner-other l p links within (sym e) in
    let lt : p < length rooms = omega (arith, long, within) in
    get_or-set_other (set rooms p (get_or rooms p 0 - amount)) (get_or l.partners p 0) p _ 0 other ∙ get_or-set_same rooms p _ 0 lt
once-own false amount p rooms links long within =
    let lt : p < length rooms = omega (arith, long, within) in
    get_or-set_same rooms p _ 0 lt

-- and the room of its opposite
pub once-partner : {l : Links} (takes_back : Bool) (amount p : ℕ) (rooms : List ℕ) → AreLinks l → length rooms ≡ length l.heads → p < length l.heads
    → get_or (pushed_once l takes_back amount p rooms) (get_or l.partners p 0) 0 ≡ get_or rooms (get_or l.partners p 0) 0 + cond takes_back amount 0
once-partner {l} true amount p rooms links long within =
    let other : get_or l.partners p 0 ≢ p = partner-other l p links within in
    let lt : get_or l.partners p 0 < length (set rooms p (get_or rooms p 0 - amount)) = simp length-set (omega (arith, long, (links.each p within).partner)) in
    get_or-set_same (set rooms p (get_or rooms p 0 - amount)) (get_or l.partners p 0) _ 0 lt ∙ ap (λ x. x + amount)
    (get_or-set_other rooms p (get_or l.partners p 0) _ 0 other)
once-partner {l} false amount p rooms links long within =
    let other : get_or l.partners p 0 ≢ p = partner-other l p links within in
    get_or-set_other rooms p (get_or l.partners p 0) _ 0 other ∙ omega arith

-- The other rooms stay.
pub once-other : (l : Links) (takes_back : Bool) (amount p q : ℕ) (rooms : List ℕ) → q ≢ p → q ≢ get_or l.partners p 0
    → get_or (pushed_once l takes_back amount p rooms) q 0 ≡ get_or rooms q 0
once-other l true amount p q rooms own partner =
    get_or-set_other (set rooms p (get_or rooms p 0 - amount)) (get_or l.partners p 0) q _ 0 partner ∙ get_or-set_other rooms p q _ 0 own
once-other l false amount p q rooms own partner = get_or-set_other rooms p q _ 0 own

-- A link is the one at a place, its opposite, or one whose opposite is neither.
pub data IsBeside (l : Links) (p q : ℕ) : Type 0 where
  own : q ≡ p → IsBeside l p q
  partner : q ≡ get_or l.partners p 0 → get_or l.partners q 0 ≡ p → IsBeside l p q
  other : q ≢ p → q ≢ get_or l.partners p 0 → get_or l.partners q 0 ≢ p → get_or l.partners q 0 ≢ get_or l.partners p 0 → IsBeside l p q

-- Each link is one of the three.
pub is_beside : {l : Links} (p q : ℕ) → AreLinks l → p < length l.heads → q < length l.heads → IsBeside l p q
is_beside {l} p q links within in_range =
    elim (cases_eq q p) [
      | inl same ↦ own same
      | inr not_own ↦ elim (cases_eq q (get_or l.partners p 0)) [
        | inl same ↦ partner same (ap (λ r. get_or l.partners r 0) same ∙ (links.each p within).partner_back)
        | inr not_partner ↦
            let back = sym (links.each q in_range).partner_back in
            other not_own not_partner (λ e. not_partner (back ∙ ap (λ r. get_or l.partners r 0) e))
            (λ e. not_own (back ∙ ap (λ r. get_or l.partners r 0) e ∙ (links.each p within).partner_back))
      ]
    ]

-- The rooms of each pair still fit 64 bits together after one of them changes,
pub AreRooms-put : {l : Links} (p : ℕ) {q : ℕ} (room : ℕ) (rooms : List ℕ) → AreLinks l → AreRooms l rooms → p < length l.heads → q ≡ get_or l.partners p 0
    → room + get_or rooms q 0 < 2 ^ 64 → (IsSpare l p → room ≡ 0) → AreRooms l (set rooms p room)
AreRooms-put {l} p room rooms links are within is fits none = (
  length-set rooms p room ∙ are.0,
  λ x h.
      let mine = get_or-set_same rooms p room 0 (omega (arith, are.0, within)) in
      let its = get_or-set_other rooms p (get_or l.partners p 0) room 0 (partner-other l p links within) in
      let sum = rw is at fits in
      elim (is_beside p x links within h) [
        | own same ↦ rw same (omega (arith, mine, its, sum))
        | partner same back ↦ rw (back, same) (omega (arith, mine, its, sum))
        | other a b c d ↦ rw (get_or-set_other rooms p x room 0 a, get_or-set_other rooms p (get_or l.partners x 0) room 0 c) (are.1 x h)
      ],
  λ x h spare. elim (cases_eq x p) [
    | inl same ↦ ap (λ y. get_or (set rooms p room) y 0) same ∙ get_or-set_same rooms p room 0 (omega (arith, are.0, within)) ∙ none (subst (IsSpare l) same spare)
    | inr apart ↦ get_or-set_other rooms p x room 0 apart ∙ are.2 x h spare
  ],
)

-- and the flag of its opposite says whether there is room.
pub AreFlags-put : {l : Links} (p : ℕ) {q : ℕ} (room : ℕ) (rooms flags : List ℕ) → AreLinks l → length rooms ≡ length l.heads → AreFlags l rooms flags
    → p < length l.heads → q ≡ get_or l.partners p 0 → AreFlags l (set rooms p room) (set flags q (open_flag room))
AreFlags-put {l} p room rooms flags links long told within is =
    let q_in : get_or l.partners p 0 < length flags = omega (arith, told.0, (links.each p within).partner) in
    let apart = partner-other l p links within in
    rw is (
      length-set flags (get_or l.partners p 0) (open_flag room) ∙ told.0,
      λ x h. elim (is_beside p x links within h) [
        | own same ↦ rw same (get_or-set_other flags (get_or l.partners p 0) p _ 0
            (λ e. apart (sym e)) ∙ told.1 p within ∙ sym (ap open_flag (get_or-set_other rooms p (get_or l.partners p 0) room 0 apart)))
        | partner same back ↦ rw (back, same) (get_or-set_same flags
            (get_or l.partners p 0) _ 0 q_in ∙ sym (ap open_flag (get_or-set_same rooms p room 0 (omega (arith, long, within)))))
        | other a b c d ↦ get_or-set_other flags (get_or l.partners p 0) x _ 0 b ∙ told.1 x h ∙ sym
            (ap open_flag (get_or-set_other rooms p (get_or l.partners x 0) room 0 c))
      ],
    )
