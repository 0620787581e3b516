-- Pushes do not change the pairs that no path has used.
use Rattle.std.proofs.Common.{ℕ, ◌≡◌, ◌≢◌, ◌<◌, Bool, List, [], ◌∷◌, length, get_or, zero, suc, refl, sym, ◌∙◌, subst, arith}
use Rattle.std.proofs.Common.{inl, inr, eq-eqb, Option, None, Vec, Global}
use Rattle.std.specs.List.{Contains}
use Rattle.std.specs.declared.rc.Rc.{Rc}
use Rattle.std.proofs.lemmas.Bool.{cases_eq, cases_lt, ne_eqb}
use Rattle.std.proofs.lemmas.List.{get_or-map, get_or_past, length-map}
use Rattle.std.proofs.lemmas.List.Elements.{Contains-get_or, Contains-append_left, Contains-append_right, Contains-append_cases}
use Rattle.dmf_path.specs.declared.trail.Slot.{Slot}
use Rattle.dmf_links.specs.Links.{Links, AreLinks, ArePlaces, IsOf, IsSpare, no_place, pair_at, pairs_at}
use Rattle.dmf_path.specs.Held.{places_of, slot_at, settled, IsOff}
use Rattle.dmf_links.specs.Pair.{pair_number}
use Rattle.dmf_path.specs.Touched.{IsTouched, AreBelow, KeepsUntouched}
use Rattle.dmf_links.specs.Numbers.{AreNumbers, MayBeNumbered}
use Rattle.dmf_path.specs.Touching.{Lists, all, these, numbers_of}
use Rattle.dmf_path.proofs.rooms.PushedPairs.{AreUsed}
use Rattle.dmf_path.proofs.slots.Settled.{room-off}

-- These slots have links.
abbrev pub AreWithin : Links → List Slot → Type 0
AreWithin l slots = (i : ℕ) → i < length slots → (slot_at slots i).place < length l.heads

-- None of these slots has a spare link.
abbrev pub HaveUsed : Links → List Slot → Type 0
HaveUsed l slots = (i : ℕ) → i < length slots → ¬ IsSpare l (slot_at slots i).place

pub used-each : (l : Links) (slots : List Slot) → AreUsed l (places_of slots) → HaveUsed l slots
used-each l [] used i h = absurd (omega (arith, h))
used-each l (s ∷ slots) used zero h = used.0
used-each l (s ∷ slots) used (suc i) h = used-each l slots used.1 i (omega (arith, h))

-- The pairs of all these links are touched.
abbrev pub AreTouched : List ℕ → List Slot → Option (List ℕ) → Type 0
AreTouched numbers slots touched = (i : ℕ) → i < length slots → IsTouched touched (get_or numbers (slot_at slots i).place 0)

off-each : (p : ℕ) (slots : List Slot) → ((i : ℕ) → i < length slots → (slot_at slots i).place ≢ p) → IsOff p (places_of slots)
off-each p [] apart = tt
off-each p (s ∷ slots) apart = (apart 0 (omega arith), off-each p slots (λ i h. apart (suc i) (omega (arith, h))))

-- A link of a pair that is not touched is in no slot.
off-untouched : {l : Links} {places : List ℕ} (numbers : List ℕ) (slots : List Slot) (touched : Option (List ℕ)) (k p : ℕ) → ArePlaces l places
    → AreNumbers l places numbers → AreTouched numbers slots touched → ¬ IsTouched touched k → p < length l.heads → IsOf l places p k
    → IsOff p (places_of slots)
off-untouched numbers slots touched k p are known each untouched within of = off-each p slots (λ i h same.
    let its : get_or numbers (slot_at slots i).place 0 ≡ k =
    subst (λ q. get_or numbers q 0 ≡ k) (sym same) (are.one p (get_or numbers p 0) k within (known.1 p within (are.used p k within of)) of) in
    untouched (subst (IsTouched touched) its (each i h)))

-- So the rooms of its links stay.
room-kept : {l : Links} (takes_back : Bool) (sent more : ℕ) (slots : List Slot) (rooms : List ℕ) (p : ℕ) → AreLinks l
    → length rooms ≡ length l.heads → p < length l.heads → IsOff p (places_of slots) → IsOff (get_or l.partners p 0) (places_of slots)
    → get_or (settled l takes_back more slots rooms) p 0 ≡ get_or (settled l takes_back sent slots rooms) p 0
room-kept {l} takes_back sent more slots rooms p links long within off partner_off =
    let room : (n : ℕ) → get_or (settled l takes_back n slots rooms) p 0 ≡ get_or rooms p 0 =
    λ n. room-off l takes_back n slots rooms p (omega (arith, within, long)) off partner_off in
    room more ∙ sym (room sent)

-- Pushes along links leave the pairs that are not touched, if the pairs of these links are touched.
kept-listed : {l : Links} (takes_back : Bool) {places : List ℕ} (numbers rooms : List ℕ) (sent more : ℕ) (slots : List Slot) (touched : Option (List ℕ))
    → AreLinks l → ArePlaces l places → AreNumbers l places numbers → length rooms ≡ length l.heads → AreTouched numbers slots touched
    → KeepsUntouched touched (pairs_at l places (settled l takes_back sent slots rooms)) (pairs_at l places (settled l takes_back more slots rooms))
kept-listed {l} takes_back {places} numbers rooms sent more slots touched links are known long each = λ k untouched.
    let before : List ℕ = settled l takes_back sent slots rooms in
    let after : List ℕ = settled l takes_back more slots rooms in
    elim (cases_lt k (length places)) [
      | inl h ↦
          let p : ℕ = get_or places k 0 in
          let q : ℕ = get_or l.partners p 0 in
          let at : (rs : List ℕ) → pair_number (pairs_at l places rs) k ≡ pair_at l rs p = λ rs. get_or-map (pair_at l rs) places k 0 None h in
          let same : pair_at l after p ≡ pair_at l before p = elim (cases_eq p no_place) [
            | inl none ↦ rw (eq-eqb p no_place none) refl
            | inr there ↦
                let link = links.each p (are.within k h there) in
                let own = off-untouched numbers slots touched k p are known each untouched (are.within k h there) (h, there, inl refl) in
                let its = off-untouched numbers slots touched k q are known each untouched link.partner (h, there, inr refl) in
                rw (
                  ne_eqb p no_place there,
                  room-kept takes_back sent more slots rooms p links long (are.within k h there) own its,
                  room-kept takes_back sent more slots rooms q links long link.partner its (subst (λ r. IsOff r (places_of slots)) (sym link.partner_back) own),
                ) refl
          ] in
          at after ∙ same ∙ sym (at before)
      | inr past ↦
          let none : (rs : List ℕ) → pair_number (pairs_at l places rs) k ≡ None =
          λ rs. get_or_past (pairs_at l places rs) k None (omega (arith, past, length-map places (pair_at l rs))) in
          none after ∙ sym (none before)
    ]

-- The list has the numbers of all links in slots.
numbers-listed : (known : List ℕ) (slots : List Slot) (i : ℕ) → i < length slots → Contains (numbers_of known slots) (get_or known (slot_at slots i).place 0)
numbers-listed known slots i h =
    let number : Slot → ℕ = λ s. get_or known s.place 0 in
    subst (Contains (numbers_of known slots)) (get_or-map number slots i (record { place = 0; full_at = 0 }) 0 h)
    (Contains-get_or (numbers_of known slots) i 0 (omega (arith, h, length-map slots number)))

-- A push along links whose numbers are listed leaves the pairs that are not touched.
pub kept-untouched : {l : Links} (takes_back : Bool) {places : List ℕ} {numbers : Option (Rc (Vec ℕ Global) Global)} (rooms : List ℕ) (sent more : ℕ)
    {slots : List Slot} {old touched : Option (List ℕ)} → AreLinks l → ArePlaces l places → MayBeNumbered l places numbers → length rooms ≡ length l.heads
    → Lists numbers slots old touched
    → KeepsUntouched touched (pairs_at l places (settled l takes_back sent slots rooms)) (pairs_at l places (settled l takes_back more slots rooms))
kept-untouched takes_back rooms sent more links are known long (all none) = λ k untouched. absurd (untouched (rw none tt))
kept-untouched takes_back rooms sent more {slots} {touched} links are known long (these given indices numbered before after) =
    kept-listed takes_back given.value.items rooms sent more slots touched links are (rw numbered at known) long
    (λ i h. rw after (Contains-append_right indices (numbers_of given.value.items slots) _ (numbers-listed given.value.items slots i h)))

-- What was touched stays touched,
pub touched-more : {numbers : Option (Rc (Vec ℕ Global) Global)} {slots : List Slot} {old touched : Option (List ℕ)} → Lists numbers slots old touched
    → (k : ℕ) → IsTouched old k → IsTouched touched k
touched-more (all none) k is = rw none tt
touched-more {slots} (these given indices numbered before after) k is =
    rw after (Contains-append_left indices (numbers_of given.value.items slots) k (rw before at is))

number-of-slot : (l : Links) (places known : List ℕ) (slots : List Slot) (k : ℕ) → AreNumbers l places known → AreWithin l slots
    → HaveUsed l slots → Contains (numbers_of known slots) k → k < length places
number-of-slot l places known slots k are within used has =
    let number : Slot → ℕ = λ s. get_or known s.place 0 in
    let i : ℕ = has.0 in
    let inside : i < length slots = omega (arith, has.1, length-map slots number) in
    let is : get_or known (slot_at slots i).place 0 ≡ k = sym (get_or-map number slots i (record { place = 0; full_at = 0 }) k inside) ∙ has.2 in
    subst (λ j. j < length places) is (are.1 (slot_at slots i).place (within i inside) (used i inside)).0

-- and the list gets only indices of pairs.
pub touched-below : (l : Links) (places : List ℕ) {numbers : Option (Rc (Vec ℕ Global) Global)} {slots : List Slot} {old touched : Option (List ℕ)}
    → MayBeNumbered l places numbers → AreWithin l slots → HaveUsed l slots → Lists numbers slots old touched
    → AreBelow (length places) old → AreBelow (length places) touched
touched-below l places known within used (all none) below = rw none tt
touched-below l places {slots} known within used (these given indices numbered before after) below =
    let known_are : AreNumbers l places given.value.items = rw numbered at known in
    let was : (k : ℕ) → Contains indices k → k < length places = rw before at below in
    rw after (λ k has. elim (Contains-append_cases indices (numbers_of given.value.items slots) k has) [
      | inl h ↦ was k h
      | inr h ↦ number-of-slot l places given.value.items slots k known_are within used h
    ])
