-- Links leave their slots: their held pushes are applied, and the settled rooms stay.
use Rattle.std.proofs.Common.{ℕ, ◌≡◌, ◌+◌, ◌-◌, ◌<◌, Bool, true, false, List, [], ◌∷◌, ◌++◌, length, get_or, set, drop, refl, ap, sym, ◌∙◌, subst, arith}
use Rattle.std.proofs.Common.{get_or-set_other}
use Rattle.std.proofs.lemmas.List.{drop_more}
use Rattle.dmf_path.specs.declared.trail.Slot.{Slot}
use Rattle.dmf_links.specs.Links.{Links, AreLinks}
use Rattle.dmf_path.specs.Walk.{pushed_once}
use Rattle.dmf_path.specs.Held.{room_left, places_of, settled, HaveLeft, IsSlot, slot_at, put_once, put_each, CanPut, IsOff}
use Rattle.dmf_path.specs.Residual.{ResidualLinks, put_once_on, put_each_on}
use Rattle.dmf_path.proofs.rooms.Pushing.{length-pushed_once}
use Rattle.dmf_path.proofs.labels.Descending.{Descends, between, off-append, off-partner}
use Rattle.dmf_path.proofs.slots.Settled.{places-append, settled-leave}

-- Settling so far: applying the remaining held pushes gives what applying all of them gives.
pub record IsPutting (r : ResidualLinks) (sent : ℕ) (slots : List Slot) (whole : ResidualLinks) : Type 0 where
  pub goes_on : put_each_on r sent slots ≡ whole
  pub can : CanPut r.links r.takes_back sent slots r.rooms

-- Two paths of which all slots have something left have it together,
pub HaveLeft-append : (sent : ℕ) (rooms : List ℕ) (slots others : List Slot) → HaveLeft sent rooms slots → HaveLeft sent rooms others
    → HaveLeft sent rooms (slots ++ others)
HaveLeft-append sent rooms [] others first later = later
HaveLeft-append sent rooms (s ∷ slots) others first later = (first.0, first.1, HaveLeft-append sent rooms slots others first.2 later)

-- and so has each part of such a path.
pub HaveLeft-split : (sent : ℕ) (rooms : List ℕ) (slots others : List Slot) → HaveLeft sent rooms (slots ++ others)
    → HaveLeft sent rooms slots × HaveLeft sent rooms others
HaveLeft-split sent rooms [] others have = (tt, have)
HaveLeft-split sent rooms (s ∷ slots) others have =
    let later = HaveLeft-split sent rooms slots others have.2 in
    ((have.0, have.1, later.0), later.1)

-- Another room for a link in none of these slots leaves their rooms,
pub HaveLeft-set : (sent p x : ℕ) (rooms : List ℕ) (slots : List Slot) → IsOff p (places_of slots) → HaveLeft sent rooms slots
    → HaveLeft sent (set rooms p x) slots
HaveLeft-set sent p x rooms [] off have = tt
HaveLeft-set sent p x rooms (s ∷ slots) off have =
    (have.0, omega (arith, have.1, get_or-set_other rooms p s.place x 0 off.0), HaveLeft-set sent p x rooms slots off.1 have.2)

-- and so does a push along it.
HaveLeft-other : (l : Links) (takes_back : Bool) (sent amount p : ℕ) (rooms : List ℕ) (slots : List Slot) → IsOff p (places_of slots)
    → IsOff (get_or l.partners p 0) (places_of slots) → HaveLeft sent rooms slots → HaveLeft sent (pushed_once l takes_back amount p rooms) slots
HaveLeft-other l true sent amount p rooms slots off partner_off have =
    HaveLeft-set sent (get_or l.partners p 0) _ _ slots partner_off (HaveLeft-set sent p _ rooms slots off have)
HaveLeft-other l false sent amount p rooms slots off partner_off have = HaveLeft-set sent p _ rooms slots off have

-- One link leaves.
pub record HasLeft (l : Links) (takes_back : Bool) (labels : List ℕ) (sent top bottom : ℕ) (before behind : List Slot) (s : Slot)
    (rooms : List ℕ) : Type 0 where
  pub slot : IsSlot l sent rooms s
  pub same : settled l takes_back sent (before ++ s ∷ behind) rooms ≡ settled l takes_back sent (before ++ behind) (put_once l takes_back sent s rooms)
  pub have : HaveLeft sent (put_once l takes_back sent s rooms) (before ++ behind)
  pub descends : Descends l labels top bottom (places_of before ++ places_of behind)
  pub long : length (put_once l takes_back sent s rooms) ≡ length l.heads

-- A link can leave a path, wherever it stands there.
pub has-left : {l : Links} (takes_back : Bool) (labels : List ℕ) (sent top bottom : ℕ) (before behind : List Slot) (s : Slot) (rooms : List ℕ) → AreLinks l
    → length rooms ≡ length l.heads
    → Descends l labels top bottom (places_of before ++ s.place ∷ places_of behind) → HaveLeft sent rooms (before ++ s ∷ behind)
    → HasLeft l takes_back labels sent top bottom before behind s rooms
has-left {l} takes_back labels sent top bottom before behind s rooms links long descends have =
    let b = between l labels top bottom s.place (places_of before) (places_of behind) descends in
    let amount : ℕ = get_or rooms s.place 0 - room_left sent s.full_at in
    let parts = HaveLeft-split sent rooms before (s ∷ behind) have in
    let off : IsOff s.place (places_of (before ++ behind)) = rw places-append (off-append s.place (places_of before) (places_of behind) b.before b.behind) in
    let partner_off : IsOff (get_or l.partners s.place 0) (places_of (before ++ behind)) =
    rw places-append (off-partner l labels top bottom s.place (places_of before ++ places_of behind) links b.falls.within b.falls.label b.without) in
    record {
      slot = record { within = b.falls.within; left = parts.1.1 };
      same = settled-leave l takes_back sent before behind s rooms labels top bottom links long descends;
      have = HaveLeft-other l takes_back sent amount s.place rooms (before ++ behind) off partner_off
          (HaveLeft-append sent rooms before behind parts.0 parts.1.2);
      descends = b.without;
      long = length-pushed_once l takes_back amount s.place rooms ∙ long;
    }

-- Some links leave, one after the other.
pub record HaveAllLeft (l : Links) (takes_back : Bool) (sent : ℕ) (before slots behind : List Slot) (rooms : List ℕ) : Type 0 where
  pub can : CanPut l takes_back sent slots rooms
  pub same : settled l takes_back sent (before ++ (slots ++ behind)) rooms ≡ settled l takes_back sent (before ++ behind)
      (put_each l takes_back sent slots rooms)
  pub have : HaveLeft sent (put_each l takes_back sent slots rooms) (before ++ behind)
  pub long : length (put_each l takes_back sent slots rooms) ≡ length l.heads

-- Links that stand side by side can leave a path together.
pub have-all-left : {l : Links} (takes_back : Bool) (labels : List ℕ) (sent top bottom : ℕ) (before slots behind : List Slot) (rooms : List ℕ) → AreLinks l
    → length rooms ≡ length l.heads
    → Descends l labels top bottom (places_of before ++ places_of (slots ++ behind)) → HaveLeft sent rooms (before ++ (slots ++ behind))
    → HaveAllLeft l takes_back sent before slots behind rooms
have-all-left takes_back labels sent top bottom before [] behind rooms links long descends have = record { can = tt; same = refl; have = have; long = long }
have-all-left {l} takes_back labels sent top bottom before (s ∷ slots) behind rooms links long descends have =
    let first = has-left takes_back labels sent top bottom before (slots ++ behind) s rooms links long descends have in
    let later = have-all-left takes_back labels sent top bottom before slots behind
    (put_once l takes_back sent s rooms) links first.long first.descends first.have in
    record { can = (first.slot, later.can); same = first.same ∙ later.same; have = later.have; long = later.long }

-- The next link can leave, and then it goes on.
pub putting-here : {r : ResidualLinks} {sent : ℕ} (slots : List Slot) (i : ℕ) {whole : ResidualLinks} → i < length slots → IsPutting r sent (drop i slots) whole
    → IsSlot r.links sent r.rooms (slot_at slots i)
putting-here {r} {sent} slots i within is =
    let split : drop i slots ≡ slot_at slots i ∷ drop (i + 1) slots = drop_more slots i _ within in
    (subst (λ (ss : List Slot). CanPut r.links r.takes_back sent ss r.rooms) split is.can).0

-- While slots are put on in turn, the next one comes to what all come to.
pub putting-next : {r next : ResidualLinks} {sent : ℕ} (slots : List Slot) (i : ℕ) {whole : ResidualLinks} → i < length slots → IsPutting r sent (drop i slots) whole
    → next ≡ put_once_on r sent (slot_at slots i) → IsPutting next sent (drop (i + 1) slots) whole
putting-next {r} {sent} slots i within is put =
    let split : drop i slots ≡ slot_at slots i ∷ drop (i + 1) slots = drop_more slots i _ within in
    rw put (record {
      goes_on = sym (ap (put_each_on r sent) split) ∙ is.goes_on;
      can = (subst (λ (ss : List Slot). CanPut r.links r.takes_back sent ss r.rooms) split is.can).1;
    })
