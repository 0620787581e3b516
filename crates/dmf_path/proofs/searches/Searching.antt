-- What a search keeps, as it finds paths and pushes along them.
use Rattle.std.proofs.Common.{ℕ, ◌≡◌, ◌+◌, ◌%◌, ◌^◌, Bool, false, List, length, get_or, ap, sym, ◌∙◌, subst, arith}
use Rattle.std.proofs.lemmas.List.{length-map}
use Rattle.dmf_path.specs.declared.trail.Slot.{Slot}
use Rattle.dmf_links.specs.Links.{Links, ArePlaces, AreRooms, pairs_at}
use Rattle.dmf_path.specs.Walk.{IsWalking, end_of, bottleneck_on, pushed}
use Rattle.dmf_path.specs.Held.{Way, places_of, filled_slots, settled, HaveLeft, least_left}
use Rattle.dmf_path.specs.Residual.{ResidualLinks, roomed, with_settled_rooms}
use Rattle.dmf_path.specs.Search.{Augments}
use Rattle.dmf_path.specs.Searching.{Labelling, sought, searched, IsSearching, IsFound}
use Rattle.dmf_path.proofs.paths.Steps.{path_on, step_on, bottleneck_up_to-path_on}
use Rattle.dmf_path.proofs.paths.LeastTrail.{least-trail}
use Rattle.dmf_path.proofs.rooms.Pushed.{FallsOn-trail, NoneOpens, OpensUpwards, none-pushed, opens-pushed}
use Rattle.dmf_path.proofs.rooms.PushedPairs.{pushed_pairs-pushed}
use Rattle.dmf_path.proofs.labels.Descending.{Descends, descends-lowered, descends-trail}
use Rattle.dmf_path.proofs.slots.Settled.{length-settled, AreRooms-settled}
use Rattle.dmf_path.proofs.slots.SettledSent.{CanSend, CanSend-least, settled-sent, bottleneck-left}
use Rattle.dmf_path.proofs.slots.WholePath.{IsWhole, is-whole, slot-room}
use Rattle.dmf_path.proofs.searches.SearchTurns.{plainly}

-- what a trail keeps after so much more is sent
abbrev pub sent_on : Way → ℕ → Way
sent_on w amount = record w { sent = (w.sent + amount) % 2 ^ 64 }

-- the links along which so much was sent, once their held pushes are applied
abbrev pub sent_along : ResidualLinks → Way → ResidualLinks
sent_along r w = roomed r (settled r.links r.takes_back w.sent w.slots r.rooms)

-- A path was found, and so much can be sent along it.
pub record CanAugment (r : ResidualLinks) (places : List ℕ) (v : Labelling) (w : Way) (limit amount : ℕ) : Type 0 where
  pub whole : IsWhole r.links v.labels (with_settled_rooms r w).rooms v.current w
  pub descends : Descends r.links v.labels (get_or v.labels w.start 0) 0 (places_of w.slots)
  pub have : HaveLeft w.sent r.rooms w.slots
  pub can : CanSend w.sent amount w.slots
  pub opens : OpensUpwards r.links v.labels (with_settled_rooms r w).rooms (sent_along r (sent_on w amount)).rooms
  pub none : r.takes_back ≡ false → NoneOpens (with_settled_rooms r w).rooms (sent_along r (sent_on w amount)).rooms
  pub augments : Augments limit (record { amount = amount; links = length w.slots }) (searched (sought r w) places)
      (searched (plainly (sent_along r (sent_on w amount)) w) places)

-- So much as is left in the slots can be sent along a path that was found.
pub can-augment : {r : ResidualLinks} {places : List ℕ} {v : Labelling} {w : Way} (limit : ℕ) {amount : ℕ} → ArePlaces r.links places → IsSearching r v w
    → IsFound r w → amount ≡ least_left w.sent limit w.slots → CanAugment r places v w limit amount
can-augment {r} {places} {v} {w} limit {amount} places_are is joins least =
    let l : Links = r.links in
    let takes_back : Bool = r.takes_back in
    let rooms : List ℕ = r.rooms in
    let labels : List ℕ = v.labels in
    let after : List ℕ = (with_settled_rooms r w).rooms in
    let a = is.aimed in
    let way = is.under_way in
    let whole = is-whole way joins in
    let long : length rooms ≡ length l.heads = is.holding.rooms_are.0 in
    let told : after ≡ settled l takes_back w.sent w.slots rooms = ap (λ (ss : List Slot). settled l takes_back w.sent ss rooms) whole.filled in
    let fit : AreRooms l after = AreRooms-settled l takes_back w.sent (filled_slots w) rooms a.links is.holding.rooms_are in
    let after_long : length after ≡ length l.heads = length-settled l takes_back w.sent (filled_slots w) rooms ∙ long in
    let descends : Descends l labels (get_or labels w.start 0) 0 (places_of w.slots) =
    descends-lowered l labels (get_or labels w.start 0) (get_or labels (end_of l w.start (places_of w.slots)) 0) 0 (places_of w.slots) (omega arith)
    (descends-trail l labels after v.current w.start (places_of w.slots) a.links a.start_is whole.trail) in
    let falls = FallsOn-trail labels after v.current w.start (places_of w.slots) a.links a.start_is whole.trail in
    let have : HaveLeft w.sent rooms w.slots = subst (HaveLeft w.sent rooms) whole.filled is.holding.have in
    let can = CanSend-least w.sent amount limit w.slots (omega (arith, least)) in
    let sent = settled-sent takes_back w.sent amount w.slots rooms labels w.start
    (get_or labels w.start 0) 0 a.links long is.holding.small falls descends can have in
    let made : settled l takes_back ((w.sent + amount) % 2 ^ 64) w.slots rooms ≡ pushed l takes_back amount (places_of w.slots) after =
    sent ∙ ap (pushed l takes_back amount (places_of w.slots)) (sym told) in
    let walking : IsWalking l labels after w.start w.goal v.current (places_of w.slots) =
    record { current_is = way.walking.current_is; passed = way.walking.passed; trail_is = whole.trail } in
    record {
      whole = whole;
      descends = descends;
      have = have;
      can = can;
      opens = subst (OpensUpwards l labels after) (sym made) (opens-pushed takes_back amount labels after w.start (places_of w.slots) a.links after_long falls);
      none = λ kept. subst (NoneOpens after) (sym made) (subst (λ b. NoneOpens after (pushed l b amount (places_of w.slots) after)) (sym kept)
          (none-pushed l amount labels after w.start (places_of w.slots) after_long falls));
      augments = record {
        path = path_on l places after (places_of w.slots);
        least = least-trail l places after labels v.current (places_of w.slots) w.start w.goal a.links places_are fit a.start_is a.goal_is a.sound a.start_label
            walking whole.ends;
        amount_is = least ∙ sym (bottleneck-left w.sent limit (settled l takes_back w.sent w.slots rooms) w.slots (λ i inside.
            slot-room l labels (get_or labels w.start 0) 0 w.slots i descends inside takes_back w.sent rooms a.links long have))
            ∙ ap (λ rs. bottleneck_on rs limit (places_of w.slots)) (sym told) ∙ sym (bottleneck_up_to-path_on l places after (places_of w.slots) limit);
        links_are = sym (length-map (places_of w.slots) (step_on l places after) ∙ length-map w.slots (λ s. s.place));
        gives = ap (λ pairs. record { nodes = l.nodes; pairs = pairs; start = w.start; goal = w.goal; takes_back = takes_back })
            (ap (pairs_at l places) made ∙ pushed_pairs-pushed takes_back after labels v.current (places_of w.slots) amount a.links places_are fit
            a.start_is whole.trail);
      };
    }
