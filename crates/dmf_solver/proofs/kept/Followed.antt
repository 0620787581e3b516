-- The residual pairs after flows and capacities of arcs change.
use Rattle.std.proofs.Common.{ℕ, ◌≡◌, ◌+◌, ◌-◌, ◌<◌, ◌≤◌, ◌==◌, Bool, true, false, List, [], ◌∷◌, ◌++◌, length, get_or, set, drop, zero, suc, refl, ap}
use Rattle.std.proofs.Common.{sym, ◌∙◌, subst, arith, Option, Some, None, length-set, Vec, Global}
use Rattle.std.specs.Option.{option_map}
use Rattle.std.proofs.lemmas.List.{length_push}
use Rattle.std.proofs.lemmas.Option.{slice_get_within}
use Rattle.std.proofs.lemmas.Slice.Zip.{AllZip-long}
use Rattle.std.proofs.Math.ListN.{drop_of_length-le}
use Rattle.std.proofs.Math.Seq.{drop-cons}
use Rattle.dmf_links.specs.declared.pair.Pair.{Pair}
use Rattle.dmf_path.specs.Search.{Searched, with_pairs, with_rooms, against_at}
use Rattle.dmf_links.specs.Pair.{pair_number}
use Rattle.dmf_state.specs.declared.arc.Arc.{Arc}
use Rattle.dmf_state.specs.declared.edit.Edit.{Edit}
use Rattle.dmf_state.specs.declared.edit.Edit.TheVariants.{Cap, Add, Close, Shut, Solve}
use Rattle.dmf_state.specs.declared.edit.Move.{Move}
use Rattle.dmf_state.specs.declared.edit.Shutting.{Shutting}
use Rattle.dmf_state.specs.declared.moves.Direction.{Direction}
use Rattle.dmf_state.specs.declared.moves.Direction.TheVariants.{Forward, Back}
use Rattle.dmf_state.specs.Arc.{no_arc, closed_arc, open_arc, with_cap}
use Rattle.dmf_state.specs.Direction.{along, cap_along, edited_along, FitsAlong}
use Rattle.dmf_state.specs.Edit.{applied, moved, moves_of, numbers, with_closed, AddsArc, ArcFits, MovesFit}
use Rattle.dmf_state.specs.Network.{Network, arc_number, with_arc}
use Rattle.dmf_state.specs.NetworkState.{NetworkState, IsState}
use Rattle.dmf_solver.specs.Pairs.{recapped, with_capacity}
use Rattle.dmf_solver.specs.ResidualNetwork.{residual_pair, residual_pairs, closed_return, network_pairs, residual_search, IsResidualOf}
use Rattle.dmf_state.specs.Revert.{with_opened}
use Rattle.dmf_state.proofs.ChangedArc.{has_arc-within}
use Rattle.dmf_state.proofs.ClosedArcs.{HasArcs-open, HasArcs}
use Rattle.dmf_state.proofs.ClosedTogether.{HasArcs-long, length-closed}
use Rattle.dmf_state.proofs.Moving.{no_move, IsMoveAt, MovesFit-made}
use Rattle.dmf_solver.proofs.pairs.ArcPairs.{pairs-flow}
use Rattle.dmf_solver.proofs.pairs.NetworkPairs.{length-network_pairs}
use Rattle.dmf_solver.proofs.pairs.ResidualPairs.{by_residual_pair}
use Rattle.dmf_state.proofs.Reverting.{fit-back}

-- ---- one flow

-- A new flow on an arc gives both links of its pair new rooms.
pub residual-next : (n : Network) (flows : List ℕ) (k flow : ℕ) (old new : Searched) → length flows ≡ length n.arcs → k < length n.arcs
    → old ≡ residual_search n flows → new ≡ with_pairs old (with_rooms old.pairs k ((get_or n.arcs k no_arc).cap - flow) flow)
    → new ≡ residual_search n (set flows k flow)
residual-next n flows k flow old new same h was is =
    is
    ∙ ap (λ (o : Searched). with_pairs o (with_rooms o.pairs k ((get_or n.arcs k no_arc).cap - flow) flow)) was
    ∙ sym (ap (with_pairs (residual_search n flows)) (pairs-flow by_residual_pair n.arcs flows (closed_return n ∷ []) k flow same h))

-- ---- one capacity

cap-pair : (old arc : Arc) (flow : ℕ) (loop : Bool) → (old.tail == old.head) ≡ loop → arc.tail ≡ old.tail → arc.head ≡ old.head
    → residual_pair arc flow ≡ option_map (recapped arc.cap) (residual_pair old flow)
cap-pair old arc flow true e tail head = rw (tail, head, e) refl
cap-pair old arc flow false e tail head = rw (tail, head, e) refl

cap-pairs : (arcs : List Arc) (flows : List ℕ) (rest : List (Option Pair)) (k : ℕ) (arc : Arc) → k < length (residual_pairs arcs flows)
    → arc.tail ≡ (get_or arcs k no_arc).tail → arc.head ≡ (get_or arcs k no_arc).head
    → residual_pairs (set arcs k arc) flows ++ rest ≡ with_capacity (residual_pairs arcs flows ++ rest) k arc.cap
cap-pairs [] flows rest k arc h tail head = absurd (omega (arith, h))
cap-pairs (old ∷ arcs) [] rest k arc h tail head = absurd (omega (arith, h))
cap-pairs (old ∷ arcs) (flow ∷ flows) rest zero arc h tail head = ap (λ (p : Option Pair). p ∷ (residual_pairs arcs flows ++ rest))
    (cap-pair old arc flow (old.tail == old.head) refl tail head)
cap-pairs (old ∷ arcs) (flow ∷ flows) rest (suc k) arc h tail head = ap (λ (ps : List (Option Pair)). residual_pair old flow ∷ ps)
    (cap-pairs arcs flows rest k arc (omega (arith, h)) tail head)

-- A new capacity of an arc gives the link along its pair a new room.
cap-search : (n : Network) (flows : List ℕ) (j : ℕ) (arc : Arc) (old new : Searched) → length old.pairs ≡ length n.arcs + 1 → j - 1 < length n.arcs
    → arc.tail ≡ (arc_number n j).tail → arc.head ≡ (arc_number n j).head
    → new ≡ with_pairs old (with_capacity old.pairs (j - 1) arc.cap) → old ≡ residual_search n flows → new ≡ residual_search (with_arc n j arc) flows
cap-search n flows j arc old new long h tail head put is =
    let pairs : length old.pairs ≡ length (network_pairs n flows) = ap (λ (o : Searched). length o.pairs) is in
    let within : j - 1 < length (residual_pairs n.arcs flows) =
    omega (arith, h, long, pairs, length_push (residual_pairs n.arcs flows) (closed_return n)) in
    put
    ∙ ap (λ (o : Searched). with_pairs o (with_capacity o.pairs (j - 1) arc.cap)) is
    ∙ sym (ap (with_pairs (residual_search n flows)) (cap-pairs n.arcs flows (closed_return n ∷ []) (j - 1) arc within tail head))

-- There are as many pairs as before.
pub length-with_capacity : (pairs : List (Option Pair)) (k cap : ℕ) → length (with_capacity pairs k cap) ≡ length pairs
length-with_capacity pairs k cap = length-set pairs k (option_map (recapped cap) (pair_number pairs k))

-- ---- the room, by the flow

-- If there is a pair, these are the rooms for this capacity.
told-some : (pairs : List (Option Pair)) (k cap flow : ℕ) (p : Option Pair) → pair_number pairs k ≡ p → option_map (λ (q : Pair). q.against) p ≡ Some flow
    → with_rooms pairs k (cap - flow) flow ≡ with_capacity pairs k cap
told-some pairs k cap flow None here is = absurd (cc)
told-some pairs k cap flow (Some p) here is =
    let same : p.against ≡ flow = cc in
    rw (here, sym same) refl

-- These rooms are those that the capacity leaves.
pub rooms-told : (pairs : List (Option Pair)) (k cap flow : ℕ) → against_at pairs k ≡ Some flow
    → with_rooms pairs k (cap - flow) flow ≡ with_capacity pairs k cap
rooms-told pairs k cap flow is = told-some pairs k cap flow (pair_number pairs k) refl is

-- ---- moves in turn

-- The first `i` moves are made: the search is of the kind for flows from which the other moves lead to the last ones.
pub record AreFollowed (Kind : NetworkState → Searched → Type 0) (n : Network) (moves : List Move) (last : List ℕ) (i : ℕ) (search : Searched) : Type 0 where
  pub flows : List ℕ
  pub number : ℕ
  pub fit : MovesFit number (drop i moves) flows
  pub rest : moved (drop i moves) flows ≡ last
  pub one_each : length flows ≡ length n.arcs
  pub is : Kind (record { network = n; flows = flows }) search

-- At first none is.
pub followed-none : (Kind : NetworkState → Searched → Type 0) (s : NetworkState) (moves : List Move) (search : Searched) → IsState s
    → MovesFit 0 moves s.flows → Kind s search → AreFollowed Kind s.network moves (moved moves s.flows) 0 search
followed-none Kind s moves search state fit is = record {
  flows = s.flows;
  number = 0;
  fit = fit;
  rest = refl;
  one_each = AllZip-long _ s.network.arcs s.flows state.flow.within;
  is = is;
}

module _ (Kind : NetworkState → Searched → Type 0) (n : Network) (moves : List Move) (last : List ℕ) (i : ℕ) (m : Move) (search : Searched)
    (move : IsMoveAt moves i m) (are : AreFollowed Kind n moves last i search) where
  split : drop i moves ≡ m ∷ drop (i + 1) moves
  split =
      let next : suc i ≡ i + 1 = omega arith in
      drop-cons moves i no_move move.within ∙ (λ t. move.is t ∷ drop (next t) moves)

  fit : MovesFit are.number (m ∷ drop (i + 1) moves) are.flows
  fit = subst (λ ms. MovesFit are.number ms are.flows) split are.fit

  -- The arc of the next move is there.
  pub move-within : (1 ≤ m.arc) × (m.arc - 1 < length n.arcs)
  move-within =
      let within = slice_get_within are.flows (m.arc - 1) m.from fit.1 in
      (omega (arith, fit.0), omega (arith, within, are.one_each))

  -- The next move is made,
  pub followed-next : (new : Searched) → ((flows : List ℕ) → length flows ≡ length n.arcs → m.arc - 1 < length n.arcs
      → Kind (record { network = n; flows = flows }) search → Kind (record { network = n; flows = set flows (m.arc - 1) m.to }) new)
      → AreFollowed Kind n moves last (i + 1) new
  followed-next new next = record {
    flows = set are.flows (m.arc - 1) m.to;
    number = m.arc;
    fit = MovesFit-made are.number m (drop (i + 1) moves) are.flows fit;
    rest = subst (λ ms. moved ms are.flows ≡ last) split are.rest;
    one_each = length-set are.flows (m.arc - 1) m.to ∙ are.one_each;
    is = next are.flows are.one_each move-within.1 are.is;
  }

-- and in the end all are.
pub followed-all : (Kind : NetworkState → Searched → Type 0) (n : Network) (moves : List Move) (last : List ℕ) (i : ℕ) (search : Searched) → length moves ≤ i
    → AreFollowed Kind n moves last i search → Kind (record { network = n; flows = last }) search
followed-all Kind n moves last i search long are =
    subst (λ flows. Kind (record { network = n; flows = flows }) search)
    (subst (λ ms. moved ms are.flows ≡ last) (drop_of_length-le moves long) are.rest) are.is

-- There is a pair for each arc, and one more.
pub long-followed : (n : Network) (moves : List Move) (last : List ℕ) (i : ℕ) (search : Searched) → AreFollowed IsResidualOf n moves last i search
    → length search.pairs ≡ length n.arcs + 1
long-followed n moves last i search are = ap (λ (o : Searched). length o.pairs) are.is ∙ length-network_pairs n are.flows are.one_each

-- ---- one capacity, changed or reverted

-- The search follows another capacity, made or taken back,
pub cap-along : (d : Direction) (s : NetworkState) (flows : List ℕ) (j old new : ℕ) (moves : Vec Move Global) (search after : Searched)
    → length search.pairs ≡ length s.network.arcs + 1 → j - 1 < length s.network.arcs
    → after ≡ with_pairs search (with_capacity search.pairs (j - 1) (cap_along d old new)) → search ≡ residual_search s.network flows
    → after ≡ residual_search (edited_along d (Cap j old new moves) s).network flows
cap-along Forward s flows j old new moves search after long h put is = cap-search s.network flows j
    (with_cap new (arc_number s.network j)) search after long h refl refl put is
cap-along Back s flows j old new moves search after long h put is = cap-search s.network flows j
    (open_arc (arc_number s.network j).tail (arc_number s.network j).head old) search after long h refl refl put is

-- and so it does an arc that is closed.
pub close-along : (d : Direction) (s : NetworkState) (flows : List ℕ) (j old : ℕ) (moves : Vec Move Global) (search after : Searched)
    → length search.pairs ≡ length s.network.arcs + 1 → j - 1 < length s.network.arcs
    → after ≡ with_pairs search (with_capacity search.pairs (j - 1) (cap_along d old 0)) → search ≡ residual_search s.network flows
    → after ≡ residual_search (edited_along d (Close j old moves) s).network flows
close-along Forward s flows j old moves search after long h put is = cap-search s.network flows j
    (closed_arc (arc_number s.network j)) search after long h refl refl put is
close-along Back s flows j old moves search after long h put is = cap-search s.network flows j
    (open_arc (arc_number s.network j).tail (arc_number s.network j).head old) search after long h refl refl put is

-- ---- arcs closed in turn, or opened again

-- the network with these arcs closed, or open again
abbrev pub shut_along : Direction → List Shutting → Network → Network
shut_along Forward arcs n = with_closed arcs n
shut_along Back arcs n = with_opened arcs n

-- whether an arc is closed afterwards
abbrev pub is_closed : Direction → Bool
is_closed Forward = true
is_closed Back = false

-- the arc afterwards
abbrev pub shut_arc : Direction → Shutting → Arc → Arc
shut_arc d a arc = record { tail = arc.tail; head = arc.head; cap = cap_along d a.old 0; closed = is_closed d }

-- The first arc is shut before the others.
pub shut-first : (d : Direction) (a : Shutting) (rest : List Shutting) (n : Network)
    → shut_along d rest (with_arc n a.arc (shut_arc d a (arc_number n a.arc))) ≡ shut_along d (a ∷ rest) n
shut-first Forward a rest n = refl
shut-first Back a rest n = refl

-- The arcs before the rest are closed, or opened. Whatever the flows, the search is the residual one of the network now.
pub record AreShutUpTo (d : Direction) (n last : Network) (rest : List Shutting) (old search : Searched) : Type 0 where
  pub now : Network
  pub has : HasArcs now (numbers rest)
  pub leads : shut_along d rest now ≡ last
  pub one_each : length search.pairs ≡ length now.arcs + 1
  pub is : (flows : List ℕ) → old ≡ residual_search n flows → search ≡ residual_search now flows

-- The search follows the next arc that is shut.
pub shut-next : (d : Direction) (n last : Network) (a : Shutting) (rest all : List Shutting) (old search new : Searched) → all ≡ a ∷ rest
    → AreShutUpTo d n last all old search
    → new ≡ with_pairs search (with_capacity search.pairs (a.arc - 1) (cap_along d a.old 0)) → AreShutUpTo d n last rest old new
shut-next d n last a rest all old search new split up_to put =
    let up : AreShutUpTo d n last (a ∷ rest) old search = subst (λ left. AreShutUpTo d n last left old search) split up_to in
    let at = has_arc-within up.now a.arc up.has.0 in
    let arc : Arc = shut_arc d a (arc_number up.now a.arc) in
    let long = length-set up.now.arcs (a.arc - 1) arc in
    record {
      now = with_arc up.now a.arc arc;
      has = HasArcs-long up.now (with_arc up.now a.arc arc) (numbers rest) long up.has.1;
      leads = shut-first d a rest up.now ∙ up.leads;
      one_each =
          ap (λ (o : Searched). length o.pairs) put
          ∙ length-with_capacity search.pairs (a.arc - 1) (cap_along d a.old 0)
          ∙ up.one_each
          ∙ ap (λ count. count + 1) (sym long);
      is = λ flows same. cap-search up.now flows a.arc arc search new up.one_each at.1 refl refl put (up.is flows same);
    }

-- ---- edits

-- the numbers of the arcs whose capacities an edit changes
abbrev pub recapped_arcs : Edit → List ℕ
recapped_arcs (Cap j old new moves) = j ∷ []
recapped_arcs (Close j old moves) = j ∷ []
recapped_arcs (Add tail head cap) = []
recapped_arcs (Shut arcs moves) = numbers arcs.items
recapped_arcs (Solve moves) = []

has-fits : (edit : Edit) (n : Network) → ArcFits edit n → HasArcs n (recapped_arcs edit)
has-fits (Cap j old new moves) n fits = (fits.is_there, tt)
has-fits (Close j old moves) n fits = (fits.is_there, tt)
has-fits (Add tail head cap) n fits = tt
has-fits (Shut arcs moves) n fits = HasArcs-open 0 arcs.items n fits
has-fits (Solve moves) n fits = tt

-- If an edit adds no arc, the number of arcs stays.
arcs-long : (edit : Edit) (s : NetworkState) → (AddsArc edit → ⊥) → length (applied edit s).network.arcs ≡ length s.network.arcs
arcs-long (Cap j old new moves) s none = length-set s.network.arcs (j - 1) (with_cap new (arc_number s.network j))
arcs-long (Close j old moves) s none = length-set s.network.arcs (j - 1) (closed_arc (arc_number s.network j))
arcs-long (Add tail head cap) s none = absurd (none tt)
arcs-long (Shut arcs moves) s none = length-closed arcs.items s.network
arcs-long (Solve moves) s none = refl

-- These arcs are there before the edit and after it.
pub has-along : (d : Direction) (edit : Edit) (s : NetworkState) → (AddsArc edit → ⊥) → FitsAlong d edit s → HasArcs s.network (recapped_arcs edit)
has-along Forward edit s none fits = has-fits edit s.network fits.arc
has-along Back edit s none stands =
    let b : NetworkState = stands.before in
    let long = arcs-long edit b none in
    HasArcs-long b.network s.network (recapped_arcs edit) (ap (λ (u : NetworkState). length u.network.arcs) (sym stands.gives) ∙ long)
    (has-fits edit b.network stands.fits.arc)

-- The moves of an edit that fits, or the reverse moves of one that stands, fit the flows,
pub moves-along : (d : Direction) (edit : Edit) (s : NetworkState) → FitsAlong d edit s → MovesFit 0 (along d (moves_of edit)) s.flows
moves-along Forward edit s fits = fits.moves
moves-along Back edit s stands = fit-back edit s (moves_of edit) stands refl

-- and lead to the flows of the other state, if the edit adds no arc.
pub flows-along : (d : Direction) (edit : Edit) (s : NetworkState) → (AddsArc edit → ⊥)
    → moved (along d (moves_of edit)) s.flows ≡ (edited_along d edit s).flows
flows-along d (Add tail head cap) s none = absurd (none tt)
flows-along Forward (Cap j old new moves) s none = refl
flows-along Forward (Close j old moves) s none = refl
flows-along Forward (Shut arcs moves) s none = refl
flows-along Forward (Solve moves) s none = refl
flows-along Back (Cap j old new moves) s none = refl
flows-along Back (Close j old moves) s none = refl
flows-along Back (Shut arcs moves) s none = refl
flows-along Back (Solve moves) s none = refl
