-- Histories of edits: the timeline that they stand for, and steps on it.
use Rattle.std.proofs.Common.{ℕ, ◌↔◌, Bor, Option, None, MatchOption, IfSome, ◌≡◌, ◌+◌, ◌-◌, ◌<◌, ◌≤◌, List, [], ◌∷◌, ◌++◌, length, take, drop, get_or, suc}
use Rattle.std.proofs.Common.{zero, Some, refl, ap, ◌∙◌, sym, subst, arith, ⊎_elim}
use Rattle.std.specs.List.{slice_get, HoldsAt}
use Rattle.std.proofs.lemmas.List.{length_push, length-drop, length-take-le, take-append-le, take_all, take-take, get_or_append_left, get_or_push, get_or-take}
use Rattle.std.proofs.lemmas.List.{take_more}
use Rattle.std.proofs.lemmas.Bool.{cases_lt}
use Rattle.std.proofs.lemmas.Option.{get_or_from_slice_get, slice_get-get_or, slice_get_within, slice_get_cases}
use Rattle.dmf_state.specs.declared.edit.Edit.{Edit}
use Rattle.dmf_state.specs.declared.edit.Edit.TheVariants.{Cap, Add, Close, Shut, Solve}
use Rattle.dmf_state.specs.Arc.{open_arc}
use Rattle.dmf_state.specs.NetworkState.{NetworkState, IsState}
use Rattle.dmf_state.specs.Edit.{applied, Fits, AddsArc}
use Rattle.dmf_state.specs.Revert.{reverted, Stands}
use Rattle.dmf_history.specs.Timeline.{Timeline}
use Rattle.dmf_history.specs.Timeline.{IsTimeline, IsPresent, future_of, extended, forgotten, back, forward, FitsPresent, Appends, AddsArcs, LeadsBack, LeadsOn}
use Rattle.dmf_history.proofs.Appending.{one-present, within_bound-past, appends-all}
use Rattle.dmf_history.specs.Delta.{before, after, states_from, timeline_of, AreEdits, AreWithinBound}
use Rattle.dmf_state.specs.Laws.{GivesBack}

pub length-states_from : (edits : List Edit) (s : NetworkState) → length (states_from s edits) ≡ length edits + 1
length-states_from [] s = refl
length-states_from (edit ∷ edits) s = omega (arith, length-states_from edits (applied edit s))

-- the state at a place
states_from-at : (edits : List Edit) (s : NetworkState) (k : ℕ) → k ≤ length edits → slice_get (states_from s edits) k ≡ Some (after (take k edits) s)
states_from-at [] s zero h = refl
states_from-at [] s (suc k) h = absurd (omega (arith, h))
states_from-at (edit ∷ edits) s zero h = refl
states_from-at (edit ∷ edits) s (suc k) h = states_from-at edits (applied edit s) k (omega (arith, h))

-- the states, where an edit replaces those past a place
states_from-put : (edits : List Edit) (s : NetworkState) (k : ℕ) (edit : Edit) → k ≤ length edits
    → states_from s (take k edits ++ edit ∷ []) ≡ take (suc k) (states_from s edits) ++ applied edit (after (take k edits) s) ∷ []
states_from-put [] s zero edit h = refl
states_from-put [] s (suc k) edit h = absurd (omega (arith, h))
states_from-put (first ∷ edits) s zero edit h = refl
states_from-put (first ∷ edits) s (suc k) edit h = ap (λ states. s ∷ states) (states_from-put edits (applied first s) k edit (omega (arith, h)))

before-push : (edits : List Edit) (edit : Edit) (s : NetworkState) → before (edits ++ edit ∷ []) s ≡ before edits (reverted edit s)
before-push [] edit s = refl
before-push (first ∷ edits) edit s = ap (reverted first) (before-push edits edit s)

after-push : (edits : List Edit) (edit : Edit) (s : NetworkState) → after (edits ++ edit ∷ []) s ≡ applied edit (after edits s)
after-push [] edit s = refl
after-push (first ∷ edits) edit s = after-push edits edit (applied first s)

-- the edits up to the next one
next : (edits : List Edit) (k : ℕ) (edit : Edit) → slice_get edits k ≡ Some edit → take (k + 1) edits ≡ take k edits ++ edit ∷ []
next edits k edit is =
    take_more edits k edit (slice_get_within edits k edit is)
    ∙ ap (λ e. take k edits ++ e ∷ []) (get_or_from_slice_get edits k edit edit is)

after-next : (edits : List Edit) (s : NetworkState) (k : ℕ) (edit : Edit) → slice_get edits k ≡ Some edit
    → after (take (k + 1) edits) s ≡ applied edit (after (take k edits) s)
after-next edits s k edit is = rw (next edits k edit is) (after-push (take k edits) edit s)

before-next : (edits : List Edit) (s : NetworkState) (k : ℕ) (edit : Edit) → slice_get edits k ≡ Some edit
    → before (take (k + 1) edits) s ≡ before (take k edits) (reverted edit s)
before-next edits s k edit is = ap (λ es. before es s) (next edits k edit is) ∙ before-push (take k edits) edit s

-- the first edits, and one edit after them
length-put : (edits : List Edit) (k : ℕ) (edit : Edit) → k ≤ length edits → length (take k edits ++ edit ∷ []) ≡ k + 1
length-put edits k edit h = omega (arith, length_push (take k edits) edit, length-take-le k edits h)

take-put : (edits : List Edit) (k j : ℕ) (edit : Edit) → k ≤ length edits → j ≤ k → take j (take k edits ++ edit ∷ []) ≡ take j edits
take-put edits k j edit h le =
    take-append-le j (take k edits) (edit ∷ []) (omega (arith, length-take-le k edits h, le)) ∙ take-take j k edits le

-- each of these edits fits
put-fit : (edits : List Edit) (k : ℕ) (new : Edit) (s : NetworkState) → k ≤ length edits
    → ((j : ℕ) (edit : Edit) → slice_get edits j ≡ Some edit → Fits edit (after (take j edits) s)) → Fits new (after (take k edits) s) → (j : ℕ) (edit : Edit)
    → slice_get (take k edits ++ new ∷ []) j ≡ Some edit → Fits edit (after (take j (take k edits ++ new ∷ [])) s)
put-fit edits k new s h fit fits j edit is =
    let put : List Edit = take k edits ++ new ∷ [] in
    let long = length-take-le k edits h in
    let below : j < length put = slice_get_within put j edit is in
    let read : get_or put j edit ≡ edit = get_or_from_slice_get put j edit edit is in
    let up_to : j ≤ k = omega (arith, below, length-put edits k new h) in
    let same : take j put ≡ take j edits = take-put edits k j new h up_to in
    let earlier : j < k → Fits edit (after (take j put) s) = λ lt.
    let here : get_or edits j edit ≡ edit =
    sym (get_or-take k edits j edit lt) ∙ sym (get_or_append_left (take k edits) (new ∷ []) edit j (omega (arith, long, lt))) ∙ read in
    rw same (fit j edit (slice_get-get_or edits j edit (omega (arith, lt, h)) ∙ ap (λ e. Some e) here)) in
    let last : j ≡ k → Fits edit (after (take j put) s) = λ e.
    let here : new ≡ edit = sym (get_or_push (take k edits) new edit j (omega (arith, long, e))) ∙ read in
    rw same (subst (λ n. Fits edit (after (take n edits) s)) (sym e) (subst (λ f. Fits f (after (take k edits) s)) here fits)) in
    ⊎_elim earlier (λ ge. last (omega (arith, ge, up_to))) (cases_lt j k)

-- A read of a queue of edits gives the edit at that place.
pub found : (edits : List Edit) (k : ℕ) (told : Option (Bor Edit)) → MatchOption told (length edits ≤ k)
    (λ x. (k < length edits) × HoldsAt (λ edit. x.now ≡ edit) edits k) → IfSome told (λ x. slice_get edits k ≡ Some x.now)
found edits k None m = tt
found edits k (Some x) m = slice_get-get_or edits k x.now m.0 ∙ ap (λ e. Some e) (sym (m.1 x.now))

-- It gives none just past the last edit.
pub none-past : (edits : List Edit) (k : ℕ) (told : Option (Bor Edit))
    → MatchOption told (length edits ≤ k) (λ x. (k < length edits) × HoldsAt (λ edit. x.now ≡ edit) edits k) → (told ≡ None) ↔ (length edits ≤ k)
none-past edits k None m = (λ e. m, λ past. refl)
none-past edits k (Some x) m = (λ e. absurd (cc), λ past. absurd (omega (arith, m.0, past)))

-- An addition makes a state with more arcs.
more-arcs : (edit : Edit) (s : NetworkState) → AddsArc edit → length s.network.arcs < length (applied edit s).network.arcs
more-arcs (Cap j old new moves) s adds = absurd adds
more-arcs (Close j old moves) s adds = absurd adds
more-arcs (Add tail head cap) s adds = omega (arith, length_push s.network.arcs (open_arc tail head cap))
more-arcs (Shut arcs moves) s adds = absurd adds
more-arcs (Solve moves) s adds = absurd adds

-- ---- the oldest edit is dropped

-- Edits that fit can be reverted, which leads back to the first state.
before-after : GivesBack → (edits : List Edit) (s : NetworkState) (k : ℕ)
    → ((j : ℕ) (edit : Edit) → slice_get edits j ≡ Some edit → Fits edit (after (take j edits) s)) → before (take k edits) (after (take k edits) s) ≡ s
before-after law [] s zero fit = refl
before-after law [] s (suc k) fit = refl
before-after law (edit ∷ edits) s zero fit = refl
before-after law (edit ∷ edits) s (suc k) fit =
    ap (reverted edit) (before-after law edits (applied edit s) k (λ j e is. fit (suc j) e is)) ∙ law edit s (fit zero edit refl)

-- Reverting the edits after the oldest one leads to what that one makes of the first state.
forgotten-first : GivesBack → (present : NetworkState) (place : ℕ) (edit : Edit) (edits : List Edit) (are : AreEdits present (edit ∷ edits) (suc place))
    → before (take place edits) present ≡ applied edit are.first
forgotten-first law present place edit edits are =
    ap (before (take place edits)) (sym are.present_is) ∙ before-after law edits (applied edit are.first) place (λ j e is. are.fit (suc j) e is)

-- Dropping the oldest edit leaves edits of the present state,
forgotten-next : GivesBack → (present : NetworkState) (place : ℕ) (edits : List Edit) → AreEdits present edits (suc place)
    → AreEdits present (drop 1 edits) place
forgotten-next law present place [] are = absurd (omega (arith, are.within))
forgotten-next law present place (edit ∷ edits) are =
    record {
      within = omega (arith, are.within);
      first = applied edit are.first;
      state = (are.fit zero edit refl).applied;
      first_is = forgotten-first law present place edit edits are;
      fit = λ j e is. are.fit (suc j) e is;
      present_is = are.present_is;
    }

-- and forgets the oldest state of the timeline.
forgotten-rest : GivesBack → (present : NetworkState) (place bound : ℕ) (edits : List Edit) → AreEdits present edits (suc place)
    → timeline_of present (drop 1 edits) place bound ≡ forgotten (timeline_of present edits (suc place) bound)
forgotten-rest law present place bound [] are = absurd (omega (arith, are.within))
forgotten-rest law present place bound (edit ∷ edits) are =
    let first : before (take place edits) present ≡ applied edit (reverted edit (before (take place edits) present)) =
    forgotten-first law present place edit edits are ∙ ap (applied edit) (sym are.first_is) in
    let fewer : place ≡ suc place - 1 = omega arith in
    λ i. record { states = states_from (first i) edits; place = fewer i; bound = bound }

module _ {present : NetworkState} {edits : List Edit} {place bound : ℕ} (kept : AreWithinBound present edits place bound) where
  abbrev are : AreEdits present edits place
  are = kept.are

  abbrev timeline : Timeline
  timeline = timeline_of present edits place bound

  -- The states that the edits lead through are a timeline.
  pub is-timeline : IsTimeline timeline
  is-timeline =
      let long = length-states_from edits (before (take place edits) present) in
      record { place = omega (arith, long, are.within); at_most = omega (arith, long, kept.at_most); bound = kept.limit }

  -- As many states are past the present one as edits are behind its place.
  pub future-is : future_of timeline ≡ length edits - place
  future-is = omega (arith, length-states_from edits (before (take place edits) present))

  -- The present state is that at the timeline's place.
  pub is-present : IsPresent timeline present
  is-present = rw are.first_is (states_from-at edits are.first place are.within ∙ ap (λ s. Some s) are.present_is)

  -- The edits before a place make a state.
  IsState-after : (k : ℕ) → k ≤ length edits → IsState (after (take k edits) are.first)
  IsState-after zero h = are.state
  IsState-after (suc k) h = ⊎_elim
      (λ found.
      let one_more : suc k ≡ k + 1 = omega arith in
      rw (one_more, after-next edits are.first k found.0 found.2) (are.fit k found.0 found.2).applied)
      (λ past. absurd (omega (arith, past.0, h)))
      (slice_get_cases edits k).1

  -- ---- one step back

  module _ (k : ℕ) (edit : Edit) (last : place ≡ k + 1) (is : slice_get edits k ≡ Some edit) where
    -- the edit made the present state
    made : applied edit (after (take k edits) are.first) ≡ present
    made = sym (after-next edits are.first k edit is) ∙ ap (λ n. after (take n edits) are.first) (sym last) ∙ are.present_is

    -- The edit before the place stands in the present state.
    pub stands : Stands edit present
    stands = record {
      before = after (take k edits) are.first;
      state = IsState-after k (omega (arith, last, are.within));
      fits = are.fit k edit is;
      gives = made;
    }

    same-first : before (take place edits) present ≡ before (take k edits) (reverted edit present)
    same-first = ap (λ n. before (take n edits) present) last ∙ before-next edits present k edit is

    -- of this state before it
    unmade : GivesBack → after (take k edits) are.first ≡ reverted edit present
    unmade law = sym (law edit (after (take k edits) are.first) (are.fit k edit is)) ∙ ap (reverted edit) made

    -- After a step back the edits still lead from state to state.
    pub undone : GivesBack → AreWithinBound (reverted edit present) edits k bound
    undone law = record {
      are = record {
        within = omega (arith, last, are.within);
        first = are.first;
        state = are.state;
        first_is = sym same-first ∙ are.first_is;
        fit = are.fit;
        present_is = unmade law;
      };
      at_most = kept.at_most;
      limit = kept.limit;
    }

    -- A step back is that of the timeline.
    pub undone-back : timeline_of (reverted edit present) edits k bound ≡ back timeline 1
    undone-back =
        let fewer : k ≡ place - 1 = omega (arith, last) in
        λ i. record { states = states_from (sym same-first i) edits; place = fewer i; bound = bound }

    -- The edit before the place leads back to the state before.
    pub leads-back : GivesBack → LeadsBack edit timeline
    leads-back law =
        let fewer : place - 1 ≡ k = omega (arith, last) in
        record {
          state = present;
          present = is-present;
          steps = omega (arith, last);
          stands = stands;
          before = rw (are.first_is, fewer) (states_from-at edits are.first k (omega (arith, last, are.within)) ∙ ap (λ s. Some s) (unmade law));
        }

  -- ---- one step forward

  module _ (edit : Edit) (is : slice_get edits place ≡ Some edit) where
    -- The edit at the place fits the present state.
    pub fits : Fits edit present
    fits = subst (Fits edit) are.present_is (are.fit place edit is)

    same-first-forward : GivesBack → before (take (place + 1) edits) (applied edit present) ≡ before (take place edits) present
    same-first-forward law =
        before-next edits (applied edit present) place edit is ∙ ap (before (take place edits)) (law edit present fits)

    forward-present : after (take (place + 1) edits) are.first ≡ applied edit present
    forward-present = after-next edits are.first place edit is ∙ ap (applied edit) are.present_is

    -- After a step forward the edits still lead from state to state.
    pub redone : GivesBack → AreWithinBound (applied edit present) edits (place + 1) bound
    redone law = record {
      are = record {
        within = omega (arith, slice_get_within edits place edit is);
        first = are.first;
        state = are.state;
        first_is = same-first-forward law ∙ are.first_is;
        fit = are.fit;
        present_is = forward-present;
      };
      at_most = kept.at_most;
      limit = kept.limit;
    }

    -- A step forward is that of the timeline.
    pub redone-forward : GivesBack → timeline_of (applied edit present) edits (place + 1) bound ≡ forward timeline 1
    redone-forward law = λ i. record { states = states_from (same-first-forward law i) edits; place = place + 1; bound = bound }

    next-is : IsPresent (forward timeline 1) (applied edit present)
    next-is =
        let within = slice_get_within edits place edit is in
        rw are.first_is (states_from-at edits are.first (place + 1) (omega (arith, within)) ∙ ap (λ s. Some s) forward-present)

    -- The edit at the place leads on to the next state.
    pub leads-on : LeadsOn edit timeline
    leads-on = record { state = present; present = is-present; fits = fits; after = next-is }

    -- Where the edit at the place adds an arc, so does the timeline's next step.
    pub adds-arcs : AddsArc edit → AddsArcs timeline place
    adds-arcs adds = record {
      before = present;
      after = applied edit present;
      before_is = is-present;
      after_is = next-is;
      more = more-arcs edit present adds;
    }

  -- ---- an edit replaces those past the present state

  module _ (edit : Edit) (t : Timeline) (seen : timeline ≡ t) (accepted : FitsPresent edit t) where
    -- An edit that fits the timeline's present state fits the present state.
    pub fits-present : Fits edit present
    fits-present = rw (one-present t present accepted.state (rw (← seen) is-present) accepted.present) accepted.fits

    abbrev pub put : List Edit
    put = take place edits ++ edit ∷ []

    take-all : take (place + 1) put ≡ put
    take-all = take_all (place + 1) put (omega (arith, length-put edits place edit are.within))

    same-first-put : GivesBack → before (take (place + 1) put) (applied edit present) ≡ before (take place edits) present
    same-first-put law =
        ap (λ es. before es (applied edit present)) take-all ∙ before-push (take place edits) edit (applied edit present)
        ∙ ap (before (take place edits)) (law edit present fits-present)

    put-edits : GivesBack → AreEdits (applied edit present) put (place + 1)
    put-edits law = record {
      within = omega (arith, length-put edits place edit are.within);
      first = are.first;
      state = are.state;
      first_is = same-first-put law ∙ are.first_is;
      fit = put-fit edits place edit are.first are.within are.fit (rw are.present_is fits-present);
      present_is = ap (λ es. after es are.first) take-all ∙ after-push (take place edits) edit are.first ∙ ap (applied edit) are.present_is;
    }

    -- Where the place is below the bound, it moves on with the edit that was put.
    pub put-within_bound : GivesBack → place < bound → AreWithinBound (applied edit present) put (place + 1) bound
    put-within_bound law fewer =
        record { are = put-edits law; at_most = omega (arith, length-put edits place edit are.within, fewer); limit = kept.limit }

    put-edits-suc : GivesBack → AreEdits (applied edit present) put (suc place)
    put-edits-suc law =
        let same : place + 1 ≡ suc place = omega arith in
        rw same at (put-edits law)

    -- Else the oldest edit is forgotten, and the place stays.
    pub put-forgets-within_bound : GivesBack → AreWithinBound (applied edit present) (drop 1 put) place bound
    put-forgets-within_bound law = record {
      are = forgotten-next law (applied edit present) place put (put-edits-suc law);
      at_most = omega (arith, length-put edits place edit are.within, length-drop 1 put, are.within, kept.at_most);
      limit = kept.limit;
    }

    put-extends : GivesBack → timeline_of (applied edit present) put (place + 1) bound ≡ extended timeline (applied edit present)
    put-extends law =
        let next_place : place + 1 ≡ suc place = omega arith in
        let gives : states_from (before (take (place + 1) put) (applied edit present)) put ≡ take (place + 1)
        (states_from (before (take place edits) present) edits) ++ applied edit present ∷ [] =
        cc (same-first-put law, are.first_is, states_from-put edits are.first place edit are.within, next_place, are.present_is) in
        λ i. record { states = gives i; place = place + 1; bound = bound }

    -- The edit is appended, if the bound allows one more state before the present one.
    pub put-appends : GivesBack → place < bound → Appends edit t (timeline_of (applied edit present) put (place + 1) bound)
    put-appends law fewer = rw (← seen, put-extends law) (appends-all edit timeline present is-present fewer)

    -- If it does not, the oldest edit is dropped.
    pub put-forgets : GivesBack → bound ≤ place → Appends edit t (timeline_of (applied edit present) (drop 1 put) place bound)
    put-forgets law full =
        let same : suc place ≡ place + 1 = omega arith in
        let rest = rw same at (forgotten-rest law (applied edit present) place bound put (put-edits-suc law)) in
        rw (← seen) (record {
          state = present;
          present = is-present;
          gives = rest ∙ ap forgotten (put-extends law)
              ∙ sym (within_bound-past (extended timeline (applied edit present)) (omega (arith, full)));
        })
