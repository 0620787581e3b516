-- Copies of edits: they do what the edits do, so a history with them stands for the same timeline.
use Rattle.std.proofs.Common.{ℕ, ◌≡◌, List, [], ◌∷◌, Some, length, take, zero, suc, refl, sym, ap, subst, ◌∙◌, arith}
use Rattle.std.specs.List.{AllZip, slice_get}
use Rattle.std.proofs.lemmas.Slice.Zip.{AllZip-long}
use Rattle.dmf_state.specs.declared.edit.Edit.{Edit}
use Rattle.dmf_state.specs.declared.edit.Edit.TheVariants.{Cap, Add, Close, Shut, Solve}
use Rattle.dmf_state.specs.Arc.{open_arc, with_cap, closed_arc}
use Rattle.dmf_state.specs.Network.{arc_number, with_arc}
use Rattle.dmf_state.specs.NetworkState.{NetworkState, IsState, with_flows, with_idle_arc}
use Rattle.dmf_state.specs.Edit.{moved, applied, with_closed, Fits, ArcFits, IsOpenWith, AreOpenWith, MovesFit, moves_of}
use Rattle.dmf_state.specs.Revert.{reverted, moved_back, with_open, with_opened}
use Rattle.dmf_state.specs.contracts.edit.EditClone.TheImpl.{ghosts}
use Rattle.dmf_history.specs.Delta.{before, after, states_from, timeline_of, AreEdits, AreWithinBound}

abbrev IsCopy : Edit → Edit → Type 0
IsCopy = ghosts.is_clone

abbrev AreCopies : List Edit → List Edit → Type 0
AreCopies = AllZip IsCopy

same-items : {A : Type 0} (xs ys : List A) → AllZip (λ x y. y ≡ x) xs ys → ys ≡ xs
same-items [] [] h = refl
same-items [] (y ∷ ys) h = absurd h
same-items (x ∷ xs) [] h = absurd h
same-items (x ∷ xs) (y ∷ ys) h = λ i. h.0 i ∷ same-items xs ys h.1 i

same-moves : (e f : Edit) → IsCopy e f → moves_of f ≡ moves_of e
same-moves (Cap j old new moves) (Cap k last next those) c = same-items moves.items those.items c.1.1.1.0
same-moves (Add tail head room) (Add from to room_after) c = refl
same-moves (Close j old moves) (Close k last those) c = same-items moves.items those.items c.1.1.0
same-moves (Shut arcs moves) (Shut others those) c = same-items moves.items those.items c.1.0
same-moves (Solve moves) (Solve those) c = same-items moves.items those.items c.0
same-moves e f c = absurd c

same-applied : (e f : Edit) → IsCopy e f → (s : NetworkState) → applied f s ≡ applied e s
same-applied (Cap j old new moves) (Cap k last next those) c s =
    let same = same-items moves.items those.items c.1.1.1.0 in
    λ i. record { network = with_arc s.network (c.0 i) (with_cap (c.1.1.0 i) (arc_number s.network (c.0 i))); flows = moved (same i) s.flows }
same-applied (Add tail head room) (Add from to room_after) c s = λ i. with_idle_arc s (open_arc (c.0 i) (c.1.0 i) (c.1.1 i))
same-applied (Close j old moves) (Close k last those) c s =
    let same = same-items moves.items those.items c.1.1.0 in
    λ i. record { network = with_arc s.network (c.0 i) (closed_arc (arc_number s.network (c.0 i))); flows = moved (same i) s.flows }
same-applied (Shut arcs moves) (Shut others those) c s =
    let closed = same-items arcs.items others.items c.0.0 in
    let same = same-items moves.items those.items c.1.0 in
    λ i. record { network = with_closed (closed i) s.network; flows = moved (same i) s.flows }
same-applied (Solve moves) (Solve those) c s = ap (λ ms. with_flows s (moved ms s.flows)) (same-items moves.items those.items c.0)
same-applied e f c s = absurd c

same-reverted : (e f : Edit) → IsCopy e f → (s : NetworkState) → reverted f s ≡ reverted e s
same-reverted (Cap j old new moves) (Cap k last next those) c s =
    let same = same-items moves.items those.items c.1.1.1.0 in
    λ i. record { network = with_open s.network (c.0 i) (c.1.0 i); flows = moved_back (same i) s.flows }
same-reverted (Add tail head room) (Add from to room_after) c s = refl
same-reverted (Close j old moves) (Close k last those) c s =
    let same = same-items moves.items those.items c.1.1.0 in
    λ i. record { network = with_open s.network (c.0 i) (c.1.0 i); flows = moved_back (same i) s.flows }
same-reverted (Shut arcs moves) (Shut others those) c s =
    let opened = same-items arcs.items others.items c.0.0 in
    let same = same-items moves.items those.items c.1.0 in
    λ i. record { network = with_opened (opened i) s.network; flows = moved_back (same i) s.flows }
same-reverted (Solve moves) (Solve those) c s = ap (λ ms. with_flows s (moved_back ms s.flows)) (same-items moves.items those.items c.0)
same-reverted e f c s = absurd c

arc-fits : (e f : Edit) → IsCopy e f → (s : NetworkState) → ArcFits e s.network → ArcFits f s.network
arc-fits (Cap j old new moves) (Cap k last next those) c s fits =
    subst (λ x. IsOpenWith s.network x last) (sym c.0) (subst (λ x. IsOpenWith s.network j x) (sym c.1.0) fits)
arc-fits (Add tail head room) (Add from to room_after) c s fits = tt
arc-fits (Close j old moves) (Close k last those) c s fits =
    subst (λ x. IsOpenWith s.network x last) (sym c.0) (subst (λ x. IsOpenWith s.network j x) (sym c.1.0) fits)
arc-fits (Shut arcs moves) (Shut others those) c s fits = subst (λ xs. AreOpenWith 0 xs s.network) (sym (same-items arcs.items others.items c.0.0)) fits
arc-fits (Solve moves) (Solve those) c s fits = tt
arc-fits e f c s fits = absurd c

fits : (e f : Edit) → IsCopy e f → (s : NetworkState) → Fits e s → Fits f s
fits e f c s h = record {
  arc = arc-fits e f c s h.arc;
  moves = subst (λ ms. MovesFit 0 ms s.flows) (sym (same-moves e f c)) h.moves;
  applied = subst IsState (sym (same-applied e f c s)) h.applied;
}

-- ---- lists of copies

same-take : (es fs : List Edit) → AreCopies es fs → (k : ℕ) → AreCopies (take k es) (take k fs)
same-take [] [] h zero = tt
same-take [] [] h (suc k) = tt
same-take (e ∷ es) (f ∷ fs) h zero = tt
same-take (e ∷ es) (f ∷ fs) h (suc k) = (h.0, same-take es fs h.1 k)
same-take es fs h k = absurd h

same-before : (es fs : List Edit) → AreCopies es fs → (s : NetworkState) → before fs s ≡ before es s
same-before [] [] h s = refl
same-before (e ∷ es) (f ∷ fs) h s = ap (reverted f) (same-before es fs h.1 s) ∙ same-reverted e f h.0 (before es s)
same-before es fs h s = absurd h

same-after : (es fs : List Edit) → AreCopies es fs → (s : NetworkState) → after fs s ≡ after es s
same-after [] [] h s = refl
same-after (e ∷ es) (f ∷ fs) h s = same-after es fs h.1 (applied f s) ∙ ap (after es) (same-applied e f h.0 s)
same-after es fs h s = absurd h

same-states : (es fs : List Edit) → AreCopies es fs → (s : NetworkState) → states_from s fs ≡ states_from s es
same-states [] [] h s = refl
same-states (e ∷ es) (f ∷ fs) h s =
    ap (λ states. s ∷ states) (same-states es fs h.1 (applied f s) ∙ ap (λ t. states_from t es) (same-applied e f h.0 s))
same-states es fs h s = absurd h

-- each copy is of the edit at its place
copied-at : (es fs : List Edit) → AreCopies es fs → (k : ℕ) (f : Edit) → slice_get fs k ≡ Some f
    → (e : Edit) × (slice_get es k ≡ Some e) × IsCopy e f
copied-at [] [] h k f is = absurd (let no : ⊥ = cc is in no)
copied-at (e ∷ es) (g ∷ fs) h zero f is = (e, refl, subst (IsCopy e) (let same : g ≡ f = cc is in same) h.0)
copied-at (e ∷ es) (g ∷ fs) h (suc k) f is = copied-at es fs h.1 k f is
copied-at es fs h k f is = absurd h

module _ (present : NetworkState) (es fs : List Edit) (place bound : ℕ) (copies : AreCopies es fs) where
  same-first : before (take place fs) present ≡ before (take place es) present
  same-first = same-before (take place es) (take place fs) (same-take es fs copies place) present

  -- The copies lead through the same states.
  pub same-timeline : timeline_of present fs place bound ≡ timeline_of present es place bound
  same-timeline =
      let same = same-states es fs copies (before (take place fs) present) ∙ ap (λ s. states_from s es) same-first in
      ap (λ states. record { states = states; place = place; bound = bound }) same

  fit : (are : AreEdits present es place) (k : ℕ) (f : Edit) → slice_get fs k ≡ Some f → Fits f (after (take k fs) are.first)
  fit are k f is =
      let of = copied-at es fs copies k f is in
      let same = same-after (take k es) (take k fs) (same-take es fs copies k) are.first in
      subst (Fits f) (sym same) (fits of.0 f of.2 (after (take k es) are.first) (are.fit k of.0 of.1))

  -- Copies of a history's edits may stand for them.
  pub may-stand : AreWithinBound present es place bound → AreWithinBound present fs place bound
  may-stand kept =
      let are = kept.are in
      let long : length fs ≡ length es = AllZip-long IsCopy es fs copies in
      record {
        are = record {
          within = omega (arith, long, are.within);
          first = are.first;
          state = are.state;
          first_is = same-first ∙ are.first_is;
          fit = fit are;
          present_is = same-after (take place es) (take place fs) (same-take es fs copies place) are.first ∙ are.present_is;
        };
        at_most = omega (arith, long, kept.at_most);
        limit = kept.limit;
      }
