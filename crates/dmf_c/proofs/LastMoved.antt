-- The moves of the last edit are the flows that differ between the state before the present one and the present one.
use Rattle.std.proofs.Common.{ℕ, ◌≡◌, ◌+◌, ◌-◌, ◌==◌, if◌then◌else◌, List, [], ◌∷◌, ◌++◌, length, set, Some, ⊎_elim}
use Rattle.std.proofs.Common.{refl, ap, ◌∙◌, sym, subst, arith, append_assoc, length-append, eq-eqb}
use Rattle.std.specs.List.{slice_get}
use Rattle.std.proofs.lemmas.Bool.{cases_lt}
use Rattle.std.proofs.lemmas.Option.{slice_get_within}
use Rattle.std.proofs.Math.Seq.{set-append_seam}
use Rattle.dmf_state.specs.declared.edit.Edit.{Edit}
use Rattle.dmf_state.specs.declared.edit.Edit.TheVariants.{Cap, Add, Close, Shut, Solve}
use Rattle.dmf_state.specs.declared.edit.Move.{Move}
use Rattle.dmf_state.specs.Edit.{moved, applied, moves_of, MovesFit, differences}
use Rattle.dmf_state.specs.Laws.{GivesBack}
use Rattle.dmf_state.specs.NetworkState.{NetworkState}
use Rattle.dmf_state.specs.Revert.{reverted}
use Rattle.dmf_state.proofs.IdleArc.{differences-push}
use Rattle.dmf_state.proofs.Moving.{MovesFit-made}
use Rattle.dmf_history.specs.Timeline.{Timeline, LeadsBack}
use Rattle.dmf_c.specs.Differing.{differing}
use Rattle.dmf_c.specs.Moved.{OfLastStep}

differences-same : (j : ℕ) (flows : List ℕ) → differences j flows flows ≡ []
differences-same j [] = refl
differences-same j (x ∷ flows) = rw (eq-eqb x x refl) (differences-same (j + 1) flows)

read-middle : (done : List ℕ) (x : ℕ) (xs : List ℕ) → slice_get (done ++ x ∷ xs) (length done) ≡ Some x
read-middle [] x xs = refl
read-middle (d ∷ done) x xs = read-middle done x xs

moved-to : {last next : ℕ} {flows others : List ℕ} → last ≡ next → flows ≡ others → (moves : List Move) → MovesFit last moves flows → MovesFit next moves others
moved-to {last} {next} {flows} {others} same_last same moves fit = subst (λ n. MovesFit n moves others) same_last (subst (λ xs. MovesFit last moves xs) same fit)

-- The moves leave the first flows, and what differs in the others are the moves that change a flow.
record AreDiffering (done xs : List ℕ) (moves : List Move) : Type 0 where
  ys : List ℕ
  makes : moved moves (done ++ xs) ≡ done ++ ys
  differ : differences (length done + 1) xs ys ≡ differing moves

-- the first flow is that of the first move
one-differs : (j x : ℕ) (m : Move) (rest moves : List Move) → j ≡ m.arc → x ≡ m.from → rest ≡ differing moves
    → (if x == m.to then rest else record { arc = j; from = x; to = m.to } ∷ rest) ≡ differing (m ∷ moves)
one-differs j x m rest moves same_arc same_from same =
    λ i. if same_from i == m.to then same i else record { arc = same_arc i; from = same_from i; to = m.to } ∷ same i

are-differing : (done xs : List ℕ) (moves : List Move) → MovesFit (length done) moves (done ++ xs) → AreDiffering done xs moves
are-differing done [] [] fit = record { ys = []; makes = refl; differ = refl }
are-differing done [] (m ∷ moves) fit =
    let within = slice_get_within (done ++ []) (m.arc - 1) m.from fit.1 in
    absurd (omega (arith, fit.0, within, length-append done []))
are-differing done (x ∷ xs) [] fit = record { ys = x ∷ xs; makes = refl; differ = differences-same (length done + 1) (x ∷ xs) }
are-differing done (x ∷ xs) (m ∷ moves) fit = ⊎_elim
    (λ past.
    let one : length (done ++ x ∷ []) ≡ length done + 1 = length-append done (x ∷ []) in
    let joined : (done ++ x ∷ []) ++ xs ≡ done ++ x ∷ xs = append_assoc done (x ∷ []) xs in
    let past_fit : MovesFit (length done + 1) (m ∷ moves) (done ++ x ∷ xs) = (past, fit.1, fit.2) in
    let rest = are-differing (done ++ x ∷ []) xs (m ∷ moves) (moved-to (sym one) (sym joined) (m ∷ moves) past_fit) in
    record {
      ys = x ∷ rest.ys;
      makes = ap (moved (m ∷ moves)) (sym joined) ∙ rest.makes ∙ append_assoc done (x ∷ []) rest.ys;
      differ = rw (eq-eqb x x refl) (ap (λ n. differences (n + 1) xs rest.ys) (sym one) ∙ rest.differ);
    })
    (λ here.
    let arc : m.arc ≡ length done + 1 = omega (arith, fit.0, here) in
    let place : m.arc - 1 ≡ length done = omega (arith, arc) in
    let read : Some x ≡ Some m.from = sym (read-middle done x xs) ∙ ap (slice_get (done ++ x ∷ xs)) (sym place) ∙ fit.1 in
    let from : x ≡ m.from = cc read in
    let made : set (done ++ x ∷ xs) (m.arc - 1) m.to ≡ done ++ m.to ∷ xs =
    ap (λ k. set (done ++ x ∷ xs) k m.to) place ∙ set-append_seam done x xs m.to in
    let one : length (done ++ m.to ∷ []) ≡ m.arc = length-append done (m.to ∷ []) ∙ sym arc in
    let joined : (done ++ m.to ∷ []) ++ xs ≡ done ++ m.to ∷ xs = append_assoc done (m.to ∷ []) xs in
    let rest = are-differing (done ++ m.to ∷ []) xs moves
    (moved-to (sym one) (made ∙ sym joined) moves (MovesFit-made (length done) m moves (done ++ x ∷ xs) fit)) in
    record {
      ys = m.to ∷ rest.ys;
      makes = ap (moved moves) (made ∙ sym joined) ∙ rest.makes ∙ append_assoc done (m.to ∷ []) rest.ys;
      differ = one-differs (length done + 1) x m (differences (length done + 1 + 1) xs rest.ys) moves (sym arc) from
          (ap (λ n. differences (n + 1) xs rest.ys) (sym arc ∙ sym one) ∙ rest.differ);
    })
    (cases_lt (length done + 1) m.arc)

moves-differ : (flows : List ℕ) (moves : List Move) → MovesFit 0 moves flows → differences 1 flows (moved moves flows) ≡ differing moves
moves-differ flows moves fit =
    let all = are-differing [] flows moves fit in
    ap (differences 1 flows) all.makes ∙ all.differ

edit-differs : (edit : Edit) (s : NetworkState) → MovesFit 0 (moves_of edit) s.flows
    → differences 1 s.flows (applied edit s).flows ≡ differing (moves_of edit)
edit-differs (Cap j old new moves) s fit = moves-differ s.flows moves.items fit
edit-differs (Add tail head room) s fit = differences-push 1 s.flows 0
edit-differs (Close j old moves) s fit = moves-differ s.flows moves.items fit
edit-differs (Shut arcs moves) s fit = moves-differ s.flows moves.items fit
edit-differs (Solve moves) s fit = moves-differ s.flows moves.items fit

-- So the last edit's moves are what the last step moved.
pub last-moved : GivesBack → (t : Timeline) (edit : Edit) (P : List Move → Type 0) → LeadsBack edit t → P (differing (moves_of edit)) → OfLastStep t P
last-moved law t edit P leads so =
    let s = leads.stands.before in
    let before : reverted edit leads.state ≡ s = ap (reverted edit) (sym leads.stands.gives) ∙ law edit s leads.stands.fits in
    let same : differences 1 (reverted edit leads.state).flows leads.state.flows ≡ differing (moves_of edit) =
    (λ i. differences 1 (before i).flows (sym leads.stands.gives i).flows) ∙ edit-differs edit s leads.stands.fits.moves in
    record {
      before = reverted edit leads.state;
      after = leads.state;
      steps = leads.steps;
      before_is = leads.before;
      after_is = leads.present;
      so = subst P (sym same) so;
    }
