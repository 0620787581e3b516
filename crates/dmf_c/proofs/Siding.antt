-- What an answer that prints the cut tells C of the side.
use Rattle.std.proofs.Common.{ℕ, ◌≡◌, ◌+◌, ◌-◌, ◌<◌, ◌≤◌, inl, inr, List, Bool, true, false, Ok, Err, length, slice_index, nat_eq, refl, sym, ap, ◌∙◌, subst, arith, eq-eqb}
use Rattle.std.specs.Bool.{MatchBool, if◌then◌else◌}
use Rattle.dmf_state.specs.NetworkState.{NetworkState}
use Rattle.dmf_state.specs.Network.{Network}
use Rattle.dmf_state.specs.Cut.{IsInEveryMinimumCut}
use Rattle.dmf_state.specs.Side.{CutSide, IsSmallestSide, has_node}
use Rattle.dmf_history.specs.Timeline.{Timeline, IsPresent}
use Rattle.dmf_history.proofs.Appending.{one-present}
use Rattle.dmf_session.specs.declared.command.Command.TheVariants.{PrintCut}
use Rattle.dmf_session.specs.declared.command.Reply.TheVariants.{Cut}
use Rattle.dmf_session.specs.declared.command.Refusal.{Refusal}
use Rattle.dmf_session.specs.declared.command.Refusal.TheVariants.{NotGreatest, NoMemory}
use Rattle.dmf_session.specs.Step.{Answers, TellsCut}
use Rattle.dmf_c.specs.Codes.{refusal_code, OfPresent}
use Rattle.dmf_c.specs.Arrays.{TellsSide, AnswersSide, MarksSide}
use Rattle.dmf_c.specs.Status.{DMF_OK, DMF_BAD_LENGTH}

-- an array of the length that it should have
fits : (s : NetworkState) (given code : ℕ) → given ≡ s.network.nodes → TellsSide s code → AnswersSide s given code
fits s given code same told = subst (λ (b : Bool). MatchBool b (TellsSide s code) (code ≡ DMF_BAD_LENGTH)) (sym (same_true s.network.nodes given same)) told
  where
    same_true : (n m : ℕ) → m ≡ n → nat_eq m n ≡ true
    same_true n m e = eq-eqb m n e

refused : (s : NetworkState) (refusal : Refusal) → TellsCut s (Err refusal) → TellsSide s (refusal_code refusal)
refused s NotGreatest a = inr (inl (refl, a))
refused s refusal a = absurd a

-- why there is no side
pub of-refusal : (t old u : Timeline) (p : NetworkState) (given code : ℕ) (refusal : Refusal) → t ≡ old → IsPresent t p → given ≡ p.network.nodes
    → code ≡ refusal_code refusal → Answers false t PrintCut (Err refusal) u → OfPresent old (λ s. AnswersSide s given code)
of-refusal t old u p given code NoMemory is present same code_is a =
    record { state = p; present = subst (λ (v : Timeline). IsPresent v p) is present; so = fits p given code same (inr (inr code_is)) }
of-refusal t old u p given code refusal is present same code_is a =
    let told : TellsCut p (Err refusal) = subst (λ (s : NetworkState). TellsCut s (Err refusal)) (one-present t a.0.0 p a.0.1 present) a.0.2 in
    let so : TellsSide p code = subst (TellsSide p) (sym code_is) (refused p refusal told) in
    record { state = p; present = subst (λ (v : Timeline). IsPresent v p) is present; so = fits p given code same so }

mark-is : (ids marks : List ℕ) (v : ℕ) (b : Bool) → 1 ≤ v → v ≤ length marks → has_node ids v ≡ b
    → ((k : ℕ) → k < length marks → slice_index marks k ≡ (if has_node ids (k + 1) then 1 else 0)) → slice_index marks (v - 1) ≡ (if b then 1 else 0)
mark-is ids marks v b from to has each =
    let same : v - 1 + 1 ≡ v = omega arith in
    each (v - 1) (omega arith) ∙ ap (λ (n : ℕ). if has_node ids n then 1 else 0) same ∙ ap (λ (x : Bool). if x then 1 else 0) has

pub marks-network : (n : Network) (side : CutSide) (marks : List ℕ) → IsSmallestSide n side → length marks ≡ n.nodes
    → ((k : ℕ) → k < length marks → slice_index marks k ≡ (if has_node side.ids (k + 1) then 1 else 0)) → MarksSide n marks
marks-network n side marks least size each =
    record {
      size = size;
      inside = λ v node every.
          let to : v ≤ length marks = omega (arith, node.to_last) in
          mark-is side.ids marks v true node.from_one to ((least.in_every v).1 (node, every)) each;
      outside = λ v node none.
          let to : v ≤ length marks = omega (arith, node.to_last) in
          mark-is side.ids marks v false node.from_one to (not-in v (has_node side.ids v) refl none) each;
    }
  where
    not-in : (v : ℕ) (b : Bool) → has_node side.ids v ≡ b → ¬ IsInEveryMinimumCut n v → has_node side.ids v ≡ false
    not-in v true has none = absurd (none ((least.in_every v).0 has).1)
    not-in v false has none = has

-- the marks of the side of the present state
pub of-marks : (t old u : Timeline) (p : NetworkState) (side : CutSide) (marks : List ℕ) (code : ℕ) → t ≡ old → IsPresent t p
    → length marks ≡ p.network.nodes → Answers false t PrintCut (Ok (Cut side)) u
    → ((k : ℕ) → k < length marks → slice_index marks k ≡ (if has_node side.ids (k + 1) then 1 else 0))
    → OfPresent old (λ s. code ≡ DMF_OK → MarksSide s.network marks)
of-marks t old u p side marks code is present size a each =
    let least : IsSmallestSide p.network side = subst (λ (s : NetworkState). IsSmallestSide s.network side) (one-present t a.0.0 p a.0.1 present) a.0.2.1 in
    record {
      state = p;
      present = subst (λ (v : Timeline). IsPresent v p) is present;
      so = λ ok. marks-network p.network side marks least size each;
    }
