-- What C gets of the arcs, nodes and pairs of arcs that cost most to lose.
-- Public: a public contract says no more than this.
use Rattle.std.specs.Prelude.{ℕ, ◌≡◌, ◌==◌, ◌&&◌, if◌then◌else◌, Bool, true, not, List, length, map, replicate, MatchBool}
use Rattle.dmf_state.specs.Network.{Network}
use Rattle.dmf_state.specs.NetworkState.{NetworkState}
use Rattle.dmf_vital.specs.declared.worst.NumberedLoss.{NumberedLoss}
use Rattle.dmf_vital.specs.Worst.{AreWorst}
use Rattle.dmf_c.specs.Arrays.{BeginsWith}
use Rattle.dmf_c.specs.Losses.{TellsLosses}
use Rattle.dmf_c.specs.Ranges.{is_column}
use Rattle.dmf_c.specs.Status.{DMF_BAD_LENGTH}

-- what is read past the end of a list of losses
abbrev pub no_loss : NumberedLoss
no_loss = record { number = 0; second = 0; loss = 0 }

-- The arrays begin with the numbers of the worst of these losses and with the losses, as many as there is room for, and `found` is how many
-- those are.
pub record HasWorst (IsSuch : NumberedLoss → Type 0) (numbers_before numbers_after losses_before losses_after : List ℕ) (found : ℕ) : Type 0 where
  pub worst : List NumberedLoss
  pub are : AreWorst IsSuch (length losses_before) worst
  pub numbers : BeginsWith (λ w. w.number) no_loss worst numbers_before numbers_after
  pub losses : BeginsWith (λ w. w.loss) no_loss worst losses_before losses_after
  pub count : found ≡ length worst

-- The same of pairs of arcs, whose numbers are in two arrays.
pub record HasWorstPairs (IsSuch : NumberedLoss → Type 0) (firsts_before firsts_after seconds_before seconds_after losses_before losses_after : List ℕ) (found : ℕ) : Type 0 where
  pub worst : List NumberedLoss
  pub are : AreWorst IsSuch (length losses_before) worst
  pub firsts : BeginsWith (λ w. w.number) no_loss worst firsts_before firsts_after
  pub seconds : BeginsWith (λ w. w.second) no_loss worst seconds_before seconds_after
  pub losses : BeginsWith (λ w. w.loss) no_loss worst losses_before losses_after
  pub count : found ≡ length worst

-- Which arcs are chosen, in order: those with a mark other than 0, or all if there are no marks.
abbrev pub chosen : Network → List ℕ → List Bool
chosen n marks = if length marks == 0 then replicate (length n.arcs) true else map (λ mark. not (mark == 0)) marks

-- The answer to a caller that asks for the worst arcs with so many marks and arrays of these lengths: that the lengths differ, that there is
-- neither a mark for each arc nor none at all, or that of a call for losses.
abbrev pub AnswersWorstArcs : NetworkState → ℕ → ℕ → ℕ → ℕ → Type 0
AnswersWorstArcs s marks arcs losses code =
    MatchBool (arcs == losses && is_column (length s.network.arcs) marks) (TellsLosses s code) (code ≡ DMF_BAD_LENGTH)

-- The same of the worst pairs.
abbrev pub AnswersWorstPairs : NetworkState → ℕ → ℕ → ℕ → ℕ → ℕ → Type 0
AnswersWorstPairs s marks firsts seconds losses code =
    MatchBool (firsts == losses && seconds == losses && is_column (length s.network.arcs) marks) (TellsLosses s code) (code ≡ DMF_BAD_LENGTH)
