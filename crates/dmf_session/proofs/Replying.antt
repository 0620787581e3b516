-- The reply to an accepted command is one that its kind may have.
use Rattle.std.proofs.Common.{◌≡◌, Bool, true, false, Option, Some, None, Ok, nat_le, refl}
use Rattle.std.specs.Bool.{MatchBool}
use Rattle.std.specs.Option.{MatchOption}
use Rattle.dmf_state.specs.NetworkState.{NetworkState}
use Rattle.dmf_solver.specs.declared.fault.PlanFault.{PlanFault}
use Rattle.dmf_solver.specs.Change.{Change, change_fault}
use Rattle.dmf_session.specs.declared.command.Command.{Command}
use Rattle.dmf_session.specs.declared.command.Reply.{Reply}
use Rattle.dmf_session.specs.declared.command.Reply.TheVariants.{Cut}
use Rattle.dmf_session.specs.declared.command.Refusal.{Refusal}
use Rattle.dmf_session.specs.declared.command.Refusal.TheVariants.{NothingToUndo, NothingToRedo}
use Rattle.dmf_session.specs.Step.{Kind, Changing, Solving, GoingBack, GoingOn, Telling, TellingCut, kind_of, StepsAs, Answers, IsReplyOf, IsReplyTo}
use Rattle.dmf_session.specs.Step.{IsChanged, IsRefused, IsMoved, TellsCut, refusal_of, valued}
use Rattle.dmf_history.specs.Timeline.{Timeline, future_of, back, forward}

-- a change of the state
changed-reply : (t u : Timeline) (s : NetworkState) (asked : Change) (told : NetworkState → Reply) (reply : Reply) (fault : Option PlanFault)
    → MatchOption fault (IsChanged t s asked told (Ok reply) u) (λ f. IsRefused t (refusal_of f) (Ok reply) u) → (s : NetworkState) × (reply ≡ told s)
changed-reply t u s asked told reply None m = (m.new, cc m.told)
changed-reply t u s asked told reply (Some f) m = absurd (let no : ⊥ = cc m.told in no)

-- a step back or forward
moved-reply : (t there u : Timeline) (refusal : Refusal) (reply : Reply) (may : Bool)
    → MatchBool may (IsMoved there (Ok reply) u) (IsRefused t refusal (Ok reply) u) → (s : NetworkState) × (reply ≡ valued s)
moved-reply t there u refusal reply true m = (m.state, cc m.told)
moved-reply t there u refusal reply false m = absurd (let no : ⊥ = cc m.told in no)

cut-reply : (s : NetworkState) (reply : Reply) → TellsCut s (Ok reply) → IsReplyOf TellingCut reply
cut-reply s (Cut side) told = (side, refl)
cut-reply s reply told = absurd told

kind-reply : (want_cut : Bool) (t : Timeline) (kind : Kind) (reply : Reply) (u : Timeline) → StepsAs want_cut t kind (Ok reply) u → IsReplyOf kind reply
kind-reply want_cut t (Changing asked told) reply u a = changed-reply t u a.0 asked told reply (change_fault a.0 asked) a.2
kind-reply want_cut t Solving reply u a = (a.2.side, cc a.2.told)
kind-reply want_cut t (GoingBack steps) reply u a = moved-reply t (back t steps) u NothingToUndo reply (nat_le steps t.place) a
kind-reply want_cut t (GoingOn steps) reply u a = moved-reply t (forward t steps) u NothingToRedo reply (nat_le steps (future_of t)) a
kind-reply want_cut t (Telling told) reply u a = cc a.0
kind-reply want_cut t TellingCut reply u a = cut-reply a.0.0 reply a.0.2

-- The reply is one to the command.
pub answers-reply : (want_cut : Bool) (t : Timeline) (command : Command) (reply : Reply) (u : Timeline) → Answers want_cut t command (Ok reply) u
    → IsReplyTo command reply
answers-reply want_cut t command reply u a = kind-reply want_cut t (kind_of command) reply u a
