-- What a command makes of a timeline, and its answer.
-- Public: a public contract says no more than this.
use Rattle.std.specs.Prelude.{ℕ, ◌≡◌, ◌+◌, ◌<◌, ◌≤◌, length, nat_abs, nat_le, Bool, Option, None, Result, Ok, Err, MatchOption, MatchBool}
use Rattle.dmf_solver.specs.declared.fault.PlanFault.{PlanFault}
use Rattle.dmf_solver.specs.declared.fault.PlanFault.TheVariants as plan
use Rattle.dmf_solver.specs.declared.fault.CutFault.{CutFault}
use Rattle.dmf_solver.specs.declared.fault.CutFault.TheVariants as cut
use Rattle.dmf_solver.specs.Planning.{IsSideWanted}
use Rattle.dmf_state.specs.Flow.{flow_value}
use Rattle.dmf_state.specs.NetworkState.{NetworkState}
use Rattle.dmf_solver.specs.Greatest.{IsGreatest, IsSurpassed}
use Rattle.dmf_state.specs.Side.{CutSide, IsSmallestSide}
use Rattle.dmf_solver.specs.Change.{Change, change_fault, Becomes}
use Rattle.dmf_solver.specs.Change as change
use Rattle.dmf_session.specs.declared.command.Command.{Command}
use Rattle.dmf_session.specs.declared.command.Command.TheVariants.{Cap, Add, Close, Shut, Solve, Undo, Redo, PrintProblem, PrintFlow, PrintCut}
use Rattle.dmf_session.specs.declared.command.Reply.{Reply}
use Rattle.dmf_session.specs.declared.command.Reply.TheVariants.{Value, Added, Solution, Problem, Flow, Cut}
use Rattle.dmf_session.specs.declared.command.Refusal.{Refusal}
use Rattle.dmf_session.specs.declared.command.Refusal.TheVariants.{NoSuchArc, Closed, NoSuchNode, TooManyArcs, SumTooLarge, NothingToUndo, NothingToRedo}
use Rattle.dmf_session.specs.declared.command.Refusal.TheVariants.{NotGreatest, NoMemory}
use Rattle.dmf_history.specs.Timeline.{Timeline, IsPresent, future_of, appended, back, forward, AddsArcs}

-- the value of a state's flow, which is not negative
abbrev pub value_of : NetworkState → ℕ
value_of s = nat_abs (flow_value s.network s.flows)

-- the refusal of the command for this fault of its plan
abbrev pub refusal_of : PlanFault → Refusal
refusal_of plan.NoSuchArc = NoSuchArc
refusal_of plan.Closed = Closed
refusal_of plan.NoSuchNode = NoSuchNode
refusal_of plan.TooManyArcs = TooManyArcs
refusal_of plan.SumTooLarge = SumTooLarge
refusal_of plan.NoMemory = NoMemory

-- the refusal of the command for this fault of a side
abbrev pub refusal_of_cut : CutFault → Refusal
refusal_of_cut cut.NotGreatest = NotGreatest
refusal_of_cut cut.NoMemory = NoMemory

-- The command is refused, and nothing has changed.
pub record IsRefused (t : Timeline) (refusal : Refusal) (result : Result Reply Refusal) (u : Timeline) : Type 0 where
  pub told : result ≡ Err refusal
  pub unchanged : u ≡ t

-- An accepted change: the state that it makes is appended, and the reply is about that state.
pub record IsChanged (t : Timeline) (s : NetworkState) (change : Change) (reply : NetworkState → Reply) (result : Result Reply Refusal)
    (u : Timeline) : Type 0 where
  pub new : NetworkState
  pub becomes : Becomes s change new
  pub told : result ≡ Ok (reply new)
  pub appends : u ≡ appended t new

-- A change of the state `s`: it is refused for its first fault, or made.
abbrev pub Changes : Timeline → NetworkState → Change → (NetworkState → Reply) → Result Reply Refusal → Timeline → Type 0
Changes t s change reply result u =
    MatchOption (change_fault s change) (IsChanged t s change reply result u)
    (λ fault. IsRefused t (refusal_of fault) result u)

-- The place moves, and the reply is the value of the state there.
pub record IsMoved (moved : Timeline) (result : Result Reply Refusal) (u : Timeline) : Type 0 where
  pub state : NetworkState
  pub present : IsPresent moved state
  pub told : result ≡ Ok (Value (value_of state))
  pub moves : u ≡ moved

-- Solving, which is never refused: the state that it makes is appended. The reply has the smallest side of its network, if that is
-- wanted.
pub record IsSolved (want_cut : Bool) (t : Timeline) (s : NetworkState) (result : Result Reply Refusal) (u : Timeline) : Type 0 where
  pub new : NetworkState
  pub becomes : Becomes s change.Solve new
  pub side : Option CutSide
  pub side_is : IsSideWanted want_cut new.network side
  pub told : result ≡ Ok (Solution side)
  pub appends : u ≡ appended t new

-- The reply is the smallest side of the state's network, if no flow has a larger value than the state's flow. If some flow has, the
-- command is refused for that.
abbrev pub TellsCut : NetworkState → Result Reply Refusal → Type 0
TellsCut s (Ok (Cut side)) = IsGreatest s.network s.flows × IsSmallestSide s.network side
TellsCut s (Err NotGreatest) = IsSurpassed s.network s.flows
TellsCut s result = ⊥

-- the replies to an accepted change: the value of the state that it makes, and for an added arc its number too
abbrev pub valued : NetworkState → Reply
valued s = Value (value_of s)

abbrev pub added : NetworkState → Reply
added s = Added (length s.network.arcs) (value_of s)

-- What a command does. A change has a reply to the state that it makes; so many steps lead back or forward; and what only tells
-- something has a fixed reply, or tells a cut.
pub data Kind : Type 0 where
  Changing : Change → (NetworkState → Reply) → Kind
  Solving : Kind
  GoingBack : ℕ → Kind
  GoingOn : ℕ → Kind
  Telling : Reply → Kind
  TellingCut : Kind

-- what each command does
abbrev pub kind_of : Command → Kind
kind_of (Cap arc cap) = Changing (change.Cap arc cap) valued
kind_of (Add tail head cap) = Changing (change.Add tail head cap) added
kind_of (Close arc) = Changing (change.Close arc) valued
kind_of (Shut node) = Changing (change.Shut node) valued
kind_of Solve = Solving
kind_of (Undo steps) = GoingBack steps
kind_of (Redo steps) = GoingOn steps
kind_of PrintProblem = Telling Problem
kind_of PrintFlow = Telling Flow
kind_of PrintCut = TellingCut

-- A command of this kind, given to the timeline `t`, has this result and leaves the timeline `u`, if no memory is refused. `want_cut`
-- says whether a cut is wanted beside a solution.
abbrev pub StepsAs : Bool → Timeline → Kind → Result Reply Refusal → Timeline → Type 0
StepsAs want_cut t (Changing change reply) result u = (s : NetworkState) × IsPresent t s × Changes t s change reply result u
StepsAs want_cut t Solving result u = (s : NetworkState) × IsPresent t s × IsSolved want_cut t s result u
StepsAs want_cut t (GoingBack steps) result u =
    MatchBool (nat_le steps t.place) (IsMoved (back t steps) result u) (IsRefused t NothingToUndo result u)
StepsAs want_cut t (GoingOn steps) result u =
    MatchBool (nat_le steps (future_of t)) (IsMoved (forward t steps) result u) (IsRefused t NothingToRedo result u)
StepsAs want_cut t (Telling reply) result u = (result ≡ Ok reply) × (u ≡ t)
StepsAs want_cut t TellingCut result u = ((s : NetworkState) × IsPresent t s × TellsCut s result) × (u ≡ t)

-- The command, given to the timeline `t`, has this result and leaves the timeline `u`, if no memory is refused.
abbrev pub Steps : Bool → Timeline → Command → Result Reply Refusal → Timeline → Type 0
Steps want_cut t command result u = StepsAs want_cut t (kind_of command) result u

-- The present state does not refuse the change.
abbrev pub IsAccepted : Timeline → Change → Type 0
IsAccepted t change = (s : NetworkState) × IsPresent t s × (change_fault s change ≡ None)

-- A command of this kind may be refused memory: a change that is accepted, a solve, steps forward of which one adds arcs, and one
-- that tells a cut.
abbrev pub MayWant : Timeline → Kind → Type 0
MayWant t (Changing change reply) = IsAccepted t change
MayWant t Solving = Unit {0}
MayWant t (GoingBack steps) = ⊥
MayWant t (GoingOn steps) = (steps ≤ future_of t) × (i : ℕ) × (i < steps) × AddsArcs t (t.place + i)
MayWant t (Telling reply) = ⊥
MayWant t TellingCut = Unit {0}

-- The command may be refused memory.
abbrev pub MayWantMemory : Timeline → Command → Type 0
MayWantMemory t command = MayWant t (kind_of command)

-- As `Steps` where memory may be refused: then a command that needs some may be refused it, and nothing has changed.
abbrev pub Answers : Bool → Timeline → Command → Result Reply Refusal → Timeline → Type 0
Answers want_cut t command (Err NoMemory) u = MayWantMemory t command × (u ≡ t)
Answers want_cut t command result u = Steps want_cut t command result u

-- A command of this kind adds a state if it is accepted.
abbrev pub Adds : Kind → Type 0
Adds (Changing change reply) = Unit {0}
Adds Solving = Unit {0}
Adds kind = ⊥

-- the command is a change, so it adds a state if it is accepted
abbrev pub IsChange : Command → Type 0
IsChange command = Adds (kind_of command)

-- The reply is one that an accepted command of this kind may have.
abbrev pub IsReplyOf : Kind → Reply → Type 0
IsReplyOf (Changing change reply_to) reply = (s : NetworkState) × (reply ≡ reply_to s)
IsReplyOf Solving reply = (side : Option CutSide) × (reply ≡ Solution side)
IsReplyOf (GoingBack steps) reply = (s : NetworkState) × (reply ≡ valued s)
IsReplyOf (GoingOn steps) reply = (s : NetworkState) × (reply ≡ valued s)
IsReplyOf (Telling told) reply = reply ≡ told
IsReplyOf TellingCut reply = (side : CutSide) × (reply ≡ Cut side)

-- The reply is one that the command may have if it is accepted.
abbrev pub IsReplyTo : Command → Reply → Type 0
IsReplyTo command reply = IsReplyOf (kind_of command) reply
