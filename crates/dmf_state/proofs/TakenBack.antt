-- Reverting moves: the reverting moves fit the flows after the moves, and restore the flows before them.
use Rattle.std.proofs.Common.{ℕ, ◌≡◌, ◌≢◌, ◌-◌, ◌<◌, ◌≤◌, List, [], ◌∷◌, length, get_or, set, map, refl, ap, ◌∙◌, sym, arith, Some}
use Rattle.std.specs.List.{slice_get}
use Rattle.std.proofs.lemmas.List.{set_comm, length-set, length-map, get_or-map}
use Rattle.std.proofs.lemmas.Option.{slice_get-get_or, slice_get_within}
use Rattle.dmf_state.specs.declared.edit.Move.{Move}
use Rattle.dmf_state.specs.declared.moves.Direction.{Direction}
use Rattle.dmf_state.specs.declared.moves.Direction.TheVariants.{Forward, Back}
use Rattle.dmf_state.specs.Edit.{moved, MovesFit}
use Rattle.dmf_state.specs.Revert.{opposite, moved_back}
use Rattle.dmf_state.specs.Direction.{step_along, along}
use Rattle.dmf_state.proofs.Moving.{no_move, IsMoveAt, MovesFit-made, moved-first, unset}

pub length-moved : (moves : List Move) (flows : List ℕ) → length (moved moves flows) ≡ length flows
length-moved [] flows = refl
length-moved (m ∷ moves) flows = length-moved moves (set flows (m.arc - 1) m.to) ∙ length-set flows (m.arc - 1) m.to

-- A write to an arc before those that the moves name may come before or after the moves.
set-moved : (last k y : ℕ) (moves : List Move) (flows : List ℕ) → k < last → MovesFit last moves flows
    → set (moved moves flows) k y ≡ moved moves (set flows k y)
set-moved last k y [] flows h fit = refl
set-moved last k y (m ∷ moves) flows h fit =
    let other : m.arc - 1 ≢ k = λ e. omega (arith, fit.0, h, e) in
    set-moved m.arc k y moves (set flows (m.arc - 1) m.to) (omega (arith, fit.0, h)) (MovesFit-made last m moves flows fit)
    ∙ ap (moved moves) (set_comm flows (m.arc - 1) k m.to y other)

-- Moves that are made and reverted leave the flows as they were.
pub moved_back-moved : (last : ℕ) (moves : List Move) (flows : List ℕ) → MovesFit last moves flows → moved_back moves (moved moves flows) ≡ flows
moved_back-moved last [] flows fit = refl
moved_back-moved last (m ∷ moves) flows fit =
    ap (moved_back moves) (set-moved m.arc (m.arc - 1) m.from moves (set flows (m.arc - 1) m.to) (omega (arith, fit.0)) (MovesFit-made last m moves flows fit))
    ∙ ap (λ xs. moved_back moves (moved moves xs)) (unset flows m fit.1)
    ∙ moved_back-moved m.arc moves flows fit.2

-- The reverting moves fit the flows that the moves make.
pub MovesFit-opposite : (last : ℕ) (moves : List Move) (flows : List ℕ) → MovesFit last moves flows → MovesFit last (map opposite moves) (moved moves flows)
MovesFit-opposite last [] flows fit = tt
MovesFit-opposite last (m ∷ moves) flows fit =
    let after : List ℕ = moved (m ∷ moves) flows in
    let within = slice_get_within flows (m.arc - 1) m.from fit.1 in
    let long : length after ≡ length flows = length-moved (m ∷ moves) flows in
    let read : slice_get after (m.arc - 1) ≡ Some m.to =
    slice_get-get_or after (m.arc - 1) 0 (omega (arith, within, long)) ∙ ap Some (moved-first last m moves flows fit) in
    (fit.0, read, MovesFit-opposite m.arc moves (set flows (m.arc - 1) m.to) (MovesFit-made last m moves flows fit))

-- Walking the list of moves takes as many steps as there are moves,
length-along : (direction : Direction) (moves : List Move) → length (along direction moves) ≡ length moves
length-along Forward moves = refl
length-along Back moves = length-map moves opposite

-- so past the moves there is no step,
pub long-along : (direction : Direction) (moves : List Move) (i : ℕ) → length moves ≤ i → length (along direction moves) ≤ i
long-along direction moves i over = omega (arith, length-along direction moves, over)

-- and each step is the move at its place.
get_or-along : (direction : Direction) (moves : List Move) (i : ℕ) (m : Move) → i < length moves → m ≡ step_along direction (get_or moves i no_move)
    → get_or (along direction moves) i no_move ≡ m
get_or-along Forward moves i m h is = sym is
get_or-along Back moves i m h is = get_or-map opposite moves i no_move no_move h ∙ sym is

-- The step of a move is the one at its place.
pub move-along : (direction : Direction) (moves : List Move) (i : ℕ) (m : Move) → i < length moves → m ≡ step_along direction (get_or moves i no_move)
    → IsMoveAt (along direction moves) i m
move-along direction moves i m h is = record { within = omega (arith, length-along direction moves, h); is = get_or-along direction moves i m h is }
