-- The room that a link has left, modulo 2^64.
use Rattle.std.proofs.Common.{ℕ, ◌≡◌, ◌+◌, ◌-◌, ◌%◌, ◌^◌, ◌<◌, ◌≤◌, arith}
use Rattle.dmf_path.specs.Held.{room_left}

-- for a link that has just entered
pub room_left-now : (sent room : ℕ) → sent < 2 ^ 64 → room < 2 ^ 64 → room_left sent ((sent + room) % 2 ^ 64) ≡ room
room_left-now sent room a b = omega arith

-- after more is sent
pub room_left-sent : (sent amount full_at : ℕ) → sent < 2 ^ 64 → full_at < 2 ^ 64 → amount ≤ room_left sent full_at
    → room_left ((sent + amount) % 2 ^ 64) full_at ≡ room_left sent full_at - amount
room_left-sent sent amount full_at a b enough = omega arith

-- A link is full once its whole room is sent.
pub room_left-full : (sent full_at : ℕ) → sent < 2 ^ 64 → full_at < 2 ^ 64 → room_left sent full_at ≡ 0 → full_at ≡ sent
room_left-full sent full_at a b none = omega arith
