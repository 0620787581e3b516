-- Pairs without room whose links are to become spare: each node gets two, and one node more.
-- Private: only contracts inside the crate and proofs use this.
use Rattle.std.specs.Prelude.{ℕ, ◌+◌, ◌-◌, nat_lt, if◌then◌else◌, List, Option, Some, map}
use Rattle.std.specs.List.{range_with_len}
use Rattle.dmf_links.specs.declared.pair.Pair.{Pair}

-- the node after this one, or after the last one the first
abbrev pub node_after : ℕ → ℕ → ℕ
node_after nodes v = if nat_lt nodes (v + 1) then v + 1 - nodes else v + 1

-- Pair number `k` of them: between a node and the next one for each node, and then between the node `hub` and others.
abbrev pub spare_pair : ℕ → ℕ → ℕ → Pair
spare_pair nodes hub k =
    if nat_lt k nodes then record { tail = k + 1; head = node_after nodes (k + 1); along = 0; against = 0 }
    else record { tail = hub; head = node_after nodes (hub + (k - nodes)); along = 0; against = 0 }

-- all of them
abbrev pub spare_pairs : ℕ → ℕ → ℕ → List (Option Pair)
spare_pairs nodes hub more = map (λ k. Some (spare_pair nodes hub k)) (range_with_len 0 (nodes + more))
