-- A window that leaves out only links whose opposites have no room.
use Rattle.std.proofs.Common.{ℕ, ◌≡◌, ◌≢◌, ◌+◌, ◌<◌, ◌≤◌, inl, inr, false, List, length, get_or, set, ap, ◌∙◌, ◌⊎◌, arith}
use Rattle.std.proofs.lemmas.Bool.{cases_lt}
use Rattle.std.proofs.lemmas.List.{length-set}
use Rattle.dmf_node.specs.Node.{IsNode}
use Rattle.dmf_links.specs.Links.{AreLinks, AreFlags}
use Rattle.dmf_links.proofs.rooms.Flags.{flag-of_room}
use Rattle.dmf_links.proofs.tables.LinkPlaces.{lies-within}
use Rattle.dmf_path.specs.declared.windows.Windows.{Windows}
use Rattle.dmf_path.specs.Residual.{ResidualLinks}
use Rattle.dmf_path.specs.Windows.{AreWindows}
use Rattle.dmf_path.proofs.labels.Spreading.{cases-set}

-- The window of node `v` after it is narrowed.
pub record IsNarrowed (flags : List ℕ) (old new : Windows) (v first behind : ℕ) : Type 0 where
  pub from_is : new.from.items ≡ set old.from.items v first
  pub end_is : new.end.items ≡ set old.end.items v behind
  pub first_is : get_or old.from.items v 0 ≤ first
  pub order : first ≤ behind
  pub behind_is : behind ≤ get_or old.end.items v 0
  pub before : (p : ℕ) → get_or old.from.items v 0 ≤ p → p < first → get_or flags p 0 ≢ 1
  pub after : (p : ℕ) → behind ≤ p → p < get_or old.end.items v 0 → get_or flags p 0 ≢ 1

module _ {r : ResidualLinks} {flags : List ℕ} {old new : Windows} {v first behind : ℕ} (links : AreLinks r.links) (flagged : AreFlags r.links r.rooms flags)
    (node : IsNode r.links.nodes v) (was : AreWindows old r) (is : IsNarrowed flags old new v first behind) where
  from-within : v < length old.from.items
  from-within = omega (arith, node.to_last, was.ranges.from_each)

  end-within : v < length old.end.items
  end-within = omega (arith, node.to_last, was.ranges.end_each)

  -- where the windows begin and end now
  from-new : (u : ℕ) → ((u ≡ v) × (get_or new.from.items u 0 ≡ first)) ⊎ ((u ≢ v) × (get_or new.from.items u 0 ≡ get_or old.from.items u 0))
  from-new u = rw is.from_is (cases-set old.from.items v u first from-within)

  end-new : (u : ℕ) → ((u ≡ v) × (get_or new.end.items u 0 ≡ behind)) ⊎ ((u ≢ v) × (get_or new.end.items u 0 ≡ get_or old.end.items u 0))
  end-new u = rw is.end_is (cases-set old.end.items v u behind end-within)

  at : (xs : List ℕ) (u : ℕ) → u ≡ v → get_or xs u 0 ≡ get_or xs v 0
  at xs u same = ap (λ w. get_or xs w 0) same

  pub narrowed : AreWindows new r
  narrowed = record {
    falls = was.falls;
    ranges = record {
      from_each = rw is.from_is (omega (arith, length-set old.from.items v first, was.ranges.from_each));
      end_each = rw is.end_is (omega (arith, length-set old.end.items v behind, was.ranges.end_each));
      first = λ u node_u. elim (from-new u) [
        | inl here ↦ omega (arith, here.1, was.ranges.first u node_u, is.first_is, at old.from.items u here.0)
        | inr other ↦ omega (arith, other.1, was.ranges.first u node_u)
      ];
      order = λ u node_u. elim (from-new u) [
        | inl here ↦ elim (end-new u) [
          | inl end_here ↦ omega (arith, here.1, end_here.1, is.order)
          | inr end_other ↦ absurd (end_other.0 here.0)
        ]
        | inr other ↦ elim (end-new u) [
          | inl end_here ↦ absurd (other.0 end_here.0)
          | inr end_other ↦ omega (arith, other.1, end_other.1, was.ranges.order u node_u)
        ]
      ];
      last = λ u node_u. elim (end-new u) [
        | inl here ↦ omega (arith, here.1, is.behind_is, was.ranges.last u node_u, at old.end.items u here.0)
        | inr other ↦ omega (arith, other.1, was.ranges.last u node_u)
      ];
    };
    open_links = λ u p node_u lies room.
        let within = was.open_links u p node_u lies room in
        let inside : p < length r.links.heads = lies-within r.links u p links node_u lies in
        let flag : get_or flags p 0 ≡ 1 = flagged.1 p inside ∙ flag-of_room (get_or r.rooms (get_or r.links.partners p 0) 0) room in
        record {
          from = elim (from-new u) [
            | inl here ↦ elim (cases_lt p first) [
              | inl early ↦ absurd (is.before p (omega (arith, within.from, at old.from.items u here.0)) early flag)
              | inr late ↦ omega (arith, here.1, late)
            ]
            | inr other ↦ omega (arith, other.1, within.from)
          ];
          below = elim (end-new u) [
            | inl here ↦ elim (cases_lt p behind) [
              | inl early ↦ omega (arith, here.1, early)
              | inr late ↦ absurd (is.after p late (omega (arith, within.below, at old.end.items u here.0)) flag)
            ]
            | inr other ↦ omega (arith, other.1, within.below)
          ];
        };
  }
