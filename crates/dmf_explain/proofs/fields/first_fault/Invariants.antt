use Rattle.std.proofs.Common.{ℕ, ◌≡◌, ◌≤◌, List, drop}
use Rattle.dmf_text.specs.Fields.{fields}
use Rattle.dmf_explain.specs.Fields.{IsFaulty}
use Rattle.dmf_explain.proofs.fields.first_fault.Given as goal

-- The fields so far have no such fault.
abbrev pub invariant-loop-field : goal.invariant-loop-field
invariant-loop-field l = record {
  left : drop l.place (fields l.line) ≡ l.field-iterator;
  none : (place : ℕ) (field : List ℕ) → place ≤ l.place → ¬ IsFaulty l.line l.places l.fault place field;
}
