-- Which field of a line a fault is about.
-- Public: a public contract says no more than this.
use Rattle.std.specs.Prelude.{ℕ, ◌≡◌, ◌-◌, ◌≤◌, List, Some, Err, slice_get}
use Rattle.dmf_text.specs.declared.digits.NumberFault.{NumberFault}
use Rattle.dmf_text.specs.Fields.{fields}
use Rattle.dmf_text.specs.Number.{number_of}
use Rattle.dmf_explain.specs.declared.fields.FieldRange.{FieldRange}

-- This is the field of the line at this place, counted from 1.
pub record IsFieldAt (line : List ℕ) (place : ℕ) (field : List ℕ) : Type 0 where
  pub from_one : 1 ≤ place
  pub is : slice_get (fields line) (place - 1) ≡ Some field

-- At this place, which is one of these places, the line has this field, and the field has the fault.
pub record IsFaulty (line : List ℕ) (places : FieldRange) (fault : NumberFault) (place : ℕ) (field : List ℕ) : Type 0 where
  pub at : IsFieldAt line place field
  pub from : places.first ≤ place
  pub to : place ≤ places.last
  pub fault_is : number_of field ≡ Err fault
