use Rattle.std.proofs.Common.{◌≡◌, ◌≤◌, ◌+◌, length, map, take, drop}
use Rattle.dmf_text.specs.LineField.{field_bytes, most_line_bytes}
use Rattle.dmf_text.specs.Written.{written_line}
use Rattle.dmf_text.proofs.line_buffer.line_of.Given as goal

-- the line of the fields from this one on is made, and the fields before it fit in front
abbrev pub invariant-loop-i : goal.invariant-loop-i
invariant-loop-i l = record {
  text : l.line ≡ written_line (map field_bytes (drop l.i l.fields));
  fits : length l.line + most_line_bytes (take l.i l.fields) ≤ 80;
}
