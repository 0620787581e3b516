use Rattle.std.proofs.Common.{◌≡◌, ◌⊎◌, ℕ, ◌+◌, ◌-◌, ◌<◌, ◌≤◌, List, ◌∷◌, ◌++◌, length, map, take, take_all, drop, get_or, arith, ap, ◌∙◌}
use Rattle.std.proofs.Common.{sym, inl, inr, refl, ⊎_elim}
use Rattle.std.proofs.lemmas.List.{drop_all}
use Rattle.std.proofs.lemmas.List.Sums.{sum_by_more}
use Rattle.dmf_text.specs.declared.line_buffer.LineField.{LineField}
use Rattle.dmf_text.specs.LineField.{field_bytes, most_bytes, most_line_bytes}
use Rattle.dmf_text.specs.Written.{written_line}
use Rattle.dmf_text.proofs.WrittenLemmas.{line-none, line-last, line-from}
use Rattle.dmf_text.proofs.line_buffer.line_of.Goals as goal
use Rattle.dmf_text.proofs.line_buffer.line_of.Goals.{then-i-fields, else-i-fields}

-- one more field: `line` stood before, `next` is `line` with or without a space in front, and `new` also has the field in front
one-more : (fields : List LineField) (i n : ℕ) (d : LineField) (line next new : List ℕ) → n ≡ i + 1 → i < length fields
    → line ≡ written_line (map field_bytes (drop n fields)) → length line + most_line_bytes (take n fields) ≤ 80
    → new ≡ field_bytes (get_or fields i d) ++ next → length new ≤ most_bytes (get_or fields i d) + length next
    → ((i + 1 < length fields) × (next ≡ 32 ∷ line)) ⊎ ((length fields ≤ i + 1) × (next ≡ line))
    → (new ≡ written_line (map field_bytes (drop i fields))) × (length new + most_line_bytes (take i fields) ≤ 80)
one-more fields i n d line next new is below stands fits added few side =
    let sum = sum_by_more (λ (f : LineField). most_bytes f + 1) fields i d below in
    let same = ap (λ k. most_line_bytes (take k fields)) is in
    ⊎_elim
    (λ (w : (i + 1 < length fields) × (next ≡ 32 ∷ line)). (
      rw (line-from field_bytes fields i d below w.0, ← is, added, w.1, stands) refl,
      let longer = ap length w.1 in omega (arith, sum, same, fits, few, longer),
    ))
    (λ (w : (length fields ≤ i + 1) × (next ≡ line)). (
      rw (line-last field_bytes fields i d below w.0, added, w.1, stands, is, drop_all (i + 1) fields w.0, line-none) refl,
      let long = ap length w.1 in omega (arith, sum, same, fits, few, long),
    ))
    side

pub loop-i-init : goal.loop-i-init
loop-i-init c =
    let fields = c.args.fields.now in
    let n = length fields in
    let all = ap most_line_bytes (take_all n fields (omega arith)) in
    record {
      text = c.new-line.ensures ∙ sym (ap (λ l. written_line (map field_bytes l)) (drop_all n fields (omega arith)) ∙ line-none);
      fits = (let one = ap length c.new-line.ensures in omega (arith, one, all, c.requires));
    }

pub loop-i-preserved : goal.loop-i-preserved
loop-i-preserved c =
    let fields = c.args.fields.now in
    let n = c.loop-i.i in
    let i = n - 1 in
    let is : n ≡ i + 1 = omega (arith, c.loop-i-test.true) in
    let below : i < length fields = omega (arith, c.loop-i-test.true, c.loop-i.auto.i) in
    let side = elim c.if-i-fields.branch as (λ _. ((i + 1 < length fields) × (c.if-i-fields.line ≡ 32 ∷ c.loop-i.line))
    ⊎ ((length fields ≤ i + 1) × (c.if-i-fields.line ≡ c.loop-i.line))) [
      | then-i-fields w ↦ inl (omega (arith, w.if-i-fields.true), w.line-is ∙ w.add_text.ensures)
      | else-i-fields w ↦ inr (omega (arith, w.if-i-fields.false), w.line-is)
    ] in
    let more = one-more fields i n _ c.loop-i.line c.if-i-fields.line c.add.new.self is below c.loop-i.invariant.text c.loop-i.invariant.fits c.add.ensures.text
    c.add.ensures.len side in
    record { text = more.0; fits = more.1 }
