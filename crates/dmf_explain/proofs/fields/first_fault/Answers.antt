use Rattle.std.proofs.Common.{◌≡◌, ◌+◌, ◌-◌, Err, arith, refl, rules, sym, ◌∙◌}
use Rattle.std.specs.Prelude.{IsTrue}
use Rattle.std.proofs.lemmas.Bool.{false≢true}
use Rattle.std.proofs.lemmas.Grind.{common_steps}
use Rattle.dmf_text.specs.Number.{number_of}
use Rattle.dmf_text.specs.Fields.{fields}
use Rattle.dmf_explain.proofs.FieldPlaces.{IsNext, fields-few, next-of, none-next, none-left}
use Rattle.dmf_explain.proofs.fields.first_fault.Goals as goal
use Rattle.dmf_explain.proofs.fields.first_fault.Goals.{After-have, else-have-via-then-have+else-eq, else-have-via-else-have}

-- the next field
next : (c : After-have) → IsNext (fields c.args.line.now) c.loop-field.place c.in-Some.field.now c.next.new.self
next c = next-of (fields c.args.line.now) c.loop-field.place c.in-Some.field.now c.next.new.self (c.loop-field.invariant.left ∙ c.in-Some.ensures.steps)

-- its place
place-is : (c : After-have) → c.saturating_add-place.result ≡ c.loop-field.place + 1
place-is c =
    let within = (next c).within in
    let few = fields-few c.args.line.now in
    omega (arith, c.saturating_add-place.ensures, within, few)

pub returns-then-eq-clause-faulty : goal.returns-then-eq-clause-faulty
returns-then-eq-clause-faulty c =
    let have = (goal.at.returns-then-eq-clause-faulty c).After-have in
    let is = place-is have in
    let fault : number_of c.in-Some.field.now ≡ Err c.args.fault = search rules in
    let within = c.if-have.ensures.0 refl in
    record {
      at = record { from_one = omega (arith, is); is = let index : c.saturating_add-place.result - 1 ≡ c.loop-field.place = omega (arith, is) in rw index (next have).is };
      from = within.0;
      to = within.1;
      fault_is = fault;
    }

pub loop-field-preserved : goal.loop-field-preserved
loop-field-preserved c =
    let have = (goal.at.loop-field-preserved c).After-have in
    let is = place-is have in
    record {
      left = rw is (next have).left;
      none = rw is (none-next c.args.line.now c.args.places c.args.fault c.loop-field.place c.in-Some.field.now (next have).is
          (λ faulty.
          let fault = faulty.fault_is in
          elim c.else-have.branch [
            | else-have-via-then-have+else-eq w ↦ grind (arith, common_steps)
            | else-have-via-else-have w ↦
                let yes : IsTrue c.have.result = c.have.ensures.1 (omega (arith, faulty.from, is), omega (arith, faulty.to, is)) in
                absurd (false≢true (sym w.if-have.false ∙ yes))
          ]) c.loop-field.invariant.none);
    }

pub returns-clause-first : goal.returns-clause-first
returns-clause-first c =
    none-left c.args.line.now c.args.places c.args.fault c.loop-field.place (c.loop-field.invariant.left ∙ c.in-None.ensures.steps.0)
    c.loop-field.invariant.none
