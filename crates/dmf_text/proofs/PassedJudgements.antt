-- What follows from a judgement without a fault.
use Rattle.std.proofs.Common.{◌≡◌, ℕ, Bool, true, false, Result, Ok, Err, refl, ap}
use Rattle.dmf_text.specs.Judging.{◌>>=◌, ◌>>◌, expect, at_line}

-- the test held, and what comes after it has no fault
pub passed : {A Kind : Type 0} (test : Bool) (kind : Kind) (next : Result A Kind) (x : A) → (expect test kind >> next) ≡ Ok x → (test ≡ true) × (next ≡ Ok x)
passed true kind next x good = (refl, good)
passed false kind next x good = absurd (let no : ⊥ = cc in no)

-- Where a test is passed, it is true.
pub held : {Kind : Type 0} (test : Bool) (kind : Kind) → expect test kind ≡ Ok tt → test ≡ true
held true kind good = refl
held false kind good = absurd (let no : ⊥ = cc in no)

-- there was a value, and what comes after it has no fault
pub record IsPassed {A B Kind : Type 0} (first : Result A Kind) (next : A → Result B Kind) (x : B) : Type 0 where
  pub value : A
  pub is : first ≡ Ok value
  pub rest : next value ≡ Ok x

-- Where what follows is passed, the first gave a value.
pub passed-value : {A B Kind : Type 0} (first : Result A Kind) (next : A → Result B Kind) (x : B) → (first >>= next) ≡ Ok x → IsPassed first next x
passed-value (Ok value) next x good = record { value = value; is = refl; rest = good }
passed-value (Err kind) next x good = absurd (let no : ⊥ = cc in no)

-- A judgement that is passed at a line is passed.
pub at-line : {A Kind Fault : Type 0} (fault : ℕ → Kind → Fault) (n : ℕ) (judgement : Result A Kind) (x : A) → at_line fault n judgement ≡ Ok x
    → judgement ≡ Ok x
at-line fault n (Ok y) x good = (let same : y ≡ x = cc in ap (λ z. Ok z) same)
at-line fault n (Err kind) x good = absurd (let no : ⊥ = cc in no)

-- So is what follows it.
pub at-line-then : {A Kind Fault : Type 0} (fault : ℕ → Kind → Fault) (n : ℕ) (judgement : Result (Unit {0}) Kind) (next : Result A Fault) (x : A)
    → (at_line fault n judgement >> next) ≡ Ok x → (judgement ≡ Ok tt) × (next ≡ Ok x)
at-line-then fault n (Ok y) next x good = (refl, good)
at-line-then fault n (Err kind) next x good = absurd (let no : ⊥ = cc in no)
