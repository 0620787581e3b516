-- What several puts do, one after the other.
use Rattle.std.proofs.Common.{◌≡◌, ℕ, ◌-◌, List, ◌++◌, length, take, drop, Result, Ok, Err, true, sym, ap, subst, ◌∙◌, append_assoc, take-append-drop}
use Rattle.std.specs.Prelude.{IsErrAnd}
use Rattle.std.proofs.lemmas.Result.{err_from_is_err_and}
use Rattle.std.proofs.KnownBytes.{Appends-trans}
use Rattle.std.specs.Io.KnownBytes.{Appends}
use Rattle.dmf_text.specs.Streams.{Writer}
use Rattle.dmf_text.specs.Writing.{Writes}
use Rattle.std.proofs.lemmas.List.{take_rest}

-- ---- what was put into a sink before, and what is put into it next

-- a prefix of a text was put, and then a put failed
abbrev pub PutsFront : Writer → Writer → List ℕ → Type 0
PutsFront a b text = (front : List ℕ) × (rest : List ℕ) × (text ≡ front ++ rest) × Appends a.contents b.contents front × (b.has_failed ≡ true)

-- a prefix of a text to which more belongs
pub front-of : (a b : Writer) (s t : List ℕ) → PutsFront a b s → PutsFront a b (s ++ t)
front-of a b s t put_front = (put_front.0, put_front.1 ++ t, ap (λ l. l ++ t) put_front.2 ∙ append_assoc put_front.0 put_front.1 t, put_front.3, put_front.4)

-- after all of another text
pub front-after : (a b c : Writer) (s t : List ℕ) → Appends a.contents b.contents s → PutsFront b c t → PutsFront a c (s ++ t)
front-after a b c s t held put_front = (
  s ++ put_front.0,
  put_front.1,
  ap (λ more. s ++ more) put_front.2 ∙ sym (append_assoc s put_front.0 put_front.1),
  Appends-trans _ _ _ s put_front.0 held put_front.3,
  put_front.4,
)

-- all of a text, and then another
pub writes-more : {V E : Type 0} (a b c : Writer) (outcome : Result V E) (s t : List ℕ) → Appends a.contents b.contents s → b.has_failed ≡ a.has_failed
    → Writes b c outcome t → Writes a c outcome (s ++ t)
writes-more a b c (Ok v) s t held mark then = (Appends-trans _ _ _ s t held then.0, then.1 ∙ mark)
writes-more a b c (Err e) s t held mark then = front-after a b c s t held then

-- Of a text the first part was to be put, and the rest after it. The first part failed.
pub first-failed : {V E : Type 0} (P : E → Type 0) (a b : Writer) (outcome : Result V E) (text first rest : List ℕ) → IsErrAnd outcome P
    → text ≡ first ++ rest → PutsFront a b first → Writes a b outcome text
first-failed P a b outcome text first rest failed split put_front =
    subst (λ o. Writes a b o text) (sym (err_from_is_err_and outcome failed).1)
    (subst (λ t. PutsFront a b t) (sym split) (front-of a b first rest put_front))

-- or the first part was put, and this is what became of the rest.
pub first-put : {V E : Type 0} (a b c : Writer) (outcome : Result V E) (text first rest : List ℕ) → text ≡ first ++ rest
    → Appends a.contents b.contents first × (b.has_failed ≡ a.has_failed) → Writes b c outcome rest → Writes a c outcome text
first-put a b c outcome text first rest split put more =
    subst (λ t. Writes a c outcome t) (sym split) (writes-more a b c outcome first rest put.0 put.1 more)

-- a prefix of a text was written, and now the next n bytes
pub front-more : (text written rest : List ℕ) (n : ℕ) → text ≡ written ++ rest → text ≡ (written ++ take n rest) ++ take (length rest - n) (drop n rest)
front-more text written rest n front =
    front ∙ ap (λ more. written ++ more) (sym (take-append-drop n rest) ∙ ap (λ more. take n rest ++ more) (sym (take_rest rest n)))
    ∙ sym (append_assoc written (take n rest) (take (length rest - n) (drop n rest)))
