-- Taking bytes from an input and its reader.
use Rattle.std.proofs.Common.{ℕ, ◌≡◌, ◌+◌, ◌-◌, ◌<◌, ◌≤◌, List, [], ◌∷◌, ◌++◌, length, get_or, Option, Some, None, arith, refl, suc, subst}
use Rattle.std.specs.List.{slice_range}
use Rattle.std.specs.Io.KnownBytes.{prepend_known, Consumes}
use Rattle.std.proofs.KnownBytes.{Consumes-trans}
use Rattle.std.proofs.lemmas.List.{drop_more, length-append, append-nil}
use Rattle.dmf_text.specs.Streams.{Reader}
use Rattle.dmf_streams.specs.Pending.{Pending}
use Rattle.dmf_streams.specs.Input.{InputState, input_over, TakesBytes, left}

-- Taking bytes, and then others, takes both.
pub Takes-trans : (a b c : InputState) (x y : List ℕ) → TakesBytes a b x → TakesBytes b c y → TakesBytes a c (x ++ y)
Takes-trans a b c x y t u = record {
  consumes = Consumes-trans (left a.pending a.reader.known) (left b.pending b.reader.known) (left c.pending c.reader.known) x y t.consumes u.consumes;
  counts = omega (arith, t.counts, u.counts, length-append x y);
}

-- the first of the pending bytes
pub Consumes-pending : (known : Option (List ℕ)) (byte : ℕ) (rest : List ℕ) → Consumes (prepend_known (byte ∷ rest) known) (prepend_known rest known)
    (byte ∷ [])
Consumes-pending None byte rest = tt
Consumes-pending (Some xs) byte rest = refl

-- the pending bytes, after one more is taken
pub pending-more : (piece : List ℕ) (start end : ℕ) → start < end → end ≤ length piece
    → slice_range piece start end ≡ get_or piece start 0 ∷ slice_range piece (start + 1) end
pending-more piece start end some within =
    let one : end - start ≡ suc (end - (start + 1)) = omega arith in
    rw (drop_more piece start 0 (omega arith), one) refl

-- a list that is not empty
pub some-length : (xs : List ℕ) → (xs ≡ [] → ⊥) → 0 < length xs
some-length [] not_empty = absurd (not_empty refl)
some-length (x ∷ xs) not_empty = omega arith

-- Taking no more bytes changes nothing of what was taken.
pub Takes-nil : (a b c : InputState) (x : List ℕ) → TakesBytes a b x → TakesBytes b c [] → TakesBytes a c x
Takes-nil a b c x t u = subst (λ l. TakesBytes a c l) (append-nil x) (Takes-trans a b c x [] t u)

-- Of a piece that has come to its end nothing is pending.
pub nothing-pending : (piece : List ℕ) (start end : ℕ) → end ≤ start → slice_range piece start end ≡ []
nothing-pending piece start end none =
    let no : end - start ≡ 0 = omega arith in
    rw no refl

-- bytes that were read are pending, and none of them is taken yet
Consumes-read : (from to : Option (List ℕ)) (bytes : List ℕ) → Consumes from to bytes → Consumes (prepend_known [] from) (prepend_known bytes to) []
Consumes-read None to bytes read = tt
Consumes-read (Some xs) None bytes read = absurd read
Consumes-read (Some xs) (Some ys) bytes read = read

-- if no byte was pending, the bytes that the reader gave are pending
pub Takes-read : (old new : Pending) (from to : Reader) → old.bytes ≡ [] → new.count ≡ old.count → Consumes from.known to.known new.bytes
    → TakesBytes (input_over old from) (input_over new to) []
Takes-read old new from to none count read = record {
  consumes = rw none (Consumes-read from.known to.known new.bytes read);
  counts = omega (arith, count);
}
