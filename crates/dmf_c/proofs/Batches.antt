-- Commands that are carried out one after another, in a loop.
use Rattle.std.proofs.Common.{ℕ, ◌≡◌, ◌≢◌, ◌+◌, ◌<◌, ◌≤◌, List, [], ◌∷◌, ◌++◌, Option, length, take, drop, set, slice_index, zero, suc, refl, sym, ap, subst, ◌∙◌, arith}
use Rattle.std.proofs.Common.{append_assoc}
use Rattle.std.proofs.lemmas.List.{take_more_set, drop-set-lt, take-append-drop, length-take-le, append-nil}
use Rattle.std.proofs.Math.Numerals.{add-one}
use Rattle.std.proofs.Math.ListN.{drop_of_length-le}
use Rattle.dmf_session.specs.declared.command.Command.{Command}
use Rattle.dmf_history.specs.Timeline.{Timeline}
use Rattle.dmf_c.specs.Running.{AnswersKind, HasRun, HasValue, Runs, command_of, commands_of}
use Rattle.dmf_c.specs.Status.{DMF_OK}

drop-suc : (i : ℕ) (xs : List ℕ) → drop (suc i) xs ≡ drop 1 (drop i xs)
drop-suc zero xs = refl
drop-suc (suc i) [] = refl
drop-suc (suc i) (x ∷ xs) = drop-suc i xs

-- what is equal from an index on is so from the next one on
drop-next : (i : ℕ) (xs ys : List ℕ) → drop i xs ≡ drop i ys → drop (i + 1) xs ≡ drop (i + 1) ys
drop-next i xs ys same = rw (add-one i) (drop-suc i xs ∙ ap (λ zs. drop 1 zs) same ∙ sym (drop-suc i ys))

-- The first `i` commands are carried out: whatever runs on from here runs from the start, with their values before its own. The array has these
-- values, and is otherwise as before.
pub record HasRunTo (t : Timeline) (commands : List (Option Command)) (i : ℕ) (v : Timeline) (before values : List ℕ) : Type 0 where
  pub on : (others : List ℕ) (code : ℕ) (u : Timeline) → Runs v (drop i commands) others code u → Runs t commands (take i values ++ others) code u
  pub rest : drop i values ≡ drop i before

module _ {t v : Timeline} {commands : List (Option Command)} {i : ℕ} {before values : List ℕ} (h : HasRunTo t commands i v before values) where
  module _ (command : Option Command) (next : drop i commands ≡ command ∷ drop (i + 1) commands) where
    -- One more is carried out.
    pub more-run : (w : Timeline) (value : ℕ) → i < length values → AnswersKind v command DMF_OK w → HasValue w value
        → HasRunTo t commands (i + 1) w before (set values i value)
    more-run w value within answers has = record {
      on = λ others code u runs.
          let front : take i values ++ value ∷ others ≡ take (i + 1) (set values i value) ++ others =
          sym (append_assoc (take i values) (value ∷ []) others) ∙ ap (λ xs. xs ++ others) (sym (take_more_set values i value within)) in
          subst (λ xs. Runs t commands xs code u) front
          (h.on (value ∷ others) code u (subst (λ cs. Runs v cs (value ∷ others) code u) (sym next) (w, answers, has, runs)));
      rest = drop-set-lt (i + 1) values i value (omega arith) ∙ drop-next i values before h.rest;
    }

  -- what has run ends here
  ended : (code : ℕ) (u : Timeline) → i ≤ length values → Runs v (drop i commands) [] code u → HasRun t commands code u before values i
  ended code u within runs =
      let long : length (take i values) ≡ i = length-take-le i values within in
      record {
        values = take i values;
        runs = subst (λ xs. Runs t commands xs code u) (append-nil (take i values)) (h.on [] code u runs);
        written = sym (take-append-drop i values) ∙ ap (λ xs. take i values ++ xs) (h.rest ∙ ap (λ n. drop n before) (sym long));
        count = sym long;
      }

  -- A command is refused.
  pub stopped : (command : Option Command) → drop i commands ≡ command ∷ drop (i + 1) commands → (code : ℕ) (u : Timeline) → i ≤ length values
      → code ≢ DMF_OK → AnswersKind v command code u → HasRun t commands code u before values i
  stopped command next code u within not_ok answers =
      ended code u within (subst (λ cs. Runs v cs [] code u) (sym next) (not_ok, answers))

  -- All are carried out.
  pub all-run : length commands ≤ i → i ≤ length values → HasRun t commands DMF_OK v before values i
  all-run past within =
      ended DMF_OK v within (subst (λ cs. Runs v cs [] DMF_OK v) (sym (drop_of_length-le commands past)) (refl, refl))

-- ---- the commands of columns

pub length-commands_of : (kinds firsts seconds thirds : List ℕ) → length firsts ≡ length kinds → length seconds ≡ length kinds → length thirds ≡ length kinds
    → length (commands_of kinds firsts seconds thirds) ≡ length kinds
length-commands_of [] firsts seconds thirds a b c = refl
length-commands_of (k ∷ ks) (x ∷ xs) (y ∷ ys) (z ∷ zs) a b c = ap suc (length-commands_of ks xs ys zs (omega (arith, a)) (omega (arith, b)) (omega (arith, c)))
length-commands_of (k ∷ ks) [] ys zs a b c = absurd (omega (arith, a))
length-commands_of (k ∷ ks) (x ∷ xs) [] zs a b c = absurd (omega (arith, b))
length-commands_of (k ∷ ks) (x ∷ xs) (y ∷ ys) [] a b c = absurd (omega (arith, c))

-- the command at an index, and those past it
at-suc : (kinds firsts seconds thirds : List ℕ) (i : ℕ) → i < length kinds → length firsts ≡ length kinds → length seconds ≡ length kinds
    → length thirds ≡ length kinds
    → drop i (commands_of kinds firsts seconds thirds)
    ≡ command_of (slice_index kinds i) (slice_index firsts i) (slice_index seconds i) (slice_index thirds i) ∷ drop (suc i) (commands_of kinds firsts seconds thirds)
at-suc [] firsts seconds thirds i h a b c = absurd (omega (arith, h))
at-suc (k ∷ ks) (x ∷ xs) (y ∷ ys) (z ∷ zs) zero h a b c = refl
at-suc (k ∷ ks) (x ∷ xs) (y ∷ ys) (z ∷ zs) (suc i) h a b c =
    at-suc ks xs ys zs i (omega (arith, h)) (omega (arith, a)) (omega (arith, b)) (omega (arith, c))
at-suc (k ∷ ks) [] ys zs i h a b c = absurd (omega (arith, a))
at-suc (k ∷ ks) (x ∷ xs) [] zs i h a b c = absurd (omega (arith, b))
at-suc (k ∷ ks) (x ∷ xs) (y ∷ ys) [] i h a b c = absurd (omega (arith, c))

pub next-command : (kinds firsts seconds thirds : List ℕ) (i : ℕ) → i < length kinds → length firsts ≡ length kinds → length seconds ≡ length kinds
    → length thirds ≡ length kinds
    → drop i (commands_of kinds firsts seconds thirds)
    ≡ command_of (slice_index kinds i) (slice_index firsts i) (slice_index seconds i) (slice_index thirds i) ∷ drop (i + 1) (commands_of kinds firsts seconds thirds)
next-command kinds firsts seconds thirds i h a b c =
    let all : List (Option Command) = commands_of kinds firsts seconds thirds in
    at-suc kinds firsts seconds thirds i h a b c
    ∙ ap (λ n. command_of (slice_index kinds i) (slice_index firsts i) (slice_index seconds i) (slice_index thirds i) ∷ drop n all) (sym (add-one i))
