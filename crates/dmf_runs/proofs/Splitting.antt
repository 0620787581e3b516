-- There is one way to split a text into lines.
use Rattle.std.proofs.Common.{ℕ, ◌≡◌, ◌≢◌, List, [], ◌∷◌, ◌++◌, ⊎_elim, refl, sym, ap, ◌∙◌, subst, append_assoc}
use Rattle.std.specs.List.{All}
use Rattle.std.proofs.lemmas.Bool.Decides.{eqb_tells}
use Rattle.std.proofs.lemmas.List.Elements.{All-nil, All-cons, All-head, All-tail}
use Rattle.dmf_streams.specs.Input.{HasNoLineFeed}
use Rattle.dmf_runs.specs.Line.{with_line_feeds, IsSplit}

-- ---- a way to split

-- one way to split the text
pub record SomeSplit (text : List ℕ) : Type 0 where
  pub lines : List (List ℕ)
  pub rest : List ℕ
  pub split : IsSplit text lines rest

-- A line feed in front ends an empty first line.
split-line_feed : (text : List ℕ) → SomeSplit text → SomeSplit (10 ∷ text)
split-line_feed text some = record {
  lines = [] ∷ some.lines;
  rest = some.rest;
  split = record {
    whole = ap (λ x. 10 ∷ x) some.split.whole;
    each = All-cons HasNoLineFeed [] some.lines (All-nil (λ (b : ℕ). b ≢ 10)) some.split.each;
    last = some.split.last;
  };
}

-- Any other byte in front belongs to the first line, or to the rest if there is no line.
split-byte : (byte : ℕ) (text rest : List ℕ) (lines : List (List ℕ)) → byte ≢ 10 → IsSplit text lines rest → SomeSplit (byte ∷ text)
split-byte byte text rest [] other split = record {
  lines = [];
  rest = byte ∷ rest;
  split = record { whole = ap (λ x. byte ∷ x) split.whole; each = split.each; last = All-cons (λ (b : ℕ). b ≢ 10) byte rest other split.last };
}
split-byte byte text rest (line ∷ lines) other split = record {
  lines = (byte ∷ line) ∷ lines;
  rest = rest;
  split = record {
    whole = ap (λ x. byte ∷ x) split.whole;
    each = All-cons HasNoLineFeed (byte ∷ line) lines
        (All-cons (λ (b : ℕ). b ≢ 10) byte line other (All-head HasNoLineFeed line lines split.each)) (All-tail HasNoLineFeed line lines split.each);
    last = split.last;
  };
}

-- Each text can be split into lines and a rest.
pub some-split : (text : List ℕ) → SomeSplit text
some-split [] = record { lines = []; rest = []; split = record { whole = refl; each = All-nil HasNoLineFeed; last = All-nil (λ (b : ℕ). b ≢ 10) } }
some-split (byte ∷ text) = let some = some-split text in ⊎_elim
    (λ is. subst (λ b. SomeSplit (b ∷ text)) (sym is.1) (split-line_feed text some))
    (λ is. split-byte byte text some.rest some.lines is.1 some.split)
    (eqb_tells byte 10)

-- ---- and one way only

-- A line without a line feed does not begin with one.
no-line_feed : (front behind : List ℕ) → HasNoLineFeed (front ++ 10 ∷ behind) → ⊥
no-line_feed [] behind each = All-head (λ (b : ℕ). b ≢ 10) 10 behind each refl
no-line_feed (byte ∷ front) behind each = no-line_feed front behind (All-tail (λ (b : ℕ). b ≢ 10) byte (front ++ 10 ∷ behind) each)

-- The first line feed ends the first line.
one-first : (line other behind after : List ℕ) → HasNoLineFeed line → HasNoLineFeed other → line ++ 10 ∷ behind ≡ other ++ 10 ∷ after
    → (line ≡ other) × (behind ≡ after)
one-first [] [] behind after none also e = (refl, cc)
one-first [] (c ∷ other) behind after none also e = absurd (All-head (λ (b : ℕ). b ≢ 10) c other also (cc))
one-first (b ∷ line) [] behind after none also e = absurd (All-head (λ (b : ℕ). b ≢ 10) b line none (cc))
one-first (b ∷ line) (c ∷ other) behind after none also e =
    let more : line ++ 10 ∷ behind ≡ other ++ 10 ∷ after = cc in
    let rest = one-first line other behind after (All-tail (λ (b : ℕ). b ≢ 10) b line none) (All-tail (λ (b : ℕ). b ≢ 10) c other also) more in
    (cc, rest.1)

-- the bytes of the lines, with the line feed of the first
with_line_feeds-first : (line : List ℕ) (lines : List (List ℕ)) (rest : List ℕ)
    → with_line_feeds (line ∷ lines) ++ rest ≡ line ++ 10 ∷ (with_line_feeds lines ++ rest)
with_line_feeds-first line lines rest = append_assoc (line ++ 10 ∷ []) (with_line_feeds lines) rest ∙ append_assoc line (10 ∷ [])
    (with_line_feeds lines ++ rest)

one-lines : (lines others : List (List ℕ)) (rest last : List ℕ) → All HasNoLineFeed lines → All HasNoLineFeed others → HasNoLineFeed rest → HasNoLineFeed last
    → with_line_feeds lines ++ rest ≡ with_line_feeds others ++ last → (lines ≡ others) × (rest ≡ last)
one-lines [] [] rest last each also none bare e = (refl, e)
one-lines [] (other ∷ others) rest last each also none bare e =
    absurd (no-line_feed other (with_line_feeds others ++ last) (subst HasNoLineFeed (e ∙ with_line_feeds-first other others last) none))
one-lines (line ∷ lines) [] rest last each also none bare e =
    absurd (no-line_feed line (with_line_feeds lines ++ rest) (subst HasNoLineFeed (sym e ∙ with_line_feeds-first line lines rest) bare))
one-lines (line ∷ lines) (other ∷ others) rest last each also none bare e =
    let first = one-first line other (with_line_feeds lines ++ rest) (with_line_feeds others ++ last) (All-head HasNoLineFeed line lines each)
    (All-head HasNoLineFeed other others also)
    (sym (with_line_feeds-first line lines rest) ∙ e ∙ with_line_feeds-first other others last) in
    let more = one-lines lines others rest last (All-tail HasNoLineFeed line lines each) (All-tail HasNoLineFeed other others also) none bare first.1 in
    (cc, more.1)

-- Any two ways to split a text agree.
pub one-split : (text : List ℕ) (lines others : List (List ℕ)) (rest last : List ℕ) → IsSplit text lines rest → IsSplit text others last
    → (lines ≡ others) × (rest ≡ last)
one-split text lines others rest last a b = one-lines lines others rest last a.each b.each a.last b.last (sym a.whole ∙ b.whole)
