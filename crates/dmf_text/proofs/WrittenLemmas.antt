-- The bytes of written lines.
use Rattle.std.proofs.Common.{◌≡◌, ℕ, suc, ◌+◌, ◌-◌, subst, ◌<◌, ◌≤◌, List, [], ◌∷◌, ◌++◌, length, take, drop, get_or, slice_get, Some, arith, map, filter}
use Rattle.std.proofs.Common.{Bool, true, false, not, if◌then◌else◌, codes, refl, sym, ap, ◌∙◌, append_assoc, append-nil, decimal, take-append-drop}
use Rattle.std.proofs.Common.{length-drop, pos}
use Rattle.std.proofs.Math.Numerals.{add-one}
use Rattle.std.proofs.Math.Seq.{drop-cons}
use Rattle.std.proofs.lemmas.List.{map-append, take_more, drop_all, length-map}
use Rattle.std.proofs.lemmas.List.Elements.{filter-append}
use Rattle.std.proofs.lemmas.Grind.{flat_map-append}
use Rattle.std.proofs.lemmas.Option.{get_or_from_slice_get}
use Rattle.std.proofs.lemmas.Slice.Zip.{get_or-zip, length-zip}
use Rattle.dmf_state.specs.declared.arc.Arc.{Arc}
use Rattle.dmf_state.specs.Arc.{open_count}
use Rattle.dmf_state.specs.Flow.{flow_value}
use Rattle.dmf_state.specs.Network.{Network}
use Rattle.dmf_state.specs.NetworkState.{NetworkState}
use Rattle.dmf_state.specs.Side.{CutSide}
use Rattle.std.specs.List.{zip, join_with_byte}
use Rattle.std.proofs.KnownBytes.{Appends-trans}
use Rattle.std.specs.Io.KnownBytes.{Appends}
use Rattle.dmf_text.specs.Judging.{Line}
use Rattle.dmf_text.specs.Streams.{Writer}
use Rattle.dmf_text.specs.Written.{written_line, written, flow_fields, arcs_text, flows_text, nodes_text, problem_text, solution_text, cut_text}
use Rattle.dmf_text.proofs.WritingLemmas.{PutsFront, front-of, front-after}

-- a line, field by field
pub line-none : written_line [] ≡ 10 ∷ []
unfolding written_line
line-none = refl

pub line-one : (field : List ℕ) → written_line (field ∷ []) ≡ field ++ 10 ∷ []
unfolding written_line
line-one field = refl

pub line-more : (field : List ℕ) (more : Line) → 0 < length more → written_line (field ∷ more) ≡ field ++ (32 ∷ written_line more)
unfolding written_line
line-more field [] some = absurd (omega arith)
line-more field (next ∷ more) some = append_assoc field (32 ∷ join_with_byte 32 (next ∷ more)) (10 ∷ [])

-- the line of the fields from one on
module _ {X : Type 0} (bytes : X → List ℕ) (fields : List X) (i : ℕ) (d : X) (below : i < length fields) where
  from-one : map bytes (drop i fields) ≡ bytes (get_or fields i d) ∷ map bytes (drop (i + 1) fields)
  from-one = ap (map bytes) (drop-cons fields i d below) ∙ ap (λ k. bytes (get_or fields i d) ∷ map bytes (drop k fields)) (sym (add-one i))

  -- The last field ends the line.
  pub line-last : length fields ≤ i + 1 → written_line (map bytes (drop i fields)) ≡ bytes (get_or fields i d) ++ 10 ∷ []
  line-last last = rw (from-one, drop_all (i + 1) fields last, line-one) refl

  -- Behind each other field stand a blank and the fields after it.
  pub line-from : i + 1 < length fields
      → written_line (map bytes (drop i fields)) ≡ bytes (get_or fields i d) ++ (32 ∷ written_line (map bytes (drop (i + 1) fields)))
  line-from more =
      let long = length-map (drop (i + 1) fields) bytes ∙ length-drop (i + 1) fields in
      ap written_line from-one ∙ line-more (bytes (get_or fields i d)) (map bytes (drop (i + 1) fields)) (omega (arith, long))

-- The lines of all elements of a list.
module _ {X : Type 0} (fields : X → Line) where
  abbrev pub all_text : List X → List ℕ
  all_text xs = written (map fields xs)

  -- None have no lines.
  pub all-nil : all_text [] ≡ []
  unfolding written
  all-nil = refl

  pub all-one : (x : X) → all_text (x ∷ []) ≡ written_line (fields x)
  unfolding written
  all-one x = append-nil (written_line (fields x))

  pub all-append : (xs ys : List X) → all_text (xs ++ ys) ≡ all_text xs ++ all_text ys
  unfolding written
  all-append xs ys = ap written (map-append fields xs ys) ∙ flat_map-append written_line (map fields xs) (map fields ys)

  -- the lines of a list with one element at its end, and with one in its middle
  pub all-last : (xs : List X) (x : X) → all_text (xs ++ x ∷ []) ≡ all_text xs ++ written_line (fields x)
  all-last xs x = rw (all-append xs (x ∷ []), all-one x) refl

  -- The lines are those before an item, its own, and those after it.
  pub all-split : (xs : List X) (x : X) (ys : List X) → all_text (xs ++ x ∷ ys) ≡ all_text xs ++ (written_line (fields x) ++ all_text ys)
  all-split xs x ys = rw (all-append xs (x ∷ ys), all-append (x ∷ []) ys, all-one x) refl

-- The lines of a list's elements that are to be written: open arcs, or open arcs with their flows.
module _ {X : Type 0} (is_kept : X → Bool) (fields : X → Line) where
  abbrev pub kept_text : List X → List ℕ
  kept_text xs = all_text fields (filter is_kept xs)

  -- One has its line where it is to be written.
  pub kept-one : (x : X) → kept_text (x ∷ []) ≡ (if is_kept x then written_line (fields x) else [])
  kept-one x = elim (is_kept x) as (λ b. all_text fields (if b then x ∷ [] else []) ≡ (if b then written_line (fields x) else []))
      [ true ↦ all-one fields x | false ↦ all-nil fields ]

  kept-append : (xs ys : List X) → kept_text (xs ++ ys) ≡ kept_text xs ++ kept_text ys
  kept-append xs ys = ap (all_text fields) (filter-append is_kept xs ys) ∙ all-append fields (filter is_kept xs) (filter is_kept ys)

  -- The elements before one were put, and now this one's text.
  module _ (xs : List X) (i : ℕ) (d : X) (below : i < length xs) (text : List ℕ) (is : kept_text (get_or xs i d ∷ []) ≡ text) (a b c : Writer)
      (held : Appends a.contents b.contents (kept_text (take i xs))) where
    -- It was put, so those up to it are.
    pub kept-put : Appends b.contents c.contents text → Appends a.contents c.contents (kept_text (take (i + 1) xs))
    kept-put put = rw (take_more xs i d below, kept-append (take i xs) (get_or xs i d ∷ []), is) (Appends-trans _ _ _ _ _ held put)

    -- It failed, so a prefix of all is put.
    pub kept-failed : PutsFront b c text → PutsFront a c (kept_text xs)
    kept-failed put_front =
        let parts = sym (take-append-drop i xs) ∙ ap (λ l. take i xs ++ l) (drop-cons xs i d below) in
        let rest = drop (suc i) xs in
        rw (parts, kept-append (take i xs) (get_or xs i d ∷ rest), kept-append (get_or xs i d ∷ []) rest, is)
        (front-after a b c (kept_text (take i xs)) _ held (front-of b c text (kept_text rest) put_front))

-- Whether an arc is open,
abbrev pub is_open : Arc → Bool
is_open arc = not arc.closed

-- also beside its flow.
abbrev pub is_open_flow : Arc × ℕ → Bool
is_open_flow p = not p.0.closed

-- the line of an arc and its flow
pub flow-line : (arcs : List Arc) (flows : List ℕ) (i flow : ℕ) (d : Arc) → length flows ≡ length arcs → i < length arcs
    → slice_get flows (i + 1 - 1) ≡ Some flow
    → flows_text (get_or (zip arcs flows) i (d, 0) ∷ [])
    ≡ (if is_open (get_or arcs i d) then written_line (flow_fields (get_or arcs i d, flow)) else [])
flow-line arcs flows i flow d one_each below is =
    let read : slice_get flows i ≡ Some flow = subst (λ k. slice_get flows k ≡ Some flow) (omega arith) is in
    rw (get_or-zip arcs flows i (d, 0) below (omega (arith, one_each, below)), get_or_from_slice_get flows i flow 0 read)
    (kept-one is_open_flow flow_fields (get_or arcs i d, flow))

-- There are as many arcs with their flows as arcs.
pub zip-long : (arcs : List Arc) (flows : List ℕ) → length flows ≡ length arcs → length (zip arcs flows) ≡ length arcs
zip-long arcs flows one_each = length-zip arcs flows ∙ omega (arith, one_each)

-- the text of a network, line by line
pub problem_text-lines : (n : Network) → problem_text n
    ≡ written_line (codes "p" ∷ codes "max" ∷ decimal n.nodes ∷ decimal (open_count n.arcs) ∷ [])
    ++ (written_line (codes "n" ∷ decimal n.source ∷ codes "s" ∷ [])
    ++ (written_line (codes "n" ∷ decimal n.sink ∷ codes "t" ∷ []) ++ arcs_text n.arcs))
unfolding written
problem_text-lines n = refl

-- the text of a solution, line by line
pub solution_text-lines : (s : NetworkState) (value : ℕ) → pos value ≡ flow_value s.network s.flows → solution_text s
    ≡ written_line (codes "s" ∷ decimal value ∷ []) ++ flows_text (zip s.network.arcs s.flows)
unfolding written
solution_text-lines s value is = rw (← is) refl

-- the text of a cut, line by line
pub cut_text-lines : (side : CutSide) (capacity : ℕ) → capacity ≡ side.capacity → cut_text side
    ≡ written_line (codes "c" ∷ codes "cut" ∷ decimal capacity ∷ []) ++ nodes_text side.ids
unfolding written
cut_text-lines side capacity is = rw is refl
