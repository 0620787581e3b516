-- From the result of clap's parse to what the words ask for.
use Rattle.std.proofs.Common.{ℕ, ◌≡◌, ◌⊎◌, ap, inl, inr, refl, subst, Bool, true, false, [], ◌∷◌, Err, List, Option, Some, None, codes, option_map}
use Rattle.std.specs.Prelude.{option_and_then}
use Rattle.clap.specs.Kinds.{IsAmong, Kinds}
use Rattle.clap.specs.Words.{Row, Text, first_of, is_simple, is_simple_and_free, one_of}
use Rattle.clap.specs.Values.{bool_text}
use Rattle.clap.specs.declared.error.kind.ErrorKind.{ErrorKind}
use Rattle.clap.specs.declared.error.kind.ErrorKind.TheVariants.{OutOfMemory}
use Rattle.clap.proofs.OnLiterals.{clap_on_literals}
use Rattle.dmf_arguments.specs.CommandLine.{Asked, arguments, asked_of}
use Rattle.dmf_arguments.specs.Words.{Asks, IsMost, IsNumberUpTo, IsToldOf, TellsKind, GivesValuing, holding, parts_of, solving}
use Rattle.dmf_arguments.specs.declared.words.Parts.{Parts}
use Rattle.dmf_arguments.specs.declared.words.WordsFault.{WordsFault}
use Rattle.dmf_arguments.specs.declared.words.WordsFault.TheVariants.{NoMemory}

-- the command line is of a form for which clap defines the result of a parse
pub line_is_simple : is_simple arguments ≡ true
unfolding clap_on_literals
line_is_simple = refl

-- The program's own command line is simple, and free of what clap defines no parse of.
pub line_is_free : is_simple_and_free arguments ≡ true
unfolding clap_on_literals
line_is_free = refl

-- an empty list of kinds has no first one
pub no_kinds : {k : ErrorKind} {ks : Kinds} → [] ≡ k ∷ ks → ⊥
no_kinds e = cc

-- Where memory is refused, parts that are asked for are not given, nor is a fault of the words told.
no-valuing : {fault : WordsFault} (parts : Option Parts) (progress : Bool) → fault ≡ NoMemory → GivesValuing parts progress (Err fault)
no-valuing (Some parts) progress memory = memory
no-valuing None progress memory = rw memory tt

-- Reading failed, for want of memory or with one of these kinds of fault.
module _ (kinds : Kinds) (kind : ErrorKind) (fault : WordsFault) (among : (kind ≡ OutOfMemory) ⊎ IsAmong kind kinds)
    (tells : TellsKind kind fault) where
  -- if the words have no fault, reading can fail only for want of memory
  pub short : (asked : Option Asked) → kinds ≡ [] → Asks asked (Err fault)
  short asked clean =
      let memory : fault ≡ NoMemory = elim among [ inl e ↦ tells.memory e | inr one ↦ absurd (subst (IsAmong kind) clean one) ] in (
        λ is. memory,
        λ cut brief any progress nodes pairs second text worst path is. memory,
        λ cut brief progress any nodes pairs second worst text bound path is written. memory,
        λ cut brief any nodes pairs progress second text worst path is. memory,
        λ nodes pairs progress second cut brief any text worst path most is written. no-valuing (parts_of second nodes pairs most) progress memory,
      )

  -- Where a parse gives some kinds of fault, the answer tells of one of these.
  pub told : (first : ErrorKind) (others : Kinds) → kinds ≡ first ∷ others → IsToldOf (first ∷ others) fault
  told first others are = elim among [ inl e ↦ inl (tells.memory e) | inr one ↦ inr (kind, subst (IsAmong kind) are one, tells) ]

-- What the arguments of a parsed command ask for.
pub record AskedRows (rows : List Row) (flag brief any nodes pairs progress second bound worst path : Option Text) : Type 0 where
  pub flag_is : one_of (codes "cut") rows ≡ flag
  pub brief_is : one_of (codes "brief") rows ≡ brief
  pub any_is : one_of (codes "any") rows ≡ any
  pub nodes_is : one_of (codes "nodes") rows ≡ nodes
  pub pairs_is : one_of (codes "pairs") rows ≡ pairs
  pub progress_is : one_of (codes "progress") rows ≡ progress
  pub second_is : one_of (codes "second") rows ≡ second
  pub bound_is : one_of (codes "history") rows ≡ bound
  pub worst_is : one_of (codes "worst") rows ≡ worst
  pub path_is : first_of (codes "problem") rows ≡ path

-- Where a command was found, what is asked for is what its rows say.
pub asked_rows : (found : Option (Text × List Row)) (rows : List Row) (name : Text) (flag brief any nodes pairs progress second bound worst path : Option Text)
    → Some rows ≡ option_map (λ p. p.1) found → asked_of found
    ≡ Some (record { command = name; cut = flag; brief = brief; any = any; nodes = nodes; pairs = pairs; progress = progress; second = second; history = bound; worst = worst; problem = path })
    → AskedRows rows flag brief any nodes pairs progress second bound worst path
asked_rows None rows name flag brief any nodes pairs progress second bound worst path has asked = cc
asked_rows (Some p) rows name flag brief any nodes pairs progress second bound worst path has asked =
    let same : rows ≡ p.1 = cc in
    rw same (record {
      flag_is = ap (option_and_then (λ (q : Asked). q.cut)) asked;
      brief_is = ap (option_and_then (λ (q : Asked). q.brief)) asked;
      any_is = ap (option_and_then (λ (q : Asked). q.any)) asked;
      nodes_is = ap (option_and_then (λ (q : Asked). q.nodes)) asked;
      pairs_is = ap (option_and_then (λ (q : Asked). q.pairs)) asked;
      progress_is = ap (option_and_then (λ (q : Asked). q.progress)) asked;
      second_is = ap (option_and_then (λ (q : Asked). q.second)) asked;
      bound_is = ap (option_and_then (λ (q : Asked). q.history)) asked;
      worst_is = ap (option_and_then (λ (q : Asked). q.worst)) asked;
      path_is = ap (option_and_then (λ (q : Asked). q.problem)) asked;
    })

-- Sessions that are asked for with equal parts are equal.
pub same-holding : {cut wanted brief short progress told : Bool} {n bound : ℕ} {problem path : Text} → cut ≡ wanted → brief ≡ short → progress ≡ told
    → n ≡ bound → problem ≡ path → holding cut brief progress n problem ≡ holding wanted short told bound path
same-holding c b t n p = cc

-- Solves that are asked for with equal parts are equal.
pub same-solving : {cut wanted brief short any some progress told : Bool} → cut ≡ wanted → brief ≡ short → any ≡ some → progress ≡ told
    → solving cut brief any progress ≡ solving wanted short some told
same-solving c b a p = cc

-- a flag reads as its text says
pub flag_reads : (cut read : Bool) (text : Option Text) → (text ≡ Some (codes "true") → read ≡ true)
    → (text ≡ Some (codes "false") → read ≡ false) → text ≡ Some (bool_text cut) → read ≡ cut
flag_reads true read text given absent is = given is
flag_reads false read text given absent is = absent is

-- how many of the worst are told reads as its text says
pub most_reads : (text : Option Text) (most read : Option ℕ) → (text ≡ None → read ≡ None)
    → ((written : Text) (bound : ℕ) → text ≡ Some written → IsNumberUpTo 10000 written bound → read ≡ Some bound) → IsMost text most → read ≡ most
most_reads None None read all some is = all refl
most_reads None (Some most) read all some is = absurd is
most_reads (Some text) None read all some is = absurd is
most_reads (Some text) (Some most) read all some is = some text most refl is

-- The parts are those that equal options ask for.
pub same-parts : {second two nodes wanted pairs also : Bool} {worst most : Option ℕ} → second ≡ two → nodes ≡ wanted → pairs ≡ also → worst ≡ most
    → parts_of second nodes pairs worst ≡ parts_of two wanted also most
same-parts s n p w = rw (s, n, p, w) refl
