-- What clap's definition of a parse gives for plain words.
use Rattle.std.proofs.Common.{◌≡◌, ◌≢◌, Bool, true, false, List, [], ◌∷◌, codes, refl, sym}
use Rattle.std.specs.Str.{bytes_eq}
use Rattle.std.proofs.lemmas.Slice.Eq.{bytes_eq-Decides}
use Rattle.clap.specs.Words.{Text}
use Rattle.clap.specs.declared.error.kind.ErrorKind.TheVariants.{InvalidSubcommand, UnknownArgument}
use Rattle.clap.proofs.OnLiterals.{clap_on_literals}
use Rattle.dmf_arguments.specs.PlainWords.{HasFaults, IsNoCommand, IsPlain, IsTaken, PlainWords, check_of, session_of}

-- two texts that are not the same differ
told_apart : (name word : Text) → word ≢ name → bytes_eq name word ≡ false
told_apart name word differ = go (bytes_eq name word) refl
  where
    go : (same : Bool) → bytes_eq name word ≡ same → same ≡ false
    go false e = refl
    go true e = absurd (differ (sym ((bytes_eq-Decides name word).0 e)))

no_command : (word : Text) (rest : List Text) → IsNoCommand word → HasFaults (UnknownArgument ∷ InvalidSubcommand ∷ []) (word ∷ rest)
unfolding clap_on_literals
no_command [] rest named name = refl
no_command (x ∷ xs) rest named name =
    rw (
      told_apart (codes "solve") (x ∷ xs) named.solve,
      told_apart (codes "session") (x ∷ xs) named.session,
      told_apart (codes "check") (x ∷ xs) named.check,
      told_apart (codes "vital") (x ∷ xs) named.vital,
      told_apart (codes "help") (x ∷ xs) named.help,
      named.plain,
      named.plain,
    ) refl

session : (path : Text) → IsPlain path → IsTaken (codes "session" ∷ path ∷ []) (session_of false false false path)
unfolding clap_on_literals
session [] plain = (λ name. refl, λ name. refl)
session (x ∷ xs) plain = (λ name. rw (plain, plain) refl, λ name. rw (plain, plain) refl)

session_cut : (path : Text) → IsPlain path → IsTaken (codes "session" ∷ codes "--cut" ∷ path ∷ []) (session_of true false false path)
unfolding clap_on_literals
session_cut [] plain = (λ name. refl, λ name. refl)
session_cut (x ∷ xs) plain = (λ name. rw (plain, plain) refl, λ name. rw (plain, plain) refl)

cut_behind : (path : Text) → IsPlain path → IsTaken (codes "session" ∷ path ∷ codes "--cut" ∷ []) (session_of true false false path)
unfolding clap_on_literals
cut_behind [] plain = (λ name. refl, λ name. refl)
cut_behind (x ∷ xs) plain = (λ name. rw (plain, plain) refl, λ name. rw (plain, plain) refl)

check : (path : Text) → IsPlain path → IsTaken (codes "check" ∷ path ∷ []) (check_of path)
unfolding clap_on_literals
check [] plain = (λ name. refl, λ name. refl)
check (x ∷ xs) plain = (λ name. rw (plain, plain) refl, λ name. rw (plain, plain) refl)

solve_path : (path : Text) → IsPlain path → HasFaults (UnknownArgument ∷ []) (codes "solve" ∷ path ∷ [])
unfolding clap_on_literals
solve_path [] plain name = refl
solve_path (x ∷ xs) plain name = rw (plain, plain) refl

vital_path : (path : Text) → IsPlain path → HasFaults (UnknownArgument ∷ []) (codes "vital" ∷ path ∷ [])
unfolding clap_on_literals
vital_path [] plain name = refl
vital_path (x ∷ xs) plain name = rw (plain, plain) refl

second_path : (path other : Text) → IsPlain path → IsPlain other → HasFaults (UnknownArgument ∷ []) (codes "check" ∷ path ∷ other ∷ [])
unfolding clap_on_literals
second_path [] [] plain also name = refl
second_path [] (y ∷ ys) plain also name = rw (also, also) refl
second_path (x ∷ xs) [] plain also name = rw (plain, plain) refl
second_path (x ∷ xs) (y ∷ ys) plain also name = rw (plain, plain, also, also) refl

-- Clap's definition of plain words holds of the words that the program takes.
pub plain_words : PlainWords
unfolding clap_on_literals
plain_words = record {
  nothing = (λ name. refl, λ name. refl);
  solve = (λ name. refl, λ name. refl);
  solve_cut = (λ name. refl, λ name. refl);
  solve_brief = (λ name. refl, λ name. refl);
  solve_any = (λ name. refl, λ name. refl);
  solve_progress = (λ name. refl, λ name. refl);
  solve_all = (λ name. refl, λ name. refl);
  solve_turned = (λ name. refl, λ name. refl);
  session = session;
  session_cut = session_cut;
  cut_behind = cut_behind;
  check = check;
  vital = (λ name. refl, λ name. refl);
  vital_progress = (λ name. refl, λ name. refl);
  vital_nodes = (λ name. refl, λ name. refl);
  vital_both = (λ name. refl, λ name. refl);
  vital_second = (λ name. refl, λ name. refl);
  vital_worst = (λ name. refl, λ name. refl);
  vital_worst_nodes = (λ name. refl, λ name. refl);
  vital_worst_pairs = (λ name. refl, λ name. refl);
  no_path = (λ name. refl, λ name. refl);
  solve_path = solve_path;
  vital_path = vital_path;
  second_path = second_path;
  misplaced_option = λ rest. (λ n. refl, (λ n. refl, (λ n. refl, (λ n. refl, (λ n. refl, (λ n. refl, (λ n. refl, (λ n. refl, (λ n. refl, tt)))))))));
  strange_option = λ word. (λ n. refl, (λ n. refl, (λ n. refl, (λ n. refl, (λ n. refl, (λ n. refl, (λ n. refl, (λ n. refl, (λ n. refl, (λ n. refl, (λ n. refl, (λ n. refl, (λ n. refl, (λ n. refl, (λ n. refl, (λ n. refl, (λ n. refl, (λ n. refl, (λ n. refl, (λ n. refl, (λ n. refl, (λ n. refl, (λ n. refl, tt)))))))))))))))))))))));
  second_option = λ word. (λ n. refl, (λ n. refl, (λ n. refl, (λ n. refl, (λ n. refl, (λ n. refl, (λ n. refl, (λ n. refl, (λ n. refl, (λ n. refl, (λ n. refl, tt)))))))))));
  no_command = no_command;
  help = λ rest. (λ n. refl, (λ n. refl, (λ n. refl, (λ n. refl, (λ n. refl, tt)))));
  help_of = λ rest name. refl;
  version = λ rest name. refl;
}
