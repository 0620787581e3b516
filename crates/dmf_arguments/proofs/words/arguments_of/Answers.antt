use Rattle.std.proofs.Common.{ap, ◌≡◌, ◌∙◌, Bool, Option, Some, ℕ, codes, sym}
use Rattle.std.proofs.lemmas.Result.{err_from_is_err_and}
use Rattle.clap.specs.Words.{Text, found_of, rows_of, subcommand_rows_of}
use Rattle.clap.specs.Values.{bool_text}
use Rattle.clap.proofs.WalkLemmas.{first_value-rows, one_text-rows}
use Rattle.dmf_arguments.specs.CommandLine.{asked_of}
use Rattle.dmf_arguments.specs.Words.{IsMost, checking, parts_of, valuing}
use Rattle.dmf_arguments.proofs.Reading.{AskedRows, same-holding, same-parts, same-solving, asked_rows, flag_reads, most_reads}
use Rattle.dmf_arguments.proofs.words.arguments_of.Goals as goal
use Rattle.dmf_arguments.proofs.words.arguments_of.Goals.{After-parts_of}

-- a session was asked for
pub returns-in_ok-path_of-in-Some-session-default-clause-session : goal.returns-in_ok-path_of-in-Some-session-default-clause-session
returns-in_ok-path_of-in-Some-session-default-clause-session c = λ cut brief progress any nodes pairs second worst text bound path is writes.
    let found = found_of c.in-Some-session-default.session.now in
    let both = asked_rows (subcommand_rows_of c.args.matches.now) (rows_of found) _ _ _ _ _ _ _ _ _ _ _ c.in-Some-session-default.ensures.rows is in
    same-holding
    (flag_reads cut c.get_flag-in-Some-session-default-2.result _ c.get_flag-in-Some-session-default-2.ensures.value
    c.get_flag-in-Some-session-default-2.ensures.other (one_text-rows found (codes "cut") ∙ both.flag_is))
    (flag_reads brief c.get_flag-in-Some-session-default.result _ c.get_flag-in-Some-session-default.ensures.value
    c.get_flag-in-Some-session-default.ensures.other (one_text-rows found (codes "brief") ∙ both.brief_is))
    (flag_reads progress c.get_flag.result _ c.get_flag.ensures.value c.get_flag.ensures.other
    (one_text-rows found (codes "progress") ∙ both.progress_is))
    (c.bound_of.ensures.value text bound (one_text-rows found (codes "history") ∙ both.bound_is) writes)
    (c.in_ok-path_of-in-Some-session-default.ensures path (first_value-rows found (codes "problem") ∙ both.path_is))

-- checking was asked for
pub returns-in_ok-path_of-in-Some-check-default-clause-check : goal.returns-in_ok-path_of-in-Some-check-default-clause-check
returns-in_ok-path_of-in-Some-check-default-clause-check c = λ cut brief any nodes pairs progress second text worst path is.
    let found = found_of c.in-Some-check-default.check.now in
    let both = asked_rows (subcommand_rows_of c.args.matches.now) (rows_of found) _ _ _ _ _ _ _ _ _ _ _ c.in-Some-check-default.ensures.rows is in
    ap checking (c.in_ok-path_of-in-Some-check-default.ensures path (first_value-rows found (codes "problem") ∙ both.path_is))

-- What was asked of `vital` is what its options say.
vital-rows : (c : After-parts_of) (nodes pairs progress second : Bool) (cut brief any text worst path : Option Text) → asked_of (subcommand_rows_of c.args.matches.now)
    ≡ Some (record {
      command = codes "vital";
      cut = cut;
      brief = brief;
      any = any;
      nodes = Some (bool_text nodes);
      pairs = Some (bool_text pairs);
      progress = Some (bool_text progress);
      second = Some (bool_text second);
      history = text;
      worst = worst;
      problem = path;
    })
    → AskedRows (rows_of (found_of c.in-Some-vital-default.vital.now)) cut brief any (Some (bool_text nodes)) (Some (bool_text pairs))
    (Some (bool_text progress)) (Some (bool_text second)) text worst path
vital-rows c nodes pairs progress second cut brief any text worst path is =
    asked_rows (subcommand_rows_of c.args.matches.now) (rows_of (found_of c.in-Some-vital-default.vital.now)) _ _ _ _ _ _ _ _ _ _ _ c.in-Some-vital-default.ensures.rows is

-- The parts are those of its options.
vital-parts : (c : After-parts_of) (nodes pairs second : Bool) (worst : Option Text) (most : Option ℕ) {cut brief any progress text path : Option Text}
    → AskedRows (rows_of (found_of c.in-Some-vital-default.vital.now)) cut brief any (Some (bool_text nodes)) (Some (bool_text pairs)) progress (Some (bool_text second)) text worst path
    → IsMost worst most
    → parts_of second nodes pairs most ≡ parts_of c.get_flag-in-Some-vital-default-2.result c.get_flag-in-Some-vital-default-3.result
    c.get_flag-in-Some-vital-default-4.result c.worst_of.result
vital-parts c nodes pairs second worst most both writes =
    let found = found_of c.in-Some-vital-default.vital.now in
    sym (same-parts
    (flag_reads second c.get_flag-in-Some-vital-default-2.result _ c.get_flag-in-Some-vital-default-2.ensures.value
    c.get_flag-in-Some-vital-default-2.ensures.other (one_text-rows found (codes "second") ∙ both.second_is))
    (flag_reads nodes c.get_flag-in-Some-vital-default-3.result _ c.get_flag-in-Some-vital-default-3.ensures.value
    c.get_flag-in-Some-vital-default-3.ensures.other (one_text-rows found (codes "nodes") ∙ both.nodes_is))
    (flag_reads pairs c.get_flag-in-Some-vital-default-4.result _ c.get_flag-in-Some-vital-default-4.ensures.value
    c.get_flag-in-Some-vital-default-4.ensures.other (one_text-rows found (codes "pairs") ∙ both.pairs_is))
    (most_reads worst most c.worst_of.result (λ none. c.worst_of.ensures.all (one_text-rows found (codes "worst") ∙ both.worst_is ∙ none))
    (λ written bound is. c.worst_of.ensures.some written bound (one_text-rows found (codes "worst") ∙ both.worst_is ∙ is)) writes))

-- what is left without parts was asked for
pub returns-in_ok-parts_of-in-Some-vital-default-clause-vital : goal.returns-in_ok-parts_of-in-Some-vital-default-clause-vital
returns-in_ok-parts_of-in-Some-vital-default-clause-vital c = λ nodes pairs progress second cut brief any text worst path most is writes.
    let before = (goal.at.returns-in_ok-parts_of-in-Some-vital-default-clause-vital c).After-parts_of in
    let both = vital-rows before nodes pairs progress second cut brief any text worst path is in
    rw (vital-parts before nodes pairs second worst most both writes ∙ c.in_ok-parts_of-in-Some-vital-default.ensures)
    (ap (valuing c.in_ok-parts_of-in-Some-vital-default.field-0)
    (flag_reads progress c.get_flag-in-Some-vital-default.result _ c.get_flag-in-Some-vital-default.ensures.value c.get_flag-in-Some-vital-default.ensures.other
    (one_text-rows (found_of c.in-Some-vital-default.vital.now) (codes "progress") ∙ both.progress_is)))

-- parts that are not given were asked for
pub returns-in_err-parts_of-in-Some-vital-default-clause-vital : goal.returns-in_err-parts_of-in-Some-vital-default-clause-vital
returns-in_err-parts_of-in-Some-vital-default-clause-vital c = λ nodes pairs progress second cut brief any text worst path most is writes.
    let before = (goal.at.returns-in_err-parts_of-in-Some-vital-default-clause-vital c).After-parts_of in
    let both = vital-rows before nodes pairs progress second cut brief any text worst path is in
    let refused = c.in_err-parts_of-in-Some-vital-default.ensures in
    let failed = err_from_is_err_and c.from_residual-in_err-parts_of-in-Some-vital-default.result c.from_residual-in_err-parts_of-in-Some-vital-default.ensures.1 in
    rw (vital-parts before nodes pairs second worst most both writes ∙ refused.0, failed.1, failed.2) refused.1

-- solving was asked for
pub returns-in-Some-clause-solve : goal.returns-in-Some-clause-solve
returns-in-Some-clause-solve c = λ cut brief any progress nodes pairs second text worst path is.
    let found = found_of c.in-Some.solve.now in
    let both = asked_rows (subcommand_rows_of c.args.matches.now) (rows_of found) _ _ _ _ _ _ _ _ _ _ _ c.in-Some.ensures.rows is in
    same-solving
    (flag_reads cut c.get_flag-in-Some-3.result _ c.get_flag-in-Some-3.ensures.value
    c.get_flag-in-Some-3.ensures.other (one_text-rows found (codes "cut") ∙ both.flag_is))
    (flag_reads brief c.get_flag-in-Some-2.result _ c.get_flag-in-Some-2.ensures.value c.get_flag-in-Some-2.ensures.other
    (one_text-rows found (codes "brief") ∙ both.brief_is))
    (flag_reads any c.get_flag-in-Some-4.result _ c.get_flag-in-Some-4.ensures.value c.get_flag-in-Some-4.ensures.other
    (one_text-rows found (codes "any") ∙ both.any_is))
    (flag_reads progress c.get_flag-in-Some.result _ c.get_flag-in-Some.ensures.value c.get_flag-in-Some.ensures.other
    (one_text-rows found (codes "progress") ∙ both.progress_is))
