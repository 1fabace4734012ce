use Rattle.std.proofs.Common.{◌≡◌, ◌<◌, ℕ, suc, List, ◌∷◌, drop, drop-cons, length, None, refl, sym, ap, ◌∙◌, subst, arith}
use Rattle.std.specs.Prelude.{option_map}
use Rattle.domains.specs.Ids.{host_numbers}
use Rattle.play_model.specs.declared.play.Play.{Play}
use Rattle.journal.specs.Shown.{shown_journal}
use Rattle.journal.specs.States.{JournalState, is_under_way, resumes}
use Rattle.resume_state.specs.Debts.{OweAmong}
use Rattle.resume_state.specs.Resumptions.{RefusesToGoOn, needed_again}
use Rattle.resume_state.proofs.InputLemmas.{known_at}
use Rattle.resume_state.proofs.StartLemmas.{goes_on_with, needed_so, over_refused, passed_on, ready}
use Rattle.resume_state.proofs.inputs.resume.Goals as goal

pub start_play-requires : goal.start_play-requires
start_play-requires c =
    let plays : List Play = c.args.plays.items in
    let before : ℕ = c.plays_before-before.result in
    let first : Play = c.index.result.now in
    let some : before < length plays = omega (arith, c.if-before-len.false, c.len-2.ensures) in
    let parts : drop before plays ≡ first ∷ drop (suc before) plays = drop-cons plays before first some ∙ ap (λ (play : Play). play ∷ drop (suc before) plays) (sym c.index.ensures) in
    record { known = known_at c.args.fleet before plays first (drop (suc before) plays) parts c.requires.known }

pub returns-in_err-refuse_over-clause-err : goal.returns-in_err-refuse_over-clause-err
returns-in_err-refuse_over-clause-err c =
    let plays : List Play = c.args.plays.items in
    let before : ℕ = c.plays_before-before.result in
    let first : Play = c.index.result.now in
    let hosts : List ℕ = host_numbers c.args.mended.items in
    let state : JournalState = shown_journal c.args.journal in
    let some : before < length plays = omega (arith, c.if-before-len.false, c.len-2.ensures) in
    let parts : drop before plays ≡ first ∷ drop (suc before) plays = drop-cons plays before first some ∙ ap (λ (play : Play). play ∷ drop (suc before) plays) (sym c.index.ensures) in
    let on = goes_on_with c.args.fleet plays hosts state (shown_journal c.in_ok-journal.journal) (c.in_ok-journal.ensures ∙ ap (λ l. resumes state (host_numbers l)) c.as_slice.ensures.value)
    before c.plays_before-before.ensures first (drop (suc before) plays) parts c.in_ok-statuses.statuses.items c.in_ok-statuses.ensures in
    let nothing : needed_again plays (resumes state hosts) ≡ None =
    sym (c.in_ok-name.ensures ∙ needed_so plays c.as_slice-2.result.now hosts state (shown_journal c.in_ok-journal.journal) (c.in_ok-journal.ensures ∙ ap (λ l. resumes state (host_numbers l)) c.as_slice.ensures.value)
    before c.plays_before-before.ensures c.has_updated.result c.has_updated.ensures c.as_slice-2.ensures.value) ∙ ap (option_map (λ name. name.now)) c.in_default.is in
    let why = c.in_err-refuse_over.field-0.0 in
    passed_on c.from_residual-in_err-refuse_over.result why (RefusesToGoOn c.args.fleet plays hosts state) c.from_residual-in_err-refuse_over.ensures.1
    (over_refused c.args.fleet plays hosts state before first (drop (suc before) plays) c.in_ok-statuses.statuses.items on nothing why (rw c.as_slice-4.ensures.value at c.in_err-refuse_over.ensures.err))

pub returns-clause-ok : goal.returns-clause-ok
returns-clause-ok c =
    let plays : List Play = c.args.plays.items in
    let before : ℕ = c.plays_before-before.result in
    let first : Play = c.index.result.now in
    let hosts : List ℕ = host_numbers c.args.mended.items in
    let state : JournalState = shown_journal c.args.journal in
    let some : before < length plays = omega (arith, c.if-before-len.false, c.len-2.ensures) in
    let parts : drop before plays ≡ first ∷ drop (suc before) plays = drop-cons plays before first some ∙ ap (λ (play : Play). play ∷ drop (suc before) plays) (sym c.index.ensures) in
    let said : shown_journal c.in_ok-journal.journal ≡ resumes state hosts = c.in_ok-journal.ensures ∙ ap (λ l. resumes state (host_numbers l)) c.as_slice.ensures.value in
    let owing : host_numbers c.as_slice-3.result.now ≡ (resumes state hosts).owing = ap host_numbers c.as_slice-3.ensures.value ∙ ap (λ (s : JournalState). s.owing) said in
    record {
      fleet_is = refl;
      plays_are = refl;
      owe = subst (λ (owing : List ℕ). OweAmong owing c.args.vars.items c.with_debts-vars.result.items) owing c.with_debts-vars.ensures;
      mended_are = refl;
      goes = c.is_under_way-goes_on.ensures ∙ ap is_under_way said;
      first = first;
      later = drop (suc before) plays;
      on = goes_on_with c.args.fleet plays hosts state (shown_journal c.in_ok-journal.journal) said before c.plays_before-before.ensures first (drop (suc before) plays) parts
          c.in_ok-statuses.statuses.items c.in_ok-statuses.ensures;
      many = omega (arith, c.if-len-from.false, c.len.ensures, c.from.ensures) ∙ c.plays.ensures;
      nothing = sym (c.in_ok-name.ensures ∙ needed_so plays c.as_slice-2.result.now hosts state (shown_journal c.in_ok-journal.journal) said
          before c.plays_before-before.ensures c.has_updated.result c.has_updated.ensures c.as_slice-2.ensures.value) ∙ ap (option_map (λ name. name.now)) c.in_default.is;
    }

pub returns-clause-can : goal.returns-clause-can
returns-clause-can c =
    let plays : List Play = c.args.plays.items in
    let before : ℕ = c.plays_before-before.result in
    let first : Play = c.index.result.now in
    let hosts : List ℕ = host_numbers c.args.mended.items in
    let state : JournalState = shown_journal c.args.journal in
    let some : before < length plays = omega (arith, c.if-before-len.false, c.len-2.ensures) in
    let parts : drop before plays ≡ first ∷ drop (suc before) plays = drop-cons plays before first some ∙ ap (λ (play : Play). play ∷ drop (suc before) plays) (sym c.index.ensures) in
    let on = goes_on_with c.args.fleet plays hosts state (shown_journal c.in_ok-journal.journal) (c.in_ok-journal.ensures ∙ ap (λ l. resumes state (host_numbers l)) c.as_slice.ensures.value)
    before c.plays_before-before.ensures first (drop (suc before) plays) parts c.in_ok-statuses.statuses.items c.in_ok-statuses.ensures in
    record {
      play = some;
      known = c.requires.known;
      starts = record {
        ready = ready c.args.fleet plays hosts state before first (drop (suc before) plays) c.in_ok-statuses.statuses.items on c.requires.all (rw c.as_slice-4.ensures.value at c.in_ok-refuse_over.ensures.ok);
        each = c.with_debts-vars.ensures.all ∙ c.requires.each;
      };
    }
