use Rattle.std.proofs.Common.{◌≡◌, ◌∷◌, [], List, Some, map, sym, ap, ◌∙◌, subst}
use Rattle.play_model.specs.declared.play.Play.{Play}
use Rattle.roll_run.specs.Histories.{Gains}
use Rattle.roll_run.specs.Journals.{AreKept, ends_of}
use Rattle.roll_run.specs.Plays.{AreRuns}
use Rattle.roll_run.specs.declared.run.Run.{Run}
use Rattle.roll_run.proofs.Following.{ok_of, the_last, the_run}
use Rattle.roll_run.proofs.play.run_play.Goals as goal

pub returns-in-Some-clause-kept : goal.returns-in-Some-clause-kept
returns-in-Some-clause-kept g c =
    let may = g.R.Runner.may c.args.runner.now in
    let fleet = c.args.fleet.now in
    let statuses = c.args.start.statuses.items in
    let vars = c.args.start.vars.items in
    let runs : List Run = c.in-Ok.runs.items in
    let run : Run = c.in-Some.run' in
    let are = ok_of _ c.run_plays-ran.result.0 c.in-Ok.runs c.in-Ok.is c.run_plays-ran.ensures.ok in
    let kept = ok_of _ c.run_plays-ran.result.0 c.in-Ok.runs c.in-Ok.is c.run_plays-ran.ensures.kept in
    let one = the_run may fleet c.args.forks c.args.play.now statuses vars runs are.logs
    (subst (λ (l : List Play). AreRuns may fleet c.args.forks l statuses vars runs are.logs) c.from_ref.ensures.value are.are) in
    let runs_are : runs ≡ run ∷ [] = one.1 ∙ ap (λ (r : Run). r ∷ []) (the_last c.pop.new.self.items run one.0 (sym c.in-Some.ensures.items ∙ one.1)) in
    subst (λ (l : List Run). Gains c.args.history c.run_plays-ran.result.1 (AreKept g.K.Recorder.keeps fleet c.args.keeper c.run_plays-ran.result.2 (map Some (ends_of l)))) runs_are kept
