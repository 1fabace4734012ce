use Rattle.std.proofs.Common.{◌||◌, None, Bool, cond, take, ap, ◌∙◌}
use Rattle.group_tree.specs.Names.{Name}
use Rattle.play_model.specs.Registers.{stands_in}
use Rattle.play_model.specs.Results.{result_of}
use Rattle.play_model.proofs.BeginLemmas.{name_more}
use Rattle.play_model.proofs.results.Results.take_all.Goals as goal

pub loop-name-preserved : goal.loop-name-preserved
loop-name-preserved c =
    let names = c.args.names.now in
    let i = c.loop-name.name-index in
    record {
      places = λ other has. c.in_ok-take.ensures.places other (c.loop-name.invariant.places other has);
      results =
          λ taken begins other.
          let before : Name → Bool = λ o. stands_in o (take i names) || taken o in
          let more = name_more names i c.name-item.result c.as_str.result.now other (taken other) c.loop-name-test.true c.name-item.is c.as_str.ensures.value in
          c.in_ok-take.ensures.results before (c.loop-name.invariant.results taken begins) other
          ∙ ap (λ (b : Bool). cond b (result_of c.args.from.now other) None) more;
    }
