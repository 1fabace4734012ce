use Rattle.std.proofs.lemmas.Result.{on_ok_weaker}
use Rattle.playbook_schema.specs.Faults.{key_name}
use Rattle.playbook_schema.specs.Places.{path_at, spot_of}
use Rattle.playbook_schema.proofs.AddLaws.{adds_silent}
use Rattle.play_read.proofs.Readings.{added_is_condition}
use Rattle.play_read.proofs.conditions.join_text.Goals as goal

pub returns-in-Some-clause-found : goal.returns-in-Some-clause-found
returns-in-Some-clause-found c =
    let bad = rw c.in-Some.is at c.in_ok-flaw.ensures in
    c.add_condition.ensures c.args.text.now bad.1 bad.0 bad.2

pub returns-in-None-clause-found : goal.returns-in-None-clause-found
returns-in-None-clause-found c =
    let added = rw c.in-None.is at c.in_ok-flaw.ensures in
    adds_silent (path_at c.args.place) c.args.faults.now (spot_of c.args.place) (key_name c.args.key) c.args.text.now (added_is_condition c.args.text.now _ _ added)

pub returns-in-Some-clause-says : goal.returns-in-Some-clause-says
returns-in-Some-clause-says c =
    let bad = rw c.in-Some.is at c.in_ok-flaw.ensures in
    on_ok_weaker c.add_condition.result (λ added condition. absurd (bad.2 condition)) (c.add_condition.ensures c.args.text.now bad.1 bad.0 bad.2)

pub returns-in-None-clause-says : goal.returns-in-None-clause-says
returns-in-None-clause-says c = λ condition. rw c.in-None.is at c.in_ok-flaw.ensures
