use Rattle.std.proofs.Common.{◌≡◌, ◌<◌, ℕ, None, Option, List, ◌∷◌, length, get_or, subst, sym, ◌∙◌, arith}
use Rattle.std.specs.Prelude.{IfNone}
use Rattle.group_tree.specs.declared.ids.HostId.{HostId}
use Rattle.domains.specs.Ids.{host_numbers}
use Rattle.fleet_states.proofs.HostLemmas.{length-host_numbers, number_of_host}
use Rattle.plan_check.specs.Inside.{AreMarks}
use Rattle.plan_check.specs.PlanErrors.{wrong_host}
use Rattle.plan_check.specs.declared.wrong.Wrong.{Wrong}
use Rattle.plan_check.proofs.HostLemmas.{so_far, stood_more, wrong_here, wrong_later}
use Rattle.plan_check.proofs.hosts.wrong_hosts.Goals as goal

pub returns-in-Some-clause-wrong : goal.returns-in-Some-clause-wrong
returns-in-Some-clause-wrong c before marks =
    let hosts = c.args.hosts.now in
    let statuses = c.args.statuses.now in
    let xs : List ℕ = host_numbers hosts in
    let i = c.loop-host.host-index in
    let none : HostId = record { index = 0 } in
    let x = (get_or hosts i none).index in
    let inside : i < length xs = omega (arith, c.loop-host-test.true, length-host_numbers hosts) in
    let is : x ≡ get_or xs i 0 = sym (number_of_host hosts i none c.loop-host-test.true) in
    let told = c.loop-host.invariant.so_far before marks in
    let found = sym (c.wrong_host.ensures.wrong (so_far statuses c.args.batch before xs i x inside is) told.0) ∙ c.in-Some.is in
    sym (told.1 ∙ wrong_here statuses c.args.batch before xs i x inside is c.in-Some.wrong found)

pub loop-host-preserved : goal.loop-host-preserved
loop-host-preserved c =
    record {
      len = c.wrong_host.ensures.len ∙ c.loop-host.invariant.len;
      so_far = λ before marks. let hosts = c.args.hosts.now in
          let statuses = c.args.statuses.now in
          let xs : List ℕ = host_numbers hosts in
          let i = c.loop-host.host-index in
          let none : HostId = record { index = 0 } in
          let x = (get_or hosts i none).index in
          let inside : i < length xs = omega (arith, c.loop-host-test.true, length-host_numbers hosts) in
          let is : x ≡ get_or xs i 0 = sym (number_of_host hosts i none c.loop-host-test.true) in
          let told = c.loop-host.invariant.so_far before marks in
          let stood = so_far statuses c.args.batch before xs i x inside is in
          let fine : wrong_host statuses c.args.batch stood x ≡ None = sym (c.wrong_host.ensures.wrong stood told.0) ∙ c.in_default.is in
          let Marks : Option Wrong → Type 0 = λ o. IfNone o ((earlier : List ℕ) → AreMarks c.loop-host.stood earlier → AreMarks c.wrong_host.new.stood (x ∷ earlier)) in
          let marked = subst Marks c.in_default.is c.wrong_host.ensures.marked in
          let more = stood_more statuses c.args.batch before xs i x inside is in (
            subst (λ (l : List ℕ). AreMarks c.wrong_host.new.stood l) more (marked stood told.0),
            told.1 ∙ wrong_later statuses c.args.batch before xs i x inside is fine,
          );
    }
