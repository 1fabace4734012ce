use Rattle.std.proofs.Common.{◌≡◌, Bool, false, sym, ap, ◌∙◌}
use Rattle.std.proofs.Math.Path.{fun_ext}
use Rattle.group_tree.specs.Names.{Name}
use Rattle.result_dependencies.specs.Registers.{is_registered_by}
use Rattle.step_lints.specs.Differing.{name_differs, varied_after}
use Rattle.step_lints.specs.Hosts.{are_several}
use Rattle.step_lints.specs.Inside.{has_name, varies_in}
use Rattle.step_lints.specs.declared.registered.Registered.{Registered}
use Rattle.step_lints.proofs.differing.Results.of.Goals as goal

pub returns : goal.returns
returns c =
    let several = are_several c.args.lacks.now.waiting.now in
    let varies = varies_in c.args.lacks.now in
    let steps = c.args.steps.now in
    let listed : has_name c.in_ok-list_own.field-0 ≡ is_registered_by steps = fun_ext c.in_ok-list_own.ensures in
    let none : has_name c.new.result ≡ (λ name. false) = fun_ext c.new.ensures in
    let own : has_name c.add_all.new.self.own ≡ is_registered_by steps = ap (λ (r : Registered). has_name r) c.in_ok-add_all.ensures.own ∙ listed in
    let varied : has_name c.add_all.new.self.varied ≡ varied_after several (is_registered_by steps) varies (λ name. false) steps =
    fun_ext c.in_ok-add_all.ensures.varied
    ∙ ap (λ (o : Name → Bool). varied_after several o varies (has_name c.new.result) steps) listed
    ∙ ap (λ (v : Name → Bool). varied_after several (is_registered_by steps) varies v steps) none in
    λ name. ap (λ (o : Name → Bool). name_differs o (has_name c.add_all.new.self.varied) varies name) own
    ∙ ap (λ (v : Name → Bool). name_differs (is_registered_by steps) v varies name) varied
