-- Each argument is one rule more, and none is for the commands below.
use Rattle.std.proofs.Common.{◌≡◌, ◌||◌, Bool, false, codes, ap, ap₂, ◌∙◌}
use Rattle.std.proofs.lemmas.Result.{IfOk-weaker}
use Rattle.clap.specs.Words.{App, app_of, new_app, with_rule}
use Rattle.clap.specs.Simple.{app_of_fields}
use Rattle.clap.specs.declared.builder.command.Command.{Command}
use Rattle.clap.specs.declared.builder.command.Command.TheOpen.{Command-F}
use Rattle.clap.specs.declared.builder.command.Command.TheViews.{out-Command as fields_of}
use Rattle.command_line.specs.OptionsOf.{options_of}
use Rattle.command_line.specs.Syntax.{with_options}
use Rattle.command_line.proofs.syntax.state.Goals as goal

pub returns-clause-app : goal.returns-clause-app
returns-clause-app c =
    let new : App = new_app (codes "state") in
    let described : app_of c.about.result ≡ new = ap app_of_fields c.about.ensures ∙ c.new.ensures.app in
    let first = c.in_ok-arg.ensures.shape c.old_inventory.ensures.local ∙ ap₂ with_rule described c.old_inventory.ensures.rule in
    let second = c.in_ok-bare.ensures.shape c.journal.ensures.local ∙ ap₂ with_rule first c.journal.ensures.rule in
    IfOk-weaker c.with_options.result _ _ (λ r is. is ∙ ap (λ (app : App). with_options app (options_of (codes "state"))) second) c.with_options.ensures.app

pub returns-clause-local : goal.returns-clause-local
returns-clause-local c =
    let described : (fields_of c.about.result).has_globals ≡ false = ap (λ (f : Command-F Command). f.has_globals) c.about.ensures ∙ c.new.ensures.local in
    let first = c.in_ok-arg.ensures.globals ∙ ap₂ (λ (a b : Bool). a || b) described c.old_inventory.ensures.local in
    let second = c.in_ok-bare.ensures.globals ∙ ap₂ (λ (a b : Bool). a || b) first c.journal.ensures.local in
    IfOk-weaker c.with_options.result _ _ (λ r is. is ∙ second) c.with_options.ensures.local
