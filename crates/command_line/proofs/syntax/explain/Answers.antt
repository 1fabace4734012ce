-- Each argument is one rule more, and none is for the commands below.
use Rattle.std.proofs.Common.{◌≡◌, ◌||◌, Bool, false, codes, ap, ap₂, ◌∙◌}
use Rattle.std.proofs.lemmas.Result.{IfOk-weaker}
use Rattle.clap.specs.Words.{App, app_of, new_app, with_rule}
use Rattle.clap.specs.Simple.{app_of_fields}
use Rattle.clap.specs.declared.builder.command.Command.{Command}
use Rattle.clap.specs.declared.builder.command.Command.TheOpen.{Command-F}
use Rattle.clap.specs.declared.builder.command.Command.TheViews.{out-Command as fields_of}
use Rattle.command_line.proofs.syntax.explain.Goals as goal

pub returns-clause-app : goal.returns-clause-app
returns-clause-app c =
    let new : App = new_app (codes "explain") in
    let described : app_of c.about.result ≡ new = ap app_of_fields c.about.ensures ∙ c.new.ensures.app in
    IfOk-weaker c.arg.result _ _ (λ r h. h.shape c.topic.ensures.local ∙ ap₂ with_rule described c.topic.ensures.rule) c.arg.ensures

pub returns-clause-local : goal.returns-clause-local
returns-clause-local c =
    let described : (fields_of c.about.result).has_globals ≡ false = ap (λ (f : Command-F Command). f.has_globals) c.about.ensures ∙ c.new.ensures.local in
    IfOk-weaker c.arg.result _ _ (λ r h. h.globals ∙ ap₂ (λ (a b : Bool). a || b) described c.topic.ensures.local) c.arg.ensures
