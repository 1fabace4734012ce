-- Each builder changes the settings that a parse reads, or none of them.
use Rattle.std.proofs.Common.{◌≡◌, true, codes, ap, ap₂, ◌∙◌}
use Rattle.std.proofs.lemmas.Result.{IfOk-weaker}
use Rattle.clap.specs.Words.{App, app_of, new_app, with_subcommand}
use Rattle.clap.specs.Simple.{app_of_fields, on_top}
use Rattle.command_line.proofs.syntax.rollout.Goals as goal

abbrev with_version : App → App
with_version = on_top (λ s. record s { has_version = true })

abbrev without_name : App → App
without_name = on_top (λ s. record s { no_binary_name = true })

abbrev with_command : App → App
with_command = on_top (λ s. record s { subcommand_required = true })

pub returns : goal.returns
returns c =
    let new : App = new_app (codes "rollout") in
    let named : app_of c.in_ok-bin_name.field-0 ≡ new = ap app_of_fields c.in_ok-bin_name.ensures.0 ∙ c.new.ensures.app in
    let versioned : app_of c.version.result ≡ with_version new = ap app_of_fields c.version.ensures ∙ ap with_version named in
    let described : app_of c.after_help.result ≡ with_version new = ap app_of_fields c.after_help.ensures ∙ ap app_of_fields c.about.ensures ∙ versioned in
    let unnamed : app_of c.no_binary_name.result ≡ without_name (with_version new) = ap app_of_fields c.no_binary_name.ensures ∙ ap without_name described in
    let required : app_of c.subcommand_required.result ≡ with_command (without_name (with_version new)) = ap app_of_fields c.subcommand_required.ensures ∙ ap with_command unnamed in
    let below = ap (λ (app : App). app.top) c.in_ok-limits.ensures.app in
    let first = c.in_ok-subcommand.ensures.shape c.in_ok-limits.ensures.local ∙ ap₂ with_subcommand required below in
    let beside = ap (λ (app : App). app.top) c.in_ok-plan.ensures.app in
    let second = c.in_ok-subcommand-2.ensures.shape c.in_ok-plan.ensures.local ∙ ap₂ with_subcommand first beside in
    let running = ap (λ (app : App). app.top) c.in_ok-run.ensures.app in
    let third = c.in_ok-subcommand-3.ensures.shape c.in_ok-run.ensures.local ∙ ap₂ with_subcommand second running in
    let rehearsing = ap (λ (app : App). app.top) c.in_ok-rehearse.ensures.app in
    let fourth = c.in_ok-subcommand-4.ensures.shape c.in_ok-rehearse.ensures.local ∙ ap₂ with_subcommand third rehearsing in
    let standing = ap (λ (app : App). app.top) c.in_ok-state.ensures.app in
    let fifth = c.in_ok-subcommand-5.ensures.shape c.in_ok-state.ensures.local ∙ ap₂ with_subcommand fourth standing in
    let checking = ap (λ (app : App). app.top) c.in_ok-check.ensures.app in
    let sixth = c.in_ok-subcommand-6.ensures.shape c.in_ok-check.ensures.local ∙ ap₂ with_subcommand fifth checking in
    let noting = ap (λ (app : App). app.top) c.in_ok-lint.ensures.app in
    let seventh = c.in_ok-subcommand-7.ensures.shape c.in_ok-lint.ensures.local ∙ ap₂ with_subcommand sixth noting in
    let last = ap (λ (app : App). app.top) c.in_ok-explain.ensures.app in
    IfOk-weaker c.subcommand-8.result _ _ (λ r h. h.shape c.in_ok-explain.ensures.local ∙ ap₂ with_subcommand seventh last) c.subcommand-8.ensures
