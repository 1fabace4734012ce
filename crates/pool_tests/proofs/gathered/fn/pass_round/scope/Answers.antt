use Rattle.std.proofs.Common.{◌≡◌, ◌+◌, ◌∙◌, ap, rules}
use Rattle.std.specs.declared.thread.PromisedHandle.{PromisedHandle}
use Rattle.std.proofs.lemmas.List.Elements.{All-push}
use Rattle.ticket_channel.specs.Ends.{line_of}
use Rattle.ticket_channel.specs.declared.channel_receiver.ChannelReceiver.{ChannelReceiver}
use Rattle.pool_tests.specs.declared.gathered.Slip.{Slip}
use Rattle.pool_tests.specs.declared.gathered.SameLine.{SameLine}
use Rattle.pool_tests.proofs.gathered.fn.pass_round.scope.Goals as goal

pub loop-end-preserved : goal.loop-end-preserved
loop-end-preserved g c =
    let was = c.loop-end.invariant in
    let step = c.in-Some.ensures.steps in
    let OfLine : PromisedHandle (ChannelReceiver Slip) SameLine → Type 0 = λ worker. worker.promise.given.value.line ≡ line_of c.front.inside.pass in
    let first : c.in-Some.end.line ≡ line_of c.front.inside.pass = let h = was.2 0 c.in-Some.end in grind rules in
    let given = ap (λ (promise : SameLine). promise.given.value.line) c.in_ok-spawn_with.ensures.ok in
    let started = All-push OfLine c.loop-end.started.items c.in_ok-spawn_with.field-0 was.1 (given ∙ ap (λ (end : ChannelReceiver Slip). end.line) c.of.ensures ∙ first) in
    (grind rules, rw c.in_ok-push.ensures.items started, λ k d below. let h = was.2 (k + 1) d in grind rules)
