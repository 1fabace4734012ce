use Rattle.command_preview.specs.Inside.{views_of}
use Rattle.command_preview.proofs.Texts.{few_plays, sent_err, sent_ok}
use Rattle.command_preview.proofs.printing.words_text.Goals as goal

pub tell-requires-clause-few : goal.tell-requires-clause-few
tell-requires-clause-few g c = few_plays c.args.playbook.now c.in-Ok.inputs.plays.items c.in-Ok.ensures.ok.says.reads

pub returns-clause-ok : goal.returns-clause-ok
returns-clause-ok g c =
    sent_ok c.args.inventory.now c.args.playbook.now c.in-Ok.inputs.fleet (views_of c.in-Ok.inputs.vars.items) c.in-Ok.inputs.plays.items c.in-Ok.ensures.ok
    (g.W.Write.contents c.args.out.now) (g.W.Write.contents c.tell.new.out) c.tell.result c.tell.ensures

pub returns-clause-err : goal.returns-clause-err
returns-clause-err g c =
    sent_err c.args.inventory.now c.args.playbook.now c.in-Ok.inputs.fleet (views_of c.in-Ok.inputs.vars.items) c.in-Ok.inputs.plays.items c.in-Ok.ensures.ok
    (g.W.Write.contents c.args.out.now) (g.W.Write.contents c.tell.new.out) c.tell.result c.tell.ensures
