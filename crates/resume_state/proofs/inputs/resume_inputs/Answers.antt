use Rattle.domains.specs.Ids.{host_numbers}
use Rattle.journal.specs.Shown.{shown_journal}
use Rattle.resume_state.proofs.InputLemmas.{all_err, all_ok, on_refused, own_refused, resumes_with}
use Rattle.resume_state.proofs.StartLemmas.{all_kept}
use Rattle.resume_state.proofs.inputs.resume_inputs.Goals as goal

pub returns-in-Err-read_own-clause-err : goal.returns-in-Err-read_own-clause-err
returns-in-Err-read_own-clause-err c =
    let inputs = c.in-Ok.inputs in
    let are = c.in-Ok.ensures.ok in
    own_refused c.args.inventory.now c.args.playbook.now c.args.wish.journal.now c.args.wish.mended.now c.args.wish.takes_others inputs.fleet inputs.start.vars.items inputs.plays.items
    are.hosts are.says (host_numbers c.in-Ok-mended_hosts.mended.items) c.in-Ok-mended_hosts.ensures.ok c.in-Err-read_own.fault c.in-Err-read_own.ensures.err

pub resume-requires-clause-all : goal.resume-requires-clause-all
resume-requires-clause-all c =
    let reads = c.in-Ok-read_own.ensures.ok.reads in
    all_kept c.in-Ok.inputs.fleet reads.entries (shown_journal c.in-Ok-read_own.journal) reads.leads

pub returns-clause-err : goal.returns-clause-err
returns-clause-err c =
    let inputs = c.in-Ok.inputs in
    let are = c.in-Ok.ensures.ok in
    all_err c.resume.result
    (on_refused c.args.inventory.now c.args.playbook.now c.args.wish.journal.now c.args.wish.mended.now c.args.wish.takes_others inputs.fleet inputs.start.vars.items inputs.plays.items
    are.hosts are.says (host_numbers c.in-Ok-mended_hosts.mended.items) c.in-Ok-mended_hosts.ensures.ok (shown_journal c.in-Ok-read_own.journal) c.in-Ok-read_own.ensures.ok)
    c.resume.ensures.err

pub returns-clause-ok : goal.returns-clause-ok
returns-clause-ok c =
    let inputs = c.in-Ok.inputs in
    let are = c.in-Ok.ensures.ok in
    all_ok c.resume.result
    (resumes_with c.args.inventory.now c.args.playbook.now c.args.wish.mended.now inputs.fleet inputs.start.vars.items inputs.plays.items are.hosts are.says
    (host_numbers c.in-Ok-mended_hosts.mended.items) c.in-Ok-mended_hosts.ensures.ok c.args.wish.journal.now c.args.wish.takes_others (shown_journal c.in-Ok-read_own.journal)
    c.in-Ok-read_own.ensures.ok)
    c.resume.ensures.ok
