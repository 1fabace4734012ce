use Rattle.std.proofs.Common.{ℕ, Option, List, rules, subst}
use Rattle.std.specs.Prelude.{IfErr}
use Rattle.rehearse.specs.RehearseTexts.{IsTrueOfSession}
use Rattle.rehearse.specs.Tellings.{telling_of}
use Rattle.rehearse.proofs.OpeningLemmas.{same_reference, session_ends}
use Rattle.rehearse.proofs.session.hold_session.Goals as goal

pub returns-clause-ok : goal.returns-clause-ok
returns-clause-ok g c =
    let told = (session_ends (telling_of c.args.form) g.W.Write.contents (g.I.Input.is_reliable c.args.input.now) c.args.history.now _ _ _ _ _ c.new-text.result c.listen-heard.new.text c.listen-heard.result c.tell.result
    c.finish-sent.result c.new-text.ensures c.listen-heard.ensures.ok c.listen-heard.ensures.err c.finish-sent.ensures.finishes c.finish-sent.ensures.fault c.tell.ensures).0 in
    search (rules, told)

pub returns-clause-err : goal.returns-clause-err
returns-clause-err g c =
    let told = (session_ends (telling_of c.args.form) g.W.Write.contents (g.I.Input.is_reliable c.args.input.now) c.args.history.now _ _ _ _ _ c.new-text.result c.listen-heard.new.text c.listen-heard.result c.tell.result
    c.finish-sent.result c.new-text.ensures c.listen-heard.ensures.ok c.listen-heard.ensures.err c.finish-sent.ensures.finishes c.finish-sent.ensures.fault c.tell.ensures).1 in
    let same = same_reference (telling_of c.args.form) g.W.Write.contents (g.I.Input.is_reliable c.args.input.now) c.args.history.now _ _ _ c.new-text.result c.listen-heard.new.text c.listen-heard.result
    c.listen-heard.ensures.ok c.listen-heard.ensures.err in
    let Is : Option (List ℕ) → Type 0 = λ (new : Option (List ℕ)). IfErr c.tell.result
    (IsTrueOfSession (telling_of c.args.form) (g.I.Input.is_reliable c.args.input.now) c.args.history.now (g.I.Read.remaining c.args.input.now) (g.I.Read.remaining c.listen-heard.new.input) (g.W.Write.contents c.args.out.now) new) in
    subst Is (search (rules, same)) told
