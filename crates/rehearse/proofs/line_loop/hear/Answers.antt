use Rattle.std.proofs.Common.{ℕ, List, refl, sym, subst}
use Rattle.bounded_io.proofs.WritingLemmas.{writes_none}
use Rattle.rehearse.specs.Tellings.{telling_of}
use Rattle.rehearse.proofs.FlowLemmas.{breaks_off, goes_on}
use Rattle.rehearse.proofs.HearingLemmas.{Hearing, begins_hearing, hears_end, hears_line, hears_no_line, hears_no_rest}
use Rattle.rehearse.proofs.line_loop.hear.Goals as goal

pub loop-front-init : goal.loop-front-init
loop-front-init g c =
    begins_hearing g.W.Write.contents c.args.history.now c.args.line.now.items c.args.bytes.now c.args.text.now c.requires

pub returns-in-Err-clause-err : goal.returns-in-Err-clause-err
returns-in-Err-clause-err g c =
    hears_no_line _ _ _ _ _ _ _ _ _ _ _ c.loop-front.invariant c.in-Some.front.now c.in-Some.behind.now c.in-Err.fault c.in-Some.ensures.cut c.in-Err.ensures.err c.in-Err.ensures.unchanged c.in-Err.ensures.silent

pub returns-in-Ok-Break-clause-hears : goal.returns-in-Ok-Break-clause-hears
returns-in-Ok-Break-clause-hears g c =
    hears_end _ _ _ _ _ _ _ _ _ _ _ c.loop-front.invariant c.in-Some.front.now c.in-Some.behind.now _ c.in-Some.ensures.cut c.in-Ok-Break.ensures.within
    (breaks_off c.in-Ok-Break.field-0 _ _ c.in-Ok-Break.field-0-is c.in-Ok-Break.ensures.flow) c.in-Ok-Break.ensures.answers c.in-Ok-Break.ensures.writes

pub loop-front-preserved : goal.loop-front-preserved
loop-front-preserved g c =
    subst
    (λ (now : List ℕ). Hearing g.W.Write.contents (telling_of c.args.form) c.args.history.now c.args.line.now.items c.args.bytes.now c.in-Some.behind.now now c.end_line.new.history c.args.text.now c.end_line.new.text)
    (sym c.in-Ok-Continue.ensures.next)
    (hears_line _ _ _ _ _ _ _ _ _ _ _ c.loop-front.invariant c.in-Some.front.now c.in-Some.behind.now _ c.in-Some.ensures.cut c.in-Ok-Continue.ensures.within
    (goes_on c.in-Ok-Continue.field-0 _ _ c.in-Ok-Continue.field-0-is c.in-Ok-Continue.ensures.flow)
    c.in-Ok-Continue.ensures.answers c.in-Ok-Continue.ensures.writes)

pub returns-in-Err-grow-clause-err : goal.returns-in-Err-grow-clause-err
returns-in-Err-grow-clause-err g c =
    hears_no_rest _ _ _ _ _ _ _ _ _ _ _ c.loop-front.invariant c.in-Err-grow.fault c.in_default.ensures.cut c.in-Err-grow.ensures.err refl (writes_none g.W.Write.contents c.loop-front.text)
