-- Hearing lines one after the other.
use Rattle.std.proofs.Common.{◌≡◌, ℕ, ◌+◌, ◌<◌, ◌≤◌, true, false, None, Some, Option, List, [], ◌∷◌, ◌++◌, length, take, drop, sym, refl, ap, ◌∙◌, subst, arith, append_assoc, append-nil, length-append, length-take}
use Rattle.bounded_io.specs.Writing.{Writes}
use Rattle.bounded_io.specs.declared.text_writer.TextWriter.{TextWriter}
use Rattle.bounded_io.proofs.WritingLemmas.{writes_none, writes_two}
use Rattle.rehearse.specs.Histories.{HistoryView}
use Rattle.rehearse.specs.Answers.{Answers, LeadsTo, answer_to}
use Rattle.rehearse.specs.Replies.{Telling, told}
use Rattle.rehearse.specs.Commands.{Command, advance, command_in, ends_session, fail, finish, help, hosts, next, nothing, plan, quit, show, undo, unknown}
use Rattle.rehearse.specs.declared.fault.RehearseFault.{RehearseFault}
use Rattle.rehearse.specs.declared.fault.RehearseFault.TheVariants.{Refused, Memory, File, TooLarge, LongLine, Write}
use Rattle.rehearse.specs.Inside.{HasNoRoom, Hears, HearsEnd, HearsUntil, StopsAt}
use Rattle.rehearse.specs.Lines.{HasNoFeed, IsCut, IsLine, max_line, without_return}
use Rattle.rehearse.specs.Sessions.{quits}
use Rattle.rehearse.proofs.FeedLemmas.{feedless_both, long_in_front}
use Rattle.rehearse.proofs.SessionLemmas.{heard_none, heard_on, heard_one}

-- why nothing more is heard of bytes without a line feed in front of which there was no room
pub stops_there : (front behind : List ℕ) (fault : RehearseFault) → HasNoFeed front → HasNoRoom (length front) fault → StopsAt (front ++ behind) fault
stops_there front behind LongLine e long = long_in_front front behind e long
stops_there front behind Memory e room = tt
stops_there front behind File e room = absurd room
stops_there front behind TooLarge e room = absurd room
stops_there front behind (Refused fault) e room = absurd room
stops_there front behind (Write fault) e room = absurd room

-- a command that ends the session is answered by nothing, and leads nowhere
ends_there : (before : HistoryView) (command : Command) (after : HistoryView) → ends_session command ≡ true → LeadsTo before command after → (answer_to before command after ≡ None) × (after ≡ before)
ends_there before nothing after ends to = absurd (cc)
ends_there before (advance names) after ends to = absurd (cc)
ends_there before (next count) after ends to = absurd (cc)
ends_there before finish after ends to = absurd (cc)
ends_there before (fail host) after ends to = absurd (cc)
ends_there before undo after ends to = absurd (cc)
ends_there before plan after ends to = absurd (cc)
ends_there before show after ends to = absurd (cc)
ends_there before (hosts group) after ends to = absurd (cc)
ends_there before help after ends to = absurd (cc)
ends_there before quit after ends to = (refl, to)
ends_there before unknown after ends to = absurd (cc)

-- how far bytes were heard: those before `left`
pub record Hearing {W : Type 0} (contents : W → Option (List ℕ)) (tell : Telling) (before : HistoryView) (line bytes left now : List ℕ) (after : HistoryView) (old new : TextWriter W) : Type 0 where
  pub taken : List ℕ
  pub parts : bytes ≡ taken ++ left
  pub hears : Hears contents tell before (line ++ taken) now after old new
  pub is_line : IsLine now

module _ {tell : Telling} {W : Type 0} (contents : W → Option (List ℕ)) where
  pub hears_none : (before : HistoryView) (rest : List ℕ) (text : TextWriter W) → Hears contents tell before rest rest before text text
  hears_none before rest text = record { text = []; heard = heard_none before rest; written = writes_none contents text }

  pub hears_on : (before : HistoryView) (bytes rest : List ℕ) (between : HistoryView) (more left : List ℕ) (after : HistoryView) (t0 t1 t2 : TextWriter W)
      → Hears contents tell before bytes rest between t0 t1 → Hears contents tell between (rest ++ more) left after t1 t2 → Hears contents tell before (bytes ++ more) left after t0 t2
  hears_on before bytes rest between more left after t0 t1 t2 one two = record {
    text = one.text ++ two.text;
    heard = heard_on before bytes rest one.text between more left two.text after one.heard two.heard;
    written = writes_two contents t0 t1 t2 one.text two.text (one.text ++ two.text) one.written two.written refl;
  }

  -- nothing more is answered
  pub hears_silence : (before : HistoryView) (bytes rest : List ℕ) (between : HistoryView) (more : List ℕ) (after : HistoryView) (t0 t1 t2 : TextWriter W)
      → Hears contents tell before bytes rest between t0 t1 → after ≡ between → Writes contents t1 t2 [] → Hears contents tell before (bytes ++ more) (rest ++ more) after t0 t2
  hears_silence before bytes rest between more after t0 t1 t2 one same silent =
      let still : Hears contents tell between (rest ++ more) (rest ++ more) between t1 t2 = record { text = []; heard = heard_none between (rest ++ more); written = silent } in
      subst (λ (r : HistoryView). Hears contents tell before (bytes ++ more) (rest ++ more) r t0 t2) (sym same) (hears_on before bytes rest between more (rest ++ more) between t0 t1 t2 one still)

  pub begins_hearing : (before : HistoryView) (line bytes : List ℕ) (text : TextWriter W) → IsLine line → Hearing contents tell before line bytes bytes line before text text
  begins_hearing before line bytes text is = record {
    taken = [];
    parts = refl;
    hears = subst (λ (l : List ℕ). Hears contents tell before l line before text text) (sym (append-nil line)) (hears_none before line text);
    is_line = is;
  }

  module _ (before : HistoryView) (line bytes left now : List ℕ) (between after : HistoryView) (t0 t1 t2 : TextWriter W) (hearing : Hearing contents tell before line bytes left now between t0 t1) where
    whole : (line ++ hearing.taken) ++ left ≡ line ++ bytes
    whole = append_assoc line hearing.taken left ∙ ap (λ l. line ++ l) (sym hearing.parts)

    -- a line more
    pub hears_line : (front behind answer : List ℕ) → IsCut left front behind → length now + length front ≤ max_line → quits (now ++ front) ≡ false
        → Answers tell between (without_return (now ++ front)) answer after → Writes contents t1 t2 answer → Hearing contents tell before line bytes behind [] after t0 t2
    hears_line front behind answer cut within goes_on answers written =
        let feedless : HasNoFeed (now ++ front) = feedless_both now front hearing.is_line.feedless cut.feedless in
        let one : Hears contents tell between (now ++ (front ++ 10 ∷ [])) [] after t1 t2 = record {
          text = answer;
          heard = heard_one between (now ++ front) (now ++ (front ++ 10 ∷ [])) answer after (record { feedless = feedless; within = omega (arith, within, length-append now front) })
              goes_on (sym (append_assoc now front (10 ∷ []))) answers;
          written = written;
        } in
        let more : List ℕ = front ++ 10 ∷ [] in
        record {
          taken = hearing.taken ++ more;
          parts = hearing.parts ∙ ap (λ l. hearing.taken ++ l) (cut.parts ∙ sym (append_assoc front (10 ∷ []) behind))
              ∙ sym (append_assoc hearing.taken more behind);
          hears = subst (λ (l : List ℕ). Hears contents tell before l [] after t0 t2) (append_assoc line hearing.taken more)
              (hears_on before (line ++ hearing.taken) now between more [] after t0 t1 t2 hearing.hears one);
          is_line = record { feedless = refl; within = omega arith };
        }

    -- a line that ends the session
    pub hears_end : (front behind answer : List ℕ) → IsCut left front behind → length now + length front ≤ max_line → quits (now ++ front) ≡ true
        → Answers tell between (without_return (now ++ front)) answer after → Writes contents t1 t2 answer → HearsEnd contents tell before line bytes after t0 t2
    hears_end front behind answer cut within is_quit answers written =
        let ends = ends_there between (command_in (without_return (now ++ front))) after is_quit answers.leads in
        let parts : now ++ left ≡ (now ++ front) ++ 10 ∷ behind = ap (λ l. now ++ l) cut.parts ∙ sym (append_assoc now front (10 ∷ behind)) in
        let silent : Writes contents t1 t2 [] = subst (Writes contents t1 t2) (answers.text_is ∙ ap (told tell after.place.rehearsal.rules.fleet) ends.0) written in
        let heard : Hears contents tell before (line ++ bytes) (now ++ left) after t0 t2 = subst (λ (l : List ℕ). Hears contents tell before l (now ++ left) after t0 t2) whole
        (hears_silence before (line ++ hearing.taken) now between left after t0 t1 t2 hearing.hears ends.1 silent) in
        record {
          line = now ++ front;
          behind = behind;
          hears = subst (λ (l : List ℕ). Hears contents tell before (line ++ bytes) l after t0 t2) parts heard;
          is_line = record { feedless = feedless_both now front hearing.is_line.feedless cut.feedless; within = omega (arith, within, length-append now front) };
          is_quit = is_quit;
          fewer = omega (arith, ap length hearing.parts, length-append hearing.taken left, ap length cut.parts, length-append front (10 ∷ behind));
        }

    -- no memory for a line more, or no room
    pub hears_no_line : (front behind : List ℕ) (fault : RehearseFault) → IsCut left front behind → HasNoRoom (length now + length front) fault
        → after ≡ between → Writes contents t1 t2 [] → HearsUntil contents tell before (line ++ bytes) after t0 t2 fault
    hears_no_line front behind fault cut room same silent =
        let feedless : HasNoFeed (now ++ front) = feedless_both now front hearing.is_line.feedless cut.feedless in
        let parts : now ++ left ≡ (now ++ front) ++ 10 ∷ behind = ap (λ l. now ++ l) cut.parts ∙ sym (append_assoc now front (10 ∷ behind)) in
        record {
          rest = now ++ left;
          hears = subst (λ (l : List ℕ). Hears contents tell before l (now ++ left) after t0 t2) whole
              (hears_silence before (line ++ hearing.taken) now between left after t0 t1 t2 hearing.hears same silent);
          stops = subst (λ (l : List ℕ). StopsAt l fault) (sym parts)
              (stops_there (now ++ front) (10 ∷ behind) fault feedless (subst (λ (n : ℕ). HasNoRoom n fault) (sym (length-append now front)) room));
        }

    -- no line ends any more
    pub hears_rest : HasNoFeed left → length now + length left ≤ max_line → after ≡ between → Writes contents t1 t2 []
        → Hears contents tell before (line ++ bytes) (now ++ left) after t0 t2 × IsLine (now ++ left)
    hears_rest feedless within same silent = (
      subst (λ (l : List ℕ). Hears contents tell before l (now ++ left) after t0 t2) whole
          (hears_silence before (line ++ hearing.taken) now between left after t0 t1 t2 hearing.hears same silent),
      record { feedless = feedless_both now left hearing.is_line.feedless feedless; within = omega (arith, within, length-append now left) },
    )

    pub hears_no_rest : (fault : RehearseFault) → HasNoFeed left → HasNoRoom (length now + length left) fault → after ≡ between → Writes contents t1 t2 []
        → HearsUntil contents tell before (line ++ bytes) after t0 t2 fault
    hears_no_rest fault feedless room same silent =
        let both : HasNoFeed (now ++ left) = feedless_both now left hearing.is_line.feedless feedless in
        record {
          rest = now ++ left;
          hears = subst (λ (l : List ℕ). Hears contents tell before l (now ++ left) after t0 t2) whole
              (hears_silence before (line ++ hearing.taken) now between left after t0 t1 t2 hearing.hears same silent);
          stops = subst (λ (l : List ℕ). StopsAt l fault) (append-nil (now ++ left))
              (stops_there (now ++ left) [] fault both (subst (λ (n : ℕ). HasNoRoom n fault) (sym (length-append now left)) room));
        }
