-- Hearing what a reader gives, one read after the other.
use Rattle.std.proofs.Common.{◌≡◌, ℕ, ◌+◌, ◌<◌, ◌≤◌, Bool, false, Some, Option, List, [], ◌∷◌, ◌++◌, length, sym, refl, ap, ◌∙◌, subst, inl, inr, arith, append_assoc, append-nil, length-append}
use Rattle.std.specs.Io.KnownBytes.{Consumes, IsAtEnd, Keeps}
use Rattle.std.proofs.KnownBytes.{Consumes-kept, Consumes-nil, Consumes-trans}
use Rattle.std.proofs.lemmas.List.{take-append-le}
use Rattle.bounded_io.specs.Reading.{max_input}
use Rattle.bounded_io.specs.Writing.{Writes}
use Rattle.bounded_io.specs.declared.text_writer.TextWriter.{TextWriter}
use Rattle.bounded_io.proofs.WritingLemmas.{writes_two}
use Rattle.rehearse.specs.Histories.{HistoryView}
use Rattle.rehearse.specs.declared.fault.RehearseFault.{RehearseFault}
use Rattle.rehearse.specs.declared.fault.RehearseFault.TheVariants.{Refused, Memory, File, TooLarge, LongLine, Write}
use Rattle.rehearse.specs.Inside.{Hears, HearsEnd, HearsUntil, LastAnswer, ListensInVain, ListensToEnd, ListensUntil, StopsAt, Unheard}
use Rattle.rehearse.specs.Lines.{HasNoFeed, IsLine, IsLong, joined, max_line, max_read}
use Rattle.rehearse.specs.Sessions.{Heard}
use Rattle.rehearse.specs.Replies.{Telling}
use Rattle.rehearse.specs.Answers.{Answers}
use Rattle.rehearse.proofs.SessionLemmas.{session_of}
use Rattle.rehearse.proofs.HearingLemmas.{hears_none, hears_on, hears_silence}

-- what was heard of a reader that gave so many bytes
pub record Listening {W : Type 0} (contents : W → Option (List ℕ)) (tell : Telling) (before : HistoryView) (old new : Option (List ℕ)) (given : ℕ) (line : List ℕ) (after : HistoryView) (text_old text_new : TextWriter W) : Type 0 where
  pub bytes : List ℕ
  pub consumed : Consumes old new bytes
  pub many : length bytes ≡ given
  pub within : given ≤ max_input
  pub hears : Hears contents tell before bytes line after text_old text_new
  pub is_line : IsLine line

long_before : (rest more : List ℕ) → IsLong rest → IsLong (rest ++ more)
long_before rest more is = record {
  feedless = subst HasNoFeed (sym (take-append-le (max_line + 1) rest more (omega (arith, is.long)))) is.feedless;
  long = omega (arith, is.long, length-append rest more);
}

stops_before : (rest more : List ℕ) (fault : RehearseFault) → StopsAt rest fault → StopsAt (rest ++ more) fault
stops_before rest more LongLine is = long_before rest more is
stops_before rest more Memory is = tt
stops_before rest more File is = absurd is
stops_before rest more TooLarge is = absurd is
stops_before rest more (Refused fault) is = absurd is
stops_before rest more (Write fault) is = absurd is

module _ {tell : Telling} {W : Type 0} (contents : W → Option (List ℕ)) (before : HistoryView) (old : Option (List ℕ)) (t0 : TextWriter W) where
  pub begins_listening : Listening contents tell before old old 0 [] before t0 t0
  begins_listening = record {
    bytes = [];
    consumed = Consumes-nil old;
    many = refl;
    within = omega arith;
    hears = hears_none contents before [] t0;
    is_line = record { feedless = refl; within = omega arith };
  }

  module _ (mid : Option (List ℕ)) (given : ℕ) (line : List ℕ) (between : HistoryView) (t1 : TextWriter W) (so_far : Listening contents tell before old mid given line between t0 t1) where
    -- nothing was written meanwhile
    pub still_listening : (t2 : TextWriter W) → Writes contents t1 t2 [] → Listening contents tell before old mid given line between t0 t2
    still_listening t2 silent = record {
      bytes = so_far.bytes;
      consumed = so_far.consumed;
      many = so_far.many;
      within = so_far.within;
      hears = record {
        text = so_far.hears.text;
        heard = so_far.hears.heard;
        written = writes_two contents t0 t1 t2 so_far.hears.text [] so_far.hears.text so_far.hears.written silent (append-nil so_far.hears.text);
      };
      is_line = so_far.is_line;
    }

    pub in_vain : ListensInVain contents tell before old mid t0 t1
    in_vain = record {
      text = so_far.hears.text;
      heard = record {
        bytes = so_far.bytes;
        rest = line;
        after = between;
        consumed = so_far.consumed;
        within = omega (arith, so_far.many, so_far.within);
        heard = so_far.hears.heard;
      };
      written = so_far.hears.written;
    }

    pub until_file : (new : Option (List ℕ)) (is_reliable : Bool) → Keeps mid new → is_reliable ≡ false → ListensUntil contents tell is_reliable before old new t0 t1 File
    until_file new is_reliable keeps fails = record {
      text = so_far.hears.text;
      ended = record {
        bytes = so_far.bytes;
        rest = line;
        after = between;
        consumed = Consumes-kept old mid new so_far.bytes so_far.consumed keeps;
        heard = so_far.hears.heard;
        ends = (fails, so_far.is_line, omega (arith, so_far.many, so_far.within));
      };
      written = so_far.hears.written;
    }

    module _ (new : Option (List ℕ)) (none : Consumes mid new []) where
      consumed_all : Consumes old new so_far.bytes
      consumed_all = subst (Consumes old new) (append-nil so_far.bytes) (Consumes-trans old mid new so_far.bytes [] so_far.consumed none)

      pub to_all : (after : HistoryView) (t2 : TextWriter W) → IsAtEnd new → LastAnswer contents tell between line after t1 t2 → ListensToEnd contents tell before after old new t0 t2
      to_all after t2 end last = record {
        text = so_far.hears.text ++ last.text;
        over = inl (record {
          bytes = so_far.bytes;
          rest = line;
          first = so_far.hears.text;
          between = between;
          last = last.text;
          consumed = consumed_all;
          end = end;
          within = omega (arith, so_far.many, so_far.within);
          heard = so_far.hears.heard;
          line = so_far.is_line;
          last_answer = last.answers;
          text_is = refl;
        });
        written = writes_two contents t0 t1 t2 so_far.hears.text last.text (so_far.hears.text ++ last.text) so_far.hears.written last.written refl;
      }

      -- no memory for the answer to the last line
      pub until_memory : (is_reliable : Bool) (t2 : TextWriter W) → Writes contents t1 t2 [] → ListensUntil contents tell is_reliable before old new t0 t2 Memory
      until_memory is_reliable t2 silent = record {
        text = so_far.hears.text;
        ended = record {
          bytes = so_far.bytes;
          rest = line;
          after = between;
          consumed = consumed_all;
          heard = so_far.hears.heard;
          ends = omega (arith, so_far.many, so_far.within);
        };
        written = writes_two contents t0 t1 t2 so_far.hears.text [] so_far.hears.text so_far.hears.written silent (append-nil so_far.hears.text);
      }

    module _ (new : Option (List ℕ)) (after : HistoryView) (t2 : TextWriter W) where
      pub one_read_more : (chunk now : List ℕ) (count : ℕ) → Consumes mid new chunk → length chunk ≡ count → given + count ≤ max_input
          → Hears contents tell between (line ++ chunk) now after t1 t2 → IsLine now → Listening contents tell before old new (given + count) now after t0 t2
      one_read_more chunk now count read many within hears is_line = record {
        bytes = so_far.bytes ++ chunk;
        consumed = Consumes-trans old mid new so_far.bytes chunk so_far.consumed read;
        many = omega (arith, length-append so_far.bytes chunk, so_far.many, many);
        within = within;
        hears = hears_on contents before so_far.bytes line between chunk now after t0 t1 t2 so_far.hears hears;
        is_line = is_line;
      }

      -- one byte past the bound came behind the chunk
      pub until_too_large : (is_reliable : Bool) (chunk now : List ℕ) (byte : ℕ) → Consumes mid new (chunk ++ byte ∷ []) → given + length chunk ≡ max_input
          → Hears contents tell between (line ++ chunk) now after t1 t2 → IsLine now → ListensUntil contents tell is_reliable before old new t0 t2 TooLarge
      until_too_large is_reliable chunk now byte read many hears is_line =
          let all : Hears contents tell before (so_far.bytes ++ chunk) now after t0 t2 = hears_on contents before so_far.bytes line between chunk now after t0 t1 t2 so_far.hears hears in
          record {
            text = all.text;
            ended = record {
              bytes = so_far.bytes ++ (chunk ++ byte ∷ []);
              rest = now ++ byte ∷ [];
              after = after;
              consumed = Consumes-trans old mid new so_far.bytes (chunk ++ byte ∷ []) so_far.consumed read;
              heard = record {
                lines = all.heard.lines;
                parts = sym (append_assoc so_far.bytes chunk (byte ∷ [])) ∙ ap (λ l. l ++ byte ∷ []) all.heard.parts ∙ append_assoc _ now (byte ∷ []);
                are_lines = all.heard.are_lines;
                resume = all.heard.resume;
                answers = all.heard.answers;
              };
              ends = (
                record { line = now; byte = byte; rest_is = refl; is_line = is_line },
                omega (arith, length-append so_far.bytes (chunk ++ byte ∷ []), length-append chunk (byte ∷ []), so_far.many, many),
              );
            };
            written = all.written;
          }

      -- a line of the chunk ended the session; perhaps a byte past the bound came behind the chunk
      pub to_line : (chunk past : List ℕ) → Consumes mid new (chunk ++ past) → length (chunk ++ past) ≤ max_read → given + length (chunk ++ past) ≤ max_input + 1 → given + length chunk ≤ max_input
          → HearsEnd contents tell between line chunk after t1 t2 → ListensToEnd contents tell before after old new t0 t2
      to_line chunk past read short few within hears =
          let bytes : List ℕ = so_far.bytes ++ (chunk ++ past) in
          let rest : List ℕ = hears.line ++ 10 ∷ hears.behind in
          let all : Hears contents tell before (so_far.bytes ++ chunk) rest after t0 t2 = hears_on contents before so_far.bytes line between chunk rest after t0 t1 t2 so_far.hears hears.hears in
          record {
            text = all.text;
            over = inr (record {
              bytes = bytes;
              line = hears.line;
              behind = hears.behind ++ past;
              consumed = Consumes-trans old mid new so_far.bytes (chunk ++ past) so_far.consumed read;
              heard = record {
                lines = all.heard.lines;
                parts = sym (append_assoc so_far.bytes chunk past) ∙ ap (λ l. l ++ past) all.heard.parts ∙ append_assoc _ rest past
                    ∙ ap (λ l. joined all.heard.lines ++ l) (append_assoc hears.line (10 ∷ hears.behind) past);
                are_lines = all.heard.are_lines;
                resume = all.heard.resume;
                answers = all.heard.answers;
              };
              is_line = hears.is_line;
              is_quit = hears.is_quit;
              line_within = omega (arith, length-append so_far.bytes (chunk ++ past), length-append chunk past, length-append hears.behind past, so_far.many, within);
              within = omega (arith, length-append so_far.bytes (chunk ++ past), so_far.many, few);
              one_read = omega (arith, length-append chunk past, length-append hears.behind past, hears.fewer, short);
            });
            written = all.written;
          }

      -- a line was too long, or memory was wanting, in the chunk; perhaps bytes came behind it
      until : (is_reliable : Bool) (chunk behind : List ℕ) (fault : RehearseFault) → Consumes mid new (chunk ++ behind) → given + length (chunk ++ behind) ≤ max_input + 1
          → (hears : HearsUntil contents tell between (line ++ chunk) after t1 t2 fault) → (rest : List ℕ) × (text : List ℕ) × Heard tell before (so_far.bytes ++ (chunk ++ behind)) rest text after
          × Writes contents t0 t2 text × StopsAt rest fault × (length rest ≡ length hears.rest + length behind)
      until is_reliable chunk behind fault read few hears =
          let all : Hears contents tell before (so_far.bytes ++ chunk) hears.rest after t0 t2 =
          hears_on contents before so_far.bytes line between chunk hears.rest after t0 t1 t2 so_far.hears hears.hears in (
            hears.rest ++ behind,
            all.text,
            record {
              lines = all.heard.lines;
              parts = sym (append_assoc so_far.bytes chunk behind) ∙ ap (λ l. l ++ behind) all.heard.parts ∙ append_assoc _ hears.rest behind;
              are_lines = all.heard.are_lines;
              resume = all.heard.resume;
              answers = all.heard.answers;
            },
            all.written,
            stops_before hears.rest behind fault hears.stops,
            length-append hears.rest behind,
          )

      pub until_fault : (is_reliable : Bool) (chunk behind : List ℕ) (fault : RehearseFault) → Consumes mid new (chunk ++ behind) → given + length (chunk ++ behind) ≤ max_input + 1
          → given + length chunk ≤ max_input → HearsUntil contents tell between (line ++ chunk) after t1 t2 fault → Unheard contents tell is_reliable before old new t0 t2 fault
      until_fault is_reliable chunk behind LongLine read few within hears =
          let all = until is_reliable chunk behind LongLine read few hears in record {
            text = all.1;
            ended = record {
              bytes = so_far.bytes ++ (chunk ++ behind);
              rest = all.0;
              after = after;
              consumed = Consumes-trans old mid new so_far.bytes (chunk ++ behind) so_far.consumed read;
              heard = all.2;
              ends = (
                all.4,
                omega (arith, length-append so_far.bytes (chunk ++ behind), length-append chunk behind, all.5, so_far.many, within, hears.stops.long),
                omega (arith, length-append so_far.bytes (chunk ++ behind), so_far.many, few),
              );
            };
            written = all.3;
          }
      until_fault is_reliable chunk behind Memory read few within hears =
          let all = until is_reliable chunk behind Memory read few hears in record {
            text = all.1;
            ended = record {
              bytes = so_far.bytes ++ (chunk ++ behind);
              rest = all.0;
              after = after;
              consumed = Consumes-trans old mid new so_far.bytes (chunk ++ behind) so_far.consumed read;
              heard = all.2;
              ends = omega (arith, length-append so_far.bytes (chunk ++ behind), so_far.many, few);
            };
            written = all.3;
          }
      until_fault is_reliable chunk behind File read few within hears = absurd hears.stops
      until_fault is_reliable chunk behind TooLarge read few within hears = absurd hears.stops
      until_fault is_reliable chunk behind (Refused fault) read few within hears = absurd hears.stops
      until_fault is_reliable chunk behind (Write fault) read few within hears = absurd hears.stops

-- the last line was answered
pub last_told : {tell : Telling} {W : Type 0} (contents : W → Option (List ℕ)) (before : HistoryView) (line answer : List ℕ) (after : HistoryView) (t0 t1 : TextWriter W) → 0 < length line
    → Answers tell before line answer after → Writes contents t0 t1 answer → LastAnswer contents tell before line after t0 t1
last_told contents before [] answer after t0 t1 some is written = absurd (omega (arith, some))
last_told contents before (byte ∷ bytes) answer after t0 t1 some is written =
    record { text = answer; answers = session_of before (byte ∷ bytes) answer after is; written = written }
