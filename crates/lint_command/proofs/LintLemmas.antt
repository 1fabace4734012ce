-- What refuses the texts is true, and what goes out is the text of the notes.
use Rattle.std.proofs.Common.{◌≡◌, ℕ, Bool, Option, Ok, Err, List, refl}
use Rattle.std.specs.Io.KnownBytes.{Keeps}
use Rattle.bounded_io.specs.declared.write_fault.WriteFault.{WriteFault}
use Rattle.domains.specs.FleetViews.{FleetView}
use Rattle.plan_command.specs.PlanTexts.{IsFleetIn, IsPlaybookFault}
use Rattle.plan_command.specs.declared.fault.PlanFault.{PlanFault}
use Rattle.plan_command.specs.declared.fault.PlanFault.TheVariants.{Read, Fleet, Playbook, Pattern, Write}
use Rattle.plan_command.proofs.TextLemmas.{refused_is_true}
use Rattle.lint_command.specs.LintTexts.{BreaksNotes, IsTrueFault, WritesNotes}
use Rattle.lint_rules.specs.Notes.{Note, told}
use Rattle.lint_rules.specs.NotesText.{IsNotesText, SendsSuch, end_of}
use Rattle.lint_rules.specs.declared.end.LintEnd.{LintEnd}

pub refused_lint : (first : List Note) (inventory playbook : List ℕ) (tells : Note → Bool) (old new : Option (List ℕ)) (fleet : FleetView) → IsFleetIn inventory fleet → (fault : PlanFault) → Keeps old new
    → IsPlaybookFault fleet playbook fault → IsTrueFault first inventory playbook tells old new fault
refused_lint first inventory playbook tells old new fleet built (Playbook fault) keeps refused = refused_is_true inventory playbook old new fleet built (Playbook fault) keeps refused
refused_lint first inventory playbook tells old new fleet built (Pattern fault) keeps refused = refused_is_true inventory playbook old new fleet built (Pattern fault) keeps refused
refused_lint first inventory playbook tells old new fleet built (Read fault) keeps refused = absurd refused
refused_lint first inventory playbook tells old new fleet built (Fleet fault) keeps refused = absurd refused
refused_lint first inventory playbook tells old new fleet built (Write fault) keeps refused = absurd refused

pub writes_notes : (AreNotes : List Note → Type 0) (tells : Note → Bool) (notes : List Note) (old new : Option (List ℕ)) (end : LintEnd) → AreNotes notes
    → SendsSuch {T = LintEnd} old new (IsNotesText tells notes) (Ok end) → end ≡ end_of (told tells notes) → WritesNotes AreNotes tells old new end
writes_notes AreNotes tells notes old new end are sent ends = record {
  text = sent.text;
  is = record { notes = notes; are = are; text_is = sent.is; ends = ends };
  written = sent.sends;
}

pub breaks_notes : (AreNotes : List Note → Type 0) (tells : Note → Bool) (notes : List Note) (old new : Option (List ℕ)) (fault : WriteFault) → AreNotes notes
    → SendsSuch {T = LintEnd} old new (IsNotesText tells notes) (Err fault) → BreaksNotes AreNotes tells old new fault.written
breaks_notes AreNotes tells notes old new fault are sent = record {
  text = sent.text;
  end = end_of (told tells notes);
  is = record { notes = notes; are = are; text_is = sent.is; ends = refl };
  written = sent.sends;
}
