-- What is said behind the line of a fault.
use Rattle.std.specs.Prelude.{ℕ, List, [], codes}
use Rattle.command_line.specs.Clashes as clashes
use Rattle.command_line.specs.Messages as messages
use Rattle.command_line.specs.declared.fault.LineFault.TheVariants as line_fault
use Rattle.json_output.specs.declared.form.Form.{Form}
use Rattle.json_output.specs.declared.form.Form.TheVariants.{Plain, Json}
use Rattle.rollout.specs.declared.fault.Fault.{Fault}
use Rattle.rollout.specs.declared.fault.Fault.TheVariants.{Line, Input, Read, Fleet, Playbook, Pattern, Mixed, LongLine, JournalThere, JournalWrite, ChildrenIgnored, Stopped, Locked, BadJournal, OtherInputs, NeedsResult, OutputIsInput, NoValue, BadPlan, Unexpected, BadList, Write, Memory}
use Rattle.terminal_text.specs.Texts.{lines_text}

-- how a run is started where the ends of children are ignored
abbrev pub ignored : List ℕ
ignored = codes "SIGCHLD is ignored here, so no program's end could be had. Start it with: env --default-signal=CHLD rollout run ..\n"

-- what is said behind the line of a fault: what is wrong with bad words, and what to do
abbrev pub explanation_of : Fault → List ℕ
explanation_of (Line (line_fault.BadLine explanation)) = lines_text (messages.text_of explanation)
explanation_of (Line (line_fault.Apart clash)) = clashes.text_of clash
explanation_of (Line line_fault.Unexplained) = []
explanation_of (Line line_fault.Memory) = []
explanation_of (Input source fault) = []
explanation_of (Read fault) = []
explanation_of (Fleet fault) = []
explanation_of (Playbook fault) = []
explanation_of (Pattern fault) = []
explanation_of Mixed = []
explanation_of LongLine = []
explanation_of ChildrenIgnored = ignored
explanation_of JournalThere = []
explanation_of JournalWrite = []
explanation_of Stopped = []
explanation_of Locked = []
explanation_of (BadJournal line) = []
explanation_of OtherInputs = []
explanation_of (NeedsResult name) = []
explanation_of (OutputIsInput name) = []
explanation_of (NoValue missing) = []
explanation_of (BadPlan line) = []
explanation_of (Unexpected found) = []
explanation_of (BadList list) = []
explanation_of (Write fault) = []
explanation_of Memory = []

-- it is for people: JSON has none of it
abbrev pub explanation_in : Form → Fault → List ℕ
explanation_in Plain fault = explanation_of fault
explanation_in Json fault = []
