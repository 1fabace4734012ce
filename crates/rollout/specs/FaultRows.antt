-- the faults that the program reports: their numbers, their names and their details.
use Rattle.std.specs.Prelude.{ℕ, true, false, List, [], ◌∷◌, Option, Some, None, codes, decimal, string_bytes}
use Rattle.bounded_io.specs.Faults as input
use Rattle.bounded_io.specs.declared.input_fault.InputFault.{InputFault}
use Rattle.bounded_io.specs.declared.input_fault.InputFault.TheVariants as input_fault
use Rattle.command_line.specs.Faults as line
use Rattle.command_line.specs.declared.command.Source.{Source}
use Rattle.command_line.specs.declared.command.Source.TheVariants.{StandardInput, File}
use Rattle.command_line.specs.declared.fault.LineFault.{LineFault}
use Rattle.command_line.specs.declared.fault.LineFault.TheVariants as line_fault
use Rattle.cond.specs.declared.fault.CondFault.{CondFault}
use Rattle.cond.specs.declared.fault.CondFault.TheVariants as cond_fault
use Rattle.domains.specs.FaultNumbers.{fleet_number, pattern_number}
use Rattle.domains.specs.declared.fault.FleetFault.{FleetFault}
use Rattle.domains.specs.declared.fault.FleetFault.TheVariants as fleet_fault
use Rattle.domains.specs.declared.pattern_fault.PatternFault.{PatternFault}
use Rattle.domains.specs.declared.pattern_fault.PatternFault.TheVariants as pattern_fault
use Rattle.expectations.specs.declared.expectation.Relation.{Relation}
use Rattle.expectations.specs.declared.expectation.Relation.TheVariants.{Equal, AtMost}
use Rattle.expectations.specs.declared.unexpected.Unexpected as declared_unexpected
use Rattle.inventory_read.specs.Faults as read
use Rattle.inventory_read.specs.declared.fault.ReadFault.{ReadFault}
use Rattle.inventory_read.specs.declared.fault.ReadFault.TheVariants as read_fault
use Rattle.playbook_schema.specs.Faults as playbook
use Rattle.playbook_schema.specs.Faults.{key_name}
use Rattle.playbook_schema.specs.declared.fault.PlayFault.{PlayFault}
use Rattle.playbook_schema.specs.declared.fault.PlayFault.TheVariants as play_fault
use Rattle.playbook_schema.specs.declared.key.ConditionKey.{ConditionKey}
use Rattle.recap.specs.Printable.{printed}
use Rattle.rollout.specs.FaultLines.{Row, ShownDetail}
use Rattle.rollout.specs.declared.fault.Fault.{Fault}
use Rattle.rollout.specs.declared.fault.Fault.TheVariants.{Line, Input, Read, Fleet, Playbook, Pattern, Mixed, LongLine, JournalThere, JournalWrite, ChildrenIgnored, Stopped, Locked, BadJournal, OtherInputs, NeedsResult, OutputIsInput, NoValue, BadPlan, Unexpected, BadList, Write, Memory}

abbrev row : List ℕ → List ShownDetail → Row
row name details = record { name = name; details = details }

abbrev text : List ℕ → List ℕ → ShownDetail
text key value = record { key = key; value = printed value; is_number = false }

abbrev number : List ℕ → ℕ → ShownDetail
number key value = record { key = key; value = decimal value; is_number = true }

-- want of memory has neither a number nor a row
abbrev pub no_row : Row
no_row = row [] []

-- a fault at a path, and one that names something
abbrev pub path_row : List ℕ → List ℕ → Row
path_row name at = row name (text (codes "at") at ∷ [])

abbrev pub name_row : List ℕ → List ℕ → Row
name_row name named = row name (text (codes "name") named ∷ [])

-- the name of an input
abbrev pub name_of : Source → List ℕ
name_of StandardInput = codes "-"
name_of (File name) = string_bytes name

abbrev pub line_row : LineFault → Row
line_row (line_fault.BadLine explanation) = row (codes "BadLine") []
line_row (line_fault.Apart clash) = row (codes "BadLine") []
line_row line_fault.Unexplained = row (codes "BadLine") []
line_row line_fault.Memory = no_row

abbrev pub input_row : Source → InputFault → Row
input_row source input_fault.File = row (codes "File") (text (codes "name") (name_of source) ∷ [])
input_row source input_fault.TooLarge = row (codes "InputTooLarge") []
input_row source input_fault.Memory = no_row

abbrev pub read_row : ReadFault → Row
read_row (read_fault.BadName name) = row (codes "BadName") (text (codes "name") (string_bytes name) ∷ [])
read_row (read_fault.TwicePlaced group) = row (codes "TwicePlaced") (number (codes "group") group ∷ [])
read_row read_fault.TooDeep = row (codes "TooDeep") []
read_row read_fault.TooMany = row (codes "TooMany") []
read_row read_fault.NotJson = row (codes "NotJson") []
read_row (read_fault.BadShape at) = row (codes "BadShape") (text (codes "at") (string_bytes at) ∷ [])
read_row (read_fault.UnknownKey at) = row (codes "UnknownKey") (text (codes "at") (string_bytes at) ∷ [])
read_row (read_fault.BadLimit at) = row (codes "BadLimit") (text (codes "at") (string_bytes at) ∷ [])
read_row (read_fault.BadDown at) = row (codes "BadDown") (text (codes "at") (string_bytes at) ∷ [])
read_row read_fault.Memory = no_row

abbrev pub fleet_row : FleetFault → Row
fleet_row (fleet_fault.NotNested host first second) =
    row (codes "NotNested") (text (codes "host") (string_bytes host) ∷ text (codes "first") (string_bytes first) ∷ text (codes "second") (string_bytes second) ∷ [])
fleet_row (fleet_fault.StartOver group down limit) =
    row (codes "StartOver") (text (codes "group") (string_bytes group) ∷ number (codes "down") down ∷ number (codes "limit") limit ∷ [])
fleet_row fleet_fault.TooManyHosts = row (codes "TooManyHosts") []
fleet_row fleet_fault.Memory = no_row

abbrev pub pattern_row : PatternFault → Row
pattern_row (pattern_fault.NoSuchName name) = name_row (codes "NoSuchName") (string_bytes name)
pattern_row pattern_fault.Memory = no_row

-- the play is told where the text has several
abbrev pub condition_row : List ℕ → Option ℕ → ℕ → ConditionKey → ℕ → Row
condition_row name None step key at = row name (number (codes "step") step ∷ text (codes "key") (key_name key) ∷ number (codes "at") at ∷ [])
condition_row name (Some play) step key at =
    row name (number (codes "play") play ∷ number (codes "step") step ∷ text (codes "key") (key_name key) ∷ number (codes "at") at ∷ [])

abbrev pub cond_row : Option ℕ → ℕ → ConditionKey → CondFault → Row
cond_row play step key (cond_fault.BadToken at) = condition_row (codes "BadToken") play step key at
cond_row play step key (cond_fault.Unexpected at) = condition_row (codes "Unexpected") play step key at
cond_row play step key (cond_fault.TooDeep at) = condition_row (codes "TooDeep") play step key at
cond_row play step key (cond_fault.TooLong at) = condition_row (codes "TooLong") play step key at
cond_row play step key cond_fault.Memory = no_row

abbrev pub braces_row : Option ℕ → ℕ → Row
braces_row None step = row (codes "BadBraces") (number (codes "step") step ∷ [])
braces_row (Some play) step = row (codes "BadBraces") (number (codes "play") play ∷ number (codes "step") step ∷ [])

abbrev pub playbook_row : PlayFault → Row
playbook_row play_fault.NotJson = row (codes "NotJson") []
playbook_row (play_fault.BadShape at) = path_row (codes "BadShape") (string_bytes at)
playbook_row (play_fault.UnknownKey at) = path_row (codes "UnknownKey") (string_bytes at)
playbook_row (play_fault.NoSuchHandler name) = name_row (codes "NoSuchHandler") (string_bytes name)
playbook_row (play_fault.TwiceHandler name) = name_row (codes "TwiceHandler") (string_bytes name)
playbook_row (play_fault.BadSerial at) = path_row (codes "BadSerial") (string_bytes at)
playbook_row (play_fault.BadPercent at) = path_row (codes "BadPercent") (string_bytes at)
playbook_row play_fault.ManyPlays = row (codes "ManyPlays") []
playbook_row play_fault.TooManySteps = row (codes "TooManySteps") []
playbook_row (play_fault.BadCondition play step key fault) = cond_row play step key fault
playbook_row (play_fault.BadBraces play step) = braces_row play step
playbook_row play_fault.Memory = no_row

-- a name that a step may look for in vain on a host; the play is told where the text has several
abbrev pub missing_row : Option ℕ → ℕ → List ℕ → List ℕ → Row
missing_row None step host name =
    row (codes "NoValue") (number (codes "step") step ∷ text (codes "host") host ∷ text (codes "name") name ∷ [])
missing_row (Some play) step host name =
    row (codes "NoValue") (number (codes "play") play ∷ number (codes "step") step ∷ text (codes "host") host ∷ text (codes "name") name ∷ [])

-- what is expected of the number
abbrev pub relation_key : Relation → List ℕ
relation_key Equal = codes "expected"
relation_key AtMost = codes "most"

-- the number that stands there, if one does
abbrev pub found_detail : Option ℕ → ShownDetail
found_detail None = text (codes "found") (codes "none")
found_detail (Some found) = number (codes "found") found

abbrev pub unexpected_row : declared_unexpected.Unexpected → Row
unexpected_row unexpected =
    row (codes "Unexpected") (text (codes "name") (string_bytes unexpected.name) ∷ number (relation_key unexpected.relation) unexpected.number ∷ found_detail unexpected.found ∷ [])

abbrev pub number_of : Fault → Option ℕ
number_of (Line fault) = line.number_of fault
number_of (Input source fault) = input.number_of fault
number_of (Read fault) = read.number_of fault
number_of (Fleet fault) = fleet_number fault
number_of (Playbook fault) = playbook.number_of fault
number_of (Pattern fault) = pattern_number fault
number_of Mixed = Some 822
number_of LongLine = Some 906
number_of ChildrenIgnored = Some 916
number_of JournalThere = Some 910
number_of JournalWrite = Some 911
number_of Stopped = Some 917
number_of Locked = Some 918
number_of (BadJournal line) = Some 912
number_of OtherInputs = Some 913
number_of (NeedsResult name) = Some 914
number_of (OutputIsInput name) = Some 919
number_of (NoValue missing) = Some 915
number_of (BadPlan line) = Some 908
number_of (Unexpected found) = Some 907
number_of (BadList list) = Some 909
number_of (Write fault) = Some 904
number_of Memory = None

abbrev pub row_of : Fault → Row
row_of (Line fault) = line_row fault
row_of (Input source fault) = input_row source fault
row_of (Read fault) = read_row fault
row_of (Fleet fault) = fleet_row fault
row_of (Playbook fault) = playbook_row fault
row_of (Pattern fault) = pattern_row fault
row_of Mixed = row (codes "Mixed") []
row_of LongLine = row (codes "LongLine") []
row_of ChildrenIgnored = row (codes "ChildrenIgnored") []
row_of JournalThere = row (codes "JournalThere") []
row_of JournalWrite = row (codes "JournalWrite") []
row_of Stopped = row (codes "Stopped") []
row_of Locked = row (codes "Locked") []
row_of (BadJournal line) = row (codes "BadJournal") (number (codes "line") line ∷ [])
row_of OtherInputs = row (codes "OtherInputs") []
row_of (NeedsResult name) = name_row (codes "NeedsResult") (string_bytes name)
row_of (OutputIsInput name) = name_row (codes "OutputIsInput") (string_bytes name)
row_of (NoValue missing) = missing_row missing.play missing.step (string_bytes missing.host) (string_bytes missing.name)
row_of (BadPlan line) = row (codes "BadPlan") (number (codes "line") line ∷ [])
row_of (Unexpected found) = unexpected_row found
row_of (BadList list) = name_row (codes "BadList") (string_bytes list)
row_of (Write fault) = row (codes "Write") (number (codes "written") fault.written ∷ [])
row_of Memory = no_row
