-- Why a line was not read.
use Rattle.std.specs.Prelude.{ℕ, List, Option, Some, None, codes}
use Rattle.command_line.specs.Clashes as clashes
use Rattle.command_line.specs.Messages as messages
use Rattle.command_line.specs.declared.fault.LineFault.{LineFault}
use Rattle.command_line.specs.declared.fault.LineFault.TheVariants.{BadLine, Apart, Unexplained, Memory}

-- the number of a fault; want of memory has none
abbrev pub number_of : LineFault → Option ℕ
number_of (BadLine message) = Some 901
number_of (Apart clash) = Some 901
number_of Unexplained = Some 901
number_of Memory = None

-- the text of a fault
abbrev pub text_of : LineFault → List ℕ
text_of (BadLine message) = messages.text_of message
text_of (Apart clash) = clashes.text_of clash
text_of Unexplained = codes "no line of the program"
text_of Memory = codes "want of memory"
