-- The list of commands.
use Rattle.std.specs.Prelude.{ℕ, List, ◌++◌, codes}

-- a line for each command that changes where the session stands
abbrev pub changing_text : List ℕ
changing_text =
    codes "advance NAMES  the next batch is over; these hosts failed in it (no names: none)\n"
    ++ (codes "next N         the next N batches are over; just the marked hosts failed in them\n"
    ++ (codes "finish         the same of all batches, to the end of the play\n"
    ++ (codes "fail HOST      mark a host, which then fails as soon as its batch is over\n"
    ++ codes "undo           take the last of these back, whole\n")))

-- a line for each command that asks or ends
abbrev pub asking_text : List ℕ
asking_text =
    codes "plan           the plan of the hosts that still wait\n"
    ++ (codes "show           the state of each host, and the end of the play\n"
    ++ (codes "hosts GROUP    the state of each host of a group, and its batch in the plan\n"
    ++ (codes "help, ?        this list\n"
    ++ codes "quit           end the session\n")))

-- a line for each command
abbrev pub help_text : List ℕ
help_text = changing_text ++ asking_text

-- an object for each command that changes where the session stands
abbrev pub changing_json : List ℕ
changing_json =
    codes "{\"command\":\"advance NAMES\",\"does\":\"the next batch is over; these hosts failed in it (no names: none)\"},"
    ++ (codes "{\"command\":\"next N\",\"does\":\"the next N batches are over; just the marked hosts failed in them\"},"
    ++ (codes "{\"command\":\"finish\",\"does\":\"the same of all batches, to the end of the play\"},"
    ++ (codes "{\"command\":\"fail HOST\",\"does\":\"mark a host, which then fails as soon as its batch is over\"},"
    ++ codes "{\"command\":\"undo\",\"does\":\"take the last of these back, whole\"},")))

-- an object for each command that asks or ends
abbrev pub asking_json : List ℕ
asking_json =
    codes "{\"command\":\"plan\",\"does\":\"the plan of the hosts that still wait\"},"
    ++ (codes "{\"command\":\"show\",\"does\":\"the state of each host, and the end of the play\"},"
    ++ (codes "{\"command\":\"hosts GROUP\",\"does\":\"the state of each host of a group, and its batch in the plan\"},"
    ++ (codes "{\"command\":\"help, ?\",\"does\":\"this list\"},"
    ++ codes "{\"command\":\"quit\",\"does\":\"end the session\"}")))

-- `{"reply":"help","commands":[..]}`
abbrev pub help_json : List ℕ
help_json = codes "{\"reply\":\"help\",\"commands\":[" ++ (changing_json ++ (asking_json ++ codes "]}\n"))
