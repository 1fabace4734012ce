-- The exit statuses.
use Rattle.std.specs.Prelude.{ℕ}
use Rattle.plan_command.specs.declared.end.End.{End}
use Rattle.plan_command.specs.declared.end.End.TheVariants as ends
use Rattle.run_command.specs.declared.end.RunEnd.{RunEnd}
use Rattle.run_command.specs.declared.end.RunEnd.TheVariants as run_ends
use Rattle.rehearse.specs.declared.course_end.CourseEnd.{CourseEnd}
use Rattle.rehearse.specs.declared.course_end.CourseEnd.TheVariants as course_ends
use Rattle.plan_check.specs.declared.end.CheckEnd.{CheckEnd}
use Rattle.plan_check.specs.declared.end.CheckEnd.TheVariants as check_ends
use Rattle.command_preview.specs.declared.end.WordsEnd.{WordsEnd}
use Rattle.command_preview.specs.declared.end.WordsEnd.TheVariants as words_ends
use Rattle.lint_rules.specs.declared.end.LintEnd.{LintEnd}
use Rattle.lint_rules.specs.declared.end.LintEnd.TheVariants as lint_ends
use Rattle.rollout.specs.declared.status.Status.{Status}
use Rattle.rollout.specs.declared.status.Status.TheVariants.{Done, Refused, Failed, Blocked, Stopped, Memory, BrokenOff, Running}

abbrev pub code_of : Status → ℕ
code_of Done = 0
code_of Refused = 1
code_of Failed = 2
code_of Blocked = 3
code_of Stopped = 4
code_of Memory = 5
code_of BrokenOff = 6
code_of Running = 7

-- a plan that leaves hosts out is told by a status of its own
abbrev pub status_of_end : End → Status
status_of_end ends.Planned = Done
status_of_end ends.Blocked = Blocked

-- a run tells of its end by four
abbrev pub status_of_run : RunEnd → Status
status_of_run run_ends.Done = Done
status_of_run run_ends.Failed = Failed
status_of_run run_ends.Blocked = Blocked
status_of_run run_ends.Stopped = Stopped

-- a course is told as the run would be
abbrev pub status_of_course : CourseEnd → Status
status_of_course course_ends.Done = Done
status_of_course course_ends.Failed = Failed
status_of_course course_ends.Blocked = Blocked
status_of_course course_ends.Stopped = Stopped

-- a plan that is checked may be longer than the least, or none, or there is none
abbrev pub status_of_check : CheckEnd → Status
status_of_check check_ends.Least = Done
status_of_check check_ends.Longer = Failed
status_of_check check_ends.Wrong = Refused
status_of_check check_ends.Blocked = Blocked

-- words of which some step is sure to fail, or is too long, are told as a run would be
abbrev pub status_of_words : WordsEnd → Status
status_of_words words_ends.Sure = Done
status_of_words words_ends.Fails = Failed

abbrev pub status_of_notes : LintEnd → Status
status_of_notes lint_ends.Clean = Done
status_of_notes lint_ends.Noted = Refused
