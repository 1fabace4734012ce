use Rattle.rollout.proofs.fault_line.write_row.Goals as goal

pub returns-in-BadJournal : goal.returns-in-BadJournal
returns-in-BadJournal g c = rw c.in-BadJournal.is c.row-in-BadJournal.ensures

pub returns-in-OtherInputs : goal.returns-in-OtherInputs
returns-in-OtherInputs g c = rw c.in-OtherInputs.is c.row-in-OtherInputs.ensures

pub returns-in-NeedsResult : goal.returns-in-NeedsResult
returns-in-NeedsResult g c = rw (c.in-NeedsResult.is, ← c.as_str.ensures.value) c.row-in-NeedsResult.ensures

pub returns-in-ChildrenIgnored : goal.returns-in-ChildrenIgnored
returns-in-ChildrenIgnored g c = rw c.in-ChildrenIgnored.is c.row-in-ChildrenIgnored.ensures

pub returns-in-JournalThere : goal.returns-in-JournalThere
returns-in-JournalThere g c = rw c.in-JournalThere.is c.row-in-JournalThere.ensures

pub returns-in-JournalWrite : goal.returns-in-JournalWrite
returns-in-JournalWrite g c = rw c.in-JournalWrite.is c.row-in-JournalWrite.ensures
