use Rattle.rehearse.proofs.OneCourseLemmas.{one_course_text}
use Rattle.rehearse.proofs.laws.one_course_text.Goals as goal

pub returns : goal.returns
returns c = one_course_text
