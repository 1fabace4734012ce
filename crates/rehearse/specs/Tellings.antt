-- How answers are written in each form.
use Rattle.json_output.specs.declared.form.Form.{Form}
use Rattle.json_output.specs.declared.form.Form.TheVariants.{Plain, Json}
use Rattle.rehearse.specs.Replies.{Telling}
use Rattle.rehearse.specs.PlainReplies.{plain_reply}
use Rattle.rehearse.specs.JsonReplies.{json_reply}

abbrev pub telling_of : Form → Telling
telling_of Plain = plain_reply
telling_of Json = json_reply
