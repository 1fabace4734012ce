use Rattle.std.proofs.Common.{subst, sym}
use Rattle.bounded_io.specs.Writing.{Writes}
use Rattle.roll_core.specs.Tellings.{telling_of}
use Rattle.roll_core.specs.declared.notification.Notification.{Notification}
use Rattle.run_progress.specs.JsonTellings.{telling_json}
use Rattle.run_progress.proofs.json_tellings.write_telling_json.Goals as goal

pub returns-in-Closing : goal.returns-in-Closing
returns-in-Closing g c =
    subst (λ (news : Notification). Writes g.W.Write.contents c.args.text.now c.write_closing_json.new.text (telling_json c.args.fleet.now c.args.play.now (telling_of news) c.args.given.now))
    (sym c.in-Closing.is) c.write_closing_json.ensures
