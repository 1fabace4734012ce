use Rattle.std.proofs.Common.{◌≡◌, rules}
use Rattle.std.specs.Prelude.{string_bytes}
use Rattle.local_runner.specs.Texts.{text_in}
use Rattle.local_runner.proofs.TextLemmas.{text_of_output}
use Rattle.local_runner.proofs.text.text_of.Goals as goal

pub returns-clause-output : goal.returns-clause-output
returns-clause-output c =
    let made : string_bytes c.truncate.new.self ≡ text_in c.args.bytes.now = search rules in
    text_of_output (string_bytes c.truncate.new.self) c.args.bytes.now c.requires made c.truncate.new.self.ok
