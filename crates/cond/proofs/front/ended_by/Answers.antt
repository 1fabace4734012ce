use Rattle.std.proofs.Common.{◌++◌, sym, ap, ◌∙◌}
use Rattle.std.proofs.lemmas.Str.{encode_ascii}
use Rattle.std.specs.Char.{encode_utf8}
use Rattle.cond.specs.Seen.{seen}
use Rattle.cond.proofs.Runs.{not_ended}
use Rattle.cond.proofs.front.ended_by.Goals as goal

pub returns-in-None : goal.returns-in-None
returns-in-None c =
    sym (not_ended c.args.wanted (seen c.args.kind) c.args.text.now
    (λ rest e. c.in-None.ensures.cases rest (e ∙ ap (λ l. l ++ rest) (sym (ap encode_utf8 c.from.ensures ∙ encode_ascii c.args.wanted c.requires)))))
