use Rattle.std.proofs.Common.{◌∙◌}
use Rattle.text_syntax.specs.Words.{parts_of}
use Rattle.result_dependencies.specs.Lookups.{blanks}
use Rattle.result_dependencies.proofs.Firsts.{told_is, first_told}
use Rattle.result_dependencies.proofs.reading.first_in_word.Goals as goal

pub returns : goal.returns
returns g c =
    c.told_name.ensures ∙ told_is (blanks (g.N.Names.holds c.args.names.now)) c.args.word.now c.render.result c.render.ensures.ok c.render.ensures.err
    ∙ first_told (g.N.Names.holds c.args.names.now) (parts_of c.args.word.now)
