use Rattle.std.proofs.Common.{ap, ◌∙◌, arith}
use Rattle.journal.specs.Entries.{is_digest}
use Rattle.journal.proofs.DigestLemmas.{encoded_digest}
use Rattle.journal.proofs.digest.digits_of.Goals as goal

pub returns-in-Ok-clause-digits : goal.returns-in-Ok-clause-digits
returns-in-Ok-clause-digits c =
    ap is_digest c.in-Ok.ensures.written ∙ encoded_digest c.args.sum.now (λ k l. omega (arith, c.type_inv.sum k)) c.requires
