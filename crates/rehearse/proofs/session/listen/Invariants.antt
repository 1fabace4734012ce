use Rattle.std.proofs.Common.{◌≡◌, ◌-◌}
use Rattle.bounded_io.specs.Reading.{max_input}
use Rattle.rehearse.specs.Tellings.{telling_of}
use Rattle.rehearse.proofs.ListeningLemmas.{Listening}
use Rattle.rehearse.proofs.session.listen.Given as goal

abbrev pub invariant-reads : goal.invariant-reads
invariant-reads g l = record {
  so_far : Listening g.W.Write.contents (telling_of l.form) l.initial.history (g.I.Read.remaining l.initial.input) (g.I.Read.remaining l.input) l.given l.line.items l.history l.initial.text l.text;
  reliable : g.I.Input.is_reliable l.input ≡ g.I.Input.is_reliable l.initial.input;
}

abbrev pub decreases-reads : goal.decreases-reads
decreases-reads g l = max_input - l.given
