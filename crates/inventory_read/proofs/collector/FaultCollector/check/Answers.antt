use Rattle.inventory_read.specs.Faults.{breach_of_flaw}
use Rattle.inventory_read.specs.Listings.{texts}
use Rattle.inventory_read.specs.Paths.{text_path}
use Rattle.inventory_read.specs.Rules.{placed}
use Rattle.text_syntax.proofs.Tellings.{kept_where}
use Rattle.inventory_read.proofs.collector.FaultCollector.check.Goals as goal

pub returns-then-kept : goal.returns-then-kept
returns-then-kept c =
    kept_where c.args.self.now c.args.kept (placed (text_path (texts c.args.names.now))) (breach_of_flaw c.args.flaw) c.if-kept.true
