use Rattle.std.specs.HashMap.{get_by_text}
use Rattle.play_model.specs.Results.{shared_number}
use Rattle.play_model.proofs.NumberLemmas.{one_shared_name}
use Rattle.play_model.proofs.PlaceLemmas.{result_at_number}
use Rattle.play_model.proofs.results.Results.register.Goals as goal

pub returns-in-Some-clause-results : goal.returns-in-Some-clause-results
returns-in-Some-clause-results c =
    result_at_number (shared_number c.args.self.now) c.args.self.now.rows.items (get_by_text c.args.self.now.own) c.args.name.now c.in-Some.number c.args.registered (one_shared_name c.args.self.now) c.in-Some.ensures.number c.in-Some.ensures.within
