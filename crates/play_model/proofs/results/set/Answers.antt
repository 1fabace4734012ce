use Rattle.std.proofs.Common.{Some, rules}
use Rattle.std.proofs.lemmas.Map.Text.{hash_map_updates_text}
use Rattle.play_model.proofs.results.set.Goals as goal

pub returns-in-Some : goal.returns-in-Some
returns-in-Some c =
    let after = c.get_mut.follows.lender (Some c.args.registered) in
    hash_map_updates_text c.args.name.now c.args.own.now after _ ((c.get_mut.follows.holds (Some c.args.registered)).3 (search rules))
