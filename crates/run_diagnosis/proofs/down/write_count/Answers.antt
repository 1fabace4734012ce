use Rattle.std.proofs.Common.{ℕ, length, sym, subst}
use Rattle.bounded_io.specs.Writing.{Writes}
use Rattle.domains.specs.Ids.{host_numbers}
use Rattle.fleet_states.proofs.HostLemmas.{length-host_numbers}
use Rattle.run_diagnosis.specs.Downs.{count_text}
use Rattle.run_diagnosis.proofs.down.write_count.Goals as goal

pub returns : goal.returns
returns g c =
    let text = λ (failed all : ℕ). Writes g.W.Write.contents c.args.text.now c.write_count_of.new.text (count_text failed all) in
    let failed = c.args.failed.now in
    let all = c.args.all.now in
    subst (λ (n : ℕ). text n (length (host_numbers all))) (sym (length-host_numbers failed))
    (subst (λ (n : ℕ). text (length failed) n) (sym (length-host_numbers all)) c.write_count_of.ensures)
