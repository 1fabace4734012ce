use Rattle.std.proofs.Common.{ℕ, Option, List, refl, rules, subst}
use Rattle.rollout.specs.LintFaults.{LosesFound, ShowsFaults}
use Rattle.rollout.specs.declared.fault.Fault.TheVariants.{Write}
use Rattle.rollout.proofs.FaultLemmas.{lost_so, shown_so, whole}
use Rattle.rollout.proofs.commands.faults.send_faults.Goals as goal

pub returns-in-Ok-clause-ok : goal.returns-in-Ok-clause-ok
returns-in-Ok-clause-ok g c =
    let contents = g.W.Write.contents in
    let found = c.args.found.now in
    let first = c.new-text.result in
    let mid = c.write_each.new.text in
    let last = c.write_count.new.text in
    let each = rw (c.first_of.ensures, c.as_slice.ensures.value) at c.write_each.ensures in
    let all = whole contents _ first mid last (g.W.Write.contents c.args.out.now) found c.new-text.ensures each c.write_count.ensures in
    let told = shown_so contents _ first mid last _ found c.new-text.ensures each c.write_count.ensures c.in-Ok.ensures.finishes in
    let same = all.same_reference in
    let Is : Option (List ℕ) → Type 0 = λ (new : Option (List ℕ)). ShowsFaults found (g.W.Write.contents c.args.out.now) new in
    (refl, subst Is (search (rules, same)) told)

pub returns-in-Err-clause-err : goal.returns-in-Err-clause-err
returns-in-Err-clause-err g c =
    let contents = g.W.Write.contents in
    let found = c.args.found.now in
    let first = c.new-text.result in
    let mid = c.write_each.new.text in
    let last = c.write_count.new.text in
    let each = rw (c.first_of.ensures, c.as_slice.ensures.value) at c.write_each.ensures in
    let all = whole contents _ first mid last (g.W.Write.contents c.args.out.now) found c.new-text.ensures each c.write_count.ensures in
    let told = lost_so contents _ first mid last _ found c.new-text.ensures each c.write_count.ensures c.in-Err.fault c.in-Err.ensures.finishes in
    let same = all.same_reference in
    let Is : Option (List ℕ) → Type 0 = λ (new : Option (List ℕ)). LosesFound found (g.W.Write.contents c.args.out.now) new (Write c.in-Err.fault) in
    subst Is (search (rules, same)) told
