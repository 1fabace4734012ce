use Rattle.std.proofs.Common.{◌≡◌, ◌≤◌, ◌+◌, ℕ, Some, Option, List, length, sym, subst, ap, ◌∙◌, arith}
use Rattle.std.specs.Borrow.{Bor}
use Rattle.plan_check.specs.Inside.{Goes}
use Rattle.plan_check.specs.Listings.{batch_of}
use Rattle.plan_check.specs.Names.{Nobody}
use Rattle.plan_check.proofs.NamingLemmas.{bytes_left, fewer_left, found_nobody, reads_on}
use Rattle.plan_check.proofs.naming.find_batches.Goals as goal

pub returns-in-Some-2 : goal.returns-in-Some-2
returns-in-Some-2 c =
    let before = c.loop-left.batches in
    let after = c.add_line.new.batches in
    let line = c.cut_line.result.0 in
    let goes = subst (λ (o : Option (Bor (List ℕ))). Goes c.args.fleet.now before after (batch_of (length before) line.now) o) c.in-Some-2.is c.in_ok-name.ensures in
    found_nobody c.args.fleet.now c.args.text.now before after c.loop-left.left c.cut_line.result.1 c.in-Some.bytes line c.loop-left.invariant.read c.in-Some.is c.cut_line.ensures.lines
    c.in-Some-2.name goes
    ∙ ap (λ (n : ℕ). let found : Nobody = record { batch = n + 1; name = c.in-Some-2.name.now } in Some found) (sym c.len.ensures)

pub loop-left-preserved : goal.loop-left-preserved
loop-left-preserved c =
    let before = c.loop-left.batches in
    let after = c.add_line.new.batches in
    let line = c.cut_line.result.0 in
    let bytes = c.in-Some.bytes in
    let rest = c.cut_line.result.1 in
    let goes = subst (λ (o : Option (Bor (List ℕ))). Goes c.args.fleet.now before after (batch_of (length before) line.now) o) c.in_default-2.is c.in_ok-name.ensures in
    let on = reads_on c.args.fleet.now c.args.text.now before after c.loop-left.left rest bytes line c.loop-left.invariant.read c.in-Some.is c.cut_line.ensures.lines goes in
    let left : bytes_left c.loop-left.left ≡ length bytes.now + 1 = ap bytes_left c.in-Some.is in
    let fewer : bytes_left rest ≤ length bytes.now = fewer_left rest bytes.now c.cut_line.ensures.shorter in
    record { read = on.0; within = omega (arith, on.1, left, fewer, c.loop-left.invariant.within) }
