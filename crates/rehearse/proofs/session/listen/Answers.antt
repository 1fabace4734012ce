use Rattle.std.proofs.Common.{◌≡◌, ℕ, ◌+◌, ◌<◌, ◌≤◌, ◌++◌, ◌∷◌, [], List, length, take, drop, get_or, refl, sym, ap, ◌∙◌, subst, arith, length-take, length-drop}
use Rattle.std.specs.Io.KnownBytes.{Consumes}
use Rattle.rehearse.specs.Inside.{LastAnswer}
use Rattle.rehearse.specs.Tellings.{telling_of}
use Rattle.rehearse.proofs.FlowLemmas.{where_off, where_on}
use Rattle.rehearse.proofs.ListeningLemmas.{in_vain, one_read_more, still_listening, to_all, to_line, until_fault, until_file, until_memory, until_too_large}
use Rattle.rehearse.proofs.ReadLemmas.{read_all, read_one_more, read_parts}
use Rattle.rehearse.proofs.session.listen.Goals as goal
use Rattle.rehearse.proofs.session.listen.Goals.{in-Ok, in-Err}

pub returns-in-Some-clause-err : goal.returns-in-Some-clause-err
returns-in-Some-clause-err g c =
    (in_vain _ _ _ _ _ _ _ _ _ (still_listening _ _ _ _ _ _ _ _ _ c.reads.invariant.so_far c.flush.new.self c.flush.ensures.writes), sym c.in-Some.ensures)

pub returns-in_default-read_some-clause-err : goal.returns-in_default-read_some-clause-err
returns-in_default-read_some-clause-err g c =
    until_file _ _ _ _ _ _ _ _ _ (still_listening _ _ _ _ _ _ _ _ _ c.reads.invariant.so_far c.flush.new.self c.flush.ensures.writes) (g.I.Read.remaining c.read_some.new.self)
    (g.I.Input.is_reliable c.args.input.now) (c.in_default-read_some.ensures.kept refl) (sym c.reads.invariant.reliable ∙ c.in_default-read_some.ensures.failed refl)

pub returns-then-count-eq0-clause-ok : goal.returns-then-count-eq0-clause-ok
returns-then-count-eq0-clause-ok g c =
    let none : Consumes (g.I.Read.remaining c.reads.input) (g.I.Read.remaining c.read_some.new.self) [] =
    subst (λ (n : ℕ). Consumes (g.I.Read.remaining c.reads.input) (g.I.Read.remaining c.read_some.new.self) (take n c.read_some.new.room)) c.if-count-eq0.true c.in-Some-read_some.ensures.read in
    elim c.match-answer_last.branch [
      | in-Ok w ↦ rw w.result-is (to_all _ _ _ _ _ _ _ _ _ (still_listening _ _ _ _ _ _ _ _ _ c.reads.invariant.so_far c.flush.new.self c.flush.ensures.writes) (g.I.Read.remaining c.read_some.new.self) none
          c.answer_last.new.history c.answer_last.new.text (c.in-Some-read_some.ensures.end c.if-count-eq0.true)
          (subst (λ (l : List ℕ). LastAnswer g.W.Write.contents (telling_of c.args.form) c.reads.history l c.answer_last.new.history c.flush.new.self c.answer_last.new.text) c.as_slice.ensures.value w.in-Ok.ensures.last))
      | in-Err w ↦ rw w.result-is tt
    ]

pub returns-then-count-eq0-clause-err : goal.returns-then-count-eq0-clause-err
returns-then-count-eq0-clause-err g c =
    let none : Consumes (g.I.Read.remaining c.reads.input) (g.I.Read.remaining c.read_some.new.self) [] =
    subst (λ (n : ℕ). Consumes (g.I.Read.remaining c.reads.input) (g.I.Read.remaining c.read_some.new.self) (take n c.read_some.new.room)) c.if-count-eq0.true c.in-Some-read_some.ensures.read in
    elim c.match-answer_last.branch [
      | in-Ok w ↦ rw w.result-is tt
      | in-Err w ↦ rw w.result-is (until_memory _ _ _ _ _ _ _ _ _ (still_listening _ _ _ _ _ _ _ _ _ c.reads.invariant.so_far c.flush.new.self c.flush.ensures.writes) (g.I.Read.remaining c.read_some.new.self) none
          (g.I.Input.is_reliable c.args.input.now) c.answer_last.new.text w.in-Err.ensures.silent)
    ]

pub returns-in-Err-hear-clause-err : goal.returns-in-Err-hear-clause-err
returns-in-Err-hear-clause-err g c =
    let count : ℕ = c.in-Some-read_some.count in
    let room : List ℕ = c.read_some.new.room in
    let part : List ℕ = c.split_at.result.0.now in
    let parts : take count room ≡ part ++ drop c.min.result (take count room) = read_parts count c.min.result room part (omega (arith, c.min.ensures)) c.split_at.ensures.front in
    until_fault _ _ _ _ _ _ _ _ _ (still_listening _ _ _ _ _ _ _ _ _ c.reads.invariant.so_far c.flush.new.self c.flush.ensures.writes) (g.I.Read.remaining c.read_some.new.self)
    c.hear.new.history c.hear.new.text (g.I.Input.is_reliable c.args.input.now) part (drop c.min.result (take count room)) c.in-Err-hear.fault
    (subst (Consumes (g.I.Read.remaining c.reads.input) (g.I.Read.remaining c.read_some.new.self)) parts c.in-Some-read_some.ensures.read)
    (omega (arith, ap length parts, length-take {A = ℕ}, c.in-Some-read_some.ensures.bound, c.min-most.ensures, c.reads.invariant.so_far.within))
    (omega (arith, c.split_at.ensures.front_len, c.min.ensures, c.reads.invariant.so_far.within)) c.in-Err-hear.ensures.err

pub returns-in-Ok-Break-clause-ok : goal.returns-in-Ok-Break-clause-ok
returns-in-Ok-Break-clause-ok g c =
    let count : ℕ = c.in-Some-read_some.count in
    let room : List ℕ = c.read_some.new.room in
    let part : List ℕ = c.split_at.result.0.now in
    let parts : take count room ≡ part ++ drop c.min.result (take count room) = read_parts count c.min.result room part (omega (arith, c.min.ensures)) c.split_at.ensures.front in
    to_line _ _ _ _ _ _ _ _ _ (still_listening _ _ _ _ _ _ _ _ _ c.reads.invariant.so_far c.flush.new.self c.flush.ensures.writes) (g.I.Read.remaining c.read_some.new.self)
    c.hear.new.history c.hear.new.text part (drop c.min.result (take count room))
    (subst (Consumes (g.I.Read.remaining c.reads.input) (g.I.Read.remaining c.read_some.new.self)) parts c.in-Some-read_some.ensures.read)
    (omega (arith, ap length parts, length-take {A = ℕ}, c.in-Some-read_some.ensures.bound, c.min-most.ensures))
    (omega (arith, ap length parts, length-take {A = ℕ}, c.in-Some-read_some.ensures.bound, c.min-most.ensures, c.reads.invariant.so_far.within))
    (omega (arith, c.split_at.ensures.front_len, c.min.ensures, c.reads.invariant.so_far.within)) (where_off c.in-Ok-Break.field-0 _ _ _ c.in-Ok-Break.field-0-is c.in-Ok-Break.ensures.hears)

pub returns-then-count-left-clause-err : goal.returns-then-count-left-clause-err
returns-then-count-left-clause-err g c =
    let heard = where_on c.in-Ok-Continue.field-0 _ _ _ c.in-Ok-Continue.field-0-is c.in-Ok-Continue.ensures.hears in
    let count : ℕ = c.in-Some-read_some.count in
    let room : List ℕ = c.read_some.new.room in
    let part : List ℕ = c.split_at.result.0.now in
    let one : count ≡ c.min.result + 1 = omega (arith, c.min.ensures, c.if-count-left.true, c.in-Some-read_some.ensures.bound, length-take {A = ℕ}, c.min-most.ensures) in
    let parts : take count room ≡ part ++ get_or room c.min.result 0 ∷ [] = read_one_more count c.min.result room part one (omega (arith, c.in-Some-read_some.ensures.bound)) c.split_at.ensures.front in
    until_too_large _ _ _ _ _ _ _ _ _ (still_listening _ _ _ _ _ _ _ _ _ c.reads.invariant.so_far c.flush.new.self c.flush.ensures.writes) (g.I.Read.remaining c.read_some.new.self)
    c.hear.new.history c.hear.new.text (g.I.Input.is_reliable c.args.input.now) part c.hear.new.line.items (get_or room c.min.result 0)
    (subst (Consumes (g.I.Read.remaining c.reads.input) (g.I.Read.remaining c.read_some.new.self)) parts c.in-Some-read_some.ensures.read)
    (omega (arith, c.split_at.ensures.front_len, c.min.ensures, c.if-count-left.true, c.reads.invariant.so_far.within)) heard.0 heard.1

pub reads-preserved : goal.reads-preserved
reads-preserved g c =
    let heard = where_on c.in-Ok-Continue.field-0 _ _ _ c.in-Ok-Continue.field-0-is c.in-Ok-Continue.ensures.hears in
    let count : ℕ = c.in-Some-read_some.count in
    let room : List ℕ = c.read_some.new.room in
    let part : List ℕ = c.split_at.result.0.now in
    let all : c.min.result ≡ count = omega (arith, c.min.ensures, c.if-count-left.false) in
    record {
      so_far = one_read_more _ _ _ _ _ _ _ _ _ (still_listening _ _ _ _ _ _ _ _ _ c.reads.invariant.so_far c.flush.new.self c.flush.ensures.writes) (g.I.Read.remaining c.read_some.new.self)
          c.hear.new.history c.hear.new.text part c.hear.new.line.items count
          (subst (Consumes (g.I.Read.remaining c.reads.input) (g.I.Read.remaining c.read_some.new.self)) (read_all count c.min.result room part all c.split_at.ensures.front) c.in-Some-read_some.ensures.read)
          (omega (arith, c.split_at.ensures.front_len, all)) (omega (arith, c.if-count-left.false, c.reads.invariant.so_far.within)) heard.0 heard.1;
      reliable = c.in-Some-read_some.ensures.stays ∙ c.reads.invariant.reliable;
    }
