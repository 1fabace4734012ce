use Rattle.std.proofs.Common.{ℕ, ◌++◌, length, sym, ap, ◌∙◌, arith}
use Rattle.std.proofs.lemmas.Bool.Decides.{Decides-eqb}
use Rattle.std.proofs.lemmas.List.{append_cancel_left}
use Rattle.std.proofs.lemmas.Slice.Eq.{slice_eq-Decides}
use Rattle.journal.specs.Lines.{number_word, weighed}
use Rattle.journal.specs.Inside.{behind_space}
use Rattle.journal.proofs.LineLemmas.{no_line}
use Rattle.journal.proofs.checked_line.body_of.Goals as goal

pub returns-in_default : goal.returns-in_default
returns-in_default c =
    let found = c.behind_space-body.result.now in
    no_line c.args.line.now found (λ k l. omega (arith, c.type_inv.line k)) (omega arith) (c.behind_space-body.ensures ∙ ap behind_space c.behind_space.ensures)
    (λ e. c.in_default.ensures (number_word (weighed 1 found) ++ found) e)

pub returns-in_default-behind_number : goal.returns-in_default-behind_number
returns-in_default-behind_number c =
    let found = c.behind_space-body.result.now in
    no_line c.args.line.now found (λ k l. omega (arith, c.type_inv.line k)) (omega arith) (c.behind_space-body.ensures ∙ ap behind_space c.behind_space.ensures)
    (λ e. c.in_default-behind_number.ensures found
    (append_cancel_left (number_word (length found)) c.in-Some.rest.now (number_word (weighed 1 found) ++ found) (sym c.in-Some.ensures ∙ e)
    ∙ ap (λ (n : ℕ). number_word n ++ found) (sym c.weigh.ensures)))

pub returns-else-eq : goal.returns-else-eq
returns-else-eq c =
    let found = c.behind_space-body.result.now in
    let rest = c.in-Some-behind_number.rest.now in
    no_line c.args.line.now found (λ k l. omega (arith, c.type_inv.line k)) (omega arith) (c.behind_space-body.ensures ∙ ap behind_space c.behind_space.ensures)
    (λ e.
    let first = append_cancel_left (number_word (length found)) c.in-Some.rest.now (number_word (weighed 1 found) ++ found) (sym c.in-Some.ensures ∙ e) in
    let same = append_cancel_left (number_word (weighed 1 found)) rest found
    (ap (λ (n : ℕ). number_word n ++ rest) (sym c.weigh.ensures) ∙ sym c.in-Some-behind_number.ensures ∙ first) in
    let yes = (slice_eq-Decides Decides-eqb rest found c.eq.result c.eq.ensures).1 same in
    let no = c.if-eq.false in absurd (cc))
