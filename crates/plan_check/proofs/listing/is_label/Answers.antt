use Rattle.std.proofs.Common.{◌≡◌, ◌++◌, List, ℕ, None, Some, sym, ap, ◌∙◌}
use Rattle.std.specs.Str.{bytes_eq}
use Rattle.std.specs.Cmp.{unsigned_Decides}
use Rattle.std.proofs.lemmas.Slice.Eq.{strip_suffix_is}
use Rattle.plan_check.proofs.ListingLemmas.{label_same, no_label}
use Rattle.plan_check.proofs.listing.is_label.Goals as goal

pub returns-in-Some : goal.returns-in-Some
returns-in-Some c =
    let word = c.args.word.now in
    let digits : List ℕ = c.in-Some.digits.now in
    let is : word ≡ digits ++ c.as_slice.result.now = strip_suffix_is unsigned_Decides word c.as_slice.result.now (Some c.in-Some.digits) c.in-Some.ensures.cases in
    c.eq.ensures ∙ ap (bytes_eq digits) (c.as_bytes.ensures.value ∙ c.format.ensures.text)
    ∙ label_same word digits c.args.number (is ∙ ap (λ (l : List ℕ). digits ++ l) c.as_slice.ensures)

pub returns-in-None : goal.returns-in-None
returns-in-None c =
    let word = c.args.word.now in
    let ends : (front : List ℕ) → word ≡ front ++ c.as_slice.result.now → ⊥ = strip_suffix_is unsigned_Decides word c.as_slice.result.now None c.in-None.ensures.cases in
    no_label word c.args.number (λ front e. ends front (e ∙ ap (λ (l : List ℕ). front ++ l) (sym c.as_slice.ensures)))
