use Rattle.std.proofs.Common.{◌≡◌, ◌++◌, Bool, true, false, cond, List, ℕ, Option, Some, None, drop, length, take, refl, sym, ap, ◌∙◌, option_map}
use Rattle.std.specs.Option.{MatchOption}
use Rattle.std.specs.Str.{bytes_eq}
use Rattle.std.specs.Str.Pattern.{FindsTextPrefix, StripsPrefix}
use Rattle.std.proofs.Math.Seq.{take-append_seam}
use Rattle.std.proofs.lemmas.List.{take-append-drop}
use Rattle.std.proofs.lemmas.Slice.Eq.{bytes_eq-Decides}
use Rattle.command_line.specs.Operands.{Word}
use Rattle.command_line.specs.Options as spec
use Rattle.command_line.proofs.option_words.behind.Goals as goal
use denote.Ref.{Bor}

-- a text that begins so
begins : (start word : Word) (n : ℕ) → n ≡ length start → word ≡ start ++ drop n word → Some (drop n word) ≡ spec.behind start word
begins start word n is cut =
    let front : take (length start) word ≡ start = ap (take (length start)) cut ∙ take-append_seam start (drop n word) in
    rw ((bytes_eq-Decides (take (length start) word) start).1 front, is) refl

-- and one that doesn't
lacks : (start word : Word) (same : Bool) → bytes_eq (take (length start) word) start ≡ same → ((rest : Word) → word ≡ start ++ rest → ⊥)
    → None ≡ cond same (Some (drop (length start) word)) None
lacks start word false at other = refl
lacks start word true at other =
    let front : take (length start) word ≡ start = (bytes_eq-Decides (take (length start) word) start).0 at in
    absurd (other (drop (length start) word) (sym (take-append-drop (length start) word) ∙ ap (λ l. l ++ drop (length start) word) front))

stripped : (start word : Word) (found : Option (Bor (List ℕ))) → MatchOption found (FindsTextPrefix start word None) (λ x. StripsPrefix (FindsTextPrefix start) word x.now)
    → option_map (λ x. x.now) found ≡ spec.behind start word
stripped start word (Some x) h = ap Some h.2 ∙ begins start word h.0 h.1.0 h.1.1
stripped start word None h = lacks start word (bytes_eq (take (length start) word) start) refl h

pub returns : goal.returns
returns c =
    stripped c.args.start.now c.args.word.now c.strip_prefix.result c.strip_prefix.ensures.cases
