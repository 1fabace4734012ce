-- The first bytes of a string, made printable, are a line of help.
use Rattle.std.proofs.Common.{◌≡◌, ◌≤◌, ℕ, Bool, true, false, ◌&&◌, cond, List, [], ◌∷◌, map, length, take, refl, ap, ◌∙◌, arith, String, Result, Ok, Err, subst, sym, IfOk, string_bytes}
use Rattle.std.specs.declared.alloc.Global.{Global}
use Rattle.std.specs.List.{list_all}
use Rattle.std.proofs.lemmas.List.{length-map, length-take}
use Rattle.hints.specs.Lines.{is_printable, printable, IsHelp, IsHelpLine}

prints : (byte : ℕ) (b : Bool) → is_printable byte ≡ b → is_printable (cond b byte 63) ≡ true
prints byte true e = e
prints byte false e = refl

all_print : (text : List ℕ) → list_all is_printable (map printable text) ≡ true
all_print [] = refl
all_print (byte ∷ bytes) = ap (λ b. b && list_all is_printable (map printable bytes)) (prints byte (is_printable byte) refl) ∙ all_print bytes

is_short : (text : List ℕ) → length (map printable (take 140 text)) ≤ 140
is_short text = omega (arith, length-map (take 140 text) printable, length-take 140 text)

pub helps : {E : Type 0} (result : Result (String Global) E) (text first : List ℕ) → first ≡ take 140 text
    → IfOk result (λ line. string_bytes line ≡ map printable first) → IsHelpLine result
helps (Ok line) text first begins is =
    subst IsHelp (sym (is ∙ ap (map printable) begins)) (is_short text, all_print (take 140 text))
helps (Err _) text first begins is = tt
