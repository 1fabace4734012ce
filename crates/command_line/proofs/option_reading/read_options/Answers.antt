use Rattle.std.proofs.Common.{◌++◌, ◌∷◌, [], List, None, ap, cond, map, string_bytes, sym, ◌∙◌, option_map}
use Rattle.std.proofs.lemmas.List.{map-append}
use Rattle.command_line.specs.Operands.{Word}
use Rattle.command_line.specs.OptionReads.{OptionMatch, given_as, leading}
use Rattle.command_line.proofs.ReadingLemmas.{goes_by_option, goes_by_word, joined, left, one}
use Rattle.command_line.proofs.option_reading.read_options.Goals as goal

pub loop-word-preserved-in-Some-leading : goal.loop-word-preserved-in-Some-leading
loop-word-preserved-in-Some-leading c =
    let options = c.args.options.now in
    let front = c.loop-word.in_front in
    let word : Word = string_bytes c.in-Some.word.now in
    let words : List Word = map string_bytes c.in-Some.rest.now in
    let option = c.in-Some-leading.option in
    let value : Word = c.in-Some-leading.text.now in
    let rest : List Word = map string_bytes c.in-Some-leading.behind.now in
    let kept : List Word = map string_bytes c.loop-word.plain.items in
    let given : List OptionMatch = map given_as c.loop-word.given.items in
    let split = ap (map string_bytes) c.in-Some.ensures.cases.0 in
    let now = c.goes_on-in_front.ensures in
    let found = sym (c.leading.ensures ∙ ap (λ b. cond b (leading options word words) None) now)
    ∙ ap (option_map (λ found. (found.0, found.1.now, map string_bytes found.2.now))) c.in-Some-leading.is in
    let pushed = rw c.in_ok-push-in-Some-leading.was at c.push.ensures.items in
    let more = ap (map given_as) pushed ∙ map-append given_as c.loop-word.given.items (_ ∷ []) ∙ ap (λ w. given ++ one option w ∷ []) c.in_ok-value-in-Some-leading.ensures.ok in
    ap (λ b. joined kept (map given_as c.push.new.self.items) (left options b rest)) now
    ∙ goes_by_option options kept given (map given_as c.push.new.self.items) _ front word words option value rest found more
    (sym (ap (λ l. joined kept given (left options front l)) split) ∙ c.loop-word.invariant)

pub loop-word-preserved : goal.loop-word-preserved
loop-word-preserved c =
    let options = c.args.options.now in
    let front = c.loop-word.in_front in
    let word : Word = string_bytes c.in-Some.word.now in
    let words : List Word = map string_bytes c.in-Some.rest.now in
    let kept : List Word = map string_bytes c.loop-word.plain.items in
    let given : List OptionMatch = map given_as c.loop-word.given.items in
    let split = ap (map string_bytes) c.in-Some.ensures.cases.0 in
    let now = c.goes_on-in_front.ensures in
    let none = sym (c.leading.ensures ∙ ap (λ b. cond b (leading options word words) None) now)
    ∙ ap (option_map (λ found. (found.0, found.1.now, map string_bytes found.2.now))) c.in-None.is in
    let pushed = rw c.in_ok-push-in-None.was at c.push-in-None.ensures.items in
    let more = ap (map string_bytes) pushed ∙ map-append string_bytes c.loop-word.plain.items (c.in_ok-from_str-in-None.field-0 ∷ [])
    ∙ ap (λ w. kept ++ w ∷ []) (c.in_ok-from_str-in-None.ensures.ok ∙ c.as_str.ensures.value) in
    ap (λ b. joined (map string_bytes c.push-in-None.new.self.items) given (left options b words)) now
    ∙ goes_by_word options kept (map string_bytes c.push-in-None.new.self.items) given _ front word words none more
    (sym (ap (λ l. joined kept given (left options front l)) split) ∙ c.loop-word.invariant)
