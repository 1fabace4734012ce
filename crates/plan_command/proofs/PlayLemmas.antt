-- A playbook has a first play.
use Rattle.std.proofs.Common.{◌≡◌, ℕ, ◌<◌, Bool, true, false, List, [], ◌++◌, length, map, refl, arith}
use Rattle.std.proofs.lemmas.Bool.{ltb-true}
use Rattle.std.proofs.lemmas.List.{length-map}
use Rattle.std.proofs.lemmas.Slice.Zip.{AllZip-long}
use Rattle.std.specs.Prelude.{nat_lt}
use Rattle.play_model.specs.declared.play.Play.{Play}
use Rattle.playbook_schema.specs.Breaches.{Breach, BadShape, Broken, Check, unless}
use Rattle.playbook_schema.specs.Plays.{play_of, plays_in, plays_of}
use Rattle.playbook_schema.specs.Checks.{AllKept}
use Rattle.play_read.specs.Reads.{IsPlay, IsReadAs}

kept_first : (b : Bool) (breach : Breach) (more : List Breach) (rest : List Check) → AllKept (map Broken (unless b breach ++ more) ++ rest) → b ≡ true
kept_first true breach more rest kept = refl
kept_first false breach more rest kept = absurd kept

pub has_play : (most : ℕ) (text : List ℕ) (plays : List Play) → IsReadAs most text plays → 0 < length plays
has_play most text plays reads =
    let many : length plays ≡ length (plays_of reads.document) = AllZip-long IsPlay (plays_of reads.document) plays reads.says in
    let written : length (plays_of reads.document) ≡ length (plays_in reads.document) = length-map (plays_in reads.document) play_of in
    let some = ltb-true 0 (length (plays_in reads.document)) (kept_first (nat_lt 0 (length (plays_in reads.document))) (BadShape []) _ _ reads.keeps_all) in
    omega (arith, many, written, some)
