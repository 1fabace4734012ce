-- How much of a text went out that was given whole, or as far as memory lasted.
use Rattle.std.proofs.Common.{◌≡◌, ℕ, ◌≤◌, Bool, Option, Result, Ok, Err, List, ◌++◌, length, length-append, take, sym, ap, subst, ◌∙◌, arith}
use Rattle.std.specs.Borrow.{MutBor}
use Rattle.std.specs.Io.KnownBytes.{Appends}
use Rattle.std.specs.declared.alloc.AllocError.{AllocError}
use Rattle.std.proofs.lemmas.List.{take-append-le}
use Rattle.bounded_io.specs.Sending.{SendsFirst}
use Rattle.bounded_io.specs.Writing.{Begins, Finishes}
use Rattle.bounded_io.specs.declared.text_writer.TextWriter.{TextWriter}
use Rattle.bounded_io.specs.declared.write_fault.WriteFault.{WriteFault}
use Rattle.command_preview.specs.Inside.{Tells}

first_of_front : (old new : Option (List ℕ)) (front rest bytes : List ℕ) (count : ℕ) → bytes ≡ front ++ rest → SendsFirst old new front count → SendsFirst old new bytes count
first_of_front old new front rest bytes count parts sent =
    let low : count ≤ length front = omega (arith, sent.short) in
    let same : take count front ≡ take count bytes = sym (ap (take count) parts ∙ take-append-le count front rest low) in
    record {
      short = omega (arith, sent.short, ap length parts, length-append front rest);
      sent = subst (Appends old new) same sent.sent;
    }

module _ {W : Type 0} (contents : W → Option (List ℕ)) (out : MutBor W) (first last : TextWriter W) (new : Option (List ℕ)) (bytes : List ℕ) (told : Bool) (begins : Begins out first) where
  pub broke_off : (result : Result Bool AllocError) (fault : WriteFault) → Tells contents first last bytes told result → Finishes contents last new (Err fault)
      → SendsFirst (contents out.now) new bytes fault.written
  broke_off (Ok found) fault tells finishes = finishes out first bytes begins tells.0
  broke_off (Err refused) fault tells finishes =
      first_of_front (contents out.now) new tells.front tells.rest bytes fault.written tells.parts (finishes out first tells.front begins tells.written)
