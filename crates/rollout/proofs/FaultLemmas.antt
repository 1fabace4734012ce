-- Faults that are told, one behind the other.
use Rattle.std.proofs.Common.{inl, ◌≡◌, ℕ, ◌-◌, ◌≤◌, true, List, [], ◌∷◌, ◌++◌, take, drop, length, get_or, Option, Result, Ok, Err, append_assoc, arith, refl, sym, ap, subst, ◌∙◌}
use Rattle.std.proofs.lemmas.List.{take_rest}
use Rattle.std.specs.Prelude.{◌⊎◌, IfErr, IfOk}
use Rattle.std.specs.Borrow.{MutBor}
use Rattle.bounded_io.specs.Writing.{Begins, Finishes, Writes}
use Rattle.bounded_io.specs.declared.text_writer.TextWriter.{TextWriter}
use Rattle.bounded_io.specs.declared.write_fault.WriteFault.{WriteFault}
use Rattle.bounded_io.proofs.WritingLemmas.{writes_none, writes_two}
use Rattle.json_output.specs.declared.form.Form.TheVariants.{Plain}
use Rattle.all_faults.specs.declared.every.EveryFault.{EveryFault}
use Rattle.rollout.specs.Endings.{MayHelp, fault_text, help_text}
use Rattle.rollout.specs.LintFaults.{IsFaultsText, IsFound, IsTextOf, LosesFaults, LosesFound, PrintsFaults, ShowsFaults, TellsEach, WantsMemory, WritesEach, WritesTold, count_line, counted, fault_count, known_faults, more_faults, most_faults}
use Rattle.rollout.specs.declared.commands.faults.Found.{Found}
use Rattle.rollout.specs.declared.fault.Fault.{Fault}
use Rattle.rollout.specs.declared.fault.Fault.TheVariants.{Write}
use Rattle.rollout.specs.declared.status.Status.{Status}
use Rattle.rollout.specs.declared.status.Status.TheVariants.{Refused}

module _ {W : Type 0} (contents : W → Option (List ℕ)) where
  pub told_so : (t0 t1 : TextWriter W) (fault : Fault) (help : Option (List ℕ)) → MayHelp true help → Writes contents t0 t1 (fault_text Plain fault ++ help_text Plain help) → WritesTold contents t0 t1 fault
  told_so t0 t1 fault help helps writes = record { help = help; helps = helps; writes = writes }

  pub told_none : (text : TextWriter W) → WritesEach contents text text []
  told_none text = record { lines = []; tells = refl; writes = writes_none contents text }

  pub told_more : (t0 t1 t2 : TextWriter W) (fault : Fault) (others : List Fault) → WritesTold contents t0 t1 fault → WritesEach contents t1 t2 others → WritesEach contents t0 t2 (fault ∷ others)
  told_more t0 t1 t2 fault others told each =
      let line : List ℕ = fault_text Plain fault in
      let help : List ℕ = help_text Plain told.help in
      record {
        lines = line ++ (help ++ each.lines);
        tells = record { help = told.help; helps = told.helps; others = each.lines; tells = each.tells; text_is = refl };
        writes = writes_two contents t0 t1 t2 (line ++ help) each.lines (line ++ (help ++ each.lines)) told.writes each.writes (append_assoc line help each.lines);
      }

  module _ (out : MutBor W) (first mid last : TextWriter W) (new : Option (List ℕ)) (found : Found) (begins : Begins out first)
      (each : WritesEach contents first mid (take most_faults found.faults.items)) (count : Writes contents mid last (count_line found.count)) where
    abbrev text : List ℕ
    text = each.lines ++ count_line found.count

    pub whole : Writes contents first last text
    whole = writes_two contents first mid last each.lines (count_line found.count) text each.writes count refl

    pub shown_so : Finishes contents last new (Ok tt) → ShowsFaults found (contents out.now) new
    shown_so finishes = record {
      text = text;
      is = record { lines = each.lines; tells = each.tells; text_is = refl };
      written = finishes out first text begins whole;
    }

    pub lost_so : (fault : WriteFault) → Finishes contents last new (Err fault) → LosesFound found (contents out.now) new (Write fault)
    lost_so fault finishes = record {
      lost = fault;
      is = refl;
      text = text;
      text_is = record { lines = each.lines; tells = each.tells; text_is = refl };
      written = finishes out first text begins whole;
    }

-- the first of some faults, and the others
pub split : (faults : List Fault) (first : Fault) → 1 ≤ length faults → first ≡ get_or faults 0 first → faults ≡ first ∷ take (length faults - 1) (drop 1 faults)
split [] first long is = absurd (omega (arith, long))
split (fault ∷ faults) first long is =
    ap (λ f. f ∷ faults) (sym is) ∙ ap (λ l. first ∷ l) (sym (take_rest (fault ∷ faults) 1))

-- what was found of both texts was told, or broke off
module _ (inventory : List ℕ) (playbook : Option (List ℕ)) (found : Found) (is : IsFound inventory playbook found) (old new : Option (List ℕ)) where
  told_is : (shown : List ℕ) → IsTextOf found shown → IsFaultsText inventory playbook shown
  told_is shown told = record {
    all = is.all;
    are = is.are;
    some = is.some;
    lines = told.lines;
    tells = subst (λ (faults : List Fault). TellsEach (take most_faults faults) told.lines) is.known told.tells;
    text_is = told.text_is ∙ ap (λ (count : ℕ). told.lines ++ count_line count) is.count;
  }

  pub prints_found : (status : Status) → status ≡ Refused → ShowsFaults found old new → PrintsFaults inventory playbook old new status
  prints_found status tells shows = record { text = shows.text; is = told_is shows.text shows.is; written = shows.written; tells = tells }

  pub loses_found : (fault : Fault) → LosesFound found old new fault → LosesFaults inventory playbook old new fault
  loses_found fault loses = record {
    lost = loses.lost;
    is = loses.is;
    breaks = record { text = loses.text; is = told_is loses.text loses.text_is; written = loses.written };
  }

  pub prints_in : (result : Result Status Fault) → IfOk result (λ status. (status ≡ Refused) × ShowsFaults found old new) → IfOk result (PrintsFaults inventory playbook old new)
  prints_in (Ok status) shows = prints_found status shows.0 shows.1
  prints_in (Err fault) shows = tt

  pub loses_in : (result : Result Status Fault) → IfErr result (LosesFound found old new) → IfErr result (λ fault. LosesFaults inventory playbook old new fault ⊎ WantsMemory old new fault)
  loses_in (Ok status) loses = tt
  loses_in (Err fault) loses = inl (loses_found fault loses)

-- how many were found in all
pub all_counted : (all : EveryFault) (faults : List Fault) (more count : ℕ) → faults ≡ known_faults all → more ≡ more_faults all → count ≡ counted (length faults) more → count ≡ fault_count all
all_counted all faults more count known more_is is =
    is ∙ ap (λ (told : List Fault). counted (length told) more) known ∙ ap (λ (others : ℕ). counted (length (known_faults all)) others) more_is
