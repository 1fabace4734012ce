-- clap takes the words that ask for something, and finds the same.
use Rattle.std.proofs.Common.{◌≡◌, Bool, true, false, List, [], ◌∷◌, Option, Some, None, codes, cond, refl, sym, subst, option_map}
use Rattle.std.specs.Option.{option_or}
use Rattle.std.specs.Str.{bytes_eq}
use Rattle.std.proofs.lemmas.Slice.Eq.{bytes_eq-Decides}
use Rattle.clap.specs.Words.{subcommand_of, takes}
use Rattle.clap.proofs.OnLiterals.{clap_on_literals}
use Rattle.command_line.specs.Answers.{Finds}
use Rattle.command_line.specs.Asked.{ParsedCommand, asked_by, asked_of, check, explain, limits, lint, lint_of, plan, rehearse, run, state}
use Rattle.command_line.specs.Operands.{Word, lone_operand, two_operands, three_operands}
use Rattle.command_line.specs.Runs.{run_of, without_option}
use Rattle.command_line.specs.Syntax.{rollout}
use Rattle.command_line.proofs.AcceptedLemmas.{IsValue, of_operands, of_three_operands, of_two_operands, value_of_operand}
use Rattle.command_line.proofs.RunLemmas.{run_behind}

-- clap takes the words, and finds what is asked for
pub record Accepted (words : List Word) (wanted : ParsedCommand) : Type 0 where
  pub taken : takes rollout words ≡ true
  pub found : Finds wanted (subcommand_of rollout words)

limits_alone : (word : Word) → IsValue word → Accepted (codes "limits" ∷ word ∷ []) (limits word)
unfolding clap_on_literals
limits_alone word p = record { taken = rw (p.no_end, p.no_long, p.no_short) refl; found = rw (p.no_end, p.no_long, p.no_short) refl }

limits_behind : (word : Word) → Accepted (codes "limits" ∷ codes "--" ∷ word ∷ []) (limits word)
unfolding clap_on_literals
limits_behind word = record { taken = refl; found = refl }

limits_before : (word : Word) → IsValue word → Accepted (codes "limits" ∷ word ∷ codes "--" ∷ []) (limits word)
unfolding clap_on_literals
limits_before word p = record { taken = rw (p.no_end, p.no_long, p.no_short) refl; found = rw (p.no_end, p.no_long, p.no_short) refl }

plan_alone : (a b : Word) → IsValue a → IsValue b → Accepted (codes "plan" ∷ a ∷ b ∷ []) (plan (a, b))
unfolding clap_on_literals
plan_alone a b p q = record {
  taken = rw (p.no_end, p.no_long, p.no_short, q.no_end, q.no_long, q.no_short) refl;
  found = (
    rw (p.no_end, p.no_long, p.no_short, q.no_end, q.no_long, q.no_short) refl,
    rw (p.no_end, p.no_long, p.no_short, q.no_end, q.no_long, q.no_short) refl,
  );
}

plan_behind : (a b : Word) → Accepted (codes "plan" ∷ codes "--" ∷ a ∷ b ∷ []) (plan (a, b))
unfolding clap_on_literals
plan_behind a b = record { taken = refl; found = (refl, refl) }

plan_between : (a b : Word) → IsValue a → Accepted (codes "plan" ∷ a ∷ codes "--" ∷ b ∷ []) (plan (a, b))
unfolding clap_on_literals
plan_between a b p = record { taken = rw (p.no_end, p.no_long, p.no_short) refl; found = (rw (p.no_end, p.no_long, p.no_short) refl, rw (p.no_end, p.no_long, p.no_short) refl) }

plan_before : (a b : Word) → IsValue a → IsValue b → Accepted (codes "plan" ∷ a ∷ b ∷ codes "--" ∷ []) (plan (a, b))
unfolding clap_on_literals
plan_before a b p q = record {
  taken = rw (p.no_end, p.no_long, p.no_short, q.no_end, q.no_long, q.no_short) refl;
  found = (
    rw (p.no_end, p.no_long, p.no_short, q.no_end, q.no_long, q.no_short) refl,
    rw (p.no_end, p.no_long, p.no_short, q.no_end, q.no_long, q.no_short) refl,
  );
}

rehearse_alone : (a b : Word) → IsValue a → IsValue b → Accepted (codes "rehearse" ∷ a ∷ b ∷ []) (rehearse (a, b))
unfolding clap_on_literals
rehearse_alone a b p q = record {
  taken = rw (p.no_end, p.no_long, p.no_short, q.no_end, q.no_long, q.no_short) refl;
  found = (
    rw (p.no_end, p.no_long, p.no_short, q.no_end, q.no_long, q.no_short) refl,
    rw (p.no_end, p.no_long, p.no_short, q.no_end, q.no_long, q.no_short) refl,
  );
}

rehearse_behind : (a b : Word) → Accepted (codes "rehearse" ∷ codes "--" ∷ a ∷ b ∷ []) (rehearse (a, b))
unfolding clap_on_literals
rehearse_behind a b = record { taken = refl; found = (refl, refl) }

rehearse_between : (a b : Word) → IsValue a → Accepted (codes "rehearse" ∷ a ∷ codes "--" ∷ b ∷ []) (rehearse (a, b))
unfolding clap_on_literals
rehearse_between a b p = record { taken = rw (p.no_end, p.no_long, p.no_short) refl; found = (rw (p.no_end, p.no_long, p.no_short) refl, rw (p.no_end, p.no_long, p.no_short) refl) }

rehearse_before : (a b : Word) → IsValue a → IsValue b → Accepted (codes "rehearse" ∷ a ∷ b ∷ codes "--" ∷ []) (rehearse (a, b))
unfolding clap_on_literals
rehearse_before a b p q = record {
  taken = rw (p.no_end, p.no_long, p.no_short, q.no_end, q.no_long, q.no_short) refl;
  found = (
    rw (p.no_end, p.no_long, p.no_short, q.no_end, q.no_long, q.no_short) refl,
    rw (p.no_end, p.no_long, p.no_short, q.no_end, q.no_long, q.no_short) refl,
  );
}

state_alone : (a b : Word) → IsValue a → IsValue b → Accepted (codes "state" ∷ a ∷ b ∷ []) (state (a, b))
unfolding clap_on_literals
state_alone a b p q = record {
  taken = rw (p.no_end, p.no_long, p.no_short, q.no_end, q.no_long, q.no_short) refl;
  found = (
    rw (p.no_end, p.no_long, p.no_short, q.no_end, q.no_long, q.no_short) refl,
    rw (p.no_end, p.no_long, p.no_short, q.no_end, q.no_long, q.no_short) refl,
  );
}

state_behind : (a b : Word) → Accepted (codes "state" ∷ codes "--" ∷ a ∷ b ∷ []) (state (a, b))
unfolding clap_on_literals
state_behind a b = record { taken = refl; found = (refl, refl) }

state_between : (a b : Word) → IsValue a → Accepted (codes "state" ∷ a ∷ codes "--" ∷ b ∷ []) (state (a, b))
unfolding clap_on_literals
state_between a b p = record { taken = rw (p.no_end, p.no_long, p.no_short) refl; found = (rw (p.no_end, p.no_long, p.no_short) refl, rw (p.no_end, p.no_long, p.no_short) refl) }

state_before : (a b : Word) → IsValue a → IsValue b → Accepted (codes "state" ∷ a ∷ b ∷ codes "--" ∷ []) (state (a, b))
unfolding clap_on_literals
state_before a b p q = record {
  taken = rw (p.no_end, p.no_long, p.no_short, q.no_end, q.no_long, q.no_short) refl;
  found = (
    rw (p.no_end, p.no_long, p.no_short, q.no_end, q.no_long, q.no_short) refl,
    rw (p.no_end, p.no_long, p.no_short, q.no_end, q.no_long, q.no_short) refl,
  );
}

check_alone : (a b c : Word) → IsValue a → IsValue b → IsValue c → Accepted (codes "check" ∷ a ∷ b ∷ c ∷ []) (check (a, b, c))
unfolding clap_on_literals
check_alone a b c p q r = record {
  taken = rw (p.no_end, p.no_long, p.no_short, q.no_end, q.no_long, q.no_short, r.no_end, r.no_long, r.no_short) refl;
  found = (
    (
      rw (p.no_end, p.no_long, p.no_short, q.no_end, q.no_long, q.no_short, r.no_end, r.no_long, r.no_short) refl,
      rw (p.no_end, p.no_long, p.no_short, q.no_end, q.no_long, q.no_short, r.no_end, r.no_long, r.no_short) refl,
    ),
    rw (p.no_end, p.no_long, p.no_short, q.no_end, q.no_long, q.no_short, r.no_end, r.no_long, r.no_short) refl,
  );
}

check_behind : (a b c : Word) → Accepted (codes "check" ∷ codes "--" ∷ a ∷ b ∷ c ∷ []) (check (a, b, c))
unfolding clap_on_literals
check_behind a b c = record { taken = refl; found = ((refl, refl), refl) }

check_behind_first : (a b c : Word) → IsValue a → Accepted (codes "check" ∷ a ∷ codes "--" ∷ b ∷ c ∷ []) (check (a, b, c))
unfolding clap_on_literals
check_behind_first a b c p = record {
  taken = rw (p.no_end, p.no_long, p.no_short) refl;
  found = (
    (
      rw (p.no_end, p.no_long, p.no_short) refl,
      rw (p.no_end, p.no_long, p.no_short) refl,
    ),
    rw (p.no_end, p.no_long, p.no_short) refl,
  );
}

check_behind_second : (a b c : Word) → IsValue a → IsValue b → Accepted (codes "check" ∷ a ∷ b ∷ codes "--" ∷ c ∷ []) (check (a, b, c))
unfolding clap_on_literals
check_behind_second a b c p q = record {
  taken = rw (p.no_end, p.no_long, p.no_short, q.no_end, q.no_long, q.no_short) refl;
  found = (
    (
      rw (p.no_end, p.no_long, p.no_short, q.no_end, q.no_long, q.no_short) refl,
      rw (p.no_end, p.no_long, p.no_short, q.no_end, q.no_long, q.no_short) refl,
    ),
    rw (p.no_end, p.no_long, p.no_short, q.no_end, q.no_long, q.no_short) refl,
  );
}

check_before : (a b c : Word) → IsValue a → IsValue b → IsValue c → Accepted (codes "check" ∷ a ∷ b ∷ c ∷ codes "--" ∷ []) (check (a, b, c))
unfolding clap_on_literals
check_before a b c p q r = record {
  taken = rw (p.no_end, p.no_long, p.no_short, q.no_end, q.no_long, q.no_short, r.no_end, r.no_long, r.no_short) refl;
  found = (
    (
      rw (p.no_end, p.no_long, p.no_short, q.no_end, q.no_long, q.no_short, r.no_end, r.no_long, r.no_short) refl,
      rw (p.no_end, p.no_long, p.no_short, q.no_end, q.no_long, q.no_short, r.no_end, r.no_long, r.no_short) refl,
    ),
    rw (p.no_end, p.no_long, p.no_short, q.no_end, q.no_long, q.no_short, r.no_end, r.no_long, r.no_short) refl,
  );
}

lint_alone : (word : Word) → IsValue word → Accepted (codes "lint" ∷ word ∷ []) (lint word None)
unfolding clap_on_literals
lint_alone word p = record { taken = rw (p.no_end, p.no_long, p.no_short) refl; found = (rw (p.no_end, p.no_long, p.no_short) refl, rw (p.no_end, p.no_long, p.no_short) refl) }

lint_behind : (word : Word) → Accepted (codes "lint" ∷ codes "--" ∷ word ∷ []) (lint word None)
unfolding clap_on_literals
lint_behind word = record { taken = refl; found = (refl, refl) }

lint_before : (word : Word) → IsValue word → Accepted (codes "lint" ∷ word ∷ codes "--" ∷ []) (lint word None)
unfolding clap_on_literals
lint_before word p = record { taken = rw (p.no_end, p.no_long, p.no_short) refl; found = (rw (p.no_end, p.no_long, p.no_short) refl, rw (p.no_end, p.no_long, p.no_short) refl) }

lint_both_alone : (a b : Word) → IsValue a → IsValue b → Accepted (codes "lint" ∷ a ∷ b ∷ []) (lint a (Some b))
unfolding clap_on_literals
lint_both_alone a b p q = record {
  taken = rw (p.no_end, p.no_long, p.no_short, q.no_end, q.no_long, q.no_short) refl;
  found = (
    rw (p.no_end, p.no_long, p.no_short, q.no_end, q.no_long, q.no_short) refl,
    rw (p.no_end, p.no_long, p.no_short, q.no_end, q.no_long, q.no_short) refl,
  );
}

lint_both_behind : (a b : Word) → Accepted (codes "lint" ∷ codes "--" ∷ a ∷ b ∷ []) (lint a (Some b))
unfolding clap_on_literals
lint_both_behind a b = record { taken = refl; found = (refl, refl) }

lint_both_between : (a b : Word) → IsValue a → Accepted (codes "lint" ∷ a ∷ codes "--" ∷ b ∷ []) (lint a (Some b))
unfolding clap_on_literals
lint_both_between a b p = record { taken = rw (p.no_end, p.no_long, p.no_short) refl; found = (rw (p.no_end, p.no_long, p.no_short) refl, rw (p.no_end, p.no_long, p.no_short) refl) }

lint_both_before : (a b : Word) → IsValue a → IsValue b → Accepted (codes "lint" ∷ a ∷ b ∷ codes "--" ∷ []) (lint a (Some b))
unfolding clap_on_literals
lint_both_before a b p q = record {
  taken = rw (p.no_end, p.no_long, p.no_short, q.no_end, q.no_long, q.no_short) refl;
  found = (
    rw (p.no_end, p.no_long, p.no_short, q.no_end, q.no_long, q.no_short) refl,
    rw (p.no_end, p.no_long, p.no_short, q.no_end, q.no_long, q.no_short) refl,
  );
}

explain_alone : (word : Word) → IsValue word → Accepted (codes "explain" ∷ word ∷ []) (explain word)
unfolding clap_on_literals
explain_alone word p = record { taken = rw (p.no_end, p.no_long, p.no_short) refl; found = rw (p.no_end, p.no_long, p.no_short) refl }

explain_behind : (word : Word) → Accepted (codes "explain" ∷ codes "--" ∷ word ∷ []) (explain word)
unfolding clap_on_literals
explain_behind word = record { taken = refl; found = refl }

explain_before : (word : Word) → IsValue word → Accepted (codes "explain" ∷ word ∷ codes "--" ∷ []) (explain word)
unfolding clap_on_literals
explain_before word p = record { taken = rw (p.no_end, p.no_long, p.no_short) refl; found = rw (p.no_end, p.no_long, p.no_short) refl }

-- what holds of each value that is read holds of what is made of one
mapped : {X : Type 0} (make : X → ParsedCommand) (P : ParsedCommand → Type 0) (read : Option X) (wanted : ParsedCommand) → ((x : X) → read ≡ Some x → P (make x))
    → option_map make read ≡ Some wanted → P wanted
mapped make P None wanted holds is = cc
mapped make P (Some x) wanted holds is = let same : make x ≡ wanted = cc in subst P same (holds x refl)

-- what is read is the first, or else the second
either_of : (P : ParsedCommand → Type 0) (first second : Option ParsedCommand) (wanted : ParsedCommand) → (first ≡ Some wanted → P wanted) → (second ≡ Some wanted → P wanted)
    → option_or first second ≡ Some wanted → P wanted
either_of P None second wanted of_first of_second is = of_second is
either_of P (Some one) second wanted of_first of_second is = of_first is

module _ (words : List Word) (wanted : ParsedCommand) where
  limits_accepted : option_map limits (lone_operand words) ≡ Some wanted → Accepted (codes "limits" ∷ words) wanted
  limits_accepted = mapped limits (Accepted (codes "limits" ∷ words)) (lone_operand words) wanted
      (of_operands (λ given file. Accepted (codes "limits" ∷ given) (limits file)) (λ word h. limits_alone word (value_of_operand word h)) limits_behind
      (λ word h. limits_before word (value_of_operand word h)) words)

  explain_accepted : option_map explain (lone_operand words) ≡ Some wanted → Accepted (codes "explain" ∷ words) wanted
  explain_accepted = mapped explain (Accepted (codes "explain" ∷ words)) (lone_operand words) wanted
      (of_operands (λ given asked. Accepted (codes "explain" ∷ given) (explain asked)) (λ word h. explain_alone word (value_of_operand word h)) explain_behind
      (λ word h. explain_before word (value_of_operand word h)) words)

  plan_accepted : option_map plan (two_operands words) ≡ Some wanted → Accepted (codes "plan" ∷ words) wanted
  plan_accepted = mapped plan (Accepted (codes "plan" ∷ words)) (two_operands words) wanted
      (of_two_operands (λ given files. Accepted (codes "plan" ∷ given) (plan files)) plan_alone plan_behind plan_between plan_before words)

  rehearse_accepted : option_map rehearse (two_operands words) ≡ Some wanted → Accepted (codes "rehearse" ∷ words) wanted
  rehearse_accepted = mapped rehearse (Accepted (codes "rehearse" ∷ words)) (two_operands words) wanted
      (of_two_operands (λ given files. Accepted (codes "rehearse" ∷ given) (rehearse files)) rehearse_alone rehearse_behind rehearse_between rehearse_before words)

  state_accepted : option_map state (two_operands words) ≡ Some wanted → Accepted (codes "state" ∷ words) wanted
  state_accepted = mapped state (Accepted (codes "state" ∷ words)) (two_operands words) wanted
      (of_two_operands (λ given files. Accepted (codes "state" ∷ given) (state files)) state_alone state_behind state_between state_before words)

  check_accepted : option_map check (three_operands words) ≡ Some wanted → Accepted (codes "check" ∷ words) wanted
  check_accepted = mapped check (Accepted (codes "check" ∷ words)) (three_operands words) wanted
      (of_three_operands (λ given files. Accepted (codes "check" ∷ given) (check files)) check_alone check_behind check_behind_first check_behind_second check_before words)

  lint_accepted : lint_of words ≡ Some wanted → Accepted (codes "lint" ∷ words) wanted
  lint_accepted = either_of (Accepted (codes "lint" ∷ words)) _ _ wanted
      (mapped (λ inventory. lint inventory None) (Accepted (codes "lint" ∷ words)) (lone_operand words) wanted
      (of_operands (λ given file. Accepted (codes "lint" ∷ given) (lint file None)) (λ word h. lint_alone word (value_of_operand word h)) lint_behind
      (λ word h. lint_before word (value_of_operand word h)) words))
      (mapped (λ (files : Word × Word). lint files.0 (Some files.1)) (Accepted (codes "lint" ∷ words)) (two_operands words) wanted
      (of_two_operands (λ given files. Accepted (codes "lint" ∷ given) (lint files.0 (Some files.1))) lint_both_alone lint_both_behind lint_both_between lint_both_before words))

  run_accepted : option_map run (run_of (without_option words)) ≡ Some wanted → Accepted (codes "run" ∷ words) wanted
  run_accepted = mapped run (Accepted (codes "run" ∷ words)) (run_of (without_option words)) wanted
      (λ asked_for is. let read = run_behind words asked_for is in record { taken = read.taken; found = ((read.inventory, read.playbook), read.forks) })

  -- a command of this name, or what else there is
  by_name : (command name : Word) (here beside : Option ParsedCommand) → (here ≡ Some wanted → Accepted (name ∷ words) wanted) → (beside ≡ Some wanted → Accepted (command ∷ words) wanted)
      → (named : Bool) → bytes_eq command name ≡ named → cond named here beside ≡ Some wanted → Accepted (command ∷ words) wanted
  by_name command name here beside of_here of_beside true at is = subst (λ w. Accepted (w ∷ words) wanted) (sym ((bytes_eq-Decides command name).0 at)) (of_here is)
  by_name command name here beside of_here of_beside false at is = of_beside is

  no_other : (command : Word) → ◌≡◌ {A = Option ParsedCommand} None (Some wanted) → Accepted (command ∷ words) wanted
  no_other command is = cc

  of_command : (command : Word) → asked_of command words ≡ Some wanted → Accepted (command ∷ words) wanted
  of_command command =
      let explains = by_name command (codes "explain") _ _ explain_accepted (no_other command) (bytes_eq command (codes "explain")) refl in
      let lints = by_name command (codes "lint") _ _ lint_accepted explains (bytes_eq command (codes "lint")) refl in
      let checks = by_name command (codes "check") _ _ check_accepted lints (bytes_eq command (codes "check")) refl in
      let states = by_name command (codes "state") _ _ state_accepted checks (bytes_eq command (codes "state")) refl in
      let rehearses = by_name command (codes "rehearse") _ _ rehearse_accepted states (bytes_eq command (codes "rehearse")) refl in
      let runs = by_name command (codes "run") _ _ run_accepted rehearses (bytes_eq command (codes "run")) refl in
      let plans = by_name command (codes "plan") _ _ plan_accepted runs (bytes_eq command (codes "plan")) refl in
      by_name command (codes "limits") _ _ limits_accepted plans (bytes_eq command (codes "limits")) refl

-- clap takes the words that ask for something, and finds it
pub accepted : (words : List Word) (wanted : ParsedCommand) → asked_by words ≡ Some wanted → Accepted words wanted
accepted [] wanted is = cc
accepted (command ∷ words) wanted is = of_command words wanted command is
