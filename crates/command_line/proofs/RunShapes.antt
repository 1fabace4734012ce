-- clap takes the words of a run, and reads its files and the text of its forks, in each order in which they may stand.
use Rattle.std.proofs.Common.{◌≡◌, Bool, true, false, List, [], ◌∷◌, ◌++◌, Some, codes, ap, refl}
use Rattle.clap.specs.Values.{read_as, reading_of}
use Rattle.clap.specs.ValueTests.{accepts}
use Rattle.clap.specs.declared.builder.value_parser.ValueParser.{ValueParser}
use Rattle.clap.proofs.OnLiterals.{clap_on_literals}
use Rattle.command_line.specs.Operands.{Word, dashes}
use Rattle.command_line.proofs.AcceptedLemmas.{IsValue}
use Rattle.command_line.proofs.RunLevel.{Passes}

-- the option with its value before other words, where the value stands behind `=` or is a word of its own
abbrev pub with_option : Bool → Word → List Word → List Word
with_option true text words = (codes "--forks=" ++ text) ∷ words
with_option false text words = codes "--forks" ∷ text ∷ words

-- the reader takes the text, and an option reads it as its value
pub record IsText (parser : ValueParser) (text : Word) : Type 0 where
  pub accepted : accepts false parser text ≡ true
  pub value : IsValue text

module _ (parser : ValueParser) (written : (text : Word) → read_as (reading_of parser) text ≡ text) where
  pub plain : (first second : Word) → IsValue first → IsValue second → Passes parser (first ∷ second ∷ []) first second (codes "5")
  unfolding clap_on_literals
  plain first second p q = record {
    walks = rw (p.no_end, p.no_long, p.no_short, q.no_end, q.no_long, q.no_short) refl;
    settles = rw (p.no_end, p.no_long, p.no_short, q.no_end, q.no_long, q.no_short) refl;
    valid = rw (p.no_end, p.no_long, p.no_short, q.no_end, q.no_long, q.no_short) refl;
    inventory = rw (p.no_end, p.no_long, p.no_short, q.no_end, q.no_long, q.no_short) refl;
    playbook = rw (p.no_end, p.no_long, p.no_short, q.no_end, q.no_long, q.no_short) refl;
    forks = rw (p.no_end, p.no_long, p.no_short, q.no_end, q.no_long, q.no_short) (ap Some (written (codes "5")));
  }

  pub plain_behind : (first second : Word) → Passes parser (dashes ∷ first ∷ second ∷ []) first second (codes "5")
  unfolding clap_on_literals
  plain_behind first second = record {
    walks = refl;
    settles = refl;
    valid = refl;
    inventory = refl;
    playbook = refl;
    forks = ap Some (written (codes "5"));
  }

  pub plain_between : (first second : Word) → IsValue first → Passes parser (first ∷ dashes ∷ second ∷ []) first second (codes "5")
  unfolding clap_on_literals
  plain_between first second p = record {
    walks = rw (p.no_end, p.no_long, p.no_short) refl;
    settles = rw (p.no_end, p.no_long, p.no_short) refl;
    valid = rw (p.no_end, p.no_long, p.no_short) refl;
    inventory = rw (p.no_end, p.no_long, p.no_short) refl;
    playbook = rw (p.no_end, p.no_long, p.no_short) refl;
    forks = rw (p.no_end, p.no_long, p.no_short) (ap Some (written (codes "5")));
  }

  pub plain_before : (first second : Word) → IsValue first → IsValue second → Passes parser (first ∷ second ∷ dashes ∷ []) first second (codes "5")
  unfolding clap_on_literals
  plain_before first second p q = record {
    walks = rw (p.no_end, p.no_long, p.no_short, q.no_end, q.no_long, q.no_short) refl;
    settles = rw (p.no_end, p.no_long, p.no_short, q.no_end, q.no_long, q.no_short) refl;
    valid = rw (p.no_end, p.no_long, p.no_short, q.no_end, q.no_long, q.no_short) refl;
    inventory = rw (p.no_end, p.no_long, p.no_short, q.no_end, q.no_long, q.no_short) refl;
    playbook = rw (p.no_end, p.no_long, p.no_short, q.no_end, q.no_long, q.no_short) refl;
    forks = rw (p.no_end, p.no_long, p.no_short, q.no_end, q.no_long, q.no_short) (ap Some (written (codes "5")));
  }

  pub option_first : (given : Bool) (first second text : Word) → IsValue first → IsValue second → IsText parser text → Passes parser (with_option given text (first ∷ second ∷ [])) first second text
  unfolding clap_on_literals
  option_first true first second text p q t = record {
    walks = rw (p.no_end, p.no_long, p.no_short, q.no_end, q.no_long, q.no_short, t.accepted) refl;
    settles = rw (p.no_end, p.no_long, p.no_short, q.no_end, q.no_long, q.no_short) refl;
    valid = rw (p.no_end, p.no_long, p.no_short, q.no_end, q.no_long, q.no_short) refl;
    inventory = rw (p.no_end, p.no_long, p.no_short, q.no_end, q.no_long, q.no_short) refl;
    playbook = rw (p.no_end, p.no_long, p.no_short, q.no_end, q.no_long, q.no_short) refl;
    forks = rw (p.no_end, p.no_long, p.no_short, q.no_end, q.no_long, q.no_short) (ap Some (written text));
  }
  option_first false first second text p q t = record {
    walks = rw (t.value.no_end, t.value.no_long, t.value.no_short, p.no_end, p.no_long, p.no_short, q.no_end, q.no_long, q.no_short, t.accepted) refl;
    settles = rw (t.value.no_end, t.value.no_long, t.value.no_short, p.no_end, p.no_long, p.no_short, q.no_end, q.no_long, q.no_short) refl;
    valid = rw (t.value.no_end, t.value.no_long, t.value.no_short, p.no_end, p.no_long, p.no_short, q.no_end, q.no_long, q.no_short) refl;
    inventory = rw (t.value.no_end, t.value.no_long, t.value.no_short, p.no_end, p.no_long, p.no_short, q.no_end, q.no_long, q.no_short) refl;
    playbook = rw (t.value.no_end, t.value.no_long, t.value.no_short, p.no_end, p.no_long, p.no_short, q.no_end, q.no_long, q.no_short) refl;
    forks = rw (t.value.no_end, t.value.no_long, t.value.no_short, p.no_end, p.no_long, p.no_short, q.no_end, q.no_long, q.no_short) (ap Some (written text));
  }

  pub option_first_behind : (given : Bool) (first second text : Word) → IsText parser text → Passes parser (with_option given text (dashes ∷ first ∷ second ∷ [])) first second text
  unfolding clap_on_literals
  option_first_behind true first second text t = record {
    walks = rw t.accepted refl;
    settles = refl;
    valid = refl;
    inventory = refl;
    playbook = refl;
    forks = ap Some (written text);
  }
  option_first_behind false first second text t = record {
    walks = rw (t.value.no_end, t.value.no_long, t.value.no_short, t.accepted) refl;
    settles = rw (t.value.no_end, t.value.no_long, t.value.no_short) refl;
    valid = rw (t.value.no_end, t.value.no_long, t.value.no_short) refl;
    inventory = rw (t.value.no_end, t.value.no_long, t.value.no_short) refl;
    playbook = rw (t.value.no_end, t.value.no_long, t.value.no_short) refl;
    forks = rw (t.value.no_end, t.value.no_long, t.value.no_short) (ap Some (written text));
  }

  pub option_first_between : (given : Bool) (first second text : Word) → IsValue first → IsText parser text → Passes parser (with_option given text (first ∷ dashes ∷ second ∷ [])) first second text
  unfolding clap_on_literals
  option_first_between true first second text p t = record {
    walks = rw (p.no_end, p.no_long, p.no_short, t.accepted) refl;
    settles = rw (p.no_end, p.no_long, p.no_short) refl;
    valid = rw (p.no_end, p.no_long, p.no_short) refl;
    inventory = rw (p.no_end, p.no_long, p.no_short) refl;
    playbook = rw (p.no_end, p.no_long, p.no_short) refl;
    forks = rw (p.no_end, p.no_long, p.no_short) (ap Some (written text));
  }
  option_first_between false first second text p t = record {
    walks = rw (t.value.no_end, t.value.no_long, t.value.no_short, p.no_end, p.no_long, p.no_short, t.accepted) refl;
    settles = rw (t.value.no_end, t.value.no_long, t.value.no_short, p.no_end, p.no_long, p.no_short) refl;
    valid = rw (t.value.no_end, t.value.no_long, t.value.no_short, p.no_end, p.no_long, p.no_short) refl;
    inventory = rw (t.value.no_end, t.value.no_long, t.value.no_short, p.no_end, p.no_long, p.no_short) refl;
    playbook = rw (t.value.no_end, t.value.no_long, t.value.no_short, p.no_end, p.no_long, p.no_short) refl;
    forks = rw (t.value.no_end, t.value.no_long, t.value.no_short, p.no_end, p.no_long, p.no_short) (ap Some (written text));
  }

  pub option_first_before : (given : Bool) (first second text : Word) → IsValue first → IsValue second → IsText parser text → Passes parser (with_option given text (first ∷ second ∷ dashes ∷ [])) first second text
  unfolding clap_on_literals
  option_first_before true first second text p q t = record {
    walks = rw (p.no_end, p.no_long, p.no_short, q.no_end, q.no_long, q.no_short, t.accepted) refl;
    settles = rw (p.no_end, p.no_long, p.no_short, q.no_end, q.no_long, q.no_short) refl;
    valid = rw (p.no_end, p.no_long, p.no_short, q.no_end, q.no_long, q.no_short) refl;
    inventory = rw (p.no_end, p.no_long, p.no_short, q.no_end, q.no_long, q.no_short) refl;
    playbook = rw (p.no_end, p.no_long, p.no_short, q.no_end, q.no_long, q.no_short) refl;
    forks = rw (p.no_end, p.no_long, p.no_short, q.no_end, q.no_long, q.no_short) (ap Some (written text));
  }
  option_first_before false first second text p q t = record {
    walks = rw (t.value.no_end, t.value.no_long, t.value.no_short, p.no_end, p.no_long, p.no_short, q.no_end, q.no_long, q.no_short, t.accepted) refl;
    settles = rw (t.value.no_end, t.value.no_long, t.value.no_short, p.no_end, p.no_long, p.no_short, q.no_end, q.no_long, q.no_short) refl;
    valid = rw (t.value.no_end, t.value.no_long, t.value.no_short, p.no_end, p.no_long, p.no_short, q.no_end, q.no_long, q.no_short) refl;
    inventory = rw (t.value.no_end, t.value.no_long, t.value.no_short, p.no_end, p.no_long, p.no_short, q.no_end, q.no_long, q.no_short) refl;
    playbook = rw (t.value.no_end, t.value.no_long, t.value.no_short, p.no_end, p.no_long, p.no_short, q.no_end, q.no_long, q.no_short) refl;
    forks = rw (t.value.no_end, t.value.no_long, t.value.no_short, p.no_end, p.no_long, p.no_short, q.no_end, q.no_long, q.no_short) (ap Some (written text));
  }

  pub option_between : (given : Bool) (first second text : Word) → IsValue first → IsValue second → IsText parser text → Passes parser (first ∷ with_option given text (second ∷ [])) first second text
  unfolding clap_on_literals
  option_between true first second text p q t = record {
    walks = rw (p.no_end, p.no_long, p.no_short, q.no_end, q.no_long, q.no_short, t.accepted) refl;
    settles = rw (p.no_end, p.no_long, p.no_short, q.no_end, q.no_long, q.no_short) refl;
    valid = rw (p.no_end, p.no_long, p.no_short, q.no_end, q.no_long, q.no_short) refl;
    inventory = rw (p.no_end, p.no_long, p.no_short, q.no_end, q.no_long, q.no_short) refl;
    playbook = rw (p.no_end, p.no_long, p.no_short, q.no_end, q.no_long, q.no_short) refl;
    forks = rw (p.no_end, p.no_long, p.no_short, q.no_end, q.no_long, q.no_short) (ap Some (written text));
  }
  option_between false first second text p q t = record {
    walks = rw (p.no_end, p.no_long, p.no_short, t.value.no_end, t.value.no_long, t.value.no_short, q.no_end, q.no_long, q.no_short, t.accepted) refl;
    settles = rw (p.no_end, p.no_long, p.no_short, t.value.no_end, t.value.no_long, t.value.no_short, q.no_end, q.no_long, q.no_short) refl;
    valid = rw (p.no_end, p.no_long, p.no_short, t.value.no_end, t.value.no_long, t.value.no_short, q.no_end, q.no_long, q.no_short) refl;
    inventory = rw (p.no_end, p.no_long, p.no_short, t.value.no_end, t.value.no_long, t.value.no_short, q.no_end, q.no_long, q.no_short) refl;
    playbook = rw (p.no_end, p.no_long, p.no_short, t.value.no_end, t.value.no_long, t.value.no_short, q.no_end, q.no_long, q.no_short) refl;
    forks = rw (p.no_end, p.no_long, p.no_short, t.value.no_end, t.value.no_long, t.value.no_short, q.no_end, q.no_long, q.no_short) (ap Some (written text));
  }

  pub option_between_behind : (given : Bool) (first second text : Word) → IsValue first → IsText parser text → Passes parser (first ∷ with_option given text (dashes ∷ second ∷ [])) first second text
  unfolding clap_on_literals
  option_between_behind true first second text p t = record {
    walks = rw (p.no_end, p.no_long, p.no_short, t.accepted) refl;
    settles = rw (p.no_end, p.no_long, p.no_short) refl;
    valid = rw (p.no_end, p.no_long, p.no_short) refl;
    inventory = rw (p.no_end, p.no_long, p.no_short) refl;
    playbook = rw (p.no_end, p.no_long, p.no_short) refl;
    forks = rw (p.no_end, p.no_long, p.no_short) (ap Some (written text));
  }
  option_between_behind false first second text p t = record {
    walks = rw (p.no_end, p.no_long, p.no_short, t.value.no_end, t.value.no_long, t.value.no_short, t.accepted) refl;
    settles = rw (p.no_end, p.no_long, p.no_short, t.value.no_end, t.value.no_long, t.value.no_short) refl;
    valid = rw (p.no_end, p.no_long, p.no_short, t.value.no_end, t.value.no_long, t.value.no_short) refl;
    inventory = rw (p.no_end, p.no_long, p.no_short, t.value.no_end, t.value.no_long, t.value.no_short) refl;
    playbook = rw (p.no_end, p.no_long, p.no_short, t.value.no_end, t.value.no_long, t.value.no_short) refl;
    forks = rw (p.no_end, p.no_long, p.no_short, t.value.no_end, t.value.no_long, t.value.no_short) (ap Some (written text));
  }

  pub option_between_before : (given : Bool) (first second text : Word) → IsValue first → IsValue second → IsText parser text → Passes parser (first ∷ with_option given text (second ∷ dashes ∷ [])) first second text
  unfolding clap_on_literals
  option_between_before true first second text p q t = record {
    walks = rw (p.no_end, p.no_long, p.no_short, q.no_end, q.no_long, q.no_short, t.accepted) refl;
    settles = rw (p.no_end, p.no_long, p.no_short, q.no_end, q.no_long, q.no_short) refl;
    valid = rw (p.no_end, p.no_long, p.no_short, q.no_end, q.no_long, q.no_short) refl;
    inventory = rw (p.no_end, p.no_long, p.no_short, q.no_end, q.no_long, q.no_short) refl;
    playbook = rw (p.no_end, p.no_long, p.no_short, q.no_end, q.no_long, q.no_short) refl;
    forks = rw (p.no_end, p.no_long, p.no_short, q.no_end, q.no_long, q.no_short) (ap Some (written text));
  }
  option_between_before false first second text p q t = record {
    walks = rw (p.no_end, p.no_long, p.no_short, t.value.no_end, t.value.no_long, t.value.no_short, q.no_end, q.no_long, q.no_short, t.accepted) refl;
    settles = rw (p.no_end, p.no_long, p.no_short, t.value.no_end, t.value.no_long, t.value.no_short, q.no_end, q.no_long, q.no_short) refl;
    valid = rw (p.no_end, p.no_long, p.no_short, t.value.no_end, t.value.no_long, t.value.no_short, q.no_end, q.no_long, q.no_short) refl;
    inventory = rw (p.no_end, p.no_long, p.no_short, t.value.no_end, t.value.no_long, t.value.no_short, q.no_end, q.no_long, q.no_short) refl;
    playbook = rw (p.no_end, p.no_long, p.no_short, t.value.no_end, t.value.no_long, t.value.no_short, q.no_end, q.no_long, q.no_short) refl;
    forks = rw (p.no_end, p.no_long, p.no_short, t.value.no_end, t.value.no_long, t.value.no_short, q.no_end, q.no_long, q.no_short) (ap Some (written text));
  }

  pub option_last : (given : Bool) (first second text : Word) → IsValue first → IsValue second → IsText parser text → Passes parser (first ∷ second ∷ with_option given text []) first second text
  unfolding clap_on_literals
  option_last true first second text p q t = record {
    walks = rw (p.no_end, p.no_long, p.no_short, q.no_end, q.no_long, q.no_short, t.accepted) refl;
    settles = rw (p.no_end, p.no_long, p.no_short, q.no_end, q.no_long, q.no_short) refl;
    valid = rw (p.no_end, p.no_long, p.no_short, q.no_end, q.no_long, q.no_short) refl;
    inventory = rw (p.no_end, p.no_long, p.no_short, q.no_end, q.no_long, q.no_short) refl;
    playbook = rw (p.no_end, p.no_long, p.no_short, q.no_end, q.no_long, q.no_short) refl;
    forks = rw (p.no_end, p.no_long, p.no_short, q.no_end, q.no_long, q.no_short) (ap Some (written text));
  }
  option_last false first second text p q t = record {
    walks = rw (p.no_end, p.no_long, p.no_short, q.no_end, q.no_long, q.no_short, t.value.no_end, t.value.no_long, t.value.no_short) refl;
    settles = rw (p.no_end, p.no_long, p.no_short, q.no_end, q.no_long, q.no_short, t.value.no_end, t.value.no_long, t.value.no_short, t.accepted) refl;
    valid = rw (p.no_end, p.no_long, p.no_short, q.no_end, q.no_long, q.no_short, t.value.no_end, t.value.no_long, t.value.no_short) refl;
    inventory = rw (p.no_end, p.no_long, p.no_short, q.no_end, q.no_long, q.no_short, t.value.no_end, t.value.no_long, t.value.no_short) refl;
    playbook = rw (p.no_end, p.no_long, p.no_short, q.no_end, q.no_long, q.no_short, t.value.no_end, t.value.no_long, t.value.no_short) refl;
    forks = rw (p.no_end, p.no_long, p.no_short, q.no_end, q.no_long, q.no_short, t.value.no_end, t.value.no_long, t.value.no_short) (ap Some (written text));
  }

  pub option_last_before : (given : Bool) (first second text : Word) → IsValue first → IsValue second → IsText parser text → Passes parser (first ∷ second ∷ with_option given text (dashes ∷ [])) first second text
  unfolding clap_on_literals
  option_last_before true first second text p q t = record {
    walks = rw (p.no_end, p.no_long, p.no_short, q.no_end, q.no_long, q.no_short, t.accepted) refl;
    settles = rw (p.no_end, p.no_long, p.no_short, q.no_end, q.no_long, q.no_short) refl;
    valid = rw (p.no_end, p.no_long, p.no_short, q.no_end, q.no_long, q.no_short) refl;
    inventory = rw (p.no_end, p.no_long, p.no_short, q.no_end, q.no_long, q.no_short) refl;
    playbook = rw (p.no_end, p.no_long, p.no_short, q.no_end, q.no_long, q.no_short) refl;
    forks = rw (p.no_end, p.no_long, p.no_short, q.no_end, q.no_long, q.no_short) (ap Some (written text));
  }
  option_last_before false first second text p q t = record {
    walks = rw (p.no_end, p.no_long, p.no_short, q.no_end, q.no_long, q.no_short, t.value.no_end, t.value.no_long, t.value.no_short) refl;
    settles = rw (p.no_end, p.no_long, p.no_short, q.no_end, q.no_long, q.no_short, t.value.no_end, t.value.no_long, t.value.no_short, t.accepted) refl;
    valid = rw (p.no_end, p.no_long, p.no_short, q.no_end, q.no_long, q.no_short, t.value.no_end, t.value.no_long, t.value.no_short) refl;
    inventory = rw (p.no_end, p.no_long, p.no_short, q.no_end, q.no_long, q.no_short, t.value.no_end, t.value.no_long, t.value.no_short) refl;
    playbook = rw (p.no_end, p.no_long, p.no_short, q.no_end, q.no_long, q.no_short, t.value.no_end, t.value.no_long, t.value.no_short) refl;
    forks = rw (p.no_end, p.no_long, p.no_short, q.no_end, q.no_long, q.no_short, t.value.no_end, t.value.no_long, t.value.no_short) (ap Some (written text));
  }
