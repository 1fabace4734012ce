-- What is refused is no command, no request for a text is a bad line, and only a request gets a text.
use Rattle.std.proofs.Common.{◌≡◌, ◌≢◌, true, false, List, [], ◌∷◌, Option, Some, None, codes, length, map, eqb, ap, refl, sym, inl, inr, ◌⊎◌, subst, ◌∙◌, ⊎_elim}
use Rattle.clap.specs.Words.{HasKind, IsAmong, fault_of, kind_of, subcommand_of, takes}
use Rattle.clap.specs.declared.error.Error.{Error}
use Rattle.clap.specs.declared.error.kind.ErrorKind.{ErrorKind}
use Rattle.clap.specs.declared.error.kind.ErrorKind.TheVariants.{DisplayHelp, DisplayVersion, OutOfMemory}
use Rattle.clap.proofs.OnLiterals.{clap_on_literals}
use Rattle.std.specs.Prelude.{Result, Ok, Err, IfOk, IfErr}
use Rattle.command_line.specs.declared.command.Line.{Line}
use Rattle.command_line.specs.declared.command.Line.TheVariants.{Limits, Plan, Run, Rehearse, State, Check, Lint, Explain, Print}
use Rattle.command_line.specs.declared.fault.LineFault.{LineFault}
use Rattle.command_line.specs.declared.fault.LineFault.TheVariants.{BadLine, Apart, Unexplained, Memory}
use Rattle.command_line.specs.Answers.{AnswersFor, Disagrees, FindsOthers}
use Rattle.command_line.specs.Messages as messages
use Rattle.command_line.specs.Messages.{IsAskedFor}
use Rattle.command_line.specs.declared.message.Message.{Message}
use Rattle.command_line.specs.Syntax.{rollout}
use Rattle.command_line.specs.Operands.{Word}
use Rattle.command_line.specs.Asked.{ParsedCommand, asked_by}
use Rattle.command_line.specs.Words.{is_empty, is_command, IsNoneOf, requests, IsTextFor, Explains, Refuses, Says}
use Rattle.command_line.proofs.AskedLemmas.{accepted}

-- clap answers a request with its text
answers_help : fault_of rollout (codes "--help" ∷ []) ≡ DisplayHelp ∷ []
unfolding clap_on_literals
answers_help = refl

answers_short_help : fault_of rollout (codes "-h" ∷ []) ≡ DisplayHelp ∷ []
unfolding clap_on_literals
answers_short_help = refl

answers_version : fault_of rollout (codes "--version" ∷ []) ≡ DisplayVersion ∷ []
unfolding clap_on_literals
answers_version = refl

answers_short_version : fault_of rollout (codes "-V" ∷ []) ≡ DisplayVersion ∷ []
unfolding clap_on_literals
answers_short_version = refl

answers_limits_help : fault_of rollout (codes "limits" ∷ codes "--help" ∷ []) ≡ DisplayHelp ∷ []
unfolding clap_on_literals
answers_limits_help = refl

answers_limits_short_help : fault_of rollout (codes "limits" ∷ codes "-h" ∷ []) ≡ DisplayHelp ∷ []
unfolding clap_on_literals
answers_limits_short_help = refl

answers_plan_help : fault_of rollout (codes "plan" ∷ codes "--help" ∷ []) ≡ DisplayHelp ∷ []
unfolding clap_on_literals
answers_plan_help = refl

answers_plan_short_help : fault_of rollout (codes "plan" ∷ codes "-h" ∷ []) ≡ DisplayHelp ∷ []
unfolding clap_on_literals
answers_plan_short_help = refl

answers_run_help : fault_of rollout (codes "run" ∷ codes "--help" ∷ []) ≡ DisplayHelp ∷ []
unfolding clap_on_literals
answers_run_help = refl

answers_run_short_help : fault_of rollout (codes "run" ∷ codes "-h" ∷ []) ≡ DisplayHelp ∷ []
unfolding clap_on_literals
answers_run_short_help = refl

answers_rehearse_help : fault_of rollout (codes "rehearse" ∷ codes "--help" ∷ []) ≡ DisplayHelp ∷ []
unfolding clap_on_literals
answers_rehearse_help = refl

answers_rehearse_short_help : fault_of rollout (codes "rehearse" ∷ codes "-h" ∷ []) ≡ DisplayHelp ∷ []
unfolding clap_on_literals
answers_rehearse_short_help = refl

answers_state_help : fault_of rollout (codes "state" ∷ codes "--help" ∷ []) ≡ DisplayHelp ∷ []
unfolding clap_on_literals
answers_state_help = refl

answers_state_short_help : fault_of rollout (codes "state" ∷ codes "-h" ∷ []) ≡ DisplayHelp ∷ []
unfolding clap_on_literals
answers_state_short_help = refl

answers_check_help : fault_of rollout (codes "check" ∷ codes "--help" ∷ []) ≡ DisplayHelp ∷ []
unfolding clap_on_literals
answers_check_help = refl

answers_check_short_help : fault_of rollout (codes "check" ∷ codes "-h" ∷ []) ≡ DisplayHelp ∷ []
unfolding clap_on_literals
answers_check_short_help = refl

answers_lint_help : fault_of rollout (codes "lint" ∷ codes "--help" ∷ []) ≡ DisplayHelp ∷ []
unfolding clap_on_literals
answers_lint_help = refl

answers_lint_short_help : fault_of rollout (codes "lint" ∷ codes "-h" ∷ []) ≡ DisplayHelp ∷ []
unfolding clap_on_literals
answers_lint_short_help = refl

answers_explain_help : fault_of rollout (codes "explain" ∷ codes "--help" ∷ []) ≡ DisplayHelp ∷ []
unfolding clap_on_literals
answers_explain_help = refl

answers_explain_short_help : fault_of rollout (codes "explain" ∷ codes "-h" ∷ []) ≡ DisplayHelp ∷ []
unfolding clap_on_literals
answers_explain_short_help = refl

-- the words are no request, where they are none of those that get one kind of answer
no_request : (words : List Word) → ((request : List Word) (kind : ErrorKind) → fault_of rollout request ≡ kind ∷ [] → (kind ≡ DisplayHelp) ⊎ (kind ≡ DisplayVersion) → words ≢ request)
    → IsNoneOf words requests
no_request words other = (
  other _ _ answers_help (inl refl),
  (
    other _ _ answers_short_help (inl refl),
    (
      other _ _ answers_version (inr refl),
      (
        other _ _ answers_short_version (inr refl),
        (
          other _ _ answers_limits_help (inl refl),
          (
            other _ _ answers_limits_short_help (inl refl),
            (
              other _ _ answers_plan_help (inl refl),
              (
                other _ _ answers_plan_short_help (inl refl),
                (
                  other _ _ answers_run_help (inl refl),
                  (
                    other _ _ answers_run_short_help (inl refl),
                    (
                      other _ _ answers_rehearse_help (inl refl),
                      (
                        other _ _ answers_rehearse_short_help (inl refl),
                        (
                          other _ _ answers_state_help (inl refl),
                          (
                            other _ _ answers_state_short_help (inl refl),
                            (
                              other _ _ answers_check_help (inl refl),
                              (
                                other _ _ answers_check_short_help (inl refl),
                                (
                                  other _ _ answers_lint_help (inl refl),
                                  (
                                    other _ _ answers_lint_short_help (inl refl),
                                    (other _ _ answers_explain_help (inl refl), (other _ _ answers_explain_short_help (inl refl), tt)),
                                  ),
                                ),
                              ),
                            ),
                          ),
                        ),
                      ),
                    ),
                  ),
                ),
              ),
            ),
          ),
        ),
      ),
    ),
  ),
)

-- the words ask for nothing that clap would have to take
abbrev AskNothing : List Word → Type 0
AskNothing words = (wanted : ParsedCommand) → asked_by words ≢ Some wanted

no_line_by : (words : List Word) (wanted : Option ParsedCommand) → asked_by words ≡ wanted → is_empty words ≡ false → AskNothing words → is_command words ≡ false
no_line_by words None is some nothing = rw (some, is) refl
no_line_by words (Some wanted) is some nothing = absurd (nothing wanted is)

no_line : (words : List Word) → is_empty words ≡ false → AskNothing words → is_command words ≡ false
no_line words some nothing = no_line_by words (asked_by words) refl some nothing

-- words that clap does not take ask for nothing
untaken : (words : List Word) → (takes rollout words ≡ true → ⊥) → AskNothing words
untaken words never wanted is = never (accepted words wanted is).taken

-- clap's error is of the one kind that it has for these words
kind_among : (words : List Word) (e : Error) (kind : ErrorKind) → kind ≢ OutOfMemory → HasKind (fault_of rollout words) e → kind_of e ≡ kind → IsAmong kind (fault_of rollout words)
kind_among words e kind other has is =
    ⊎_elim (λ memory. absurd (other (sym is ∙ memory))) (λ among. subst (λ k. IsAmong k (fault_of rollout words)) is among) has

help_is_other : DisplayHelp ≢ OutOfMemory
help_is_other same = cc

version_is_other : DisplayVersion ≢ OutOfMemory
version_is_other same = cc

-- no kind of a text that is asked for is another
asked_kind : (kind : ErrorKind) → (kind ≢ DisplayHelp) → (kind ≢ DisplayVersion) → IsAskedFor kind → ⊥
asked_kind kind help version asked = ⊎_elim help version asked

-- what is told of the error's kind holds of the text that was made of it
of_error : (words : List Word) (e : Error) (message : Message) → messages.kind_of message ≡ kind_of e → kind_of e ≢ OutOfMemory → HasKind (fault_of rollout words) e → IsTextFor words message
of_error words e message is other has = kind_among words e (messages.kind_of message) (λ memory. other (sym is ∙ memory)) has (sym is)

explains : (words : List Word) (e : Error) (message : Message) → messages.kind_of message ≡ kind_of e → kind_of e ≢ OutOfMemory → (kind_of e ≢ DisplayHelp) → (kind_of e ≢ DisplayVersion)
    → HasKind (fault_of rollout words) e → Explains words message
explains words e message is other help version has = record {
  unasked = asked_kind (messages.kind_of message) (λ asked. help (sym is ∙ asked)) (λ asked. version (sym is ∙ asked));
  text = of_error words e message is other has;
}

-- words that clap refused
pub refused : (words : List Word) (e : Error) (answer : Result Line LineFault) → is_empty words ≡ false → (takes rollout words ≡ true → kind_of e ≡ OutOfMemory) → HasKind (fault_of rollout words) e
    → AnswersFor (kind_of e) answer → IfErr answer (Refuses words)
refused words e (Err Memory) some taken has answers = some
refused words e (Err (Apart clash)) some taken has answers = absurd answers
refused words e (Err Unexplained) some taken has answers = absurd answers
refused words e (Err (BadLine message)) some taken has answers =
    let memory = answers.1 in
    let help = answers.2 in
    let version = answers.3 in (
      no_line words some (untaken words (λ takes. memory (taken takes))),
      no_request words (λ request kind faults which is.
          let at : HasKind (kind ∷ []) e = subst (λ kinds. HasKind kinds e) (ap (fault_of rollout) is ∙ faults) has in
          ⊎_elim memory (⊎_elim (λ k. ⊎_elim (λ asked. help (k ∙ asked)) (λ asked. version (k ∙ asked)) which) (λ none. none)) at),
      explains words e message answers.0 memory help version has,
    )
refused words e (Ok line) some taken has answers = tt

is_no_memory : (e : Error) → IsAskedFor (kind_of e) → kind_of e ≢ OutOfMemory
is_no_memory e which memory = ⊎_elim (λ is. help_is_other (sym is ∙ memory)) (λ is. version_is_other (sym is ∙ memory)) which

-- words that clap answered with a text
pub requested : (words : List Word) (e : Error) (answer : Result Line LineFault) → is_empty words ≡ false → (takes rollout words ≡ true → kind_of e ≡ OutOfMemory) → HasKind (fault_of rollout words) e
    → AnswersFor (kind_of e) answer → IfOk answer (Says words)
requested words e (Err fault) some taken has answers = tt
requested words e (Ok (Limits inventory)) some taken has answers = absurd answers
requested words e (Ok (Plan inventory playbook)) some taken has answers = absurd answers
requested words e (Ok (Run inventory playbook forks)) some taken has answers = absurd answers
requested words e (Ok (Rehearse inventory playbook)) some taken has answers = absurd answers
requested words e (Ok (State inventory journal)) some taken has answers = absurd answers
requested words e (Ok (Check inventory playbook plan)) some taken has answers = absurd answers
requested words e (Ok (Lint inventory playbook)) some taken has answers = absurd answers
requested words e (Ok (Explain word)) some taken has answers = absurd answers
requested words e (Ok (Print message)) some taken has answers = (
  no_line words some (untaken words (λ takes. is_no_memory e answers.1 (taken takes))),
  subst IsAskedFor (sym answers.0) answers.1,
  of_error words e message answers.0 (is_no_memory e answers.1) has,
)

-- clap finds what the words ask for, so where it finds something else they ask for nothing
others_by : (words : List Word) (wanted : Option ParsedCommand) → asked_by words ≡ wanted → is_empty words ≡ false → FindsOthers wanted (subcommand_of rollout words) → is_command words ≡ false
others_by words (Some wanted) is some others = absurd (others (accepted words wanted is).found)
others_by words None is some others = rw (some, is) refl

-- words that clap took
pub mismatched : (words : List Word) (fault : LineFault) → is_empty words ≡ false → fault_of rollout words ≡ []
    → Disagrees words (subcommand_of rollout words) fault → Refuses words fault
mismatched words Memory some taken disagrees = some
mismatched words (BadLine message) some taken disagrees = absurd disagrees
mismatched words (Apart clash) some taken disagrees = absurd disagrees
mismatched words Unexplained some taken disagrees = (
  others_by words (asked_by words) refl some disagrees,
  no_request words (λ request kind faults which is. let none : [] ≡ kind ∷ [] = sym taken ∙ ap (fault_of rollout) is ∙ faults in cc),
  taken,
)

pub some_words : {X : Type 0} (word : X → Word) (xs : List X) → eqb (length xs) 0 ≡ false → is_empty (map word xs) ≡ false
some_words word [] h = cc
some_words word (x ∷ xs) h = refl
