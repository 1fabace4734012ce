-- The steps of a play, from its tasks and its handlers.
use Rattle.std.proofs.Common.{◌≡◌, ℕ, ◌+◌, ◌-◌, ◌<◌, ◌≤◌, List, ◌++◌, length, drop, sym, ap, ◌∙◌, subst, arith, length-append}
use Rattle.std.specs.Prelude.{All}
use Rattle.std.proofs.Math.Nat.{add-sub_cancel_left}
use Rattle.std.proofs.Math.Seq.{drop-append_seam}
use Rattle.std.proofs.lemmas.List.Elements.{All-append, All-weaker, All-nil}
use Rattle.play_model.specs.Plays.{AreNumbersBelow, NotifiesNobody, HasPlainWords, IsSound}
use Rattle.play_model.specs.declared.size.Size.{Size}
use Rattle.play_model.specs.declared.step.Step.{Step}

silent_names_none : (handlers : ℕ) (step : Step) → NotifiesNobody step → AreNumbersBelow handlers step
silent_names_none handlers step silent =
    subst (λ (names : List ℕ). All (λ handler. handler < handlers) names) (sym silent) (All-nil (λ (handler : ℕ). handler < handlers))

module _ (sizes : List Size) (tasks handlers : List Step) where
  count : length (tasks ++ handlers) - length tasks ≡ length handlers
  count =
      ap (λ (n : ℕ). n - length tasks) (length-append tasks handlers) ∙ add-sub_cancel_left (length tasks) (length handlers)

  behind : drop (length tasks) (tasks ++ handlers) ≡ handlers
  behind = drop-append_seam tasks handlers

  pub sound_of : length sizes ≤ 64 → 1 ≤ length tasks → length tasks + length handlers ≤ 256 → All (AreNumbersBelow (length handlers)) tasks → All NotifiesNobody handlers → All HasPlainWords tasks → All HasPlainWords handlers → IsSound sizes (tasks ++ handlers) (length tasks)
  sound_of few_sizes some_task few_steps named silent plain_tasks plain_handlers =
      let all = length-append tasks handlers in
      record {
        few_sizes = few_sizes;
        some_task = some_task;
        all_tasks = omega arith;
        few_steps = omega arith;
        named = subst (λ (n : ℕ). All (AreNumbersBelow n) (tasks ++ handlers)) (sym count) (All-append (AreNumbersBelow (length handlers)) tasks handlers named (All-weaker NotifiesNobody (AreNumbersBelow (length handlers)) (silent_names_none (length handlers)) handlers silent));
        silent = subst (λ (list : List Step). All NotifiesNobody list) (sym behind) silent;
        plain = All-append HasPlainWords tasks handlers plain_tasks plain_handlers;
      }
