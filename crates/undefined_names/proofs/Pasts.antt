-- What may have run before a step.
use Rattle.std.proofs.Common.{◌≡◌, ℕ, ◌+◌, ◌<◌, Bool, true, false, cond, ◌&&◌, ◌||◌, List, [], ◌∷◌, ◌++◌, flat_map, filter, length, map, min, take, get_or, option_map, slice_get, Option, Some, None, refl, sym, ap, ◌∙◌, arith}
use Rattle.std.specs.List.{list_any}
use Rattle.std.proofs.lemmas.List.{map-append, take-map, take_all, take_more}
use Rattle.std.proofs.lemmas.List.Folds.{list_any-append}
use Rattle.std.proofs.lemmas.Option.{slice_get-map}
use Rattle.domains.specs.FleetViews.{FleetView}
use Rattle.group_tree.specs.Names.{Name}
use Rattle.host_track.specs.Hosts.{Known}
use Rattle.host_track.specs.Summaries.{does_register}
use Rattle.result_dependencies.specs.Needs.{tasks_before}
use Rattle.play_model.specs.declared.play.Play.{Play}
use Rattle.play_model.specs.declared.step.Step.{Step}
use Rattle.undefined_names.specs.Inside.{AreActsOf, Staged, has_run_task, may_have_run, past_behind, said_in_act, plays_for, stage_of, staged}
use Rattle.undefined_names.specs.UndefinedReads.{outset_of}
use Rattle.undefined_names.specs.InitialEnv.{InitialEnv}
use Rattle.undefined_names.specs.EarlierSteps.{EarlierSteps, is_registered, steps_of}
use Rattle.undefined_names.specs.Spots.{earlier, past_of, said_in_play, tasks_of, waits_for}
use Rattle.undefined_names.specs.declared.play_facts.PlayFacts.{PlayFacts}

module _ (host : ℕ) (name : Name) (steps : Play → List Step) where
  abbrev waits : PlayFacts → Bool
  waits act = waits_for act.fleet.now host act.play.now

  abbrev has : PlayFacts → Bool
  has act = waits act && is_registered (steps act.play.now) name

  any_has : (acts : List PlayFacts) → list_any has acts ≡ is_registered (flat_map steps (plays_for host acts)) name
  any_has [] = refl
  any_has (act ∷ acts) = by_case (waits act) refl (any_has acts)
    where
      by_case : (b : Bool) → waits act ≡ b → list_any has acts ≡ is_registered (flat_map steps (plays_for host acts)) name
          → list_any has (act ∷ acts) ≡ is_registered (flat_map steps (plays_for host (act ∷ acts))) name
      by_case true is later =
          ap (λ b. (b && is_registered (steps act.play.now) name) || list_any has acts) is ∙ ap (λ b. is_registered (steps act.play.now) name || b) later
          ∙ sym (list_any-append (does_register name) (steps act.play.now) (flat_map steps (plays_for host acts)))
          ∙ sym (ap (λ b. is_registered (flat_map steps (map (λ (act : PlayFacts). act.play.now) (cond b (act ∷ filter waits acts) (filter waits acts)))) name) is)
      by_case false is later =
          ap (λ b. (b && is_registered (steps act.play.now) name) || list_any has acts) is ∙ later
          ∙ sym (ap (λ b. is_registered (flat_map steps (map (λ (act : PlayFacts). act.play.now) (cond b (act ∷ filter waits acts) (filter waits acts)))) name) is)

-- in the tasks of the plays before, or of this one
pub sure_names : (acts : List PlayFacts) (play : Play) (place host : ℕ) (name : Name)
    → is_registered (past_behind acts play place host).sure name ≡ (list_any (has_run_task host name) acts || is_registered (take (min place play.tasks) play.steps.items) name)
sure_names acts play place host name =
    list_any-append (does_register name) (flat_map tasks_of (plays_for host acts)) (tasks_before play place)
    ∙ ap (λ b. b || is_registered (take (min place play.tasks) play.steps.items) name) (sym (any_has host name tasks_of acts))

same_steps : (plays : List Play) → flat_map (λ (play : Play). take (length play.steps.items) play.steps.items) plays ≡ steps_of plays
same_steps [] = refl
same_steps (play ∷ plays) =
    ap (λ l. l ++ flat_map (λ (play : Play). take (length play.steps.items) play.steps.items) plays) (take_all (length play.steps.items) play.steps.items (omega arith))
    ∙ ap (λ l. play.steps.items ++ l) (same_steps plays)

-- in the steps of the plays before, or those before the place
pub perhaps_names : (acts : List PlayFacts) (play : Play) (place host : ℕ) (name : Name)
    → is_registered (past_behind acts play place host).may name ≡ (list_any (may_have_run host name) acts || is_registered (take place play.steps.items) name)
perhaps_names acts play place host name =
    let whole : Play → List Step = λ (play : Play). take (length play.steps.items) play.steps.items in
    list_any-append (does_register name) (steps_of (plays_for host acts)) (take place play.steps.items)
    ∙ ap (λ l. is_registered l name || is_registered (take place play.steps.items) name) (sym (same_steps (plays_for host acts)))
    ∙ ap (λ b. b || is_registered (take place play.steps.items) name) (sym (any_has host name whole acts))

-- the plays of stages that wait for a host
abbrev waits_at : ℕ → Staged → Bool
waits_at host stage = waits_for stage.fleet host stage.play

abbrev play_of : Staged → Play
play_of stage = stage.play

abbrev staged_plays : ℕ → List Staged → List Play
staged_plays host stages = map play_of (filter (waits_at host) stages)

via_stages : (host : ℕ) (acts : List PlayFacts) → plays_for host acts ≡ staged_plays host (map stage_of acts)
via_stages host [] = refl
via_stages host (act ∷ acts) = by_case (waits_for act.fleet.now host act.play.now) (via_stages host acts)
  where
    by_case : (b : Bool) → plays_for host acts ≡ staged_plays host (map stage_of acts) → map (λ (act : PlayFacts). act.play.now) (cond b (act ∷ filter (λ (act : PlayFacts). waits_for act.fleet.now host act.play.now) acts) (filter (λ (act : PlayFacts). waits_for act.fleet.now host act.play.now) acts))
        ≡ map play_of (cond b (stage_of act ∷ filter (waits_at host) (map stage_of acts)) (filter (waits_at host) (map stage_of acts)))
    by_case true later = ap (λ l. act.play.now ∷ l) later
    by_case false later = later

of_staged : (fleet : FleetView) (host : ℕ) (plays : List Play) → staged_plays host (map (staged fleet) plays) ≡ filter (waits_for fleet host) plays
of_staged fleet host [] = refl
of_staged fleet host (play ∷ plays) = by_case (waits_for fleet host play) (of_staged fleet host plays)
  where
    by_case : (b : Bool) → staged_plays host (map (staged fleet) plays) ≡ filter (waits_for fleet host) plays → map play_of (cond b (staged fleet play ∷ filter (waits_at host) (map (staged fleet) plays)) (filter (waits_at host) (map (staged fleet) plays)))
        ≡ cond b (play ∷ filter (waits_for fleet host) plays) (filter (waits_for fleet host) plays)
    by_case true later = ap (λ l. play ∷ l) later
    by_case false later = later

module _ (fleet : FleetView) (plays : List Play) (acts : List PlayFacts) (are : AreActsOf fleet plays acts) where
  -- the plays before one
  same_earlier : (number host : ℕ) → plays_for host (take number acts) ≡ earlier fleet plays number host
  same_earlier number host =
      via_stages host (take number acts)
      ∙ ap (staged_plays host) (sym (take-map stage_of number acts) ∙ ap (take number) are ∙ take-map (staged fleet) number plays)
      ∙ of_staged fleet host (take number plays)

  same_past : (number place host : ℕ) (play : Play) → past_behind (take number acts) play place host ≡ past_of fleet plays number play place host
  same_past number place host play =
      ap (λ (before : List Play). record { sure = flat_map tasks_of before ++ tasks_before play place; may = steps_of before ++ take place play.steps.items }) (same_earlier number host)

  by_both : {X : Type 0} (say : InitialEnv → Option Step → X) (none : X) (number place host : ℕ) (known : Known) (play : Option Play) (act : Option PlayFacts) → option_map stage_of act ≡ option_map (staged fleet) play
      → said_in_act say none acts number place host known act ≡ said_in_play say none fleet plays number place host known play
  by_both say none number place host known None None same = refl
  by_both say none number place host known None (Some act) same = absurd (cc)
  by_both say none number place host known (Some play) None same = absurd (cc)
  by_both say none number place host known (Some play) (Some act) same =
      let one : stage_of act ≡ staged fleet play = cc in
      let of : act.play.now ≡ play = ap play_of one in
      ap (λ (play : Play). say (outset_of (past_behind (take number acts) play place host) known) (slice_get play.steps.items place)) of
      ∙ ap (λ (past : EarlierSteps). say (outset_of past known) (slice_get play.steps.items place)) (same_past number place host play)

  pub said_there : {X : Type 0} (say : InitialEnv → Option Step → X) (none : X) (number place host : ℕ) (known : Known) (act : Option PlayFacts) → slice_get acts number ≡ act
      → said_in_act say none acts number place host known act ≡ said_in_play say none fleet plays number place host known (slice_get plays number)
  said_there say none number place host known act is =
      by_both say none number place host known (slice_get plays number) act
      (ap (option_map stage_of) (sym is) ∙ sym (slice_get-map stage_of acts number) ∙ ap (λ l. slice_get l number) are ∙ slice_get-map (staged fleet) plays number)

-- a play more
pub acts_more : (fleet : FleetView) (plays : List Play) (acts : List PlayFacts) (i : ℕ) (play : Play) (act : PlayFacts) → i < length plays → play ≡ get_or plays i play → act.fleet.now ≡ fleet
    → act.play.now ≡ play → AreActsOf fleet (take i plays) acts → AreActsOf fleet (take (i + 1) plays) (acts ++ act ∷ [])
acts_more fleet plays acts i play act within is of same are =
    map-append stage_of acts (act ∷ []) ∙ ap (λ l. l ++ stage_of act ∷ []) are
    ∙ ap (λ (stage : Staged). map (staged fleet) (take i plays) ++ stage ∷ []) (ap (λ (f : FleetView). staged f act.play.now) of ∙ ap (staged fleet) same)
    ∙ sym (map-append (staged fleet) (take i plays) (play ∷ [])) ∙ ap (map (staged fleet)) (sym (take_more plays i play within ∙ ap (λ (e : Play). take i plays ++ e ∷ []) (sym is)))
