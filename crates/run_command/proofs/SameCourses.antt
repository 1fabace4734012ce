-- Two runs of plays that are alike, whose programs end as the same columns say, have one recap.
use Rattle.std.proofs.Common.{◌≡◌, ℕ, zero, suc, ◌+◌, ◌-◌, ◌<◌, Bool, true, false, cond, nat_lt, Option, None, Some, List, [], ◌∷◌, ◌++◌, length, refl, sym, ap, ap₂, ◌∙◌, subst, arith}
use Rattle.std.specs.List.{flat_map, range_with_len}
use Rattle.std.proofs.Math.Path.{fun_ext}
use Rattle.text_syntax.specs.Patterns.{parts_of}
use Rattle.fleet_index.specs.NumberLists.{has_number}
use Rattle.group_tree.specs.declared.ids.GroupId.{GroupId}
use Rattle.domains.specs.FleetViews.{FleetView}
use Rattle.domains.specs.Ids.{host_numbers}
use Rattle.domains.specs.Patterns.{named_hosts}
use Rattle.fleet_states.specs.declared.status.Status.{Status}
use Rattle.fleet_states.specs.Statuses.{status_at}
use Rattle.fleet_states.specs.Batches.{Fails, halt}
use Rattle.batch_plan.specs.declared.answers.Answer.{Answer}
use Rattle.batch_plan.specs.declared.answers.Answer.TheVariants.{Planned, Blocked}
use Rattle.batch_plan.specs.Answers.{IsSameAnswer}
use Rattle.play_model.specs.declared.on_blocked.OnBlocked.{OnBlocked}
use Rattle.play_model.specs.declared.size.Size.{Size}
use Rattle.play_model.specs.Sizes.{cap}
use Rattle.play_forecast.specs.PlayPlans.{targets}
use Rattle.host_track.specs.declared.counts.Counts.{Counts}
use Rattle.host_track.specs.Endings.{Ending}
use Rattle.host_track.specs.Hosts.{Known}
use Rattle.host_track.specs.Tracks.{Entry, counts_in, failing_step, track, whole_track}
use Rattle.play_forecast.specs.declared.boundary.Boundary.{Boundary}
use Rattle.play_forecast.specs.declared.end.End.{End}
use Rattle.play_forecast.specs.Courses.{IsCourse, Setting, next_batch}
use Rattle.play_forecast.specs.Laws.{AreSameBoundaries, IsSameBoundary}
use Rattle.play_forecast.proofs.SameLemmas.{one_course}
use Rattle.recap.specs.PlanText.{answer_line, blocked_line, held_line, names_line, planned_line}
use Rattle.recap.proofs.PlanLemmas.{lines_more}
use Rattle.std.specs.Prelude.{codes}
use Rattle.event_log.specs.Rolls.{Roll}
use Rattle.event_log.specs.Columns.{Columns, Tells, fails_by, halt_by, steps_until}
use Rattle.event_log.specs.Told.{Work}
use Rattle.event_log.specs.Events.{Event}
use Rattle.event_log.specs.Logs.{end_state}
use Rattle.roll_run.specs.declared.run.Run.{Run}
use Rattle.roll_run.specs.Runs.{IsRun, TookItsCourse, rows_behind, rows_of, setting_of}
use Rattle.recap.specs.RecapText.{boundary_lines, boundary_text, counts_at, end_line, host_line_of, host_lines, open_line, text_by_place}
use Rattle.json_output.specs.PlayJson.{play_json}
use Rattle.json_output.proofs.SameLemmas.{same_next, same_play_json}
use Rattle.run_command.specs.Recaps.{facts_text, run_facts}
use Rattle.run_command.proofs.AlikePlays.{AreAlikePlays}
use Rattle.run_command.proofs.AlikeTracks.{same_steps, same_track, same_whole}

-- the same answers are written alike
same_line : (fleet : FleetView) (answer other : Answer) → IsSameAnswer answer other → answer_line fleet answer ≡ answer_line fleet other
same_line fleet (Planned plan) (Planned other) same =
    ap (λ (batches : List (List ℕ)). planned_line fleet (length batches) plan.bound) same.0 ∙ ap (planned_line fleet (length other.batches)) same.1
same_line fleet (Planned plan) (Blocked group waiting) same = absurd same
same_line fleet (Blocked group waiting) (Planned plan) same = absurd same
same_line fleet (Blocked group waiting) (Blocked other number) same =
    ap (λ (g : GroupId). blocked_line fleet g.index waiting) same.0 ∙ ap (blocked_line fleet other.index) same.1

-- the same boundaries are written alike
module _ (fleet : FleetView) where
  same_open : (answer other : Answer) (opened : Bool) → IsSameAnswer answer other → open_line fleet answer opened ≡ open_line fleet other opened
  same_open answer other true same = ap (names_line (codes "open:") fleet) (same_next answer other same)
  same_open answer other false same = refl

  same_boundary : (number : ℕ) (boundary other : Boundary) (opened : Bool) → IsSameBoundary boundary other → boundary_text fleet number boundary opened ≡ boundary_text fleet number other opened
  same_boundary number boundary other opened same =
      let line = same_line fleet boundary.answer other.answer same.answer in
      let held : held_line fleet (host_numbers boundary.held.items) ≡ held_line fleet (host_numbers other.held.items) = ap (held_line fleet) same.held in
      let open_ = same_open boundary.answer other.answer opened same.answer in
      rw (line, held, open_) refl

  same_from : (opened place : ℕ) (boundaries others : List Boundary) → AreSameBoundaries boundaries others
      → text_by_place (λ at boundary. boundary_text fleet (at + 1) boundary (nat_lt at opened)) place boundaries ≡ text_by_place (λ at boundary. boundary_text fleet (at + 1) boundary (nat_lt at opened)) place others
  same_from opened place [] [] same = refl
  same_from opened place [] (c ∷ cs) same = absurd same
  same_from opened place (b ∷ bs) [] same = absurd same
  same_from opened place (b ∷ bs) (c ∷ cs) same =
      ap₂ ◌++◌ (same_boundary (place + 1) b c (nat_lt place opened) same.0) (same_from opened (place + 1) bs cs same.1)

  same_many : (boundaries others : List Boundary) → AreSameBoundaries boundaries others → length boundaries ≡ length others
  same_many [] [] same = refl
  same_many [] (c ∷ cs) same = absurd same
  same_many (b ∷ bs) [] same = absurd same
  same_many (b ∷ bs) (c ∷ cs) same = ap suc (same_many bs cs same.1)

  same_boundaries : (boundaries others : List Boundary) → AreSameBoundaries boundaries others → boundary_lines fleet (length boundaries - 1) boundaries ≡ boundary_lines fleet (length others - 1) others
  same_boundaries boundaries others same =
      same_from (length boundaries - 1) 0 boundaries others same ∙ ap (λ (n : ℕ). boundary_lines fleet (n - 1) others) (same_many boundaries others same)

  -- the same lines of the hosts
  each_line : (f g : ℕ → List ℕ) (n : ℕ) → ((i : ℕ) → i < n → f i ≡ g i) → flat_map f (range_with_len 0 n) ≡ flat_map g (range_with_len 0 n)
  each_line f g zero same = refl
  each_line f g (suc n) same =
      let before = each_line f g n (λ i l. same i (omega (arith, l))) in
      let more : n + 1 ≡ suc n = omega arith in
      let here = same n (omega arith) in
      subst (λ (m : ℕ). flat_map f (range_with_len 0 m) ≡ flat_map g (range_with_len 0 m)) more
      (sym (lines_more f n) ∙ ap₂ ◌++◌ before here ∙ lines_more g n)

  same_hosts : (statuses others : List Status) (counts also : List Counts) → statuses ≡ others → ((host : ℕ) → host < length fleet.hosts → counts_at counts host ≡ counts_at also host)
      → host_lines fleet statuses counts ≡ host_lines fleet others also
  same_hosts statuses others counts also same each =
      each_line (λ host. host_line_of fleet host (status_at statuses host) (counts_at counts host)) (λ host. host_line_of fleet host (status_at others host) (counts_at also host)) (length fleet.hosts)
      (λ host within.
      ap (λ (l : List Status). host_line_of fleet host (status_at l host) (counts_at counts host)) same
      ∙ ap (host_line_of fleet host (status_at others host)) (each host within))

-- two lists of boundaries that are the same, without their last ones
same_last : (behind others : List Boundary) (last other : Boundary) → AreSameBoundaries (behind ++ last ∷ []) (others ++ other ∷ []) → AreSameBoundaries behind others × IsSameBoundary last other
same_last [] [] last other same = (tt, same.0)
same_last [] (c ∷ []) last other same = absurd same.1
same_last [] (c ∷ d ∷ cs) last other same = absurd same.1
same_last (b ∷ []) [] last other same = absurd same.1
same_last (b ∷ c ∷ bs) [] last other same = absurd same.1
same_last (b ∷ bs) (c ∷ cs) last other same =
    let rest = same_last bs cs last other same.1 in ((same.0, rest.0), rest.1)

-- the two begin alike: with alike plays, the same statuses, and the same known of each host; how many workers there are is no part of it
pub record BeginAlike (roll other : Roll) : Type 0 where
  pub play : AreAlikePlays roll.play other.play
  pub start : roll.start ≡ other.start
  pub known : (host : ℕ) → roll.known host ≡ other.known host

-- the recaps of two runs are alike in each form
pub record AreToldAlike (fleet : FleetView) (run also : Run) : Type 0 where
  pub lines : facts_text fleet (run_facts run) ≡ facts_text fleet (run_facts also)
  pub json : (number : ℕ) → play_json fleet number (run_facts run) ≡ play_json fleet number (run_facts also)

-- what two such runs leave
pub record LeaveAlike (fleet : FleetView) (roll other : Roll) (run also : Run) (log second : List Event) : Type 0 where
  pub told : AreToldAlike fleet run also
  pub statuses : run.statuses.items ≡ also.statuses.items
  pub end : run.end ≡ also.end
  pub rows : (host : ℕ) → (end_state roll log).rows host ≡ (end_state other second).rows host

module _ (fleet : FleetView) (roll other : Roll) (columns : Columns) (alike : BeginAlike roll other) where
  fails : (host : ℕ) → fails_by roll columns host ≡ fails_by other columns host
  fails host =
      ap failing_step (same_whole roll.play other.play alike.play (roll.known host) (columns host) ∙ ap (λ (known : Known). whole_track other.play known (columns host)) (alike.known host))

  all_fails : fails_by roll columns ≡ fails_by other columns
  all_fails = fun_ext fails

  steps : length roll.play.steps.items ≡ length other.play.steps.items
  steps = same_steps roll.play other.play alike.play

  same_setting : setting_of fleet roll columns ≡ setting_of fleet other columns
  same_setting =
      let caps : cap roll.play.sizes.items (length (targets fleet roll.play)) ≡ cap other.play.sizes.items (length (targets fleet other.play)) =
      ap (λ (sizes : List Size). cap sizes (length (targets fleet roll.play))) alike.play.sizes
      ∙ ap (λ (pattern : List ℕ). cap other.play.sizes.items (length (named_hosts fleet (parts_of pattern)))) alike.play.pattern in
      ap (λ (mode : OnBlocked). made mode (setting_of fleet roll columns).caps roll.play.max_fail (length roll.play.steps.items) (fails_by roll columns)) alike.play.on_blocked
      ∙ ap (λ (bounds : ℕ → Option ℕ). made other.play.on_blocked bounds roll.play.max_fail (length roll.play.steps.items) (fails_by roll columns)) caps
      ∙ ap (λ (most : Option ℕ). made other.play.on_blocked (setting_of fleet other columns).caps most (length roll.play.steps.items) (fails_by roll columns)) alike.play.max_fail
      ∙ ap (λ (n : ℕ). made other.play.on_blocked (setting_of fleet other columns).caps other.play.max_fail n (fails_by roll columns)) steps
      ∙ ap (made other.play.on_blocked (setting_of fleet other columns).caps other.play.max_fail (length other.play.steps.items)) all_fails
    where
      made : OnBlocked → (ℕ → Option ℕ) → Option ℕ → ℕ → Fails → Setting
      made mode bounds most n fail =
          record { fleet = fleet; mode = mode; caps = bounds; percentage = most; steps = n; fails = fail }

  same_halt : (batch : List ℕ) → halt_by roll columns batch ≡ halt_by other columns batch
  same_halt batch =
      ap (λ (fail : Fails). halt fail batch roll.play.max_fail (length roll.play.steps.items)) all_fails
      ∙ ap (λ (most : Option ℕ). halt (fails_by other columns) batch most (length roll.play.steps.items)) alike.play.max_fail
      ∙ ap (halt (fails_by other columns) batch other.play.max_fail) steps

  same_until : (at : Option ℕ) → steps_until roll at ≡ steps_until other at
  same_until None = steps
  same_until (Some at) = refl

  same_rows : (batch : List ℕ) (host : ℕ) → rows_of roll columns batch host ≡ rows_of other columns batch host
  same_rows batch host =
      ap (λ (at : Option ℕ). track roll.play (roll.known host) (columns host) (steps_until roll at)) (same_halt batch)
      ∙ ap (track roll.play (roll.known host) (columns host)) (same_until (halt_by other columns batch))
      ∙ same_track roll.play other.play alike.play (roll.known host) (columns host) (steps_until other (halt_by other columns batch))
      ∙ ap (λ (known : Known). track other.play known (columns host) (steps_until other (halt_by other columns batch))) (alike.known host)

  same_behind : (host : ℕ) (before : List Entry) (boundaries others : List Boundary) → AreSameBoundaries boundaries others
      → rows_behind roll columns host before boundaries ≡ rows_behind other columns host before others
  same_behind host before [] [] same = refl
  same_behind host before [] (c ∷ cs) same = absurd same
  same_behind host before (b ∷ bs) [] same = absurd same
  same_behind host before (b ∷ bs) (c ∷ cs) same =
      let entries : List ℕ → List Entry = λ batch. cond (has_number host batch) (rows_of roll columns batch host) before in
      let next = same_next b.answer c.answer same.0.answer in
      let here : entries (next_batch b.answer) ≡ cond (has_number host (next_batch c.answer)) (rows_of other columns (next_batch c.answer) host) before =
      ap entries next ∙ ap (λ (rows : List Entry). cond (has_number host (next_batch c.answer)) rows before) (same_rows (next_batch c.answer) host) in
      same_behind host (entries (next_batch b.answer)) bs cs same.1 ∙ ap (λ (rows : List Entry). rows_behind other columns host rows cs) here

  module _ (may might : Work → Ending → Type 0) (run also : Run) (log other_log : List Event) (all : length roll.start ≡ length fleet.hosts) (one : IsRun may fleet roll run log) (tells : Tells columns roll log)
      (two : IsRun might fleet other also other_log) (tell : Tells columns other other_log) where
    first : TookItsCourse fleet roll columns run.boundaries.items log run.statuses.items run.end
    first = one.by columns tells

    second : TookItsCourse fleet other columns also.boundaries.items other_log also.statuses.items also.end
    second = two.by columns tell

    courses : AreSameBoundaries run.boundaries.items also.boundaries.items × (run.end ≡ also.end)
    courses =
        one_course (setting_of fleet roll columns) roll.start run.boundaries.items also.boundaries.items run.end also.end first.course
        (subst (λ (s : Setting). IsCourse s roll.start also.boundaries.items (Some also.end)) (sym same_setting)
        (subst (λ (l : List Status). IsCourse (setting_of fleet other columns) l also.boundaries.items (Some also.end)) (sym alike.start) second.course))

    split : AreSameBoundaries first.behind second.behind × IsSameBoundary first.last second.last
    split =
        same_last first.behind second.behind first.last second.last
        (subst (λ (l : List Boundary). AreSameBoundaries l (second.behind ++ second.last ∷ [])) first.boundaries_are
        (subst (AreSameBoundaries run.boundaries.items) second.boundaries_are courses.0))

    rows : (host : ℕ) → (end_state roll log).rows host ≡ (end_state other other_log).rows host
    rows host = first.rows host ∙ same_behind host [] first.behind second.behind split.0 ∙ sym (second.rows host)

    statuses : run.statuses.items ≡ also.statuses.items
    statuses = first.statuses_are ∙ split.1.statuses ∙ sym second.statuses_are

    counts : (host : ℕ) → host < length fleet.hosts → counts_at run.counts.items host ≡ counts_at also.counts.items host
    counts host within =
        let start : length roll.start ≡ length other.start = ap length alike.start in
        one.counts host (omega (arith, within, all)) ∙ ap counts_in (rows host) ∙ sym (two.counts host (omega (arith, within, all, start)))

    opened : length run.boundaries.items - 1 ≡ length also.boundaries.items - 1
    opened = ap (λ (n : ℕ). n - 1) (same_many fleet run.boundaries.items also.boundaries.items courses.0)

    told : AreToldAlike fleet run also
    told = record {
      lines =
          ap₂ ◌++◌ (same_boundaries fleet run.boundaries.items also.boundaries.items courses.0)
          (ap₂ ◌++◌ (same_hosts fleet run.statuses.items also.statuses.items run.counts.items also.counts.items statuses counts) (ap (λ (e : End). end_line fleet (Some e)) courses.1));
      json = λ number. same_play_json fleet number (run_facts run) (run_facts also) courses.0 opened statuses counts (ap Some courses.1);
    }

    pub leave_alike : LeaveAlike fleet roll other run also log other_log
    leave_alike = record { told = told; statuses = statuses; end = courses.1; rows = rows }
