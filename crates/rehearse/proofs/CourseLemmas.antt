-- A play from boundary to boundary: each boundary at which it goes on leaves fewer hosts that wait.
use Rattle.std.proofs.Common.{◌≡◌, ℕ, ◌+◌, ◌<◌, ◌≤◌, ◌&&◌, ◌==◌, Bool, true, false, not, cond, Option, Some, None, List, [], ◌∷◌, ◌++◌, get_or, length, refl, sym, ap, ◌∙◌, subst, arith, inl, inr, ◌⊎◌, length-append}
use Rattle.std.proofs.lemmas.Bool.{cases_lt}
use Rattle.std.proofs.lemmas.List.FromFn.{get_or-range_with_len, length-range_with_len}
use Rattle.std.proofs.lemmas.List.Sums.{count_by-le-length}
use Rattle.std.specs.Prelude.{if◌then◌else◌}
use Rattle.std.specs.List.{count_by, range_with_len}
use Rattle.std.specs.Option.{option_or}
use Rattle.fleet_index.specs.NumberLists.{bit, has_number, list_at}
use Rattle.fleet_states.proofs.CountLemmas.{count_add, count_some}
use Rattle.fleet_states.proofs.NumberLemmas.{number_at}
use Rattle.fleet_states.proofs.BatchLaws.{none_waits_after, others_stay}
use Rattle.fleet_states.proofs.StatusLemmas.{length-changed, length-given, status_at-changed, status_at-changed_past, waiting_within}
use Rattle.fleet_states.specs.Batches.{status_after}
use Rattle.fleet_states.specs.Groups.{groups_of}
use Rattle.fleet_states.specs.Statuses.{is_waiting, status_at}
use Rattle.fleet_states.specs.declared.status.Status.{Status}
use Rattle.fleet_states.specs.declared.status.Status.TheVariants.{Held}
use Rattle.batch_plan.specs.Answers.{IsBest}
use Rattle.batch_plan.specs.Holding.{set_aside}
use Rattle.batch_plan.specs.Plans.{IsPlan}
use Rattle.batch_plan.specs.declared.answers.Answer.{Answer}
use Rattle.batch_plan.specs.declared.answers.Answer.TheVariants.{Planned, Blocked}
use Rattle.play_forecast.proofs.OpenedLemmas.{opened_waits}
use Rattle.play_forecast.proofs.SameLemmas.{ended_by-push, led_to-push, one_boundary_more}
use Rattle.play_forecast.specs.Courses.{IsBoundary, IsCourse, Setting, end_at_rest, end_here, end_without_batch, ended_by, halt_of, led_to, next_batch, statuses_behind}
use Rattle.play_forecast.specs.Files.{last_statuses}
use Rattle.play_forecast.specs.PlayPlans.{aside_by}
use Rattle.play_forecast.specs.declared.boundary.Boundary.{Boundary}
use Rattle.play_forecast.specs.declared.end.End.{End}
use Rattle.rehearse.specs.CourseSteps.{HasComeBehind, HasMoved, IsWholeCourse, waiting_in}
use Rattle.rehearse.specs.declared.course.PlayCourse.{PlayCourse}
use Rattle.rehearse.specs.declared.following.Standing.{Standing}
use Rattle.rehearse.specs.declared.following.Turn.{Turn}
use Rattle.rehearse.specs.declared.following.Turn.TheVariants.{Behind, Ended}

-- where a play goes on, the batch of its boundary has somebody in it
opens_some : (setting : Setting) (bound : Option ℕ) (before : Option End) (boundary : Boundary) → IsBest setting.fleet boundary.statuses.items bound boundary.answer → end_here before boundary ≡ None
    → 0 < length (next_batch boundary.answer)
opens_some setting bound before boundary best goes_on = by before boundary.answer best goes_on
  where
    first : (batches : List (List ℕ)) → IsPlan (groups_of setting.fleet) boundary.statuses.items bound batches
        → (if length batches == 0 then Some (end_at_rest boundary.statuses.items) else None) ≡ None → 0 < length (list_at batches 0)
    first [] plan none = absurd (cc)
    first (batch ∷ rest) plan none = plan.none_empty 0 [] (omega arith)

    by : (before : Option End) (answer : Answer) → IsBest setting.fleet boundary.statuses.items bound answer → option_or before (end_without_batch boundary.statuses.items answer) ≡ None
        → 0 < length (next_batch answer)
    by (Some end) answer best none = absurd (cc)
    by None (Blocked group waiting) best none = absurd (cc)
    by None (Planned plan) best none = first plan.batches best.plan none

-- who waits once hosts are set aside waited before
waited_before : (hosts : List ℕ) (statuses : List Status) (host : ℕ) → is_waiting (status_at (set_aside hosts statuses) host) ≡ true → is_waiting (status_at statuses host) ≡ true
waited_before hosts statuses host waits = by_case (cases_lt host (length statuses))
  where
    neither : (b : Bool) → is_waiting (cond b Held (status_at statuses host)) ≡ true → is_waiting (status_at statuses host) ≡ true
    neither true held = absurd (cc)
    neither false still = still

    by_case : (host < length statuses) ⊎ (length statuses ≤ host) → is_waiting (status_at statuses host) ≡ true
    by_case (inl within) = neither (has_number host hosts) (ap is_waiting (sym (status_at-changed (λ _. Held) hosts statuses host within)) ∙ waits)
    by_case (inr past) = absurd (let bad : false ≡ true = ap is_waiting (sym (status_at-changed_past (λ _. Held) hosts statuses host past)) ∙ waits in cc)

both_ways : (b : Bool) → b ≡ false → b ≡ true → ⊥
both_ways true off on = cc
both_ways false off on = cc

parts : (before behind : Bool) → (behind ≡ true → before ≡ true) → bit before ≡ bit behind + bit (before && not behind)
parts true true only = refl
parts true false only = refl
parts false true only = absurd (let bad : false ≡ true = only refl in cc)
parts false false only = refl

first_of : (batch : List ℕ) → 0 < length batch → has_number (get_or batch 0 0) batch ≡ true
first_of batch some = number_at batch 0 some

in_range : (host count : ℕ) → host < count → has_number host (range_with_len 0 count) ≡ true
in_range host count within =
    let at : get_or (range_with_len 0 count) host 0 ≡ host = get_or-range_with_len 0 count host 0 within ∙ omega arith in
    subst (λ n. has_number n (range_with_len 0 count) ≡ true) at (number_at (range_with_len 0 count) host (omega (arith, within, length-range_with_len 0 count)))

module _ (setting : Setting) (opened : ℕ) (statuses : List Status) (before : Option End) (boundary : Boundary) (is : IsBoundary setting opened statuses boundary) where
  abbrev batch : List ℕ
  batch = next_batch boundary.answer

  abbrev behind : List Status
  behind = statuses_behind setting boundary

  pub all_behind : length behind ≡ length statuses
  all_behind =
      length-given (λ host. status_after (halt_of setting batch) (setting.fails host)) batch boundary.statuses.items
      ∙ ap length is.statuses_are ∙ length-changed (λ _. Held) (aside_by setting.mode setting.fleet statuses) statuses

  -- who waits behind the batch waited at the boundary
  waits_still : (host : ℕ) → is_waiting (status_at behind host) ≡ true → is_waiting (status_at statuses host) ≡ true
  waits_still host waits = by (has_number host batch) refl
    where
      by : (b : Bool) → has_number host batch ≡ b → is_waiting (status_at statuses host) ≡ true
      by true here = absurd (both_ways (is_waiting (status_at behind host)) (none_waits_after (halt_of setting batch) setting.fails batch boundary.statuses.items host here).0 waits)
      by false out =
          waited_before (aside_by setting.mode setting.fleet statuses) statuses host
          (ap (λ s. is_waiting (status_at s host)) (sym is.statuses_are) ∙ ap is_waiting (sym (others_stay (halt_of setting batch) setting.fails batch boundary.statuses.items host out)) ∙ waits)

  pub fewer_wait : end_here before boundary ≡ None → waiting_in behind < waiting_in statuses
  fewer_wait goes_on =
      let some = opens_some setting (setting.caps opened) before boundary is.best goes_on in
      let host : ℕ = get_or batch 0 0 in
      let here : has_number host batch ≡ true = first_of batch some in
      let waits : is_waiting (status_at statuses host) ≡ true =
      waited_before (aside_by setting.mode setting.fleet statuses) statuses host
      (ap (λ s. is_waiting (status_at s host)) (sym is.statuses_are) ∙ opened_waits setting opened statuses boundary host is here) in
      let gone : is_waiting (status_at behind host) ≡ false = (none_waits_after (halt_of setting batch) setting.fails batch boundary.statuses.items host here).0 in
      let numbers : List ℕ = range_with_len 0 (length statuses) in
      let now : ℕ → Bool = λ h. is_waiting (status_at statuses h) in
      let then_on : ℕ → Bool = λ h. is_waiting (status_at behind h) in
      let left : ℕ → Bool = λ h. now h && not (then_on h) in
      let whole : count_by now numbers ≡ count_by then_on numbers + count_by left numbers = count_add now then_on left (λ h. parts (now h) (then_on h) (waits_still h)) numbers in
      let both : left host ≡ true = ap (λ b. b && not (then_on host)) waits ∙ ap not gone in
      let one : 0 < count_by left numbers = count_some left host numbers (in_range host (length statuses) (waiting_within statuses host waits)) both in
      let same : waiting_in behind ≡ count_by then_on numbers = ap (λ n. count_by then_on (range_with_len 0 n)) all_behind in
      omega (arith, whole, one, same)

last_of : (statuses : List Status) (boundaries : List Boundary) (last : Boundary) → last_statuses statuses (boundaries ++ last ∷ []) ≡ last.statuses.items
last_of statuses [] last = refl
last_of statuses (boundary ∷ boundaries) last = last_of boundary.statuses.items boundaries last

module _ (setting : Setting) (start : List Status) (old new : List Boundary) (standing : Standing) (come : HasComeBehind setting start old standing) where
  -- the boundary to which it came stands behind the others
  led : (turn : Turn) (moved : HasMoved setting old new standing turn) → IsBoundary setting (length old) (led_to setting start old) moved.boundary
  led turn moved = subst (λ (s : List Status). IsBoundary setting (length old) s moved.boundary) come.statuses_are moved.is

  course_by : (turn : Turn) (moved : HasMoved setting old new standing turn) → IsCourse setting start new (end_here standing.before moved.boundary)
  course_by turn moved =
      subst (λ (l : List Boundary). IsCourse setting start l (end_here standing.before moved.boundary)) (sym moved.grown)
      (subst (λ (e : Option End). IsCourse setting start (old ++ moved.boundary ∷ []) (end_here e moved.boundary)) (sym come.before_is)
      (one_boundary_more setting start old moved.boundary come.course (led turn moved)))

  pub goes_behind : (next : Standing) → HasMoved setting old new standing (Behind next) → HasComeBehind setting start new next
  goes_behind next moved =
      let boundary = moved.boundary in
      let turn = moved.turn_is in
      let fewer = fewer_wait setting (length old) standing.statuses.items standing.before boundary moved.is turn.0 in
      let long : length new ≡ length old + 1 = ap length moved.grown ∙ length-append old (boundary ∷ []) in
      record {
        course = subst (λ (e : Option End). IsCourse setting start new e) turn.0 (course_by (Behind next) moved);
        statuses_are = turn.1 ∙ sym (ap (led_to setting start) moved.grown ∙ led_to-push setting start old boundary);
        before_is = turn.2 ∙ sym (ap (ended_by setting None) moved.grown ∙ ended_by-push setting None old boundary);
        all = ap length turn.1 ∙ all_behind setting (length old) standing.statuses.items standing.before boundary moved.is ∙ come.all;
        fewer = omega (arith, ap waiting_in turn.1, fewer, come.fewer, long);
      }

  pub smaller : (next : Standing) → HasMoved setting old new standing (Behind next) → waiting_in next.statuses.items < waiting_in standing.statuses.items
  smaller next moved =
      let fewer = fewer_wait setting (length old) standing.statuses.items standing.before moved.boundary moved.is moved.turn_is.0 in
      omega (arith, ap waiting_in moved.turn_is.1, fewer)

  pub ends_whole : (end : End) (course : PlayCourse) → HasMoved setting old new standing (Ended end) → course.boundaries.items ≡ new → course.end ≡ end → length start ≡ length setting.fleet.hosts
      → IsWholeCourse setting start course
  ends_whole end course moved boundaries_are end_is all =
      let boundary = moved.boundary in
      let its : IsCourse setting start new (Some end) = subst (λ (e : Option End). IsCourse setting start new e) moved.turn_is (course_by (Ended end) moved) in
      let last = ap (last_statuses []) (boundaries_are ∙ moved.grown) ∙ last_of [] old boundary in
      record {
        is = subst (λ (l : List Boundary). IsCourse setting start l (Some course.end)) (sym boundaries_are) (subst (λ (e : End). IsCourse setting start new (Some e)) (sym end_is) its);
        all = ap length last ∙ ap length moved.is.statuses_are ∙ length-changed (λ _. Held) (aside_by setting.mode setting.fleet standing.statuses.items) standing.statuses.items ∙ come.all;
        few = omega (arith, long, ap length boundaries_are, come.fewer, most, all);
      }
    where
      long : length new ≡ length old + 1
      long = ap length moved.grown ∙ length-append old (moved.boundary ∷ [])

      most : waiting_in start ≤ length start
      most =
          omega (arith, count_by-le-length (λ h. is_waiting (status_at start h)) (range_with_len 0 (length start)), length-range_with_len 0 (length start))
