-- The runs of the plays of one text have one text.
use Rattle.std.proofs.Common.{◌≡◌, ℕ, ◌+◌, Bool, nat_lt, Option, None, Some, List, [], ◌∷◌, ◌++◌, codes, length, refl, sym, ap, ap₂, ◌∙◌, subst, arith}
use Rattle.std.specs.List.{AllZip}
use Rattle.std.specs.Prelude.{slice_get}
use Rattle.std.proofs.lemmas.List.FromFn.{length-map-range_with_len}
use Rattle.std.proofs.lemmas.Option.{none-some, same_Some, slice_get-get_or, slice_get_within}
use Rattle.std.proofs.lemmas.Slice.Zip.{AllZip-long}
use Rattle.text_syntax.specs.Patterns.{parts_of}
use Rattle.group_tree.specs.Places.{Inventory}
use Rattle.domains.specs.FleetViews.{FleetView}
use Rattle.domains.specs.Fleets.{IsFleetOf}
use Rattle.domains.specs.Patterns.{named_hosts}
use Rattle.domains.proofs.UniqueLemmas.{one_fleet}
use Rattle.fleet_states.specs.declared.status.Status.{Status}
use Rattle.fleet_states.specs.Starts.{start_statuses}
use Rattle.batch_plan.specs.Beginnings.{restart_statuses}
use Rattle.host_vars.specs.declared.vars.Vars.{Vars}
use Rattle.host_track.specs.Endings.{Ending}
use Rattle.host_track.specs.Hosts.{Known, known_of, without_debt}
use Rattle.host_track.specs.Tracks.{Entry, known_after}
use Rattle.play_model.specs.declared.play.Play.{Play}
use Rattle.play_forecast.specs.PlayPlans.{targets}
use Rattle.play_read.specs.Reads as playbooks
use Rattle.playbook_schema.specs.Plays.{plays_of}
use Rattle.plan_command.proofs.UniqueLemmas.{one_inventory}
use Rattle.event_log.specs.Works.{known_at, known_with}
use Rattle.event_log.specs.Rolls.{Roll}
use Rattle.event_log.specs.Columns.{Columns, gives}
use Rattle.event_log.specs.Events.{Event}
use Rattle.event_log.specs.Logs.{end_state}
use Rattle.event_log.specs.States.{start_state}
use Rattle.event_log.specs.Told.{Work}
use Rattle.roll_run.specs.declared.run.Run.{Run}
use Rattle.roll_run.specs.Runs.{IsRun, roll_by}
use Rattle.roll_run.proofs.Lengths.{as_many}
use Rattle.roll_run.specs.Plays.{AreRuns, AreRunsAfter}
use Rattle.roll_run.specs.Files.{TellLater, TellTheirs, roll_after}
use Rattle.roll_run.proofs.FileCourses.{begins_after}
use Rattle.recap.specs.RecapText.{text_by_place}
use Rattle.json_output.specs.Arrays.{comma_if}
use Rattle.json_output.specs.PlayJson.{PlayFacts, play_json}
use Rattle.json_output.specs.declared.form.Form.{Form}
use Rattle.json_output.specs.declared.form.Form.TheVariants.{Plain, Json}
use Rattle.json_output.proofs.ArrayLemmas.{text_mapped}
use Rattle.run_command.specs.Laws.{OneRecap, OneRecapByPlays}
use Rattle.run_command.specs.Recaps.{are_several, facts_text, headed, run_facts, runs_text}
use Rattle.run_command.specs.RunTexts.{AreRunsIn}
use Rattle.run_command.proofs.AlikePlays.{AreAlikePlays, all_alike_plays}
use Rattle.run_command.proofs.AlikeTracks.{same_known_after}
use Rattle.run_command.proofs.SameCourses.{AreToldAlike, BeginAlike, LeaveAlike, leave_alike}
use Rattle.run_command.proofs.SameHosts.{same_known}

apart : {X : Type 0} (xs ys : List X) (i : ℕ) (y : X) → length xs ≡ length ys → slice_get xs i ≡ None → slice_get ys i ≡ Some y → ⊥
apart xs ys i y many none some =
    let within = slice_get_within ys i y some in
    none-some _ (sym none ∙ slice_get-get_or xs i y (omega (arith, within, many)))

-- what two lists of variables say of a host, by what they say of those that both have
known_both : (ones others : List Vars) → length ones ≡ length others → (host : ℕ) → ((one other : Vars) → slice_get ones host ≡ Some one → slice_get others host ≡ Some other → known_of one ≡ known_of other)
    → known_at ones host ≡ known_at others host
known_both ones others many host each = go (slice_get ones host) refl (slice_get others host) refl
  where
    go : (o : Option Vars) → slice_get ones host ≡ o → (p : Option Vars) → slice_get others host ≡ p → known_at ones host ≡ known_at others host
    go None e None f = ap known_with e ∙ sym (ap known_with f)
    go (Some one) e (Some other) f = ap known_with e ∙ each one other e f ∙ sym (ap known_with f)
    go None e (Some other) f = absurd (apart ones others host other many e f)
    go (Some one) e None f = absurd (apart others ones host one (sym many) f e)

same_targets : (fleet : FleetView) (play other : Play) → AreAlikePlays play other → targets fleet play ≡ targets fleet other
same_targets fleet play other alike = ap (λ (pattern : List ℕ). named_hosts fleet (parts_of pattern)) alike.pattern

many_left : (may : Work → Ending → Type 0) (fleet : FleetView) (roll : Roll) (run : Run) (log : List Event) → IsRun may fleet roll run log → length run.statuses.items ≡ length roll.start
many_left may fleet roll run log is = ap length is.statuses ∙ as_many roll (start_state roll) log

-- the same of lists that are known part by part
all_told : (columns : ℕ → Columns) (fleet : FleetView) (forks : ℕ) (plays : List Play) (statuses : List Status) (vars : List Vars) (runs : List Run) (logs : List (List Event)) (others : List Play) (again : List Run) (anew : List (List Event))
    → plays ≡ others → runs ≡ again → logs ≡ anew → TellTheirs columns fleet forks plays statuses vars runs logs → TellTheirs columns fleet forks others statuses vars again anew
all_told columns fleet forks plays statuses vars runs logs others again anew plays_are runs_are logs_are tell =
    subst (λ (p : List Play). TellTheirs columns fleet forks p statuses vars again anew) plays_are
    (subst (λ (l : List Run). TellTheirs columns fleet forks plays statuses vars l anew) runs_are (subst (TellTheirs columns fleet forks plays statuses vars runs) logs_are tell))

module _ (may might : Work → Ending → Type 0) (columns : ℕ → Columns) (fleet : FleetView) (forks more : ℕ) where
  -- two runs left the same
  record EndAlike (before also : Run) : Type 0 where
    statuses : before.statuses.items ≡ also.statuses.items
    end : before.end ≡ also.end
    known : (host : ℕ) → known_at before.vars.items host ≡ known_at also.vars.items host
    many : length before.statuses.items ≡ length fleet.hosts

  ended : (roll other : Roll) (run also : Run) (log second : List Event) → BeginAlike roll other → length roll.start ≡ length fleet.hosts → IsRun may fleet roll run log → IsRun might fleet other also second → LeaveAlike fleet roll other run also log second
      → EndAlike run also
  ended roll other run also log second alike all one two leaves = record {
    statuses = leaves.statuses;
    end = leaves.end;
    known = λ host. known_both run.vars.items also.vars.items (one.vars.all ∙ ap length alike.start ∙ sym two.vars.all) host (each host);
    many = many_left may fleet roll run log one ∙ all;
  }
    where
      each : (host : ℕ) (v w : Vars) → slice_get run.vars.items host ≡ Some v → slice_get also.vars.items host ≡ Some w → known_of v ≡ known_of w
      each host v w e f =
          let rows : List Entry = (end_state other second).rows host in
          one.vars.each host v e
          ∙ ap without_debt (ap (known_after roll.play (roll.known host)) (leaves.rows host) ∙ same_known_after roll.play other.play alike.play rows (roll.known host)
          ∙ ap (λ (k : Known). known_after other.play k rows) (alike.known host))
          ∙ sym (two.vars.each host w f)

  later_alike : (play other : Play) → AreAlikePlays play other → (before also : Run) → EndAlike before also
      → BeginAlike (roll_after fleet forks play before) (roll_after fleet more other also) × (length (roll_after fleet forks play before).start ≡ length fleet.hosts)
  later_alike play other alike before also ends =
      (record { play = alike; start = ap₂ restart_statuses ends.statuses (same_targets fleet play other alike); known = ends.known }, restarted ∙ ends.many)
    where
      restarted : length (restart_statuses before.statuses.items (targets fleet play)) ≡ length before.statuses.items
      restarted = length-map-range_with_len _ 0 (length before.statuses.items)

  -- what is written of each run by its place, where that is the same of runs that are told alike
  record IsWrittenAlike (piece : ℕ → Run → List ℕ) : Type 0 where
    each : (place : ℕ) (run also : Run) → AreToldAlike fleet run also → piece place run ≡ piece place also

  after : (piece : ℕ → Run → List ℕ) → IsWrittenAlike piece → (number : ℕ) (plays others : List Play) → AllZip AreAlikePlays plays others → (before also : Run) → EndAlike before also → (runs seconds : List Run) (logs again : List (List Event)) → AreRunsAfter may fleet forks plays before runs logs
      → AreRunsAfter might fleet more others also seconds again → TellLater columns fleet forks number plays before runs logs → TellLater columns fleet more number others also seconds again → (place : ℕ)
      → text_by_place piece place runs ≡ text_by_place piece place seconds
  after piece same number [] [] alike before also ends runs seconds logs again one two tell told place =
      ap (text_by_place piece place) one.1 ∙ sym (ap (text_by_place piece place) two.1)
  after piece same number [] (o ∷ os) alike before also ends runs seconds logs again one two tell told place = absurd alike
  after piece same number (p ∷ ps) [] alike before also ends runs seconds logs again one two tell told place = absurd alike
  after piece same number (p ∷ ps) (o ∷ os) alike before also ends [] [] logs again one two tell told place = refl
  after piece same number (p ∷ ps) (o ∷ os) alike before also ends [] (s ∷ ss) logs [] one two tell told place = absurd two
  after piece same number (p ∷ ps) (o ∷ os) alike before also ends [] (s ∷ ss) logs (m ∷ ms) one two tell told place = absurd (one.1 (ends.end ∙ two.0))
  after piece same number (p ∷ ps) (o ∷ os) alike before also ends (r ∷ rs) seconds [] again one two tell told place = absurd one
  after piece same number (p ∷ ps) (o ∷ os) alike before also ends (r ∷ rs) [] (l ∷ ls) again one two tell told place = absurd (two.1 (sym ends.end ∙ one.0))
  after piece same number (p ∷ ps) (o ∷ os) alike before also ends (r ∷ rs) (s ∷ ss) (l ∷ ls) [] one two tell told place = absurd two
  after piece same number (p ∷ ps) (o ∷ os) alike before also ends (r ∷ rs) (s ∷ ss) (l ∷ ls) (m ∷ ms) one two tell told place =
      let roll : Roll = roll_after fleet forks p before in
      let other : Roll = roll_after fleet more o also in
      let begins = later_alike p o alike.0 before also ends in
      let is : IsRun may fleet roll r l = subst (λ (f : Roll). IsRun may fleet f r l) (begins_after fleet p forks before one.1.roll one.1.begins) one.1.run_is in
      let too : IsRun might fleet other s m = subst (λ (f : Roll). IsRun might fleet f s m) (begins_after fleet o more also two.1.roll two.1.begins) two.1.run_is in
      let leaves = leave_alike fleet roll other (columns number) begins.0 may might r s l m begins.1 is tell.0 too told.0 in
      ap₂ ◌++◌ (same.each place r s leaves.told)
      (after piece same (number + 1) ps os alike.1 r s (ended roll other r s l m begins.0 begins.1 is too leaves) rs ss ls ms one.2 two.2 tell.1 told.1 (place + 1))

  all_runs : (plays others : List Play) → AllZip AreAlikePlays plays others → (statuses again : List Status) → statuses ≡ again → length statuses ≡ length fleet.hosts → (vars twice : List Vars)
      → ((host : ℕ) → known_at vars host ≡ known_at twice host) → (runs seconds : List Run) (logs anew : List (List Event)) → AreRuns may fleet forks plays statuses vars runs logs → AreRuns might fleet more others again twice seconds anew
      → TellTheirs columns fleet forks plays statuses vars runs logs → TellTheirs columns fleet more others again twice seconds anew → (piece : ℕ → Run → List ℕ) → IsWrittenAlike piece → text_by_place piece 0 runs ≡ text_by_place piece 0 seconds
  all_runs plays others alike statuses again same all vars twice known runs seconds logs anew one two tell told piece written =
      let zip : AllZip AreAlikePlays (one.first ∷ one.later) (two.first ∷ two.later) =
      subst (λ (l : List Play). AllZip AreAlikePlays l (two.first ∷ two.later)) one.plays_are (subst (AllZip AreAlikePlays plays) two.plays_are alike) in
      let its = all_told columns fleet forks plays statuses vars runs logs (one.first ∷ one.later) (one.run ∷ one.rest) (one.log ∷ one.others) one.plays_are one.runs_are one.logs_are tell in
      let theirs = all_told columns fleet more others again twice seconds anew (two.first ∷ two.later) (two.run ∷ two.rest) (two.log ∷ two.others) two.plays_are two.runs_are two.logs_are told in
      let roll : Roll = roll_by fleet one.first forks statuses vars in
      let other : Roll = roll_by fleet two.first more again twice in
      let begins : BeginAlike roll other = record { play = zip.0; start = same; known = known } in
      let leaves = leave_alike fleet roll other (columns 0) begins may might one.run two.run one.log two.log all one.is_first its.0 two.is_first theirs.0 in
      let ends = ended roll other one.run two.run one.log two.log begins all one.is_first two.is_first leaves in
      let rest = after piece written 1 one.later two.later zip.1 one.run two.run ends one.rest two.rest one.others two.others one.follow two.follow its.1 theirs.1 1 in
      ap (text_by_place piece 0) one.runs_are ∙ ap₂ ◌++◌ (written.each 0 one.run two.run leaves.told) rest ∙ sym (ap (text_by_place piece 0) two.runs_are)

  in_form : (form : Form) (several : Bool) (runs seconds : List Run) → ((piece : ℕ → Run → List ℕ) → IsWrittenAlike piece → text_by_place piece 0 runs ≡ text_by_place piece 0 seconds) → runs_text form fleet several runs ≡ runs_text form fleet several seconds
  in_form Plain several runs seconds same =
      same (λ place run. headed several (place + 1) (facts_text fleet (run_facts run))) (record { each = λ place run also alike. ap (headed several (place + 1)) alike.lines })
  in_form Json several runs seconds same =
      let piece : ℕ → PlayFacts → List ℕ = λ place facts. comma_if (nat_lt 0 place) ++ play_json fleet (0 + place + 1) facts in
      let alike : IsWrittenAlike (λ place run. piece place (run_facts run)) = record { each = λ place run also alike. ap (λ (text : List ℕ). comma_if (nat_lt 0 place) ++ text) (alike.json (0 + place + 1)) } in
      let entries = text_mapped piece run_facts 0 runs ∙ same (λ place run. piece place (run_facts run)) alike ∙ sym (text_mapped piece run_facts 0 seconds) in
      ap (λ (text : List ℕ). codes "{\"plays\":" ++ ((codes "[" ++ (text ++ codes "]")) ++ codes "}\n")) entries

  -- what two readings of the same texts say
  same_inputs : (form : Form) (inventory playbook : List ℕ) (plays others : List Play) (runs seconds : List Run) (logs anew : List (List Event)) (one : AreRunsIn may inventory playbook forks fleet plays runs logs) (two : AreRunsIn might inventory playbook more fleet others seconds anew)
      → TellTheirs columns fleet forks plays one.statuses one.vars runs logs → TellTheirs columns fleet more others two.statuses two.vars seconds anew → runs_text form fleet (are_several plays) runs ≡ runs_text form fleet (are_several others) seconds
  same_inputs form inventory playbook plays others runs seconds logs anew one two tell told =
      let document : one.inputs.says.reads.document ≡ two.inputs.says.reads.document = same_Some _ _ (sym one.inputs.says.reads.reads ∙ two.inputs.says.reads.reads) in
      let alike : AllZip AreAlikePlays plays others =
      all_alike_plays (plays_of two.inputs.says.reads.document) plays others (subst (λ d. AllZip playbooks.IsPlay (plays_of d) plays) document one.inputs.says.reads.says) two.inputs.says.reads.says in
      let first : AllZip AreAlikePlays (one.inputs.begins.first ∷ one.inputs.begins.later) (two.inputs.begins.first ∷ two.inputs.begins.later) =
      subst (λ (l : List Play). AllZip AreAlikePlays l (two.inputs.begins.first ∷ two.inputs.begins.later)) one.inputs.begins.plays_are (subst (AllZip AreAlikePlays plays) two.inputs.begins.plays_are alike) in
      let start : one.statuses ≡ two.statuses =
      one.inputs.begins.statuses_are ∙ ap (start_statuses fleet) (same_targets fleet one.inputs.begins.first two.inputs.begins.first first.0) ∙ sym two.inputs.begins.statuses_are in
      let all : length one.statuses ≡ length fleet.hosts = ap length one.inputs.begins.statuses_are ∙ started (targets fleet one.inputs.begins.first) in
      let several : are_several plays ≡ are_several others = ap (nat_lt 1) (sym (AllZip-long AreAlikePlays plays others alike)) in
      let known = same_known inventory fleet one.vars two.vars one.inputs.hosts two.inputs.hosts in
      in_form form (are_several plays) runs seconds (all_runs plays others alike one.statuses two.statuses start all one.vars two.vars known runs seconds logs anew one.runs_are two.runs_are tell told)
      ∙ ap (λ (b : Bool). runs_text form fleet b seconds) several
    where
      started : (target : List ℕ) → length (start_statuses fleet target) ≡ length fleet.hosts
      started target = length-map-range_with_len _ 0 (length fleet.hosts)

pub one_recap_by_plays : (may might : Work → Ending → Type 0) → OneRecapByPlays may might
one_recap_by_plays may might form columns inventory playbook text other forks more runs others logs seconds first second =
    let one = first.is in
    let two = second.is in
    let same_inventory : one.are.inputs.hosts.inventory ≡ two.are.inputs.hosts.inventory = one_inventory inventory _ _ one.are.inputs.hosts.reads two.are.inputs.hosts.reads in
    let same : one.fleet ≡ two.fleet =
    one_fleet one.are.inputs.hosts.inventory one.fleet two.fleet one.are.inputs.hosts.built (subst (λ (i : Inventory). IsFleetOf i two.fleet) (sym same_inventory) two.are.inputs.hosts.built) in
    let again = subst (λ (f : FleetView). (are : AreRunsIn might inventory playbook more f two.plays others seconds) × TellTheirs columns f more two.plays are.statuses are.vars others seconds) (sym same) (two.are, second.tell) in
    one.text_is ∙ same_inputs may might columns one.fleet forks more form inventory playbook one.plays two.plays runs others logs seconds one.are again.0 first.tell again.1
    ∙ ap (λ (f : FleetView). runs_text form f (are_several two.plays) others) same ∙ sym two.text_is

-- where all plays have the same columns, each log tells its own
module _ (columns : Columns) (fleet : FleetView) (forks : ℕ) where
  later_tell : (number : ℕ) (plays : List Play) (before : Run) (runs : List Run) (logs : List (List Event)) → AreRunsAfter (gives columns) fleet forks plays before runs logs → TellLater (λ _. columns) fleet forks number plays before runs logs
  later_tell number [] before runs logs are = tt
  later_tell number (play ∷ plays) before [] logs are = tt
  later_tell number (play ∷ plays) before (run ∷ rest) [] are = tt
  later_tell number (play ∷ plays) before (run ∷ rest) (log ∷ logs) are =
      let is : IsRun (gives columns) fleet (roll_after fleet forks play before) run log = subst (λ (l : Roll). IsRun (gives columns) fleet l run log) (begins_after fleet play forks before are.1.roll are.1.begins) are.1.run_is in
      (is.is_safe.told, later_tell (number + 1) plays run rest logs are.2)

  all_tell : (plays : List Play) (statuses : List Status) (vars : List Vars) (runs : List Run) (logs : List (List Event)) → AreRuns (gives columns) fleet forks plays statuses vars runs logs → TellTheirs (λ _. columns) fleet forks plays statuses vars runs logs
  all_tell plays statuses vars runs logs are =
      all_told (λ _. columns) fleet forks (are.first ∷ are.later) statuses vars (are.run ∷ are.rest) (are.log ∷ are.others) plays runs logs (sym are.plays_are) (sym are.runs_are) (sym are.logs_are)
      (are.is_first.is_safe.told, later_tell 1 are.later are.run are.rest are.others are.follow)

pub one_recap : OneRecap
one_recap form columns inventory playbook text other forks more runs others logs seconds first second =
    one_recap_by_plays (gives columns) (gives columns) form (λ _. columns) inventory playbook text other forks more runs others logs seconds
    (record { is = first; tell = all_tell columns first.fleet forks first.plays first.are.statuses first.are.vars runs logs first.are.runs_are })
    (record { is = second; tell = all_tell columns second.fleet more second.plays second.are.statuses second.are.vars others seconds second.are.runs_are })
