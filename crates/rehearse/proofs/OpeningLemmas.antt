-- What is said of a session's beginning and end.
use Rattle.std.proofs.Common.{◌≡◌, ℕ, ◌+◌, ◌≤◌, ◌⊎◌, Bool, Option, Result, Ok, Err, List, [], ◌∷◌, get_or, length, MutBor, sym, ap, ◌∙◌, subst, inl, inr, arith}
use Rattle.std.specs.Prelude.{IfErr, IfOk, IfSome, MatchResult, OnOk}
use Rattle.std.specs.Io.KnownBytes.{Keeps}
use Rattle.bounded_io.specs.Reading.{max_input}
use Rattle.bounded_io.specs.Sending.{SendsFirst}
use Rattle.bounded_io.specs.Writing.{Begins, Finishes, Writes, fault_of}
use Rattle.bounded_io.specs.declared.text_writer.TextWriter.{TextWriter}
use Rattle.bounded_io.specs.declared.write_fault.WriteFault.{WriteFault}
use Rattle.domains.specs.FleetViews.{FleetView}
use Rattle.fleet_states.specs.Starts.{start_statuses}
use Rattle.fleet_states.specs.declared.status.Status.{Status}
use Rattle.play_forecast.specs.PlayPlans.{targets}
use Rattle.play_model.specs.declared.play.Play.{Play}
use Rattle.play_model.specs.declared.on_blocked.OnBlocked.{OnBlocked}
use Rattle.rehearse.specs.Stacks.{IsRehearsal, RehearsalView, Rules}
use Rattle.rehearse.specs.Histories.{HistoryView, unbegun}
use Rattle.rehearse.specs.declared.fault.RehearseFault.{RehearseFault}
use Rattle.rehearse.specs.declared.fault.RehearseFault.TheVariants.{Refused, Memory, File, TooLarge, LongLine, Write}
use Rattle.rehearse.specs.declared.opening.FirstPlay.{FirstPlay}
use Rattle.rehearse.specs.Inside.{IsFirstOfTexts, ListensToEnd, ListensUntil, RefusesOpening, Unheard}
use Rattle.rehearse.specs.Openings.{IsFirstPlay, IsOpeningFrom, IsOpeningIn}
use Rattle.rehearse.specs.Replies.{Telling}
use Rattle.rehearse.specs.Plays.{rules_of}
use Rattle.rehearse.specs.RehearseTexts.{BreaksSession, EndsFrom, EndsRehearsal, EndsSession, HoldsSession, IsFaultFrom, IsTrueFault, IsTrueOfSession, IsUnbegun, Rehearses, RehearsesFrom}

abbrev pub rules_by : FleetView → OnBlocked → List (Option ℕ) → Option ℕ → Rules
rules_by fleet mode caps share = record { fleet = fleet; mode = mode; caps = caps; percentage = share }

module _ (tell : Telling) (is_reliable : Bool) (inventory playbook : List ℕ) (old new out_old out_new : Option (List ℕ)) where
  pub refusal_is_true : (fault : RehearseFault) → Keeps old new → Keeps out_old out_new → RefusesOpening inventory playbook fault
      → IsTrueFault tell is_reliable inventory playbook old new out_old out_new fault
  refusal_is_true (Refused fault) unread silent refused = (refused, record { unread = unread; silent = silent })
  refusal_is_true Memory unread silent refused = inl (record { unread = unread; silent = silent })
  refusal_is_true File unread silent refused = absurd refused
  refusal_is_true TooLarge unread silent refused = absurd refused
  refusal_is_true LongLine unread silent refused = absurd refused
  refusal_is_true (Write fault) unread silent refused = absurd refused

-- the first of the plays that were read, and how a run of it begins
pub first_at : (inventory playbook : List ℕ) (read : FirstPlay) → IsFirstOfTexts inventory playbook read → (play : Play) → play ≡ get_or read.plays.items 0 play
    → IsFirstPlay inventory playbook read.fleet play × (read.statuses.items ≡ start_statuses read.fleet (targets read.fleet play))
first_at inventory playbook read is play at =
    let same : play ≡ is.play = at ∙ ap (λ (l : List Play). get_or l 0 play) is.plays_are in (
      record { built = is.built; plays = read.plays.items; says = is.says; later = is.later; plays_are = is.plays_are ∙ ap (λ (p : Play). p ∷ is.later) (sym same) },
      is.begins ∙ ap (λ (p : Play). start_statuses read.fleet (targets read.fleet p)) (sym same),
    )

-- what a fault says of a session on a play whose hosts have these statuses
module _ (tell : Telling) (is_reliable : Bool) (fleet : FleetView) (play : Play) (statuses : List Status) (old new out_old out_new : Option (List ℕ)) where
  pub session_is_true : (before : RehearsalView) (fault : RehearseFault) → IsOpeningFrom fleet play statuses before
      → IsTrueOfSession tell is_reliable (unbegun before) old new out_old out_new fault → IsFaultFrom tell is_reliable fleet play statuses old new out_old out_new fault
  session_is_true before (Refused fault) opening told = absurd told
  session_is_true before Memory opening told = inr (record { before = before; opening = opening; session = told })
  session_is_true before File opening told = record { before = before; opening = opening; session = told }
  session_is_true before TooLarge opening told = record { before = before; opening = opening; session = told }
  session_is_true before LongLine opening told = record { before = before; opening = opening; session = told }
  session_is_true before (Write fault) opening told = record { before = before; opening = opening; session = told }

  -- is true of one on the first play of two texts
  module _ (inventory playbook : List ℕ) (first : IsFirstPlay inventory playbook fleet play) (begins : statuses ≡ start_statuses fleet (targets fleet play)) where
    pub opens_first : (before : RehearsalView) → IsOpeningFrom fleet play statuses before → IsOpeningIn inventory playbook before
    opens_first before opening = record { fleet = fleet; play = play; first = first; opening = subst (λ (l : List Status). IsOpeningFrom fleet play l before) begins opening }

    ends_first : (fault : RehearseFault) → EndsFrom tell is_reliable fleet play statuses old new out_old out_new fault → EndsRehearsal tell is_reliable inventory playbook old new out_old out_new fault
    ends_first fault ends = record { before = ends.before; opening = opens_first ends.before ends.opening; session = ends.session }

    memory_first : IsUnbegun old new out_old out_new ⊎ EndsFrom tell is_reliable fleet play statuses old new out_old out_new Memory
        → IsTrueFault tell is_reliable inventory playbook old new out_old out_new Memory
    memory_first (inl unbegun) = inl unbegun
    memory_first (inr ends) = inr (ends_first Memory ends)

    fault_first : (fault : RehearseFault) → IsFaultFrom tell is_reliable fleet play statuses old new out_old out_new fault → IsTrueFault tell is_reliable inventory playbook old new out_old out_new fault
    fault_first (Refused fault) told = absurd told
    fault_first Memory told = memory_first told
    fault_first File told = ends_first File told
    fault_first TooLarge told = ends_first TooLarge told
    fault_first LongLine told = ends_first LongLine told
    fault_first (Write fault) told = ends_first (Write fault) told

    -- whatever came of it
    pub told_first : (told : Result Bool RehearseFault) → IfErr told (IsFaultFrom tell is_reliable fleet play statuses old new out_old out_new)
        → IfErr told (IsTrueFault tell is_reliable inventory playbook old new out_old out_new)
    told_first (Ok refused) is = is
    told_first (Err fault) is = fault_first fault is

    pub rehearses_first : (told : Result Bool RehearseFault) → IfOk told (RehearsesFrom tell fleet play statuses old new out_old out_new)
        → IfOk told (Rehearses tell inventory playbook old new out_old out_new)
    rehearses_first (Ok refused) is = record { before = is.before; after = is.after; opening = opens_first is.before is.opening; session = is.session; refused_is = is.refused_is }
    rehearses_first (Err fault) is = is

-- rules of equal parts
pub same_rules : (fleet : FleetView) (mode other : OnBlocked) (caps others : List (Option ℕ)) (share part : Option ℕ) → mode ≡ other → caps ≡ others → share ≡ part
    → rules_by fleet mode caps share ≡ rules_by fleet other others part
same_rules fleet mode other caps others share part e f h =
    ap (λ m. rules_by fleet m caps share) e ∙ ap (λ l. rules_by fleet other l share) f ∙ ap (rules_by fleet other others) h

-- whatever came of the session, the text writer kept its reference
pub same_reference : (tell : Telling) {W : Type 0} (contents : W → Option (List ℕ)) (is_reliable : Bool) (before after : HistoryView) (old new : Option (List ℕ)) (t0 t1 : TextWriter W) (told : Result (Unit {0}) RehearseFault)
    → OnOk told (ListensToEnd contents tell before after old new t0 t1) → IfErr told (Unheard contents tell is_reliable before old new t0 t1) → t1.out.ghost_name ≡ t0.out.ghost_name
same_reference tell contents is_reliable before after old new t0 t1 (Ok done) all none = all.written.same_reference
same_reference tell contents is_reliable before after old new t0 t1 (Err Memory) none all = all.written.same_reference
same_reference tell contents is_reliable before after old new t0 t1 (Err File) none all = all.written.same_reference
same_reference tell contents is_reliable before after old new t0 t1 (Err TooLarge) none all = all.written.same_reference
same_reference tell contents is_reliable before after old new t0 t1 (Err LongLine) none all = all.written.same_reference
same_reference tell contents is_reliable before after old new t0 t1 (Err (Write fault)) none all = all.0.written.same_reference
same_reference tell contents is_reliable before after old new t0 t1 (Err (Refused fault)) none all = absurd all

-- the answers broke off, in the session or when it was over
pub broken_session : (tell : Telling) {W : Type 0} (contents : W → Option (List ℕ)) (is_reliable : Bool) (before after : HistoryView) (old new out_old out_new : Option (List ℕ)) (t0 t1 : TextWriter W) (count : ℕ)
    (told : Result (Unit {0}) RehearseFault) → OnOk told (ListensToEnd contents tell before after old new t0 t1) → IfErr told (Unheard contents tell is_reliable before old new t0 t1)
    → ((text : List ℕ) → Writes contents t0 t1 text → SendsFirst out_old out_new text count) → BreaksSession tell before old new out_old out_new count
broken_session tell contents is_reliable before after old new out_old out_new t0 t1 count told ok err sends = by_result told ok err
  where
    until : (fault : RehearseFault) (all : ListensUntil contents tell is_reliable before old new t0 t1 fault) → length all.ended.bytes ≤ max_input + 1
        → BreaksSession tell before old new out_old out_new count
    until fault all within = record {
      text = all.text;
      heard = inl (record { bytes = all.ended.bytes; rest = all.ended.rest; after = all.ended.after; consumed = all.ended.consumed; within = within; heard = all.ended.heard });
      written = sends all.text all.written;
    }

    by_result : (r : Result (Unit {0}) RehearseFault) → OnOk r (ListensToEnd contents tell before after old new t0 t1) → IfErr r (Unheard contents tell is_reliable before old new t0 t1)
        → BreaksSession tell before old new out_old out_new count
    by_result (Ok done) all none = record { text = all.text; heard = inr (after, all.over); written = sends all.text all.written }
    by_result (Err Memory) none all = until Memory all all.ended.ends
    by_result (Err File) none all = until File all (omega (arith, all.ended.ends.2))
    by_result (Err TooLarge) none all = until TooLarge all (omega (arith, all.ended.ends.1))
    by_result (Err LongLine) none all = until LongLine all all.ended.ends.2
    by_result (Err (Write fault)) none all = record { text = all.0.text; heard = inl all.0.heard; written = sends all.0.text all.0.written }
    by_result (Err (Refused fault)) none all = absurd all

-- the rehearsal with which a session begins
pub opens : (fleet : FleetView) (play : Play) (statuses : List Status) (before : RehearsalView) → before.rules ≡ rules_of fleet play → before.opening ≡ statuses → before.above ≡ []
    → IsRehearsal before → IsOpeningFrom fleet play statuses before
opens fleet play statuses before rules begins alone is = record { of = record { is_rehearsal = is; rules = rules; opening = begins }; nothing_above = alone }

-- what is told of a session is true
abbrev pub IsTold : Telling → Bool → HistoryView → HistoryView → Option (List ℕ) → Option (List ℕ) → Option (List ℕ) → Option (List ℕ) → Result (Unit {0}) RehearseFault → Type 0
IsTold tell is_reliable before after old new out_old out_new ended =
    OnOk ended (HoldsSession tell before after old new out_old out_new) × IfErr ended (IsTrueOfSession tell is_reliable before old new out_old out_new)

-- a session ended, and its text did
pub session_ends : (tell : Telling) {W : Type 0} (contents : W → Option (List ℕ)) (is_reliable : Bool) (before after : HistoryView) (old new : Option (List ℕ)) (out : MutBor W) (out_new : Option (List ℕ)) (t0 t1 : TextWriter W)
    (told ended : Result (Unit {0}) RehearseFault) (sent : Result (Unit {0}) WriteFault) → Begins out t0 → OnOk told (ListensToEnd contents tell before after old new t0 t1)
    → IfErr told (Unheard contents tell is_reliable before old new t0 t1) → Finishes contents t1 out_new sent → IfSome (fault_of t1) (λ fault. sent ≡ Err fault)
    → MatchResult sent (λ _. ended ≡ told) (λ fault. ended ≡ Err (Write fault))
    → IsTold tell is_reliable before after old new (contents out.now) out_new ended
session_ends tell contents is_reliable before after old new out out_new t0 t1 told ended (Err fault) begins ok err finishes broke is =
    subst (IsTold tell is_reliable before after old new (contents out.now) out_new) (sym is)
    (tt, broken_session tell contents is_reliable before after old new (contents out.now) out_new t0 t1 fault.written told ok err (λ text written. finishes out t0 text begins written))
session_ends tell contents is_reliable before after old new out out_new t0 t1 told ended (Ok done) begins ok err finishes broke is =
    subst (IsTold tell is_reliable before after old new (contents out.now) out_new) (sym is) (by_told told ok err)
  where
    until : (fault : RehearseFault) → ListensUntil contents tell is_reliable before old new t0 t1 fault → EndsSession tell is_reliable before old new (contents out.now) out_new fault
    until fault all = record { text = all.text; ended = all.ended; written = finishes out t0 all.text begins all.written }

    by_told : (r : Result (Unit {0}) RehearseFault) → OnOk r (ListensToEnd contents tell before after old new t0 t1) → IfErr r (Unheard contents tell is_reliable before old new t0 t1) → IsTold tell is_reliable before after old new (contents out.now) out_new r
    by_told (Ok whole) all none = (record { text = all.text; over = all.over; written = finishes out t0 all.text begins all.written }, tt)
    by_told (Err Memory) none all = (tt, until Memory all)
    by_told (Err File) none all = (tt, until File all)
    by_told (Err TooLarge) none all = (tt, until TooLarge all)
    by_told (Err LongLine) none all = (tt, until LongLine all)
    by_told (Err (Write fault)) none all =
        let never : Ok done ≡ Err fault = subst (λ (o : Option WriteFault). IfSome o (λ f. Ok done ≡ Err f)) all.1 broke in
        absurd (cc)
    by_told (Err (Refused fault)) none all = absurd all
