-- Plays that one text says are alike: on each host their steps ask, judge and register the same.
use Rattle.std.proofs.Common.{◌≡◌, ℕ, Bool, Option, None, Some, List, [], ◌∷◌, refl, sym, ap, ap₂, ◌∙◌, subst}
use Rattle.std.specs.List.{AllZip}
use Rattle.std.specs.Prelude.{string_bytes}
use Rattle.cond.specs.Conditions.{IsMeant}
use Rattle.cond.specs.Grammar.{tokens_of}
use Rattle.cond.specs.Meaning.{Environment, Verdict, meaning}
use Rattle.cond.specs.Tokens.{FallsInto, Front, Not, Token, next_token}
use Rattle.cond.specs.Trees.{all_of}
use Rattle.cond.specs.declared.condition.Cond.{Cond}
use Rattle.cond.proofs.Unambiguous.{one_reading}
use Rattle.host_track.specs.Judging.{decided, register_of}
use Rattle.play_read.specs.Says.{MeanEach, Meaning, Means, Says, said_on}
use Rattle.play_model.specs.declared.play.Play.{Play}
use Rattle.play_model.specs.declared.step.Step.{Step}
use Rattle.play_read.specs.Reads.{IsPlay}
use Rattle.playbook_schema.specs.Conditions as rules
use Rattle.playbook_schema.specs.Plays.{WrittenPlay}
use Rattle.playbook_schema.specs.Steps.{WrittenStep}
use Rattle.play_read.specs.Readings.{IsStep}

token_in : Front → Token
token_in None = Not
token_in (Some front) = front.0

behind_in : Front → List ℕ
behind_in None = []
behind_in (Some front) = front.1

-- a text falls into its tokens in one way
falls_once : (text : List ℕ) (a b : List Token) → FallsInto text a [] → FallsInto text b [] → a ≡ b
unfolding token_in behind_in
falls_once text [] [] f g = refl
falls_once text [] (u ∷ b) f g =
    let none : next_token text ≡ None = f.0 in
    let some : next_token text ≡ Some (u, g.0) = g.1 in
    absurd (cc)
falls_once text (t ∷ a) [] f g =
    let none : next_token text ≡ None = g.0 in
    let some : next_token text ≡ Some (t, f.0) = f.1 in
    absurd (cc)
falls_once text (t ∷ a) (u ∷ b) f g =
    let one : t ≡ u = sym (ap token_in f.1) ∙ ap token_in g.1 in
    let rest : f.0 ≡ g.0 = sym (ap behind_in f.1) ∙ ap behind_in g.1 in
    let later = falls_once g.0 a b (subst (λ (r : List ℕ). FallsInto r a []) rest f.2) g.2 in
    cc

-- so it has one meaning
one_meaning : (text : List ℕ) (means other : Meaning) → IsMeant text means → IsMeant text other → (e : Environment) → means e ≡ other e
one_meaning text means other one two e =
    let tokens = falls_once text (tokens_of one.condition) (tokens_of two.condition) one.written two.written in
    let same : one.condition ≡ two.condition = one_reading one.condition two.condition tokens in
    one.same e ∙ ap (meaning e) same ∙ sym (two.same e)

same_part : (clause : rules.Clause) (means other : Meaning) → Means clause means → Means clause other → (e : Environment) → means e ≡ other e
same_part (rules.Truth truth) means other one two e = one e ∙ sym (two e)
same_part (rules.Text text) means other one two e = one_meaning text means other one two e

same_parts : (clauses : List rules.Clause) (parts others : List Meaning) → MeanEach clauses parts → MeanEach clauses others → (e : Environment) → said_on e parts ≡ said_on e others
same_parts [] [] [] one two e = refl
same_parts [] [] (o ∷ os) one two e = absurd two
same_parts [] (p ∷ ps) others one two e = absurd one
same_parts (c ∷ cs) [] others one two e = absurd one
same_parts (c ∷ cs) (p ∷ ps) [] one two e = absurd two
same_parts (c ∷ cs) (p ∷ ps) (o ∷ os) one two e =
    ap₂ (λ (v : Verdict) (vs : List Verdict). v ∷ vs) (same_part c p o one.0 two.0 e) (same_parts cs ps os one.1 two.1 e)

-- two conditions that say the same decide the same
same_decided : (clauses : List rules.Clause) (condition other : Option Cond) → Says clauses condition → Says clauses other → (e : Environment) (stays : Bool)
    → decided e condition stays ≡ decided e other stays
same_decided clauses None None one two e stays = refl
same_decided clauses None (Some o) one two e stays = absurd (two.0 one)
same_decided clauses (Some c) None one two e stays = absurd (one.0 two)
same_decided clauses (Some c) (Some o) one two e stays =
    one.1.same e ∙ ap all_of (same_parts clauses one.1.parts two.1.parts one.1.each two.1.each e) ∙ sym (two.1.same e)

-- the two ask the same of each host, judge alike and register under one name
pub record AreAlikeSteps (step other : Step) : Type 0 where
  pub words : step.words ≡ other.words
  pub register : register_of step ≡ register_of other
  pub when : (e : Environment) (stays : Bool) → decided e step.when stays ≡ decided e other.when stays
  pub changed_when : (e : Environment) (stays : Bool) → decided e step.changed_when stays ≡ decided e other.changed_when stays
  pub failed_when : (e : Environment) (stays : Bool) → decided e step.failed_when stays ≡ decided e other.failed_when stays
  pub ignore_errors : step.ignore_errors ≡ other.ignore_errors
  pub notify : step.notify.items ≡ other.notify.items

alike_steps : (written : WrittenStep) (step other : Step) → IsStep written step → IsStep written other → AreAlikeSteps step other
alike_steps written step other one two = record {
  words = one.words ∙ sym two.words;
  register = one.register ∙ sym two.register;
  when = same_decided written.when step.when other.when one.when two.when;
  changed_when = same_decided written.changed_when step.changed_when other.changed_when one.changed_when two.changed_when;
  failed_when = same_decided written.failed_when step.failed_when other.failed_when one.failed_when two.failed_when;
  ignore_errors = one.ignore_errors ∙ sym two.ignore_errors;
  notify = one.notify ∙ sym two.notify;
}

all_alike : (written : List WrittenStep) (steps others : List Step) → AllZip IsStep written steps → AllZip IsStep written others → AllZip AreAlikeSteps steps others
all_alike [] [] [] one two = tt
all_alike [] [] (o ∷ os) one two = absurd two
all_alike [] (s ∷ ss) others one two = absurd one
all_alike (w ∷ ws) [] others one two = absurd one
all_alike (w ∷ ws) (s ∷ ss) [] one two = absurd two
all_alike (w ∷ ws) (s ∷ ss) (o ∷ os) one two = (alike_steps w s o one.0 two.0, all_alike ws ss os one.1 two.1)

-- two plays for the same hosts, with the same sizes and bounds, whose steps are alike
pub record AreAlikePlays (play other : Play) : Type 0 where
  pub pattern : string_bytes play.pattern ≡ string_bytes other.pattern
  pub sizes : play.sizes.items ≡ other.sizes.items
  pub max_fail : play.max_fail ≡ other.max_fail
  pub on_blocked : play.on_blocked ≡ other.on_blocked
  pub tasks : play.tasks ≡ other.tasks
  pub steps : AllZip AreAlikeSteps play.steps.items other.steps.items

alike_plays : (written : WrittenPlay) (play other : Play) → IsPlay written play → IsPlay written other → AreAlikePlays play other
alike_plays written play other one two = record {
  pattern = one.pattern ∙ sym two.pattern;
  sizes = one.sizes ∙ sym two.sizes;
  max_fail = one.max_fail ∙ sym two.max_fail;
  on_blocked = one.on_blocked ∙ sym two.on_blocked;
  tasks = one.tasks ∙ sym two.tasks;
  steps = all_alike _ play.steps.items other.steps.items one.steps two.steps;
}

pub all_alike_plays : (written : List WrittenPlay) (plays others : List Play) → AllZip IsPlay written plays → AllZip IsPlay written others → AllZip AreAlikePlays plays others
all_alike_plays [] [] [] one two = tt
all_alike_plays [] [] (o ∷ os) one two = absurd two
all_alike_plays [] (p ∷ ps) others one two = absurd one
all_alike_plays (w ∷ ws) [] others one two = absurd one
all_alike_plays (w ∷ ws) (p ∷ ps) [] one two = absurd two
all_alike_plays (w ∷ ws) (p ∷ ps) (o ∷ os) one two = (alike_plays w p o one.0 two.0, all_alike_plays ws ps os one.1 two.1)
