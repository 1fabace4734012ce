-- The body of an entry is a line.
use Rattle.std.proofs.Common.{◌≡◌, ℕ, ◌<◌, ◌≤◌, true, ◌&&◌, nat_le, List, ◌∷◌, ◌++◌, length, map, ap, ◌∙◌, refl, arith}
use Rattle.std.specs.Prelude.{codes, decimal}
use Rattle.std.specs.List.{list_all}
use Rattle.std.proofs.lemmas.Bool.{and_parts, leb-true, ltb-true}
use Rattle.domains.specs.FleetViews.{FleetView, IsSound}
use Rattle.domains.specs.Numbered.{host_at}
use Rattle.play_forecast.specs.declared.end.End.TheVariants as ending
use Rattle.recap.specs.PlanText.{names_line}
use Rattle.journal.specs.Names.{HasPlainNames}
use Rattle.journal.specs.Entries.{Entry, Head, again, begun, closed, ended, entry_body, held, is_digest, is_digit, opened, play, resumed, without_feed}
use Rattle.journal.specs.States.{is_head, most_number}
use Rattle.journal.specs.Fits.{AreHosts, Fits, IsOutcome}
use Rattle.journal.proofs.GuessLemmas.{all_words, blocked_body, closed_are, group_word, head_body, head_fields, host_word, names_are, outcome_is_word, outcome_word, too_many_body, too_many_fields}
use Rattle.journal.proofs.TextLemmas.{is_line, line_both, spaced_line, word_line}
use Rattle.journal.proofs.WordLemmas.{decimal_word, digest_word, spaced}

-- three fields
fields_line : (a x b y c z : List ℕ) → is_line a ≡ true → is_line x ≡ true → is_line b ≡ true → is_line y ≡ true → is_line c ≡ true → is_line z ≡ true
    → is_line ((a ++ x) ++ 32 ∷ ((b ++ y) ++ 32 ∷ (c ++ z))) ≡ true
fields_line a x b y c z first and second more third last =
    line_both (a ++ x) (32 ∷ ((b ++ y) ++ 32 ∷ (c ++ z))) (line_both a x first and) (line_both (b ++ y) (32 ∷ (c ++ z)) (line_both b y second more) (line_both c z third last))

number_line : (n : ℕ) → n ≤ 65535 → is_line (decimal n) ≡ true
number_line n small = word_line (decimal n) (decimal_word n (omega arith))

module _ (fleet : FleetView) (sound : IsSound fleet) (plain : HasPlainNames fleet) where
  hosts_line : (word : List ℕ) (hosts : List ℕ) → is_line word ≡ true → AreHosts fleet hosts → is_line (without_feed (names_line word fleet hosts)) ≡ true
  hosts_line word hosts is are =
      ap is_line (names_are fleet sound plain word hosts)
      ∙ line_both word (spaced (map (host_at fleet.hosts) hosts)) is
      (spaced_line (map (host_at fleet.hosts) hosts) (all_words (host_at fleet.hosts) (λ host. host < length fleet.hosts) (host_word fleet sound plain) hosts are))

  head_line_is : (head : Head) → is_head head ≡ true → is_line (codes "rollout journal 1 " ++ head_fields head) ≡ true
  unfolding head_fields
  head_line_is head is =
      let parts = and_parts (is_digest head.inventory && is_digest head.playbook) (nat_le head.plays most_number) is in
      let both = and_parts (is_digest head.inventory) (is_digest head.playbook) parts.0 in
      let one = digest_word head.inventory (and_parts _ (list_all is_digit head.inventory) both.0).1 in
      let two = digest_word head.playbook (and_parts _ (list_all is_digit head.playbook) both.1).1 in
      fields_line (codes "inventory=") head.inventory (codes "playbook=") head.playbook (codes "plays=") (decimal head.plays) refl (word_line head.inventory one) refl
      (word_line head.playbook two) refl (number_line head.plays (leb-true head.plays most_number parts.1))

  too_many_is : (step failed size : ℕ) → step ≤ 65535 → failed ≤ 65535 → size ≤ 65535 → is_line (codes "end too-many-failed " ++ too_many_fields step failed size) ≡ true
  unfolding too_many_fields
  too_many_is step failed size few_steps few_failed few =
      fields_line (codes "step=") (decimal step) (codes "failed=") (decimal failed) (codes "size=") (decimal size) refl (number_line step few_steps) refl (number_line failed few_failed) refl
      (number_line size few)

  pub body_line : (entry : Entry) → Fits fleet entry → is_line (entry_body fleet entry) ≡ true
  body_line (begun head) fits = ap is_line (head_body head) ∙ head_line_is head fits
  body_line (play hosts) fits = hosts_line (codes "play:") hosts refl fits
  body_line (held hosts) fits = hosts_line (codes "held:") hosts refl fits
  body_line (opened hosts) fits = hosts_line (codes "open:") hosts refl fits
  body_line (resumed hosts) fits = hosts_line (codes "resumed:") hosts refl fits
  body_line (again hosts) fits = hosts_line (codes "again:") hosts refl fits
  body_line (closed outcomes) fits =
      ap is_line (closed_are fleet sound plain outcomes)
      ∙ line_both (codes "closed:") (spaced (map (outcome_word fleet sound plain) outcomes)) refl
      (spaced_line (map (outcome_word fleet sound plain) outcomes)
      (all_words (outcome_word fleet sound plain) (IsOutcome fleet) (outcome_is_word fleet sound plain) outcomes fits))
  body_line (ended ending.Finished) fits = refl
  body_line (ended ending.Held) fits = refl
  body_line (ended (ending.Blocked group)) fits =
      ap is_line (blocked_body fleet sound plain group.index)
      ∙ line_both (codes "end blocked group=") (host_at fleet.groups group.index) refl
      (word_line (host_at fleet.groups group.index) (group_word fleet sound plain group.index (ltb-true group.index (length fleet.groups) fits)))
  body_line (ended (ending.TooManyFailed step failed size)) fits =
      let numbers = and_parts (nat_le step most_number && nat_le failed most_number) (nat_le size most_number) fits in
      let firsts = and_parts (nat_le step most_number) (nat_le failed most_number) numbers.0 in
      ap is_line (too_many_body step failed size)
      ∙ too_many_is step failed size (leb-true step most_number firsts.0) (leb-true failed most_number firsts.1) (leb-true size most_number numbers.1)
  body_line (ended ending.AllFailed) fits = refl
