-- The text of `rollout check`.
use Rattle.std.specs.Prelude.{ℕ, List, ◌++◌, codes}
use Rattle.domains.specs.FleetViews.{FleetView}
use Rattle.domains.specs.Numbered.{host_at}
use Rattle.recap.specs.LimitsText.{field_text}
use Rattle.recap.specs.PlanText.{blocked_line}
use Rattle.plan_check.specs.declared.wrong.Wrong.{Wrong}
use Rattle.plan_check.specs.declared.wrong.Wrong.TheVariants.{Empty, NotWaiting, Twice, Size, Over, Missing}
use Rattle.plan_check.specs.Verdicts.{Verdict, blocked, nobody, wrong, valid}

-- a word that ends in `batch=`, a batch's number and the name of a host
abbrev pub host_line : List ℕ → ℕ → List ℕ → List ℕ
host_line word batch name = field_text word batch ++ (codes " host=" ++ (name ++ codes "\n"))

-- `size batch=I hosts=N size=S`
abbrev pub size_line : ℕ → ℕ → ℕ → List ℕ
size_line batch hosts size =
    field_text (codes "size batch=") batch ++ (field_text (codes " hosts=") hosts ++ (field_text (codes " size=") size ++ codes "\n"))

-- `over batch=I group=G hosts=N room=R`
abbrev pub over_line : ℕ → List ℕ → ℕ → ℕ → List ℕ
over_line batch group hosts room =
    field_text (codes "over batch=") batch
    ++ (codes " group=" ++ (group ++ (field_text (codes " hosts=") hosts ++ (field_text (codes " room=") room ++ codes "\n"))))

abbrev pub empty_line : ℕ → List ℕ
empty_line batch = field_text (codes "empty batch=") batch ++ codes "\n"

abbrev pub missing_line : List ℕ → List ℕ
missing_line name = codes "missing host=" ++ (name ++ codes "\n")

abbrev pub wrong_line : FleetView → Wrong → List ℕ
wrong_line fleet (Empty batch) = empty_line batch
wrong_line fleet (NotWaiting batch host) = host_line (codes "not-waiting batch=") batch (host_at fleet.hosts host.index)
wrong_line fleet (Twice batch host) = host_line (codes "twice batch=") batch (host_at fleet.hosts host.index)
wrong_line fleet (Size batch hosts size) = size_line batch hosts size
wrong_line fleet (Over batch group hosts room) = over_line batch (host_at fleet.groups group.index) hosts room
wrong_line fleet (Missing host) = missing_line (host_at fleet.hosts host.index)

-- `valid batches=K least=M`
abbrev pub valid_line : ℕ → ℕ → List ℕ
valid_line count least = field_text (codes "valid batches=") count ++ (field_text (codes " least=") least ++ codes "\n")

abbrev pub verdict_text : FleetView → Verdict → List ℕ
verdict_text fleet (blocked group waiting) = blocked_line fleet group waiting
verdict_text fleet (nobody found) = host_line (codes "unknown batch=") found.batch found.name
verdict_text fleet (wrong found) = wrong_line fleet found
verdict_text fleet (valid count least) = valid_line count least
