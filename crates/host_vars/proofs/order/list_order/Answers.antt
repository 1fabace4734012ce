use Rattle.std.proofs.Common.{◌≡◌, map, ap, ◌∙◌, length}
use Rattle.std.proofs.lemmas.List.{take_all}
use Rattle.domains.specs.Walked.{walked_groups}
use Rattle.host_vars.proofs.OrderLemmas.{number_of, each_once, in_order}
use Rattle.host_vars.proofs.order.list_order.Goals as goal

pub returns-clause-each_once : goal.returns-clause-each_once
returns-clause-each_once g c =
    let keys = c.deref-key-items.result.now in
    let sorted = c.sort_unstable.new.self.items in
    let all : c.loop-key.order.items ≡ map number_of sorted = c.loop-key.invariant ∙ ap (map number_of) (take_all c.loop-key.key-index keys c.loop-key-test.false ∙ c.deref-key-items.ensures.value) in
    each_once (walked_groups c.args.groups.now) (length c.args.groups.now) c.in_ok-keys.keys.items sorted c.loop-key.order.items
    c.in_ok-keys.ensures.numbers c.sort_unstable.ensures.permutation all

pub returns-clause-ordered : goal.returns-clause-ordered
returns-clause-ordered g c =
    let keys = c.deref-key-items.result.now in
    let sorted = c.sort_unstable.new.self.items in
    let all : c.loop-key.order.items ≡ map number_of sorted = c.loop-key.invariant ∙ ap (map number_of) (take_all c.loop-key.key-index keys c.loop-key-test.false ∙ c.deref-key-items.ensures.value) in
    in_order (walked_groups c.args.groups.now) (length c.args.groups.now) c.in_ok-keys.keys.items sorted c.loop-key.order.items
    c.in_ok-keys.ensures.numbers c.sort_unstable.ensures.permutation all c.in_ok-keys.ensures.depths c.in_ok-keys.ensures.names c.sort_unstable.ensures.sorted
