use Rattle.std.proofs.Common.{◌≡◌, ℕ, ◌<◌, length, get_or}
use Rattle.fleet_index.specs.Ids.{host_numbers}
use Rattle.fleet_index.proofs.deal.list_deal_places.Given as goal

abbrev pub invariant-loop-place : goal.invariant-loop-place
invariant-loop-place l =
    record {
      len : length l.places.items ≡ length l.order;
      at : (place : ℕ) → place < l.place → get_or l.places.items (get_or (host_numbers l.order) place 0) 0 ≡ place;
    }
