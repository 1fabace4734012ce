-- The numbers of hosts and groups as they are lent.
pub use Rattle.fleet_index.specs.Ids.{host_numbers, group_numbers, host_lists, group_lists}
