pub mod RepeatLemmas
pub mod HostKeyLemmas
pub mod HoleLemmas
pub mod GroupLemmas
pub mod NotedLemmas
