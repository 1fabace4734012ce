mod FewLemmas
mod LogLemmas
mod PlaceLemmas
mod HeldLemmas
mod ReportLemmas
mod StepLemmas
mod KeptLemmas
mod WayLemmas
mod ClosingLemmas
mod LeavingLemmas
pub mod OutLaws
mod GrowLemmas
mod GivingLemmas
mod HearLemmas
