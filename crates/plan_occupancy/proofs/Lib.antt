pub mod WalkLemmas
pub mod LimitLemmas
pub mod SurveyLemmas
pub mod TextLemmas
pub mod OneTextLemmas
pub mod PlainNames
pub mod ColourLemmas
