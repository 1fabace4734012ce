mod HearingLemmas
mod OptionLemmas
