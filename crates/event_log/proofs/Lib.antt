pub mod OutLemmas
pub mod HoldLemmas
pub mod WorkLemmas
pub mod SafeFronts
pub mod RestFronts
pub mod ClaimFronts
pub mod FewRows
pub mod ChangeLaws
pub mod OpeningFronts
pub mod ColumnLemmas
pub mod ColumnSteps
pub mod ColumnFronts
pub mod OnceFronts
pub mod GrowthLaws
pub mod ToldColumns
pub mod OwingFronts
pub mod ProgressLaws
pub mod ListLemmas
pub mod StateLemmas
mod LineLemmas
mod ClaimLemmas
mod EnterLemmas
pub mod PassLemmas
mod LineUpLemmas
mod DueLemmas
mod BatchLemmas
mod StartLemmas
