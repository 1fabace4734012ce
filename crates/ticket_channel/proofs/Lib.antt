mod HandLemmas
mod StepLemmas
mod RuleLaws
