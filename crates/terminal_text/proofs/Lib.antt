mod TextLemmas
mod ReadingLemmas
