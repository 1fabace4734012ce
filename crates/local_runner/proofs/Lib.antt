mod KeepLemmas
mod TextLemmas
