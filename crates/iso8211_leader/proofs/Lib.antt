mod DigitsLemmas
mod Tag
