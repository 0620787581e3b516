pub mod CommandLemmas
pub mod Reading
pub mod PlainWordsLemmas
