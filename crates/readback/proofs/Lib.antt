-- The laws of reading a record back: numbers, nodes and pairs in their places; what bytes spell, and what a record is read back as.
mod Every
mod Numbers
mod Nodes
mod PairPlaces
mod StoredEdges
mod SpelledDiagrams
mod SpelledLaws
pub mod ReadBackLaws
mod Tested
