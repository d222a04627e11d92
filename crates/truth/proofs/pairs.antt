-- Laws of the path call over a list of pairs: the pairs written, the answer.
pub mod FilledPairs
pub mod PairAnswers
