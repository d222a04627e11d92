-- Laws of labelling: its questions, the truths of all lines, start nodes, the percent, counts, the answer, sheets whose truths are known.
pub mod LabelTable
pub mod LineTruths
pub mod StartRows
pub mod Percents
pub mod LabelCounts
pub mod LabelAnswers
pub mod LabelledSheets
