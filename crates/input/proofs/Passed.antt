-- What a program that does not rest on the sheet reader cites of its theory, passed on.
pub use Rattle.sheets.proofs.Questions.{first-has}
