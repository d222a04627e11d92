-- `answer_to` meets its contract: a text is taken for one, and bytes for bytes.
use Rattle.std.specs.Prelude.{Ok, Err}
use Rattle.std.proofs.lemmas.Result.{err_from_is_err_and}
use Rattle.sheet.specs.Program as Program
use Rattle.sheet.proofs.answer.answer_to.Goals as goal

pub returns-in_err-check_bytes-in-Bytes : goal.returns-in_err-check_bytes-in-Bytes
returns-in_err-check_bytes-in-Bytes c =
    let p = err_from_is_err_and c.from_residual.result c.from_residual.ensures.1 in
    rw (p.1, p.2, c.in-Bytes.is) (Program.as_bytes {check = Err _} (rw c.in_err-check_bytes-in-Bytes.was at c.check_bytes.ensures))

pub returns-in_ok-check_bytes-in-Bytes : goal.returns-in_ok-check_bytes-in-Bytes
returns-in_ok-check_bytes-in-Bytes c = rw c.in-Bytes.is (Program.as_bytes {check = Ok tt} (rw c.in_ok-check_bytes-in-Bytes.was at c.check_bytes.ensures))

pub returns-in-Text : goal.returns-in-Text
returns-in-Text c = rw c.in-Text.is (Program.as_text c.check_text.ensures)
