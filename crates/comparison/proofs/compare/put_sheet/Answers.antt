-- `put_sheet` meets its contract: the head and the lines make the sheet.
use Rattle.comparison.proofs.PastedSheet.{held, sheet-pasted}
use Rattle.comparison.proofs.compare.put_sheet.Goals as goal

pub returns : goal.returns
returns c a ls lists =
    let got = c.shorten.ensures.shortened a ls lists in
    record {
      short = got.short;
      shortened = got.shortened;
      stands = sheet-pasted c.args.space.now _ _ _ _ c.put_head.ensures c.put_lines.ensures got.short got.count (held got.holds got.count);
    }
