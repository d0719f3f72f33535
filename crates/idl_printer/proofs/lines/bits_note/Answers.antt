use Rattle.std.proofs.Common.{codes, decimal}
use Rattle.idl_printer.specs.Lines.{bits_text}
use Rattle.idl_printer.proofs.Joins.{three, on_ok}
use Rattle.idl_printer.proofs.lines.bits_note.Goals as goal

pub returns : goal.returns
unfolding bits_text
returns c =
    on_ok c.append-2.result
    (three c.args.out.now (codes "@bit_bound(") (decimal c.args.bits) (codes ") ") _ _ _ c.in_ok-append.ensures.ok c.in_ok-number.ensures)
    c.append-2.ensures.ok
