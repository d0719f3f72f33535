use Rattle.std.proofs.Common.{◌++◌, ◌∙◌, ap, codes}
use Rattle.idl_printer.specs.Words.{ext_text, text_if}
use Rattle.idl_printer.specs.Lines.{aggregate_notes}
use Rattle.idl_printer.proofs.Joins.{three, on_ok}
use Rattle.idl_printer.proofs.lines.aggregate_notes.Goals as goal

pub returns : goal.returns
unfolding aggregate_notes
returns c =
    let o = c.args.out.now in
    on_ok c.append_if-2.result
    (three o (ext_text c.args.ext) (text_if c.args.nested (codes "@nested ")) (text_if c.args.hashed (codes "@autoid(HASH) ")) _ _ _
    (c.in_ok-append.ensures.ok ∙ ap (λ z. o ++ z) c.ext_word.ensures) c.in_ok-append_if.ensures)
    c.append_if-2.ensures
