use Rattle.std.proofs.Common.{codes}
use Rattle.idl_printer.specs.Words.{id_text, text_if}
use Rattle.idl_printer.specs.Parts.{member_notes}
use Rattle.idl_printer.proofs.Joins.{four, on_ok}
use Rattle.idl_printer.proofs.parts.member_notes.Goals as goal

pub returns : goal.returns
unfolding member_notes
returns c =
    on_ok c.append_if-3.result
    (four c.args.out.now (id_text c.args.id) (text_if c.args.key (codes "@key ")) (text_if c.args.optional (codes "@optional ")) (text_if c.args.must_understand (codes "@must_understand ")) _ _ _ _
    c.in_ok-id_note.ensures c.in_ok-append_if.ensures c.in_ok-append_if-2.ensures)
    c.append_if-3.ensures
