use Rattle.std.proofs.Common.{codes}
use Rattle.std.specs.Option.{option_map}
use Rattle.idl_printer.specs.Lines.{base_text, struct_head}
use Rattle.idl_printer.proofs.Joins.{five, on_ok}
use Rattle.idl_printer.proofs.lines.struct_head.Goals as goal

pub returns : goal.returns
unfolding struct_head
returns c =
    on_ok c.append-4.result
    (five c.args.out.now (codes "struct ") c.args.name.now (codes " ") (base_text (option_map (λ b. b.now) c.args.base)) (codes "{ ") _ _ _ _ _
    c.in_ok-append.ensures.ok c.in_ok-append-2.ensures.ok c.in_ok-append-3.ensures.ok c.in_ok-base_clause.ensures)
    c.append-4.ensures.ok
