-- Parts by name: members and cases with their ids, literals with their values (DDS-XTypes 1.3, 7.2.4.4: the same name exactly where the same id or value).
use Rattle.std.specs.Prelude.{pos, List, Bool, ◌==◌}
use Rattle.std.specs.Bool.{beq}
use Rattle.std.specs.Ordering.{int_eq}
use Rattle.node_judge.specs.declared.marks.Mark.{Mark}
use Rattle.xt_shapes.specs.Lists.{all}
use Rattle.xt_shapes.specs.Shape.{Head, CaseHead, Literal}

abbrev pub fits : Mark → Mark → Bool
fits a b = beq (a.hash == b.hash) (int_eq a.number b.number)

abbrev pub same_marks : List Mark → List Mark → Bool
same_marks xs ys = all (λ a. all (λ b. fits a b) ys) xs

abbrev pub member_mark : Head → Mark
member_mark h = record { hash = h.hash; number = pos h.id }

abbrev pub case_mark : CaseHead → Mark
case_mark h = record { hash = h.hash; number = pos h.id }

abbrev pub literal_mark : Literal → Mark
literal_mark l = record { hash = l.hash; number = l.value }
