use Rattle.std.proofs.Common.{◌<◌, length, arith}
use Rattle.std.proofs.lemmas.Bool.{false≢true}
use Rattle.type_values.proofs.OfSame.SideBySide.{members_apart_at, members_apart_long, cases_apart_at, cases_apart_long}
use Rattle.type_values.proofs.OfSame.OfKind.{apart_prim, apart_str, apart_enum, apart_mask, apart_seq, apart_array, apart_map, apart_struct, apart_union, apart_alias}
use Rattle.type_values.proofs.same.types.+same_type.Goals as goal

pub are_same_members-returns-then-left-right : goal.are_same_members-returns-then-left-right
are_same_members-returns-then-left-right t c = members_apart_long _ _ c.if-left-right.true

pub are_same_members-returns-then-not-is_same_member : goal.are_same_members-returns-then-not-is_same_member
are_same_members-returns-then-not-is_same_member t c =
    let within : c.loop-at.at < length c.args.right.now = omega (arith, c.loop-at-test.true, c.loop-at.invariant.1) in
    members_apart_at _ _ _ _ _ c.loop-at-test.true within c.index-left-at.is c.index-right-at.is c.if-not-is_same_member.ensures

pub are_same_cases-returns-then-left-right : goal.are_same_cases-returns-then-left-right
are_same_cases-returns-then-left-right t c = cases_apart_long _ _ c.if-left-right.true

pub are_same_cases-returns-then-not-is_same_case : goal.are_same_cases-returns-then-not-is_same_case
are_same_cases-returns-then-not-is_same_case t c =
    let within : c.loop-at.at < length c.args.right.now = omega (arith, c.loop-at-test.true, c.loop-at.invariant.1) in
    cases_apart_at _ _ _ _ _ c.loop-at-test.true within c.index-left-at.is c.index-right-at.is c.if-not-is_same_case.ensures

pub same_type-returns-in_default : goal.same_type-returns-in_default
same_type-returns-in_default t c = record { same = λ e. absurd (false≢true e); other = λ _. apart_prim _ _ _ c.in_default.is-0 c.in_default.not-Prim-1 }

pub same_type-returns-in_default-2 : goal.same_type-returns-in_default-2
same_type-returns-in_default-2 t c = record { same = λ e. absurd (false≢true e); other = λ _. apart_str _ _ _ c.in_default.is-0 c.in_default.not-Str-1 }

pub same_type-returns-in_default-3 : goal.same_type-returns-in_default-3
same_type-returns-in_default-3 t c = record { same = λ e. absurd (false≢true e); other = λ _. apart_enum _ _ _ c.in_default.is-0 c.in_default.not-Enum-1 }

pub same_type-returns-in_default-4 : goal.same_type-returns-in_default-4
same_type-returns-in_default-4 t c = record { same = λ e. absurd (false≢true e); other = λ _. apart_mask _ _ _ c.in_default.is-0 c.in_default.not-Mask-1 }

pub same_type-returns-in_default-5 : goal.same_type-returns-in_default-5
same_type-returns-in_default-5 t c = record { same = λ e. absurd (false≢true e); other = λ _. apart_seq _ _ _ c.in_default.is-0 c.in_default.not-Seq-1 }

pub same_type-returns-in_default-6 : goal.same_type-returns-in_default-6
same_type-returns-in_default-6 t c = record { same = λ e. absurd (false≢true e); other = λ _. apart_array _ _ _ c.in_default.is-0 c.in_default.not-Array-1 }

pub same_type-returns-in_default-7 : goal.same_type-returns-in_default-7
same_type-returns-in_default-7 t c = record { same = λ e. absurd (false≢true e); other = λ _. apart_map _ _ _ c.in_default.is-0 c.in_default.not-Map-1 }

pub same_type-returns-in_default-8 : goal.same_type-returns-in_default-8
same_type-returns-in_default-8 t c = record { same = λ e. absurd (false≢true e); other = λ _. apart_struct _ _ _ c.in_default.is-0 c.in_default.not-Struct-1 }

pub same_type-returns-in_default-9 : goal.same_type-returns-in_default-9
same_type-returns-in_default-9 t c = record { same = λ e. absurd (false≢true e); other = λ _. apart_union _ _ _ c.in_default.is-0 c.in_default.not-Union-1 }

pub same_type-returns-in_default-10 : goal.same_type-returns-in_default-10
same_type-returns-in_default-10 t c = record { same = λ e. absurd (false≢true e); other = λ _. apart_alias _ _ _ c.in_default.is-0 c.in_default.not-Alias-1 }
