use Rattle.std.proofs.Common.{◌≡◌, ◌∙◌, ap, map, sym, subst, true, ◌<◌, List, length, arith, rules}
use Rattle.xcdr_model.specs.Equivalence.{same_head, same_case_head}
use Rattle.pair_memo.specs.nodes.Seen as seen
use Rattle.pair_memo.specs.nodes.Seen.{shape_in, is_seen, parts_pass, arms_pass}
use Rattle.object_formats.specs.View as view
use Rattle.pair_memo.specs.nodes.Views.{part_view, arm_view}
use Rattle.pair_judge.specs.Beside.{pairs, is_even}
use Rattle.pair_judge.proofs.Beside.{even_is, unlike_at, alike_at, passes_at, both_lists_pass}
use Rattle.pair_judge.proofs.Same.{structures_same, unions_same, at_nodes}
use Rattle.pair_judge.proofs.question.Question.+equal.Goals as goal

pub same_branches-returns-in_default-types_at-clause-same : goal.same_branches-returns-in_default-types_at-clause-same
same_branches-returns-in_default-types_at-clause-same g t c =
    let even = even_is (is_even c.args.branches.now) c.in-Some.count (length (pairs c.args.branches.now)) c.in-Some.ensures in
    let within : c.loop-at.at < length (pairs c.args.branches.now) = omega (arith, c.loop-at-test.true, even.1) in
    let unlike = unlike_at (λ t. shape_in c.args.self.now.pool.now t) (pairs c.args.branches.now) c.loop-at.at within c.in_default-types_at.ensures in
    sym (rw (even.0) (sym c.loop-at.invariant.same ∙ unlike))

pub same_branches-same-requires : goal.same_branches-same-requires
same_branches-same-requires g t c =
    let seen = passes_at (λ t. is_seen c.args.self.now.pool.now t) (pairs c.args.branches.now) c.loop-at.at _ _ c.requires.seen c.in-Some-types_at.ensures in
    search rules

pub same_branches-returns-then-not-branch-clause-same : goal.same_branches-returns-then-not-branch-clause-same
same_branches-returns-then-not-branch-clause-same g t c =
    let even = even_is (is_even c.args.branches.now) c.in-Some.count (length (pairs c.args.branches.now)) c.in-Some.ensures in
    let step = alike_at (λ t. shape_in c.args.self.now.pool.now t) (pairs c.args.branches.now) c.loop-at.at _ _ c.in-Some-types_at.ensures in
    search rules

pub same_branches-loop-at-preserved : goal.same_branches-loop-at-preserved
same_branches-loop-at-preserved g t c =
    let step = alike_at (λ t. shape_in c.args.self.now.pool.now t) (pairs c.args.branches.now) c.loop-at.at _ _ c.in-Some-types_at.ensures in
    record {
      same = search rules;
      so = c.in_ok-same.ensures.so;
      count = omega (arith, c.in_ok-same.ensures.count, c.loop-at.invariant.count);
    }

pub same_structures-same_branches-requires : goal.same_structures-same_branches-requires
same_structures-same_branches-requires g t c =
    let test : seen.Test = λ t. is_seen c.args.self.now.pool.now t in
    let one = ap (map part_view) c.as_slice-left.ensures ∙ c.in_ok-one.ensures in
    let two = ap (map part_view) c.as_slice-right.ensures ∙ c.in_ok-two.ensures in
    let left = subst (λ (ps : List seen.Part). parts_pass test ps ≡ true) (sym one) c.requires.left in
    let right = subst (λ (ps : List seen.Part). parts_pass test ps ≡ true) (sym two) c.requires.right in
    let seen = both_lists_pass same_head part_view test c.as_slice-left.result.now c.as_slice-right.result.now left right in
    search rules

pub same_unions-same_branches-requires : goal.same_unions-same_branches-requires
same_unions-same_branches-requires g t c =
    let test : seen.Test = λ t. is_seen c.args.self.now.pool.now t in
    let one = ap (map arm_view) c.as_slice-left.ensures ∙ c.in_ok-one.ensures in
    let two = ap (map arm_view) c.as_slice-right.ensures ∙ c.in_ok-two.ensures in
    let left = subst (λ (cs : List seen.Arm). arms_pass test cs ≡ true) (sym one) c.requires.left in
    let right = subst (λ (cs : List seen.Arm). arms_pass test cs ≡ true) (sym two) c.requires.right in
    let seen = both_lists_pass same_case_head arm_view test c.as_slice-left.result.now c.as_slice-right.result.now left right in
    search rules

pub same_structures-returns-clause-same : goal.same_structures-returns-clause-same
same_structures-returns-clause-same g t c =
    structures_same c.same_branches.result (λ t. shape_in c.args.self.now.pool.now t) c.args.ext c.args.other_ext c.as_slice-left.result.now c.as_slice-right.result.now _ _ (sym c.same_ext-even.ensures ∙ c.if-not-even.false)
    (ap (map part_view) c.as_slice-left.ensures ∙ c.in_ok-one.ensures) (ap (map part_view) c.as_slice-right.ensures ∙ c.in_ok-two.ensures) c.same_branches.ensures.same

pub same_unions-returns-clause-same : goal.same_unions-returns-clause-same
same_unions-returns-clause-same g t c =
    unions_same c.same_branches.result (λ t. shape_in c.args.self.now.pool.now t) c.args.ext c.args.other_ext c.args.key c.args.other_key (shape_in c.args.self.now.pool.now (view.identifier c.args.disc.now)) (shape_in c.args.self.now.pool.now (view.identifier c.args.other.now)) c.as_slice-left.result.now c.as_slice-right.result.now _ _ (sym c.same_kind_of_union-even.ensures ∙ c.if-not-even.false) (sym c.in_ok-same.ensures.same ∙ c.if-not-same.false)
    (ap (map arm_view) c.as_slice-left.ensures ∙ c.in_ok-one.ensures) (ap (map arm_view) c.as_slice-right.ensures ∙ c.in_ok-two.ensures) c.same_branches.ensures.same

pub same_kinds-returns-in-Struct-right-clause-same : goal.same_kinds-returns-in-Struct-right-clause-same
same_kinds-returns-in-Struct-right-clause-same g t c = at_nodes c.same_structures.result c.args.self.now.pool.now _ _ _ _ c.in-Struct.is c.in-Struct-right.is c.same_structures.ensures.same

pub same_kinds-returns-in-Union-right-clause-same : goal.same_kinds-returns-in-Union-right-clause-same
same_kinds-returns-in-Union-right-clause-same g t c = at_nodes c.same_unions.result c.args.self.now.pool.now _ _ _ _ c.in-Union.is c.in-Union-right.is c.same_unions.ensures.same
