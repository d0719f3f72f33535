use Rattle.std.proofs.Common.{◌≡◌, ◌≤◌, drop, true}
use Rattle.json.specs.Json.{Json}
use Rattle.json.specs.Tree.{ItemsHaveNumbers, MembersHaveNumbers}
use Rattle.json.specs.Value.{items_view, members_view}
use Rattle.type_rules.specs.Places.{cases_depth}
use Rattle.type_trees.specs.View.{tree, members_tree, cases_tree}
use Rattle.json_values.specs.Names.{cases_have_text_names}
use Rattle.dynamic_data.specs.numbers.Forms.{LeafTurns}
use Rattle.dynamic_data.specs.numbers.Walks.{Turns, PairTurns, MemberTurns, CaseTurns, SelectedTurns, BodyTurns}
use Rattle.dynamic_data.proofs.OfNumbers.Walked.{ItemsWritten, MembersWritten}
use Rattle.dynamic_data.proofs.numbers.walk.+turn.Given as goal

abbrev pub invariant-turn_items-loop-item : goal.invariant-turn_items-loop-item
invariant-turn_items-loop-item l =
    let rest = items_view (drop l.item-index l.items) in record {
      written : ItemsWritten (Turns (LeafTurns l.form) (tree l.ty)) (items_view l.items) rest l.initial.out.tokens l.out.tokens;
      before : l.out.before ≡ l.initial.out.before;
      writable : ItemsHaveNumbers rest;
    }

abbrev pub invariant-turn_pairs-loop-item : goal.invariant-turn_pairs-loop-item
invariant-turn_pairs-loop-item l =
    let rest = items_view (drop l.item-index l.items) in record {
      written : ItemsWritten (PairTurns (Turns (LeafTurns l.form) (tree l.kind.key.ty)) (Turns (LeafTurns l.form) (tree l.kind.value.ty))) (items_view l.items) rest l.initial.out.tokens l.out.tokens;
      before : l.out.before ≡ l.initial.out.before;
      writable : ItemsHaveNumbers rest;
    }

abbrev pub invariant-turn_members-loop-part : goal.invariant-turn_members-loop-part
invariant-turn_members-loop-part l =
    let rest = members_view (drop l.part-index l.parts) in record {
      written : MembersWritten (MemberTurns (LeafTurns l.form) (members_tree l.members)) (members_view l.parts) rest l.initial.out.tokens l.out.tokens;
      before : l.out.before ≡ l.initial.out.before;
      writable : MembersHaveNumbers rest;
    }

abbrev pub invariant-turn_bodies-loop-part : goal.invariant-turn_bodies-loop-part
invariant-turn_bodies-loop-part l =
    let rest = members_view (drop l.part-index l.parts) in record {
      written : MembersWritten (BodyTurns (SelectedTurns (CaseTurns (LeafTurns l.form) (cases_tree l.cases)) l.id)) (members_view l.parts) rest l.initial.out.tokens l.out.tokens;
      before : l.out.before ≡ l.initial.out.before;
      writable : MembersHaveNumbers rest;
    }

abbrev pub invariant-turn_case-loop-case : goal.invariant-turn_case-loop-case
invariant-turn_case-loop-case l =
    let rest = cases_tree (drop l.case-index l.cases) in record {
      same : l.out ≡ l.initial.out;
      turned : (j k : Json) → CaseTurns (LeafTurns l.form) rest l.id j k → CaseTurns (LeafTurns l.form) (cases_tree l.cases) l.id j k;
      deep : cases_depth rest ≤ cases_depth (cases_tree l.cases);
      named : cases_have_text_names rest ≡ true;
    }
