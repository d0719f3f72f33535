use Rattle.std.proofs.Common.{◌≡◌, ◌+◌, ◌*◌, drop, map}
use Rattle.type_trees.specs.View.{member_tree, case_tree}
use Rattle.object_formats.specs.View as view
use Rattle.object_walks.specs.Resolving as spec
use Rattle.object_walks.specs.Walking.{below, within}
use Rattle.object_walks.proofs.place.Place.+walk.Given as goal

-- a level has less than a hundred steps, of which the bases take two each

abbrev pub decreases-walk : goal.decreases-walk
decreases-walk l = 100 * l.self.now.levels

abbrev pub decreases-part : goal.decreases-part
decreases-part l = 100 * l.self.now.levels + 1

abbrev pub decreases-members : goal.decreases-members
decreases-members l = 100 * l.self.now.levels + 2

abbrev pub decreases-cases : goal.decreases-cases
decreases-cases l = 100 * l.self.now.levels + 2

abbrev pub decreases-base : goal.decreases-base
decreases-base l = 100 * l.self.now.levels + (2 * l.room + 3)

abbrev pub decreases-based : goal.decreases-based
decreases-based l = 100 * l.self.now.levels + (2 * l.room + 4)

abbrev pub decreases-structure : goal.decreases-structure
decreases-structure l = 100 * l.self.now.levels + 40

abbrev pub decreases-object : goal.decreases-object
decreases-object l = 100 * l.self.now.levels + 50

abbrev pub decreases-named : goal.decreases-named
decreases-named l = 100 * l.self.now.levels + 60

abbrev pub decreases-node : goal.decreases-node
decreases-node l = 100 * l.self.now.levels + 70

abbrev pub invariant-members-loop-member : goal.invariant-members-loop-member
invariant-members-loop-member l = spec.behind (map member_tree l.row) (spec.members (below l.self) (within l.self) (map view.member (drop l.member-index l.members)) l.nodes) ≡ spec.behind (map member_tree l.fn.row) (spec.members (below l.self) (within l.self) (map view.member l.members) l.fn.nodes)

abbrev pub invariant-cases-loop-case : goal.invariant-cases-loop-case
invariant-cases-loop-case l = spec.behind (map case_tree l.row) (spec.cases (below l.self) (within l.self) (map view.case (drop l.case-index l.cases)) l.nodes) ≡ spec.behind (map case_tree l.fn.row) (spec.cases (below l.self) (within l.self) (map view.case l.cases) l.fn.nodes)
