-- A reader's type and a writer's, with a value of the writer's, as they are drawn (this profile's own).
use Rattle.std.specs.Prelude.{ℕ, ◌+◌, List}
use Rattle.xt_shapes.specs.declared.leaves.Ext.{Ext}
use Rattle.xt_shapes.specs.declared.leaves.Rep.{Rep}
use Rattle.xt_shapes.specs.Vals.{Val, struct_of, slots_of}
use Rattle.type_trees.specs.Trees.{Tree}
use Rattle.type_trees.specs.View.{tree, val}
use Rattle.xt_vectors.specs.declared.pairs.Evolved.{Evolved}
use Rattle.xt_vectors.specs.declared.plans.Plan.{Plan}
use Rattle.xt_vectors.specs.Draws.{next, drawn}
use Rattle.xt_vectors.specs.Plans.{ext_drawn, rep_drawn, plans_drawn}
use Rattle.xt_vectors.specs.Readers.{change_drawn, reader_plans}
use Rattle.xt_vectors.specs.Types.{structure_of}
use Rattle.xt_vectors.specs.Values.{slots_drawn}

pub record Posed : Type 0 where
  pub rep : Rep
  pub reader : Tree
  pub writer : Tree
  pub value : Val

abbrev pub posed : Evolved → Posed
posed p = record { rep = p.rep; reader = tree p.reader; writer = tree p.writer; value = val p.value }

-- the pair of a writer's structure with these members; a further member would have the id
unfoldable pub pair_from : Ext → Rep → ℕ → List Plan → ℕ → Posed × ℕ
pair_from ext rep id ps s =
    let change = change_drawn s in
    let slots = slots_drawn ps change.1 in
    (record { rep = rep; reader = structure_of ext (reader_plans change.0 id ps); writer = structure_of ext ps; value = struct_of (slots_of slots.0) }, slots.1)

-- how many members the writer's structure has
abbrev pub count_drawn : ℕ → ℕ
count_drawn s = 1 + drawn 8 s

-- extensibility, representation and how many members, then these, then the rest
unfoldable pub pair_drawn : ℕ → Posed × ℕ
pair_drawn s =
    let count = count_drawn (next (next s)) in
    let plans = plans_drawn count (next (next (next s))) in
    pair_from (ext_drawn s) (rep_drawn (next s)) count plans.0 plans.1
