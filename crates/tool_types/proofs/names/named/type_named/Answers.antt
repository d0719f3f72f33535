use Rattle.std.proofs.Common.{◌≡◌, List, Ok, map, subst, sym}
use Rattle.std.specs.Prelude.{IfOk, Option}
use Rattle.type_trees.specs.View.{tree}
use Rattle.type_object.specs.Pools.{Texts}
use Rattle.tool_runs.specs.output.Runs.{Comes}
use Rattle.tool_words.specs.View.{reference_view}
use Rattle.tool_types.specs.Declaring.{declared_view}
use Rattle.tool_types.specs.Types.{Declared}
use Rattle.tool_types.specs.names.Names.{Meaning, type_meant}
use Rattle.tool_types.specs.names.Identified.{hash_meant, IsBackMeant}
use Rattle.tool_types.specs.declared.names.named.NamedType.{NamedType}
use Rattle.tool_types.proofs.OfNames.Identified.{found_by, meant_back}
use Rattle.tool_types.proofs.names.named.type_named.Goals as goal

pub type_meant-requires-clause-back : goal.type_meant-requires-clause-back
type_meant-requires-clause-back c =
    let front : List Declared × Texts = (map declared_view c.args.records.now, c.args.pool.now) in
    subst (IsBackMeant c.args.pool.now) (sym c.meant-meaning.ensures.meaning) (meant_back (reference_view c.args.reference.now).form front c.requires.back)

pub returns-clause-comes : goal.returns-clause-comes
returns-clause-comes c = subst (λ (m : Option Meaning). Comes (type_meant c.args.reference.now.word.now c.args.pool.now m) (λ (n : NamedType). tree n.ty) c.type_meant.result) c.meant-meaning.ensures.meaning c.type_meant.ensures.comes

pub returns-clause-id : goal.returns-clause-id
returns-clause-id c = subst (λ (m : Option Meaning). IfOk c.type_meant.result (λ (n : NamedType). hash_meant c.args.reference.now.word.now m ≡ Ok n.id)) c.meant-meaning.ensures.meaning c.type_meant.ensures.id

pub returns-clause-found : goal.returns-clause-found
returns-clause-found c =
    let front : List Declared × Texts = (map declared_view c.args.records.now, c.args.pool.now) in
    found_by (reference_view c.args.reference.now) front c.type_meant.result c.requires.back (returns-clause-comes c) c.type_meant.ensures.valid (returns-clause-id c)
