-- Worked comparisons of versions, by computation (this profile's own).
use Rattle.std.specs.Prelude.{◌≡◌, ℕ, [], ◌∷◌, ◌++◌, Bool, true, false, Some, None, codes}
use Rattle.std.specs.Fmt.{decimal}
use Rattle.std.proofs.Common.{refl}
use Rattle.xt_shapes.specs.declared.leaves.Ext.{Ext}
use Rattle.xt_shapes.specs.declared.leaves.Ext.TheVariants.{Final, Appendable}
use Rattle.xt_shapes.specs.declared.leaves.Primitive.TheVariants.{Int32}
use Rattle.xt_shapes.specs.declared.leaves.Rep.TheVariants.{Xcdr2}
use Rattle.type_trees.specs.declared.types.HashId.{HashId}
use Rattle.type_trees.specs.Trees.{Tree, prim, enumeration, structure, alias, no_members}
use Rattle.xcdr_model.specs.declared.verdict.Rule.TheVariants as rules
use Rattle.xcdr_model.specs.Policies.{standard}
use Rattle.xcdr_model.specs.Worked.{verdicts}
use Rattle.idl_types.specs.State as idl_types
use Rattle.tool_types.specs.Types.{types, object}
use Rattle.tool_verdicts.specs.Versions.{Version, Finding, Change, backward, forward, gone, new, findings, versions, any_breaks, finding_line}

-- ---- types and versions in few words

abbrev struct_of : Bool → Ext → Tree
struct_of nested ext = structure (record { name = None; ext = ext; nested = nested; hashed_ids = false; bases = [] }) no_members

abbrev version : ℕ → idl_types.Declared → Version
version k ts = record { number = k; types = ts }

abbrev a_as : Tree → idl_types.Declared
a_as t = (codes "A", t) ∷ []

abbrev of_a : ℕ → Change → Finding
of_a k c = record { number = k; name = codes "A"; change = c }

-- ---- what is found

-- a final structure that becomes appendable
pub opened : findings standard Xcdr2 (version 0 (a_as (struct_of false Final)) ∷ version 1 (a_as (struct_of false Appendable)) ∷ []) ≡ of_a 1 (backward (Some (rules.Extensibility, []))) ∷ of_a 1 (forward (Some (rules.Extensibility, []))) ∷ []
unfolding verdicts
opened = refl

-- each version is compared with the one before it, and not with the first
pub and_back : findings standard Xcdr2 (version 0 (a_as (struct_of false Final)) ∷ version 1 (a_as (struct_of false Appendable)) ∷ version 3 [] ∷ version 4 (a_as (struct_of false Final)) ∷ [])
    ≡ of_a 1 (backward (Some (rules.Extensibility, []))) ∷ of_a 1 (forward (Some (rules.Extensibility, []))) ∷ of_a 3 gone ∷ of_a 4 new ∷ []
unfolding verdicts
and_back = refl

-- another name is another type
pub renamed : findings standard Xcdr2 (version 0 (a_as (struct_of false Final)) ∷ version 1 ((codes "B", struct_of false Final) ∷ []) ∷ []) ≡ of_a 1 gone ∷ (record { number = 1; name = codes "B"; change = new }) ∷ []
renamed = refl

-- a type that no sample has at the top is gone, too
pub no_top_any_more : findings standard Xcdr2 (version 0 (a_as (struct_of false Final)) ∷ version 1 (a_as (enumeration None Final 32 [])) ∷ []) ≡ of_a 1 gone ∷ []
no_top_any_more = refl

-- nested types are left out, behind aliases too
pub nested_ones : findings standard Xcdr2 (version 0 (a_as (alias None (struct_of true Final))) ∷ version 1 (a_as (struct_of true Final)) ∷ []) ≡ []
nested_ones = refl

-- a first version alone
pub first_alone : findings standard Xcdr2 (version 0 (a_as (struct_of false Final)) ∷ []) ≡ []
first_alone = refl

-- objects are no versions, and are numbered
pub objects_between : (id : HashId) → versions 0 (types [] ∷ object id None ∷ types (a_as (prim Int32)) ∷ []) ≡ version 0 [] ∷ version 2 (a_as (prim Int32)) ∷ []
objects_between id = refl

-- ---- lines

pub gone_line : (k : ℕ) → finding_line (of_a k gone) ≡ decimal k ++ codes " A gone\n"
gone_line k = refl

pub verdict_line : (k : ℕ) → finding_line (of_a k (backward None)) ≡ decimal k ++ codes " A backward yes\n"
verdict_line k = refl

pub new_breaks_nothing : any_breaks (of_a 1 new ∷ of_a 1 (forward None) ∷ []) ≡ false
new_breaks_nothing = refl
