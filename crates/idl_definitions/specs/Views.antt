-- What the program's values of a definition stand for (this profile's own).
use Rattle.std.specs.Prelude.{◌++◌, map, None}
use Rattle.xt_shapes.specs.declared.leaves.Ext.{Ext}
use Rattle.xt_shapes.specs.declared.leaves.Primitive.TheVariants.{Boolean, Char8, Int32}
use Rattle.type_trees.specs.Trees.{Tree, prim, enumeration}
use Rattle.idl_types.specs.State.{Declared}
use Rattle.idl_types.specs.Definitions.{ListedMembers, member_whole, case_whole, members_before, bases_before, defined}
use Rattle.idl_definitions.specs.declared.made.Made as made_code
use Rattle.idl_definitions.specs.declared.made.NewName as name_code
use Rattle.idl_definitions.specs.declared.members.Listed as listed_code
use Rattle.idl_definitions.specs.declared.structures.Heritage as heritage_code
use Rattle.idl_definitions.specs.declared.numbered.Numbered as numbered_code
use Rattle.idl_definitions.specs.declared.unions.Gathered as gathered_code
use Rattle.idl_definitions.specs.declared.unions.LabelForm.TheVariants as form_of
use Rattle.idl_definitions.specs.declared.unions.LabelForm as form_code
use Rattle.idl_definitions.specs.Members.{Listed}
use Rattle.idl_definitions.specs.Structures.{Made, NewName, Heritage}
use Rattle.idl_definitions.specs.Numbered.{Numbered}
use Rattle.idl_definitions.specs.Unions.{Gathered}

-- over the types that were declared before
abbrev pub made : Declared → made_code.Made → Made
made ts m = record { at = m.at; name = m.name.now; full = m.full; tree = defined ts m.full m.definition; fits = m.fits }

abbrev pub new_name : name_code.NewName → NewName
new_name n = record { at = n.at; name = n.name.now; full = n.full }

-- behind the members of a base
abbrev pub listed : Declared → ListedMembers → listed_code.Listed → Listed
listed ts before l = record { members = before ++ map (member_whole ts) l.members; names = l.names; following = l.following }

abbrev pub heritage : Declared → heritage_code.Heritage → Heritage
heritage ts h = record { fits = h.fits; bases = bases_before ts h.base; members = members_before ts h.base }

abbrev pub numbered : {A N : Type 0} → numbered_code.Numbered A N → Numbered A N
numbered r = record { parts = r.parts; names = r.names; following = r.following }

abbrev pub gathered : Declared → gathered_code.Gathered → Gathered
gathered ts g = record { cases = map (case_whole ts) g.cases; names = g.names; following = g.following }

-- a discriminator whose labels have the form
abbrev pub form : form_code.LabelForm → Tree
form form_of.Truth = prim Boolean
form form_of.Character = prim Char8
form form_of.Number = prim Int32
form (form_of.Literal ls) = enumeration None Ext.Final 32 ls
