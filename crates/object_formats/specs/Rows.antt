-- Worked fields: an octet that is spelled and read, and why one is not, by computation (this profile's own).
use Rattle.std.specs.Prelude.{◌≡◌, ℕ, List, [], ◌∷◌, ◌++◌, None, Ok, true, take}
use Rattle.type_trees.specs.declared.types.Name.TheVariants.{Hashed}
use Rattle.xt_shapes.specs.declared.leaves.Primitive.TheVariants.{Int32}
use Rattle.object_formats.specs.declared.faults.ObjectRule.TheVariants as rules
use Rattle.object_formats.specs.Format.{fault, raw_at, past, aligned, raw, num, each_at, each_spelled, each_good}
use Rattle.object_formats.specs.Octets.{octets, number, zeros, padding}
use Rattle.object_formats.specs.Objects.{Object, prim, none, structure}
use Rattle.object_formats.specs.Tables.{object_of, text_of, is_well_formed, object, struct_body, base, member, identifier, nested, name, detail, code_of, code_octet, type_flags, member_flags}
use mathlib.Core.Path.{refl}

-- a structure of one long named color
abbrev pub one_member : Object
one_member = structure None 1 none (record { id = 0; flags = 1; ty = prim Int32; name = Hashed 3752189296 } ∷ [])

abbrev pub one_member_text : List ℕ
one_member_text = 35 ∷ 0 ∷ 0 ∷ 0 ∷ 241 ∷ 81 ∷ 1 ∷ 0 ∷ 1 ∷ 0 ∷ 0 ∷ 0 ∷ 0 ∷ 0 ∷ 0 ∷ 0 ∷ 19 ∷ 0 ∷ 0 ∷ 0 ∷ 1 ∷ 0 ∷ 0 ∷ 0 ∷ 11 ∷ 0 ∷ 0 ∷ 0 ∷ 0 ∷ 0 ∷ 0 ∷ 0 ∷ 1 ∷ 0 ∷ 4 ∷ 112 ∷ 221 ∷ 165 ∷ 223 ∷ []

one_is_spelled : text_of one_member ≡ one_member_text
unfolding text_of object struct_body base member identifier nested name detail type_flags num raw aligned octets zeros padding each_spelled code_octet
one_is_spelled = refl

one_is_read : object_of one_member_text ≡ Ok one_member
unfolding object_of object struct_body base member identifier nested name detail type_flags member_flags num raw raw_at past aligned octets number zeros padding each_at code_of code_octet
one_is_read = refl

one_is_good : is_well_formed one_member ≡ true
unfolding is_well_formed object struct_body base member identifier nested name detail type_flags member_flags num raw octets each_good code_octet
one_is_good = refl

cut_is_short : object_of (take 38 one_member_text) ≡ fault 35 rules.Short
unfolding object_of object struct_body base member identifier nested name detail type_flags member_flags num raw raw_at past aligned octets number zeros padding each_at code_of code_octet
cut_is_short = refl

more_is_trailing : object_of (one_member_text ++ 0 ∷ []) ≡ fault 39 rules.Trailing
unfolding object_of object struct_body base member identifier nested name detail type_flags member_flags num raw raw_at past aligned octets number zeros padding each_at code_of code_octet
more_is_trailing = refl
