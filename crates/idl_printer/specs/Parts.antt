-- The parts of definitions: members, cases, literals and flags (own: the standard leaves the layout open).
use Rattle.std.specs.Prelude.{ℕ, zero, suc, Bool, ℤ, pos, negsuc, if◌then◌else◌, nat_le, List, [], ◌∷◌, ◌++◌, codes, decimal}
use Rattle.std.specs.Fmt.{signed_decimal}
use Rattle.std.specs.Ordering.{int_eq}
use Rattle.xt_shapes.specs.declared.leaves.Primitive.{Primitive}
use Rattle.xt_shapes.specs.declared.leaves.Try.{Try}
use Rattle.type_trees.specs.declared.types.Literal.{Literal}
use Rattle.type_trees.specs.declared.types.Flag.{Flag}
use Rattle.type_trees.specs.Trees.{Tree, prim, enumeration, alias, Members, no_members, member, Cases, no_cases, one_case, MemberHead, CaseHead}
use Rattle.idl_printer.specs.Words.{try_text, name_text, text_if, id_text}
use Rattle.idl_printer.specs.Uses.{declarator_text}

-- ---- members

unfoldable pub member_notes : ℕ → Bool → Bool → Bool → List ℕ
member_notes id key optional must_understand = id_text id ++ text_if key (codes "@key ") ++ text_if optional (codes "@optional ") ++ text_if must_understand (codes "@must_understand ")

-- what follows a member's or case's other annotations
unfoldable pub declared_text : Try → Tree → List ℕ → List ℕ
declared_text tc t name = try_text tc ++ declarator_text t name ++ codes "; "

abbrev pub member_text : MemberHead → Tree → List ℕ
member_text m t = member_notes m.id m.key m.optional m.must_understand ++ declared_text m.tc t (name_text m.name)

abbrev pub members_text : Members → List ℕ
members_text no_members = []
members_text (member m t ms) = member_text m t ++ members_text ms

-- the members behind the first ones, which are a base's
abbrev pub members_behind : ℕ → Members → Members
members_behind zero ms = ms
members_behind (suc n) no_members = no_members
members_behind (suc n) (member m t ms) = members_behind n ms

-- ---- cases

abbrev pub name_of_value : ℤ → List Literal → List ℕ
name_of_value n [] = []
name_of_value n (l ∷ ls) = if int_eq l.value n then name_text l.name else name_of_value n ls

-- A label of a character is an octet.
abbrev pub quoted_text : ℤ → List ℕ
quoted_text (pos n) = if nat_le n 255 then 39 ∷ n ∷ 39 ∷ [] else []
quoted_text (negsuc n) = []

-- a label in the form of the discriminator's type, behind aliases
abbrev pub label_text : Tree → ℤ → List ℕ
label_text (alias name t) n = label_text t n
label_text (enumeration name ext bits ls) n = name_of_value n ls
label_text (prim Primitive.Boolean) n = if int_eq n (pos 0) then codes "FALSE" else codes "TRUE"
label_text (prim Primitive.Char8) n = quoted_text n
label_text t n = signed_decimal n

abbrev pub case_label : Tree → ℤ → List ℕ
case_label disc n = codes "case " ++ label_text disc n ++ codes ": "

abbrev pub labels_text : Tree → List ℤ → List ℕ
labels_text disc [] = []
labels_text disc (n ∷ ns) = case_label disc n ++ labels_text disc ns

-- the default goes behind the labels
unfoldable pub case_text : Tree → CaseHead → Tree → List ℕ
case_text disc c t = labels_text disc c.labels ++ text_if c.is_default (codes "default: ") ++ id_text c.id ++ declared_text c.tc t (name_text c.name)

abbrev pub cases_text : Tree → Cases → List ℕ
cases_text disc no_cases = []
cases_text disc (one_case c t cs) = case_text disc c t ++ cases_text disc cs

-- ---- literals and flags

abbrev pub value_text : ℤ → List ℕ
value_text n = codes "@value(" ++ signed_decimal n ++ codes ") "

unfoldable pub literal_text : Literal → List ℕ
literal_text l = text_if l.is_default (codes "@default_literal ") ++ value_text l.value ++ name_text l.name

-- more literals, each behind a comma
abbrev pub more_literals : List Literal → List ℕ
more_literals [] = []
more_literals (l ∷ ls) = codes ", " ++ literal_text l ++ more_literals ls

abbrev pub literals_text : List Literal → List ℕ
literals_text [] = []
literals_text (l ∷ ls) = literal_text l ++ more_literals ls

unfoldable pub position_text : Flag → List ℕ
position_text f = codes "@position(" ++ decimal f.position ++ codes ") " ++ name_text f.name

abbrev pub more_flags : List Flag → List ℕ
more_flags [] = []
more_flags (f ∷ fs) = codes ", " ++ position_text f ++ more_flags fs

abbrev pub flags_text : List Flag → List ℕ
flags_text [] = []
flags_text (f ∷ fs) = position_text f ++ more_flags fs
