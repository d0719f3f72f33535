-- What a definition that was read declares.
use Rattle.std.proofs.Common.{◌≡◌, refl, sym, subst, true, false, Option, Some, None, List}
use Rattle.std.specs.Prelude.{codes}
use Rattle.type_trees.specs.Bases.{base_of}
use Rattle.type_trees.specs.Trees.{StructHead}
use Rattle.type_trees.specs.View.{members_of}
use Rattle.type_rules.specs.Valid.{type_fault}
use Rattle.xt_annotations.specs.declared.notes.Placed.{Placed}
use Rattle.idl_tokens.specs.names.Scopes.{meaning}
use Rattle.idl_input.specs.declared.words.Keyword.{Keyword}
use Rattle.idl_input.specs.declared.words.Keyword.TheVariants as word
use Rattle.idl_input.specs.Words.{is_keyword}
use Rattle.idl_input.specs.Input.{want, take_token}
use Rattle.idl_types.specs.State.{State}
use Rattle.idl_types.specs.Names.{innermost, full_name}
use Rattle.idl_types.specs.Definitions.{ListedMembers}
use Rattle.idl_definitions.specs.declared.settings.Settings.{Settings}
use Rattle.idl_definitions.specs.Notes.{settings}
use Rattle.idl_definitions.specs.Structures.{Made, NewName, Heritage, made_from, structure_of, struct_def, in_profile, typedef_def}
use Rattle.idl_definitions.specs.Numbered.{numbered_def, enum_def, bitmask_def}
use Rattle.idl_definitions.specs.Unions.{union_def}
use Rattle.idl_laws.specs.Printable.{IsOnBase, EachMember, own_members, IsDefinition}
use Rattle.xt_idl.specs.Whole.{definition_by}
use Rattle.idl_laws.proofs.OfParsed.Gives.{Gives, gives, Yields, bind, next, given, fails}
use Rattle.idl_laws.proofs.OfParsed.Sound.{Sound}
use Rattle.idl_laws.proofs.OfParsed.Uses.{use_typed}
use Rattle.idl_laws.proofs.OfParsed.Types.{type_yields}
use Rattle.idl_laws.proofs.OfParsed.Members.{GoOn, members_yield, dimensioned_yields}
use Rattle.idl_laws.proofs.OfParsed.Structures.{Inherits, base_yields}
use Rattle.idl_laws.proofs.OfParsed.NewTypes.{IsNewName, new_type_yields}
use Rattle.idl_laws.proofs.OfParsed.Numbered.{literals_yield, enumeration_fits, flags_yield}
use Rattle.idl_laws.proofs.OfParsed.Labels.{literals_behind}
use Rattle.idl_laws.proofs.OfParsed.Unions.{discriminator_yields, cases_yield}

-- A definition of a new name, with its full name; where it is valid and its base fits, it is one that can be printed.
pub record IsMade (s : State) (m : Made) : Type 0 where
  pub full : m.full ≡ full_name s.opened m.name
  pub free : is_keyword m.name ≡ false
  pub new : meaning (innermost s.opened) m.name s.names ≡ None
  pub defined : m.fits ≡ true → type_fault m.tree ≡ None → IsDefinition s.types m.full m.tree

abbrev head_of : NewName → Settings → Heritage → StructHead
head_of n set h = record { name = Some n.full; ext = set.ext; nested = set.nested; hashed_ids = set.hashed; bases = h.bases }

abbrev OnAndEach : State → StructHead → ListedMembers → Type 0
OnAndEach s head ms = IsOnBase s.types (base_of head (members_of ms)) × EachMember s.types (own_members head (members_of ms))

structure_defined : (s : State) (n : NewName) (set : Settings) (h : Heritage) → Inherits s.types set.ext h → (ms : ListedMembers) → GoOn s.types h.members ms
    → IsDefinition s.types n.full (structure_of n.full set h.bases ms)
structure_defined s n set h inherits ms on =
    let each = subst (λ own. EachMember s.types own) (sym (inherits.own on.own)) on.each in
    (refl, subst (OnAndEach s (head_of n set h)) (sym on.is) (inherits.on (head_of n set h) refl on.own, each))

structure_made : (s : State) (n : NewName) → IsNewName s n → (set : Settings) (h : Heritage) → (h.fits ≡ true → Inherits s.types set.ext h) → (ms : ListedMembers)
    → GoOn s.types h.members ms → IsMade s (made_from n h (structure_of n.full set h.bases ms))
structure_made s n new set h inherits ms on = record {
  full = new.full;
  free = new.free;
  new = new.new;
  defined = λ fits valid. structure_defined s n set h (inherits fits) ms on;
}

struct_yields : (s : State) → Sound s.types → (set : Settings) → Yields (struct_def s set) (IsMade s)
unfolding struct_def
struct_yields s sound set =
    next take_token (bind (new_type_yields s) (λ n new. next in_profile (bind (base_yields s sound set.ext) (λ h inherits. next (want (codes "{"))
    (bind (members_yield s sound set.hashed h.members) (λ ms on.
    next (want (codes ";")) (given (structure_made s n new set h inherits ms on))))))))

union_yields : (s : State) → Sound s.types → (set : Settings) → Yields (union_def s set) (IsMade s)
unfolding union_def
union_yields s sound set =
    next take_token (bind (new_type_yields s) (λ n new. bind (discriminator_yields s sound) (λ d used. next (want (codes "{"))
    (bind (cases_yield s sound set.hashed d.0 (literals_behind s.types sound d.0 (use_typed s.types d.0 used))) (λ r each.
    next (want (codes ";")) (given (record { full = new.full; free = new.free; new = new.new; defined = λ fits valid. (refl, (used, each)) })))))))

enum_yields : (s : State) (set : Settings) → Yields (enum_def s set) (IsMade s)
unfolding numbered_def
enum_yields s set =
    next take_token (bind (new_type_yields s) (λ n new. next (want (codes "{")) (bind literals_yield (λ r each. next (want (codes "}")) (next (want (codes ";"))
    (given (record { full = new.full; free = new.free; new = new.new; defined = λ fits valid. (refl, enumeration_fits (Some n.full) set.ext set.bits r.parts each valid) })))))))

bitmask_yields : (s : State) (set : Settings) → Yields (bitmask_def s set) (IsMade s)
unfolding numbered_def
bitmask_yields s set =
    next take_token (bind (new_type_yields s) (λ n new. next (want (codes "{")) (bind flags_yield (λ r each. next (want (codes "}")) (next (want (codes ";"))
    (given (record { full = new.full; free = new.free; new = new.new; defined = λ fits valid. (refl, each) })))))))

typedef_yields : (s : State) → Sound s.types → Yields (typedef_def s) (IsMade s)
unfolding typedef_def
typedef_yields s sound =
    next take_token (bind (type_yields s sound) (λ t used. bind (new_type_yields s) (λ n new. bind (dimensioned_yields s.types t used) (λ whole typed. next (want (codes ";"))
    (given (record { full = new.full; free = new.free; new = new.new; defined = λ fits valid. (refl, typed) }))))))

definition_yields : (s : State) → Sound s.types → (ns : List Placed) (k : Option Keyword) → Yields (definition_by s ns k) (IsMade s)
definition_yields s sound ns (Some word.Struct) = struct_yields s sound (settings ns)
definition_yields s sound ns (Some word.Union) = union_yields s sound (settings ns)
definition_yields s sound ns (Some word.Enum) = enum_yields s (settings ns)
definition_yields s sound ns (Some word.Bitmask) = bitmask_yields s (settings ns)
definition_yields s sound ns (Some word.Typedef) = typedef_yields s sound
definition_yields s sound ns _ = fails

pub definition_gives : (s : State) → Sound s.types → (ns : List Placed) (k : Option Keyword) → Gives (definition_by s ns k) (IsMade s)
definition_gives s sound ns k = gives (definition_yields s sound ns k)
