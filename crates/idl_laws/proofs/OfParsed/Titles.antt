-- The name of a definition that was read is an identifier and no keyword.
use Rattle.std.proofs.Common.{◌≡◌, ℕ, Bool, List, true, false, Option, Some}
use Rattle.std.specs.Prelude.{is_some, codes}
use Rattle.xt_annotations.specs.declared.notes.Placed.{Placed}
use Rattle.idl_tokens.specs.names.Scopes.{meaning}
use Rattle.idl_input.specs.declared.words.Keyword.{Keyword}
use Rattle.idl_input.specs.declared.words.Keyword.TheVariants as word
use Rattle.idl_input.specs.Input.{here, take_token, want}
use Rattle.idl_types.specs.State.{State}
use Rattle.idl_types.specs.Names.{innermost, full_name}
use Rattle.idl_definitions.specs.declared.settings.Settings.{Settings}
use Rattle.idl_definitions.specs.Structures.{Made, NewName, new_type, in_profile, base_clause, members, struct_def, typedef_def}
use Rattle.idl_definitions.specs.Numbered.{part, no_parts, numbered_def, literals, flags, enum_def, bitmask_def}
use Rattle.idl_definitions.specs.Unions.{discriminator, case, no_cases_yet, union_def}
use Rattle.idl_definitions.specs.Lists.{to_brace, with_commas}
use Rattle.idl_definitions.specs.Members.{once, dimensioned}
use Rattle.idl_definitions.specs.Notes.{settings}
use Rattle.idl_types.specs.Types.{a_type}
use Rattle.xt_idl.specs.Whole.{definition_by}
use Rattle.idl_laws.proofs.Names.{is_free}
use Rattle.idl_laws.proofs.OfParsed.Gives.{Yields, yields, bind, behind, next, given, refused, unread, by_input}
use Rattle.idl_laws.proofs.OfParsed.Words.{name_gives}

abbrev IsFreeName : NewName → Type 0
IsFreeName n = is_free n.name ≡ true

abbrev pub IsTitled : Made → Type 0
IsTitled m = is_free m.name ≡ true

once_yields : {A : Type 0} (at : ℕ) (taken : Bool) (a : A) (P : A → Type 0) → P a → Yields (once at taken a) P
once_yields at true a P holds = refused
once_yields at false a P holds = given holds

new_type_yields : (s : State) → Yields (new_type s) IsFreeName
unfolding new_type
new_type_yields s =
    behind here (λ at. bind (yields name_gives) (λ n free. once_yields at (is_some (meaning (innermost s.opened) n s.names)) (record { at = at; name = n; full = full_name s.opened n }) IsFreeName free))

struct_yields : (s : State) (set : Settings) → Yields (struct_def s set) IsTitled
unfolding struct_def
struct_yields s set =
    next take_token (bind (new_type_yields s) (λ n free. next in_profile
    (behind (base_clause s set.ext) (λ h. next (want (codes "{")) (behind (members s set.hashed h.members) (λ ms. next (want (codes ";")) (given free)))))))

union_yields : (s : State) (set : Settings) → Yields (union_def s set) IsTitled
unfolding union_def
union_yields s set =
    next take_token (bind (new_type_yields s) (λ n free. behind (discriminator s) (λ d.
    next (want (codes "{")) (behind (to_brace (case s set.hashed d.0) no_cases_yet) (λ r. next (want (codes ";")) (given free))))))

enum_yields : (s : State) (set : Settings) → Yields (enum_def s set) IsTitled
unfolding numbered_def
enum_yields s set =
    next take_token (bind (new_type_yields s) (λ n free. next (want (codes "{")) (behind (with_commas (part literals) (no_parts literals)) (λ r. next (want (codes "}")) (next (want (codes ";")) (given free))))))

bitmask_yields : (s : State) (set : Settings) → Yields (bitmask_def s set) IsTitled
unfolding numbered_def
bitmask_yields s set =
    next take_token (bind (new_type_yields s) (λ n free. next (want (codes "{")) (behind (with_commas (part flags) (no_parts flags)) (λ r. next (want (codes "}")) (next (want (codes ";")) (given free))))))

typedef_yields : (s : State) → Yields (typedef_def s) IsTitled
unfolding typedef_def
typedef_yields s = next take_token (behind (a_type s) (λ t. bind (new_type_yields s) (λ n free. behind (dimensioned t) (λ whole. next (want (codes ";")) (given free)))))

pub title_yields : (s : State) (ns : List Placed) (k : Option Keyword) → Yields (definition_by s ns k) IsTitled
title_yields s ns (Some word.Struct) = struct_yields s (settings ns)
title_yields s ns (Some word.Union) = union_yields s (settings ns)
title_yields s ns (Some word.Enum) = enum_yields s (settings ns)
title_yields s ns (Some word.Bitmask) = bitmask_yields s (settings ns)
title_yields s ns (Some word.Typedef) = typedef_yields s
title_yields s ns (Some word.Outside) = by_input (λ i. refused)
title_yields s ns _ = unread
