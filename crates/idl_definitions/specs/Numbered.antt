-- Enumerations and bitmasks (DDS-XTypes 1.3, 7.3.1.1; without a number a literal or flag has the previous one's plus 1).
use Rattle.std.specs.Prelude.{ℕ, ◌+◌, ℤ, pos, ◌+ℤ◌, int_le, if◌then◌else◌, nat_le, List, [], ◌∷◌, ◌++◌, Option, Some, None, Result, Ok, Err, codes}
use Rattle.type_trees.specs.declared.types.Name.TheVariants as name_of
use Rattle.type_trees.specs.declared.types.Literal.{Literal}
use Rattle.type_trees.specs.declared.types.Flag.{Flag}
use Rattle.type_trees.specs.Trees.{Tree, enumeration, bitmask}
use Rattle.xt_annotations.specs.declared.places.Site.{Site}
use Rattle.idl_tokens.specs.Classes.{Text}
use Rattle.idl_input.specs.declared.faults.IdlFault.{IdlFault}
use Rattle.idl_input.specs.declared.faults.IdlFault.TheVariants as fault
use Rattle.idl_input.specs.Input.{Parser, ◌>>=◌, ◌>>◌, pure, refuse, want, take_token, notes_at}
use Rattle.idl_types.specs.State.{State}
use Rattle.idl_definitions.specs.declared.settings.Settings.{Settings}
use Rattle.idl_definitions.specs.Notes.{settings}
use Rattle.idl_definitions.specs.Lists.{with_commas}
use Rattle.idl_definitions.specs.Members.{new_name}
use Rattle.idl_definitions.specs.Structures.{Made, made, new_type}

-- how the parts of a definition, of type A, are numbered by an N, and what they make together
pub record Numbering (A N : Type 0) : Type 0 where
  pub site : Site
  pub first : N
  pub given : Settings → Option N
  pub part : Text → Settings → N → A
  pub following : A → Option N
  pub whole : Text → Settings → List A → Tree

-- parts so far, their names, and the number that the next one has by itself, where there is one
pub record Numbered (A N : Type 0) : Type 0 where
  pub parts : List A
  pub names : List Text
  pub following : Option N

abbrev pub number_or : {N : Type 0} → ℕ → Option N → Option N → Result N IdlFault
number_or at (Some n) following = Ok n
number_or at None (Some n) = Ok n
number_or at None None = Err (fault.Annotation at 7)

module _ {A N : Type 0} (k : Numbering A N) where
  abbrev pub no_parts : Numbered A N
  no_parts = record { parts = []; names = []; following = Some k.first }

  abbrev pub with_part : Numbered A N → Text → A → Numbered A N
  with_part r s p = record { parts = r.parts ++ p ∷ []; names = r.names ++ s ∷ []; following = k.following p }

  abbrev pub with_number : Numbered A N → Text → Settings → Result N IdlFault → Parser (Numbered A N)
  with_number r s set (Ok n) = pure (with_part r s (k.part s set n))
  with_number r s set (Err e) = refuse e

  -- one more part
  unfoldable pub part : Numbered A N → Parser (Numbered A N)
  part r = do
    ns ← notes_at k.site
    n ← new_name r.names
    with_number r n.1 (settings ns) (number_or n.0 (k.given (settings ns)) r.following)

  -- from its keyword on
  unfoldable pub numbered_def : State → Settings → Parser Made
  numbered_def s set = do
    take_token
    n ← new_type s
    want (codes "{")
    r ← with_commas part no_parts
    want (codes "}")
    want (codes ";")
    pure (made n (k.whole n.full set r.parts))

-- literals have numbers of 32 bits
abbrev pub literals : Numbering Literal ℤ
literals = record {
  site = Site.Literal;
  first = pos 0;
  given = λ set. set.number;
  part = λ s set v. record { name = name_of.Full s; value = v; is_default = set.is_default };
  following = λ l. if int_le l.value (pos 2147483646) then Some (l.value +ℤ pos 1) else None;
  whole = λ full set ls. enumeration (Some full) set.ext set.bits ls;
}

abbrev pub enum_def : State → Settings → Parser Made
enum_def = numbered_def literals

-- flags have positions, which are told in an octet
abbrev pub flags : Numbering Flag ℕ
flags = record {
  site = Site.Flag;
  first = 0;
  given = λ set. set.position;
  part = λ s set p. record { name = name_of.Full s; position = p };
  following = λ f. if nat_le f.position 254 then Some (f.position + 1) else None;
  whole = λ full set fs. bitmask (Some full) set.bits fs;
}

abbrev pub bitmask_def : State → Settings → Parser Made
bitmask_def = numbered_def flags
