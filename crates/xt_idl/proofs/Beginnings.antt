-- What a keyword begins decides what is read.
use Rattle.std.proofs.Common.{◌≡◌, List, Option, Some, None, Err, refl}
use Rattle.xt_annotations.specs.declared.notes.Placed.{Placed}
use Rattle.xt_annotations.specs.declared.places.Site.{Site}
use Rattle.idl_input.specs.declared.faults.IdlFault.TheVariants as fault
use Rattle.idl_input.specs.declared.words.Keyword.{Keyword}
use Rattle.idl_input.specs.declared.words.Keyword.TheVariants as word
use Rattle.idl_input.specs.declared.words.DefinitionWord.{DefinitionWord}
use Rattle.idl_input.specs.declared.words.Begins.{Begins}
use Rattle.idl_input.specs.Words.{begins}
use Rattle.idl_input.specs.Input.{Input, Parser, place, syntax}
use Rattle.idl_types.specs.State.{State}
use Rattle.idl_definitions.specs.Notes.{settings}
use Rattle.idl_definitions.specs.Structures.{Made, struct_def, typedef_def}
use Rattle.idl_definitions.specs.Numbered.{enum_def, bitmask_def}
use Rattle.idl_definitions.specs.Unions.{union_def}
use Rattle.xt_idl.specs.Leading.{site_of}
use Rattle.xt_idl.specs.Whole.{definition_by, definition_or_module, module_def, typed}

abbrev pub definition_of : State → List Placed → Begins → Parser Made
definition_of s ns (Begins.Definition DefinitionWord.Struct) = struct_def s (settings ns)
definition_of s ns (Begins.Definition DefinitionWord.Union) = union_def s (settings ns)
definition_of s ns (Begins.Definition DefinitionWord.Enum) = enum_def s (settings ns)
definition_of s ns (Begins.Definition DefinitionWord.Bitmask) = bitmask_def s (settings ns)
definition_of s ns (Begins.Definition DefinitionWord.Typedef) = typedef_def s
definition_of s ns Begins.Outside = λ i. Err (fault.NotInProfile (place i))
definition_of s ns _ = syntax

pub definition_begins : (s : State) (ns : List Placed) (k : Option Keyword) (i : Input) → definition_by s ns k i ≡ definition_of s ns (begins k) i
unfolding begins
definition_begins s ns None i = refl
definition_begins s ns (Some (word.Simple p)) i = refl
definition_begins s ns (Some _) i = refl

abbrev pub item_of : State → List Placed → Begins → Parser State
item_of s ns Begins.Module = module_def s
item_of s ns _ = typed s ns

pub item_begins : (s : State) (ns : List Placed) (k : Option Keyword) (i : Input) → definition_or_module s ns k i ≡ item_of s ns (begins k) i
unfolding begins
item_begins s ns None i = refl
item_begins s ns (Some (word.Simple p)) i = refl
item_begins s ns (Some _) i = refl

abbrev pub site_by : Begins → Site
site_by (Begins.Definition DefinitionWord.Struct) = Site.Structure
site_by (Begins.Definition DefinitionWord.Union) = Site.Union
site_by (Begins.Definition DefinitionWord.Enum) = Site.Enumeration
site_by (Begins.Definition DefinitionWord.Bitmask) = Site.Bitmask
site_by (Begins.Definition DefinitionWord.Typedef) = Site.Other
site_by Begins.Module = Site.Other
site_by _ = Site.AnyDefinition

pub site_begins : (k : Option Keyword) → site_of k ≡ site_by (begins k)
unfolding begins
site_begins None = refl
site_begins (Some (word.Simple p)) = refl
site_begins (Some _) = refl
