-- The keywords that are known, and what each begins where a definition or a type may stand (OMG IDL 4.2, 7.4).
use Rattle.std.specs.Prelude.{Bool, List, [], ◌∷◌, Option, Some, None, is_some, codes}
use Rattle.xt_shapes.specs.declared.leaves.Primitive.{Primitive}
use Rattle.idl_tokens.specs.Classes.{Text}
use Rattle.idl_tokens.specs.Tables.{beside}
use Rattle.idl_input.specs.declared.words.Keyword.{Keyword}
use Rattle.idl_input.specs.declared.words.Keyword.TheVariants as word
use Rattle.idl_input.specs.declared.words.PlainWord.{PlainWord}
use Rattle.idl_input.specs.declared.words.CollectionWord.{CollectionWord}
use Rattle.idl_input.specs.declared.words.DefinitionWord.{DefinitionWord}
use Rattle.idl_input.specs.declared.words.Begins.{Begins}

-- each keyword, and what it is; the last are not in the profile (OMG IDL 4.2, 7.4)
abbrev pub keywords : List (Text × Keyword)
keywords =
    (codes "module", word.Module) ∷
    (codes "struct", word.Struct) ∷
    (codes "union", word.Union) ∷
    (codes "switch", word.Switch) ∷
    (codes "case", word.Case) ∷
    (codes "default", word.Default) ∷
    (codes "TRUE", word.True) ∷
    (codes "FALSE", word.False) ∷
    (codes "enum", word.Enum) ∷
    (codes "bitmask", word.Bitmask) ∷
    (codes "typedef", word.Typedef) ∷
    (codes "string", word.Str) ∷
    (codes "sequence", word.Sequence) ∷
    (codes "map", word.Map) ∷
    (codes "boolean", word.Simple Primitive.Boolean) ∷
    (codes "octet", word.Simple Primitive.Byte) ∷
    (codes "char", word.Simple Primitive.Char8) ∷
    (codes "int8", word.Simple Primitive.Int8) ∷
    (codes "uint8", word.Simple Primitive.Uint8) ∷
    (codes "short", word.Simple Primitive.Int16) ∷
    (codes "int16", word.Simple Primitive.Int16) ∷
    (codes "unsigned", word.Unsigned) ∷
    (codes "uint16", word.Simple Primitive.Uint16) ∷
    (codes "long", word.Long) ∷
    (codes "int32", word.Simple Primitive.Int32) ∷
    (codes "uint32", word.Simple Primitive.Uint32) ∷
    (codes "int64", word.Simple Primitive.Int64) ∷
    (codes "uint64", word.Simple Primitive.Uint64) ∷
    (codes "float", word.Simple Primitive.Float32) ∷
    (codes "double", word.Simple Primitive.Float64) ∷
    (codes "wchar", word.Outside) ∷
    (codes "wstring", word.Outside) ∷
    (codes "const", word.Outside) ∷
    (codes "interface", word.Outside) ∷
    (codes "valuetype", word.Outside) ∷
    (codes "bitset", word.Outside) ∷
    (codes "fixed", word.Outside) ∷
    (codes "any", word.Outside) ∷
    []

unfoldable pub keyword : Text → Option Keyword
keyword = beside keywords

abbrev pub is_keyword : Text → Bool
is_keyword s = is_some (keyword s)

-- what a token begins where a definition or a type may stand, by the keyword that it is (OMG IDL 4.2, 7.4)
unfoldable pub begins : Option Keyword → Begins
begins None = Begins.NoKeyword
begins (Some (word.Simple p)) = Begins.Plain (PlainWord.Simple p)
begins (Some word.Long) = Begins.Plain PlainWord.Long
begins (Some word.Unsigned) = Begins.Plain PlainWord.Unsigned
begins (Some word.Str) = Begins.Plain PlainWord.Str
begins (Some word.Sequence) = Begins.Collection CollectionWord.Sequence
begins (Some word.Map) = Begins.Collection CollectionWord.Map
begins (Some word.Module) = Begins.Module
begins (Some word.Struct) = Begins.Definition DefinitionWord.Struct
begins (Some word.Union) = Begins.Definition DefinitionWord.Union
begins (Some word.Enum) = Begins.Definition DefinitionWord.Enum
begins (Some word.Bitmask) = Begins.Definition DefinitionWord.Bitmask
begins (Some word.Typedef) = Begins.Definition DefinitionWord.Typedef
begins (Some word.Outside) = Begins.Outside
begins (Some _) = Begins.Nothing
