-- The types that a front declares, and the pool of their objects (the order and the lines are this profile's own).
use Rattle.std.specs.Prelude.{ℕ, ◌+◌, List, [], ◌∷◌, ◌++◌, Option, Some, None, Result, Ok, Err, codes}
use Rattle.std.specs.Fmt.{decimal}
use Rattle.xt_io.specs.declared.Kind.{Kind}
use Rattle.xt_io.specs.declared.Kind.TheVariants.{Object, Sample, Idl, Json, Note}
use Rattle.xt_io.specs.declared.Item.{Item}
use Rattle.type_trees.specs.declared.types.HashId.{HashId}
use Rattle.object_formats.specs.declared.faults.ObjectRule.{ObjectRule}
use Rattle.object_formats.specs.Objects as o
use Rattle.type_object.specs.Pools as pools
use Rattle.type_object.specs.Pools.{Texts, added}
use Rattle.idl_types.specs.State as idl_types
use Rattle.idl_input.specs.declared.faults.IdlFault.{IdlFault}
use Rattle.xt_idl.specs.Whole.{idl}
use Rattle.type_resolve.specs.Adding.{all_added}
use Rattle.type_resolve.specs.Objects.{texts}
use Rattle.tool_runs.specs.declared.output.ending.Cause.TheVariants.{Types as TypesFault}
use Rattle.tool_runs.specs.output.Outputs.{Refusal, ◌>>=◌}
use Rattle.object_formats.specs.Words.{object_rule_text}
use Rattle.type_trees.specs.Ids.{id_text}
use Rattle.idl_input.specs.FaultTexts.{fault_text}

-- What a record of the front declares: the types of a text by their full names, or an object's identifier and its type's name.
pub data Declared : Type 0 where
  types : idl_types.Declared → Declared
  object : HashId → Option (List ℕ) → Declared

abbrev pub types_refusal : List ℕ → Refusal
types_refusal text = record { text = text; cause = TypesFault }

-- the first fault of the text of record k
abbrev pub idl_fault_text : ℕ → IdlFault → List ℕ
idl_fault_text k fault = codes "idl " ++ decimal k ++ 32 ∷ fault_text fault

abbrev pub object_text : ℕ → ℕ → ObjectRule → List ℕ
object_text k at rule = codes "object " ++ (decimal k ++ 32 ∷ (decimal at ++ 32 ∷ object_rule_text rule))

abbrev pub clash_text : HashId → List ℕ
clash_text id = codes "pool clash " ++ id_text id

-- why a text of record k was not added to the pool
abbrev pub pool_refusal : ℕ → pools.Refusal → Refusal
pool_refusal k (pools.no_object fault) = types_refusal (object_text k fault.at fault.rule)
pool_refusal k (pools.clash id) = types_refusal (clash_text id)
pool_refusal k pools.full = types_refusal (codes "pool full")

-- the name of an object's type, where it is complete
abbrev pub name_of : o.Object → Option (List ℕ)
name_of (o.alias name related) = name
name_of (o.enumeration name flags bits literals) = name
name_of (o.bitmask name bits flags) = name
name_of (o.structure name flags base members) = name
name_of (o.union name flags disc_flags disc cases) = name

abbrev pub name_in : Option o.Object → Option (List ℕ)
name_in None = None
name_in (Some x) = name_of x

-- what is declared, and the pool behind it
abbrev pub Declaration : Type 0
Declaration = Result (Declared × Texts) Refusal

abbrev pub object_added : ℕ → Result (HashId × Texts) pools.Refusal → Declaration
object_added k (Ok r) = Ok (object r.0 (name_in (pools.object_at r.0 r.1)), r.1)
object_added k (Err refusal) = Err (pool_refusal k refusal)

abbrev pub with_all : ℕ → Texts × Option pools.Refusal → Result Texts Refusal
with_all k (pool, None) = Ok pool
with_all k (pool, Some refusal) = Err (pool_refusal k refusal)

-- the objects of types, one type after another
unfoldable pub with_objects : ℕ → Texts → idl_types.Declared → Result Texts Refusal
with_objects k pool [] = Ok pool
with_objects k pool (t ∷ ts) = with_all k (all_added pool (texts t.1)) >>= λ more. with_objects k more ts

abbrev pub text_parsed : ℕ → Texts → Result idl_types.Declared IdlFault → Declaration
text_parsed k pool (Ok ts) = with_objects k pool ts >>= λ more. Ok (types ts, more)
text_parsed k pool (Err fault) = Err (types_refusal (idl_fault_text k fault))

abbrev pub declared_as : Kind → ℕ → Texts → List ℕ → Declaration
declared_as Idl k pool payload = text_parsed k pool (idl payload)
declared_as Object k pool payload = object_added k (added pool payload)
declared_as Sample k pool payload = object_added k (added pool payload)
declared_as Json k pool payload = object_added k (added pool payload)
declared_as Note k pool payload = object_added k (added pool payload)

abbrev pub declared_by : ℕ → Texts → Item → Declaration
declared_by k pool item = declared_as item.kind k pool item.payload

-- The records of a front, numbered from k, in order: what each declares, and the pool.
unfoldable pub declare : ℕ → Texts → List Item → Result (List Declared × Texts) Refusal
declare k pool [] = Ok ([], pool)
declare k pool (item ∷ items) = declared_by k pool item >>= λ d. declare (k + 1) d.1 items >>= λ ds. Ok (d.0 ∷ ds.0, ds.1)
