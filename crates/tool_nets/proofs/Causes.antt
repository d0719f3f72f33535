-- What refuses the types of a front is a fault of the types.
use Rattle.std.proofs.Common.{◌≡◌, ℕ, ◌+◌, List, [], ◌∷◌, None, Some, Result, Ok, Err, inl, inr, refl, subst}
use Rattle.std.specs.declared.option.Option.{Option}
use Rattle.xt_io.specs.declared.Item.{Item}
use Rattle.xt_io.specs.declared.Kind.{Kind}
use Rattle.xt_io.specs.declared.Kind.TheVariants.{Object, Sample, Idl, Json, Note}
use Rattle.type_trees.specs.declared.types.HashId.{HashId}
use Rattle.type_object.specs.Pools as pools
use Rattle.type_object.specs.Pools.{Texts, added}
use Rattle.idl_types.specs.State as idl_types
use Rattle.idl_input.specs.declared.faults.IdlFault.{IdlFault}
use Rattle.xt_idl.specs.Whole.{idl}
use Rattle.type_resolve.specs.Adding.{all_added}
use Rattle.type_resolve.specs.Objects.{texts}
use Rattle.tool_runs.specs.declared.output.ending.Cause.TheVariants as causes
use Rattle.tool_runs.specs.declared.output.stop.Stop.{Stop}
use Rattle.tool_runs.specs.declared.output.stop.Stop.TheVariants as stops
use Rattle.tool_runs.specs.output.Outputs.{Refusal, ◌>>=◌}
use Rattle.tool_runs.specs.output.Runs.{StopsBundle, refusal}
use Rattle.tool_types.specs.Types.{Declared, declare, declared_as, declared_by, object_added, pool_refusal, text_parsed, types, with_all, with_objects}
use Rattle.tool_nets.specs.Opened.{StopsFront}
use Rattle.tool_nets.proofs.Behind.{Stops}

-- a refusal, if it is one, is a fault of the types
abbrev RefusesTypes : {A : Type 0} → Result A Refusal → Type 0
RefusesTypes (Ok a) = Unit {0}
RefusesTypes (Err refusal) = refusal.cause ≡ causes.Types

in_turn : {A B : Type 0} (r : Result A Refusal) (f : A → Result B Refusal) → RefusesTypes r → ((a : A) → RefusesTypes (f a)) → RefusesTypes (r >>= f)
in_turn (Ok a) f p q = q a
in_turn (Err refusal) f p q = p

pool_cause : (k : ℕ) (why : pools.Refusal) → (pool_refusal k why).cause ≡ causes.Types
pool_cause k (pools.no_object fault) = refl
pool_cause k (pools.clash id) = refl
pool_cause k pools.full = refl

added_cause : (k : ℕ) (r : Result (HashId × Texts) pools.Refusal) → RefusesTypes (object_added k r)
added_cause k (Ok r) = tt
added_cause k (Err why) = pool_cause k why

all_cause : (k : ℕ) (pool : Texts) (why : Option pools.Refusal) → RefusesTypes (with_all k (pool, why))
all_cause k pool None = tt
all_cause k pool (Some why) = pool_cause k why

objects_cause : (k : ℕ) (pool : Texts) (ts : idl_types.Declared) → RefusesTypes (with_objects k pool ts)
unfolding with_objects
objects_cause k pool [] = tt
objects_cause k pool (t ∷ ts) =
    let (more, why) = all_added pool (texts t.1) in
    in_turn (with_all k (more, why)) (λ behind. with_objects k behind ts) (all_cause k more why) (λ behind. objects_cause k behind ts)

text_cause : (k : ℕ) (pool : Texts) (parsed : Result idl_types.Declared IdlFault) → RefusesTypes (text_parsed k pool parsed)
text_cause k pool (Ok ts) = in_turn (with_objects k pool ts) (λ more. Ok (types ts, more)) (objects_cause k pool ts) (λ more. tt)
text_cause k pool (Err fault) = refl

kind_cause : (kind : Kind) (k : ℕ) (pool : Texts) (payload : List ℕ) → RefusesTypes (declared_as kind k pool payload)
kind_cause Idl k pool payload = text_cause k pool (idl payload)
kind_cause Object k pool payload = added_cause k (added pool payload)
kind_cause Sample k pool payload = added_cause k (added pool payload)
kind_cause Json k pool payload = added_cause k (added pool payload)
kind_cause Note k pool payload = added_cause k (added pool payload)

declare_cause : (k : ℕ) (pool : Texts) (items : List Item) → RefusesTypes (declare k pool items)
unfolding declare
declare_cause k pool [] = tt
declare_cause k pool (item ∷ items) =
    let behind : Declared × Texts → Result (List Declared × Texts) Refusal = λ d. declare (k + 1) d.1 items >>= λ ds. Ok (d.0 ∷ ds.0, ds.1) in
    in_turn (declared_by k pool item) behind (kind_cause item.kind k pool item.payload) (λ d. in_turn (declare (k + 1) d.1 items) (λ ds. Ok (d.0 ∷ ds.0, ds.1)) (declare_cause (k + 1) d.1 items) (λ ds. tt))

pub types_cause : (items : List Item) (stop : Stop) → Stops (declare 0 [] items) stop → StopsFront stop
types_cause items (stops.Refused r) p = inr (subst RefusesTypes p (declare_cause 0 [] items))
types_cause items (stops.Halted halt) p = tt

pub bundle_cause : (stop : Stop) → StopsBundle stop → StopsFront stop
bundle_cause (stops.Refused r) p = inl p
bundle_cause (stops.Halted halt) p = tt
