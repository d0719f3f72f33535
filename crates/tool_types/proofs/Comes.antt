-- The types that texts declare come back from the pool of a front's objects.
use Rattle.std.proofs.Common.{◌≡◌, refl, ap, ◌∙◌, subst, ℕ, suc, ◌+◌, List, [], ◌∷◌, true, Some, None, Result, Ok, Err, cond}
use Rattle.std.specs.Prelude.{Bool, Option, slice_get}
use Rattle.std.proofs.lemmas.Slice.Eq.{bytes_eq-Decides}
use Rattle.xt_io.specs.declared.Item.{Item}
use Rattle.xt_io.specs.declared.Kind.{Kind}
use Rattle.xt_io.specs.declared.Kind.TheVariants.{Object, Sample, Idl, Json, Note}
use Rattle.type_trees.specs.declared.types.HashId.{HashId}
use Rattle.type_trees.specs.Trees.{Tree}
use Rattle.object_formats.specs.declared.faults.Fault.{Fault}
use Rattle.object_formats.specs.Objects as o
use Rattle.object_formats.specs.Objects.{Object as ObjectOf}
use Rattle.object_walks.specs.Resolving.{resolved}
use Rattle.type_object.specs.Names.{named}
use Rattle.type_object.specs.Pools as pools
use Rattle.type_object.specs.Pools.{Texts, added, added_so, put}
use Rattle.idl_input.specs.declared.faults.IdlFault.{IdlFault}
use Rattle.idl_tokens.specs.Classes.{Text}
use Rattle.idl_types.specs.State as idl_types
use Rattle.xt_idl.specs.Whole.{idl}
use Rattle.type_resolve.specs.Adding.{all_added, Adds}
use Rattle.type_resolve.specs.Held.{AddedAreHeld, AreHeld, IsHeld, Keeps}
use Rattle.type_resolve.specs.Objects.{identifier, texts}
use Rattle.type_resolve.proofs.Added.{adds_none, adds_one, adds_then}
use Rattle.resolve_laws.specs.parsed.Laws.{ParsedResolves}
use Rattle.tool_runs.specs.output.Outputs.{Refusal, ◌>>=◌}
use Rattle.tool_types.specs.Types.{Declared, types, object, Declaration, text_parsed, object_added, declared_as, declared_by, declare, name_in, with_all, with_objects}
use Rattle.tool_types.specs.Coming.{ComeBack, ComesBack, AllComeBack, DeclaredComesBack}

-- ---- pools

keeps_itself : (pool : Texts) → Keeps pool pool
keeps_itself pool id bs is = is

keeps_on : (a b c : Texts) → Keeps a b → Keeps b c → Keeps a c
keeps_on a b c p q id bs is = q id bs (p id bs is)

keeps_same : (a b : Texts) → a ≡ b → Keeps a b
keeps_same a b e = subst (Keeps a) e (keeps_itself a)

held_on : (old new : Texts) (ts : List (List ℕ)) → Keeps old new → AreHeld old ts → AreHeld new ts
held_on old new [] keeps held = tt
held_on old new (t ∷ ts) keeps held = (record { there = keeps (named t) t held.0.there; read = held.0.read }, held_on old new ts keeps held.1)

-- A text that is held is not added again.
added_held : (pool : Texts) (bs : List ℕ) → IsHeld pool bs → added pool bs ≡ Ok (named bs, pool)
unfolding added
added_held pool bs held =
    ap (λ (r : Result ObjectOf Fault). added_so pool bs r) held.read.read
    ∙ ap (λ (t : Option (List ℕ)). put pool (named bs) bs t) held.there
    ∙ ap (λ (b : Bool). let said : Result (HashId × Texts) pools.Refusal = cond b (Ok (named bs, pool)) (Err (pools.clash (named bs))) in said) ((bytes_eq-Decides bs bs).1 refl)

-- so texts that are held are added, and the pool stays
adds_held : (pool : Texts) (ts : List (List ℕ)) → AreHeld pool ts → Adds pool ts pool
adds_held pool [] held = adds_none pool
adds_held pool (t ∷ ts) held = adds_then pool pool pool (t ∷ []) ts (adds_one pool pool (named t) t (added_held pool t held.0)) (adds_held pool ts held.1)

-- ---- the types of a text

abbrev EachHeld : Texts → idl_types.Declared → Type 0
EachHeld pool [] = Unit {0}
EachHeld pool (t ∷ ts) = AreHeld pool (texts t.1) × EachHeld pool ts

each_held_on : (old new : Texts) (ts : idl_types.Declared) → Keeps old new → EachHeld old ts → EachHeld new ts
each_held_on old new [] keeps held = tt
each_held_on old new (t ∷ ts) keeps held = (held_on old new (texts t.1) keeps held.0, each_held_on old new ts keeps held.1)

objects_on : AddedAreHeld → (k : ℕ) (pool new : Texts) (t : Text × Tree) (ts : idl_types.Declared) → ((next : Texts) → with_objects k next ts ≡ Ok new → Keeps next new × EachHeld new ts) → (r : Texts × Option pools.Refusal) → all_added pool (texts t.1) ≡ r
    → (let said : Result Texts Refusal = with_all k r >>= λ more. with_objects k more ts in said) ≡ Ok new → Keeps pool new × EachHeld new (t ∷ ts)
objects_on law k pool new t ts rest (next, None) is e =
    let more = rest next e in
    let here = law pool next (texts t.1) (record { all = is }) in
    (keeps_on pool next new here.0 more.0, (held_on next new (texts t.1) more.0 here.1, more.1))
objects_on law k pool new t ts rest (next, Some why) is e = absurd cc

objects_held : AddedAreHeld → (k : ℕ) (pool new : Texts) (ts : idl_types.Declared) → with_objects k pool ts ≡ Ok new → Keeps pool new × EachHeld new ts
unfolding with_objects
objects_held law k pool new [] e = let same : pool ≡ new = cc in (keeps_same pool new same, tt)
objects_held law k pool new (t ∷ ts) e = objects_on law k pool new t ts (λ next. objects_held law k next new ts) (all_added pool (texts t.1)) refl e

-- each of them comes back from a pool that holds their texts
come_back : (pool : Texts) (ts : idl_types.Declared) → EachHeld pool ts
    → ((at : ℕ) (full : Text) (t : Tree) → slice_get ts at ≡ Some (full, t) → (old new : Texts) (id : HashId) → identifier true t ≡ o.hash id → Adds old (texts t) new → resolved new id ≡ Ok t) → ComeBack pool ts
come_back pool [] held law = tt
come_back pool (t ∷ ts) held law = (λ id is. law 0 t.0 t.1 refl pool pool id is (adds_held pool (texts t.1) held.0), come_back pool ts held.1 (λ at. law (suc at)))

-- ---- records

-- what a record declares is held
abbrev IsHeldRecord : Texts → Declared → Type 0
IsHeldRecord pool (types ts) = EachHeld pool ts
IsHeldRecord pool (object id name) = Unit {0}

-- the types are those of a text
abbrev IsParsed : Declared → Type 0
IsParsed (types ts) = (text : List ℕ) × (idl text ≡ Ok ts)
IsParsed (object id name) = Unit {0}

record Joined (pool : Texts) (d : Declared) (new : Texts) : Type 0 where
  keeps : Keeps pool new
  held : IsHeldRecord new d
  parsed : IsParsed d

joined_text : AddedAreHeld → (k : ℕ) (pool : Texts) (text : List ℕ) (r : Result idl_types.Declared IdlFault) (x : Declared × Texts) → idl text ≡ r → text_parsed k pool r ≡ Ok x → Joined pool x.0 x.1
joined_text law k pool text (Ok ts) x parsed e = by (with_objects k pool ts) refl e
  where
    by : (r : Result Texts Refusal) → with_objects k pool ts ≡ r → (let said : Declaration = r >>= λ more. Ok (types ts, more) in said) ≡ Ok x → Joined pool x.0 x.1
    by (Ok more) is rest =
        let made : Declared × Texts = (types ts, more) in
        let same : made ≡ x = cc in
        let all = objects_held law k pool more ts is in
        subst (λ (p : Declared × Texts). Joined pool p.0 p.1) same (record { keeps = all.0; held = all.1; parsed = (text, parsed) })
    by (Err why) is rest = absurd cc
joined_text law k pool text (Err fault) x parsed e = absurd cc

joined_object : AddedAreHeld → (k : ℕ) (pool : Texts) (bs : List ℕ) (r : Result (HashId × Texts) pools.Refusal) (x : Declared × Texts) → added pool bs ≡ r → object_added k r ≡ Ok x → Joined pool x.0 x.1
joined_object law k pool bs (Ok r) x is e =
    let made : Declared × Texts = (object r.0 (name_in (pools.object_at r.0 r.1)), r.1) in
    let same : made ≡ x = cc in
    let keeps = (law pool r.1 (bs ∷ []) (adds_one pool r.1 r.0 bs is)).0 in
    subst (λ (p : Declared × Texts). Joined pool p.0 p.1) same (record { keeps = keeps; held = tt; parsed = tt })
joined_object law k pool bs (Err why) x is e = absurd cc

joined : AddedAreHeld → (k : ℕ) (pool : Texts) (kind : Kind) (payload : List ℕ) (x : Declared × Texts) → declared_as kind k pool payload ≡ Ok x → Joined pool x.0 x.1
joined law k pool Idl payload x e = joined_text law k pool payload (idl payload) x refl e
joined law k pool Object payload x e = joined_object law k pool payload (added pool payload) x refl e
joined law k pool Sample payload x e = joined_object law k pool payload (added pool payload) x refl e
joined law k pool Json payload x e = joined_object law k pool payload (added pool payload) x refl e
joined law k pool Note payload x e = joined_object law k pool payload (added pool payload) x refl e

record_back : ParsedResolves → (pool new : Texts) (d : Declared) → Keeps pool new → IsHeldRecord pool d → IsParsed d → ComesBack new d
record_back law pool new (types ts) keeps held (text, parsed) = come_back new ts (each_held_on pool new ts keeps held) (λ at full t is. law text ts at full t parsed is)
record_back law pool new (object id name) keeps held parsed = tt

-- the rest of a front, from a record on
record All (pool : Texts) (front : List Declared × Texts) : Type 0 where
  keeps : Keeps pool front.1
  back : AllComeBack front.1 front.0

record_on : ParsedResolves → (k : ℕ) (pool : Texts) (items : List Item) (front : List Declared × Texts) (d : Declared × Texts) → ((ds : List Declared × Texts) → declare (k + 1) d.1 items ≡ Ok ds → All d.1 ds) → Joined pool d.0 d.1 → (r : Result (List Declared × Texts) Refusal) → declare (k + 1) d.1 items ≡ r
    → (let said : Result (List Declared × Texts) Refusal = r >>= λ ds. Ok (d.0 ∷ ds.0, ds.1) in said) ≡ Ok front → All pool front
record_on law k pool items front d rest here (Ok ds) is e =
    let made : List Declared × Texts = (d.0 ∷ ds.0, ds.1) in
    let same : made ≡ front = cc in
    let more = rest ds is in
    subst (All pool) same (record { keeps = keeps_on pool d.1 ds.1 here.keeps more.keeps; back = (record_back law d.1 ds.1 d.0 more.keeps here.held here.parsed, more.back) })
record_on law k pool items front d rest here (Err why) is e = absurd cc

records_on : ParsedResolves → AddedAreHeld → (k : ℕ) (pool : Texts) (item : Item) (items : List Item) (front : List Declared × Texts) → ((d : Declared × Texts) (ds : List Declared × Texts) → declare (k + 1) d.1 items ≡ Ok ds → All d.1 ds) → (r : Declaration) → declared_by k pool item ≡ r
    → (let said : Result (List Declared × Texts) Refusal = r >>= λ d. declare (k + 1) d.1 items >>= λ ds. Ok (d.0 ∷ ds.0, ds.1) in said) ≡ Ok front → All pool front
records_on law held k pool item items front rest (Ok d) is e = record_on law k pool items front d (rest d) (joined held k pool item.kind item.payload d is) (declare (k + 1) d.1 items) refl e
records_on law held k pool item items front rest (Err why) is e = absurd cc

all_back : ParsedResolves → AddedAreHeld → (k : ℕ) (pool : Texts) (items : List Item) (front : List Declared × Texts) → declare k pool items ≡ Ok front → All pool front
unfolding declare
all_back law held k pool [] front e =
    let made : List Declared × Texts = ([], pool) in
    let same : made ≡ front = cc in
    subst (All pool) same (record { keeps = keeps_itself pool; back = tt })
all_back law held k pool (item ∷ items) front e = records_on law held k pool item items front (λ d. all_back law held (k + 1) d.1 items) (declared_by k pool item) refl e

pub declared_comes_back : ParsedResolves → AddedAreHeld → DeclaredComesBack
declared_comes_back law held records front e = (all_back law held 0 [] records front e).back
