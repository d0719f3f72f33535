-- Declared types, one after another, with their names.
use Rattle.std.proofs.Common.{◌≡◌, refl, sym, ap, ◌∙◌, arith, ℕ, zero, suc, ◌+◌, ◌<◌, ◌≤◌, List, [], ◌∷◌, ◌++◌, append_assoc, append-nil, add-one, length, drop, drop_of_length-le, get_or, slice_index_or}
use Rattle.idl_tokens.specs.Classes.{Text}
use Rattle.type_trees.specs.Trees.{Tree}
use Rattle.idl_types.specs.State.{Declared}
use Rattle.idl_types.specs.Uses.{tree_at}
use Rattle.idl_types.specs.declared.declarations.Declaration.{Declaration}
use Rattle.idl_types.specs.Definitions.{defined, declared_from, declared}
use Rattle.idl_types.proofs.NameLoops.{declared_length}
use Rattle.type_resolve.specs.declared.sides.Identifiers.{Identifiers}
use Rattle.tool_types.specs.Declaring.{AreIdentified, Identifies}

-- the types of declarations alone, over those before them
abbrev behind : Declared → List Declaration → Declared
behind ts [] = []
behind ts (d ∷ ds) = (d.name, defined ts d.name d.definition) ∷ behind (ts ++ (d.name, defined ts d.name d.definition) ∷ []) ds

behind_is : (ts : Declared) (ds : List Declaration) → declared_from ts ds ≡ ts ++ behind ts ds
behind_is ts [] = sym (append-nil ts)
behind_is ts (d ∷ ds) =
    let one : Text × Tree = (d.name, defined ts d.name d.definition) in
    behind_is (ts ++ one ∷ []) ds ∙ append_assoc ts (one ∷ []) (behind (ts ++ one ∷ []) ds)

next_behind : (ts : Declared) (ds : List Declaration) (i : ℕ) (d : Declaration) → i < length ds → d ≡ get_or ds i d → drop i (behind ts ds) ≡ (d.name, tree_at (behind ts ds) i) ∷ drop (suc i) (behind ts ds)
next_behind ts [] i d lt is = absurd (omega arith)
next_behind ts (x ∷ ds) zero d lt is =
    let one : Text × Tree = (x.name, defined ts x.name x.definition) in
    ap (λ (y : Declaration). (y.name, one.1) ∷ behind (ts ++ one ∷ []) ds) (sym is)
next_behind ts (x ∷ ds) (suc i) d lt is = next_behind (ts ++ (x.name, defined ts x.name x.definition) ∷ []) ds i d (omega arith) is

-- the next of the declared types
pub next_declared : (ds : List Declaration) (i : ℕ) (d : Declaration) → i < length ds → d ≡ get_or ds i d → drop i (declared ds) ≡ (d.name, tree_at (declared ds) i) ∷ drop (i + 1) (declared ds)
next_declared ds i d lt is = rw (behind_is [] ds, add-one i) (next_behind [] ds i d lt is)

none_left : (ts : Declared) (i : ℕ) → length ts ≤ i → drop i ts ≡ []
none_left ts i over = drop_of_length-le ts over

-- none is left
pub end_declared : (ds : List Declaration) (i : ℕ) → length ds ≤ i → drop i (declared ds) ≡ []
end_declared ds i over = none_left (declared ds) i (omega (arith, over, declared_length ds))

-- ---- identifiers

identified_place : (ts : Declared) (ids : List Identifiers) (i : ℕ) (none : Identifiers) → AreIdentified ts ids → i < length ts → Identifies (tree_at ts i) (slice_index_or ids i none)
identified_place [] ids i none p lt = absurd (omega arith)
identified_place (t ∷ ts) [] i none p lt = absurd p
identified_place (t ∷ ts) (x ∷ ids) zero none p lt = p.0
identified_place (t ∷ ts) (x ∷ ids) (suc i) none p lt = identified_place ts ids i none p.1 (omega arith)

-- the identifiers of the type at a place
pub identified_at : (ds : List Declaration) (ids : List Identifiers) (i : ℕ) (none : Identifiers) → AreIdentified (declared ds) ids → i < length ds → Identifies (tree_at (declared ds) i) (slice_index_or ids i none)
identified_at ds ids i none p lt = identified_place (declared ds) ids i none p (omega (arith, lt, declared_length ds))

as_many : (ts : Declared) (ids : List Identifiers) → AreIdentified ts ids → length ids ≡ length ts
as_many [] [] p = refl
as_many [] (d ∷ ids) p = absurd p
as_many (t ∷ ts) [] p = absurd p
as_many (t ∷ ts) (d ∷ ids) p = ap suc (as_many ts ids p.1)

-- there are as many
pub identified_within : (ds : List Declaration) (ids : List Identifiers) (i : ℕ) → AreIdentified (declared ds) ids → i < length ds → i < length ids
identified_within ds ids i p lt = let same = as_many (declared ds) ids p in omega (arith, lt, same, declared_length ds)
