-- One turn of each loop over names, and what a declaration adds.
use Rattle.std.proofs.Common.{◌≡◌, ℕ, zero, suc, ◌+◌, ◌-◌, ◌<◌, ◌≤◌, Bool, List, [], ◌∷◌, ◌++◌, length, take, Some, None, slice_get, Ok, codes, if◌then◌else◌, refl, ap, ◌∙◌, arith, length-append}
use Rattle.std.proofs.Math.Seq.{take-append_seam}
use Rattle.xt_shapes.specs.Lists.{or_else}
use Rattle.idl_tokens.specs.Classes.{Text}
use Rattle.idl_tokens.specs.names.Scopes.{Names}
use Rattle.idl_input.specs.Input.{Input, ◌>>=◌, pure, eat, name}
use Rattle.idl_input.proofs.Turns.{turn, last}
use Rattle.idl_types.specs.declared.opened.Opened.{Opened}
use Rattle.idl_types.specs.State.{Declared, outer}
use Rattle.idl_types.specs.declared.declarations.Declaration.{Declaration}
use Rattle.idl_types.specs.Definitions.{defined, declared_from, declared}
use Rattle.idl_types.specs.Uses.{tree_at}
use Rattle.idl_types.specs.Names.{type_at, parts_from, a_name, ScopedName, scope_at, number_of, place_in, outward}

pub parts_go : (n at : ℕ) (rooted : Bool) (path : List Text) (end : Text) (i : Input) → at < n
    → parts_from (n - at) rooted path end i
    ≡ (eat (codes "::") >>= λ more. if more then (name >>= λ part. parts_from (n - (at + 1)) rooted (path ++ end ∷ []) part) else pure (a_name rooted path end)) i
unfolding parts_from
parts_go n at rooted path end i below = turn (λ k. parts_from k rooted path end i) n at below

pub parts_end : (n at : ℕ) (rooted : Bool) (path : List Text) (end : Text) (i : Input) → n ≤ at → parts_from (n - at) rooted path end i ≡ Ok (a_name rooted path end, i)
unfolding parts_from
parts_end n at rooted path end i done = last (λ k. parts_from k rooted path end i) n at done

declared_push_from : (ts : Declared) (ds : List Declaration) (d : Declaration) → declared_from ts (ds ++ d ∷ []) ≡ declared_from ts ds ++ (d.name, defined (declared_from ts ds) d.name d.definition) ∷ []
declared_push_from ts [] d = refl
declared_push_from ts (x ∷ ds) d = declared_push_from (ts ++ (x.name, defined ts x.name x.definition) ∷ []) ds d

pub types_push : (ds : List Declaration) (d : Declaration) → declared (ds ++ d ∷ []) ≡ declared ds ++ (d.name, defined (declared ds) d.name d.definition) ∷ []
types_push ds d = declared_push_from [] ds d

length_from : (ts : Declared) (ds : List Declaration) → length (declared_from ts ds) ≡ length ts + length ds
length_from ts [] = omega arith
length_from ts (x ∷ ds) =
    let more : length (ts ++ (x.name, defined ts x.name x.definition) ∷ []) ≡ length ts + 1 = length-append ts ((x.name, defined ts x.name x.definition) ∷ []) in
    let rest = length_from (ts ++ (x.name, defined ts x.name x.definition) ∷ []) ds in
    omega (arith, more, rest)

pub declared_length : (ds : List Declaration) → length (declared ds) ≡ length ds
declared_length ds = omega (arith, length_from [] ds)

pub place_there : (ts : Declared) (at : ℕ) → at < length ts → type_at ts (Some at) ≡ Some (tree_at ts at)
place_there [] at within = absurd (omega arith)
place_there (d ∷ ts) zero within = refl
place_there (d ∷ ts) (suc at) within = place_there ts at (omega arith)

pub place_past : (ts : Declared) (at : ℕ) → length ts ≤ at → type_at ts (Some at) ≡ None
place_past [] at past = refl
place_past (d ∷ ts) zero past = absurd (omega arith)
place_past (d ∷ ts) (suc at) past = place_past ts at (omega arith)

pub outer_is : (os : List Opened) (o : Opened) → outer (os ++ o ∷ []) ≡ os
outer_is os o =
    let e : length (os ++ o ∷ []) - 1 ≡ length os = omega (arith, length-append os (o ∷ [])) in
    ap (λ k. take k (os ++ o ∷ [])) e ∙ take-append_seam os (o ∷ [])

-- no module leads on from where none is
pub no_scope : (names : Names) (ss : List Text) → scope_at names ss None ≡ None
no_scope names [] = refl
no_scope names (s ∷ ss) = no_scope names ss

pub outward_more : (names : Names) (os : List Opened) (n : ScopedName) (k : ℕ) → 0 < k
    → outward names os n k ≡ or_else (place_in names n (number_of (slice_get os (k - 1)))) (outward names os n (k - 1))
outward_more names os n k some = let e : k ≡ suc (k - 1) = omega arith in ap (outward names os n) e
