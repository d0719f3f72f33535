-- The type that is declared at a place is its definition's, over those before it.
use Rattle.std.proofs.Common.{◌≡◌, refl, sym, ap, ◌∙◌, ℕ, zero, suc, ◌+◌, ◌<◌, ◌≤◌, List, [], ◌∷◌, ◌++◌, length, take, Some, None, slice_get, arith, length-append}
use Rattle.std.proofs.lemmas.Option.{none-some, same_Some}
use Rattle.type_trees.specs.Trees.{Tree}
use Rattle.idl_tokens.specs.Classes.{Text}
use Rattle.idl_types.specs.State.{Declared}
use Rattle.idl_types.specs.declared.declarations.Declaration.{Declaration}
use Rattle.idl_types.specs.Uses.{tree_or, tree_at}
use Rattle.idl_types.specs.Definitions.{defined, declared_from, declared}

first_kept : {A : Type 0} (xs : List A) (x : A) (at : ℕ) → at < length xs → slice_get (xs ++ x ∷ []) at ≡ slice_get xs at
first_kept [] x at within = absurd (omega arith)
first_kept (y ∷ xs) x zero within = refl
first_kept (y ∷ xs) x (suc at) within = first_kept xs x at (omega arith)

last_there : {A : Type 0} (xs : List A) (x : A) → slice_get (xs ++ x ∷ []) (length xs) ≡ Some x
last_there [] x = refl
last_there (y ∷ xs) x = last_there xs x

-- what is declared stays as more is
still : (ts : Declared) (ds : List Declaration) (at : ℕ) → at < length ts → slice_get (declared_from ts ds) at ≡ slice_get ts at
still ts [] at within = refl
still ts (d ∷ ds) at within =
    let one : Text × Tree = (d.name, defined ts d.name d.definition) in
    still (ts ++ one ∷ []) ds at (omega (arith, within, length-append ts (one ∷ []))) ∙ first_kept ts one at within

at_from : (ts : Declared) (ds : List Declaration) (at : ℕ) (d : Declaration) → slice_get ds at ≡ Some d
    → slice_get (declared_from ts ds) (length ts + at) ≡ Some (d.name, defined (declared_from ts (take at ds)) d.name d.definition)
at_from ts [] at d e = absurd (none-some d e)
at_from ts (x ∷ ds) zero d e =
    let one : Text × Tree = (x.name, defined ts x.name x.definition) in
    let here : length ts + zero ≡ length ts = omega arith in
    let same : x ≡ d = same_Some x d e in
    ap (slice_get (declared_from (ts ++ one ∷ []) ds)) here ∙ still (ts ++ one ∷ []) ds (length ts) (omega (arith, length-append ts (one ∷ []))) ∙ last_there ts one
    ∙ ap (λ (y : Declaration). Some (y.name, defined ts y.name y.definition)) same
at_from ts (x ∷ ds) (suc at) d e =
    let one : Text × Tree = (x.name, defined ts x.name x.definition) in
    let on : length ts + suc at ≡ length (ts ++ one ∷ []) + at = omega (arith, length-append ts (one ∷ [])) in
    ap (slice_get (declared_from (ts ++ one ∷ []) ds)) on ∙ at_from (ts ++ one ∷ []) ds at d e

pub declared_at : (ds : List Declaration) (at : ℕ) (d : Declaration) → slice_get ds at ≡ Some d → tree_at (declared ds) at ≡ defined (declared (take at ds)) d.name d.definition
declared_at ds at d e =
    let here : at ≡ 0 + at = omega arith in
    ap (λ k. tree_or (slice_get (declared ds) k)) here ∙ ap tree_or (at_from [] ds at d e)

past : {A : Type 0} (xs : List A) (at : ℕ) → length xs ≤ at → slice_get xs at ≡ None
past [] at over = refl
past (x ∷ xs) zero over = absurd (omega arith)
past (x ∷ xs) (suc at) over = past xs at (omega arith)

none_from : (ts : Declared) (ds : List Declaration) (at : ℕ) → slice_get ds at ≡ None → slice_get (declared_from ts ds) (length ts + at) ≡ None
none_from ts [] at e = past ts (length ts + at) (omega arith)
none_from ts (x ∷ ds) zero e = absurd (none-some x (sym e))
none_from ts (x ∷ ds) (suc at) e =
    let one : Text × Tree = (x.name, defined ts x.name x.definition) in
    let on : length ts + suc at ≡ length (ts ++ one ∷ []) + at = omega (arith, length-append ts (one ∷ [])) in
    ap (slice_get (declared_from (ts ++ one ∷ []) ds)) on ∙ none_from (ts ++ one ∷ []) ds at e

pub nothing_at : (ds : List Declaration) (at : ℕ) → slice_get ds at ≡ None → tree_at (declared ds) at ≡ tree_or None
nothing_at ds at e =
    let here : at ≡ 0 + at = omega arith in
    ap (λ k. tree_or (slice_get (declared ds) k)) here ∙ ap tree_or (none_from [] ds at e)

pub below : {A : Type 0} (xs : List A) (at : ℕ) (x : A) → slice_get xs at ≡ Some x → at < length xs
below [] at x e = absurd (none-some x e)
below (y ∷ xs) zero x e = omega arith
below (y ∷ xs) (suc at) x e = let rest = below xs at x e in omega (arith, rest)
