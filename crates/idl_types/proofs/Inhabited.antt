-- Where no type is: above the highest scope of a type, and in the modules that are open there.
use Rattle.std.proofs.Common.{◌≡◌, ℕ, zero, suc, ◌<◌, ◌≤◌, Bool, true, false, cond, ◌&&◌, ◌==◌, List, [], ◌∷◌, ◌++◌, length, Option, Some, None, slice_get, refl, ap, ◌∙◌, ◌⊎◌, inl, inr, ⊎_elim, arith}
use Rattle.std.proofs.lemmas.Bool.{and_parts, eqb-true, cases_lt}
use Rattle.std.specs.Str.{bytes_eq}
use Rattle.xt_shapes.specs.Lists.{or_else}
use Rattle.idl_tokens.specs.Classes.{Text}
use Rattle.idl_tokens.specs.declared.names.scopes.Meaning.{Meaning}
use Rattle.idl_tokens.specs.declared.names.scopes.Meaning.TheVariants as meaning_of
use Rattle.idl_tokens.specs.names.Scopes.{Names, meaning, with_name, with_absent}
use Rattle.idl_types.specs.declared.opened.Opened.{Opened}
use Rattle.idl_types.specs.Names.{ScopedName, number_of, module_of, module_in, scope_at, type_of, named_in, place_in, outward}
use Rattle.idl_types.specs.Inhabited.{TypesUpTo, LeadsUp, AboveFrom}

-- ---- names that are added

last_one : (c : Bool) (scope : ℕ) (name : Text) (e : (ℕ × Text) × Meaning) (x : Meaning) → (scope == e.0.0 && bytes_eq name e.0.1) ≡ c
    → cond c (Some e.1) None ≡ Some x → (scope ≡ e.0.0) × (e.1 ≡ x)
last_one true scope name e x test found = (eqb-true _ _ (and_parts _ _ test).0, cc)
last_one false scope name e x test found = absurd cc

earlier : (c : Bool) (m x : Meaning) (before after : Option Meaning) (P : Type 0) → (after ≡ Some x → (before ≡ Some x) ⊎ P)
    → cond c (Some m) after ≡ Some x → (cond c (Some m) before ≡ Some x) ⊎ P
earlier true m x before after P rest found = inl found
earlier false m x before after P rest found = rest found

-- what is found with a name added was found before, or is that name
found_before : (names : Names) (e : (ℕ × Text) × Meaning) (scope : ℕ) (name : Text) (x : Meaning) → meaning scope name (names ++ e ∷ []) ≡ Some x
    → (meaning scope name names ≡ Some x) ⊎ ((scope ≡ e.0.0) × (e.1 ≡ x))
found_before [] e scope name x found = inr (last_one _ scope name e x refl found)
found_before (n ∷ names) e scope name x found =
    earlier (scope == n.0.0 && bytes_eq name n.0.1) n.1 x (meaning scope name names) (meaning scope name (names ++ e ∷ [])) _ (found_before names e scope name x) found

types_added : (high scope : ℕ) (names : Names) (name : Text) (m : Meaning) → scope ≤ high → TypesUpTo high names → TypesUpTo high (names ++ ((scope, name), m) ∷ [])
types_added high scope names name m within types s n at found =
    ⊎_elim (types s n at) (λ new. let h : s ≡ scope = new.0 in omega arith) (found_before names _ s n _ found)

type_leads : (high scope at : ℕ) (names : Names) (name : Text) → LeadsUp high names → LeadsUp high (names ++ ((scope, name), meaning_of.Type at) ∷ [])
type_leads high scope at names name leads s n to found above =
    ⊎_elim (λ old. leads s n to old above) (λ new. let h : meaning_of.Type at ≡ meaning_of.Module to = new.1 in absurd cc) (found_before names _ s n _ found)

-- a module holds no type by itself
pub module_types : (high scope number : ℕ) (names : Names) (name : Text) → TypesUpTo high names → TypesUpTo high (names ++ ((scope, name), meaning_of.Module number) ∷ [])
module_types high scope number names name types s n at found =
    ⊎_elim (types s n at) (λ new. let h : meaning_of.Module number ≡ meaning_of.Type at = new.1 in absurd cc) (found_before names _ s n _ found)

pub module_leads : (high scope number : ℕ) (names : Names) (name : Text) → (high < scope → scope < number) → LeadsUp high names
    → LeadsUp high (names ++ ((scope, name), meaning_of.Module number) ∷ [])
module_leads high scope number names name up leads s n to found above =
    ⊎_elim (λ old. leads s n to old above)
    (λ new.
    let h : s ≡ scope = new.0 in
    let e : meaning_of.Module number ≡ meaning_of.Module to = new.1 in
    let f : number ≡ to = cc in
    let g : scope < number = up (omega arith) in
    omega arith)
    (found_before names _ s n _ found)

absent_types : (high scope at : ℕ) (names : Names) (name : Text) (there : Option Meaning) → scope ≤ high → TypesUpTo high names
    → TypesUpTo high (with_absent there names scope name (meaning_of.Type at))
absent_types high scope at names name (Some m) within types = types
absent_types high scope at names name None within types = types_added high scope names name (meaning_of.Type at) within types

-- with a type declared
pub declared_types : (high scope at : ℕ) (names : Names) (name : Text) → scope ≤ high → TypesUpTo high names → TypesUpTo high (with_name scope name (meaning_of.Type at) names)
declared_types high scope at names name within types = absent_types high scope at names name (meaning scope name names) within types

absent_leads : (high scope at : ℕ) (names : Names) (name : Text) (there : Option Meaning) → LeadsUp high names
    → LeadsUp high (with_absent there names scope name (meaning_of.Type at))
absent_leads high scope at names name (Some m) leads = leads
absent_leads high scope at names name None leads = type_leads high scope at names name leads

pub declared_leads : (high scope at : ℕ) (names : Names) (name : Text) → LeadsUp high names → LeadsUp high (with_name scope name (meaning_of.Type at) names)
declared_leads high scope at names name leads = absent_leads high scope at names name (meaning scope name names) leads

-- ---- look-ups

-- a scope above the highest, or none
abbrev Beyond : ℕ → Option ℕ → Type 0
Beyond high None = Unit {0}
Beyond high (Some scope) = high < scope

module_beyond : (high scope : ℕ) (names : Names) (name : Text) (found : Option Meaning) → LeadsUp high names → high < scope → meaning scope name names ≡ found → Beyond high (module_of found)
module_beyond high scope names name None leads above is = tt
module_beyond high scope names name (Some (meaning_of.Type at)) leads above is = tt
module_beyond high scope names name (Some (meaning_of.Module number)) leads above is = let h : scope < number = leads scope name number is above in omega arith

module_in_beyond : (high : ℕ) (at : Option ℕ) (names : Names) (name : Text) → LeadsUp high names → Beyond high at → Beyond high (module_in names at name)
module_in_beyond high None names name leads beyond = tt
module_in_beyond high (Some scope) names name leads beyond = module_beyond high scope names name _ leads beyond refl

scope_at_beyond : (high : ℕ) (names : Names) (path : List Text) (at : Option ℕ) → LeadsUp high names → Beyond high at → Beyond high (scope_at names path at)
scope_at_beyond high names [] at leads beyond = beyond
scope_at_beyond high names (s ∷ path) at leads beyond = scope_at_beyond high names path (module_in names at s) leads (module_in_beyond high at names s leads beyond)

no_type_there : (high scope : ℕ) (names : Names) (name : Text) (found : Option Meaning) → TypesUpTo high names → high < scope → meaning scope name names ≡ found → type_of found ≡ None
no_type_there high scope names name None types above is = refl
no_type_there high scope names name (Some (meaning_of.Type at)) types above is = let h : scope ≤ high = types scope name at is in absurd (omega arith)
no_type_there high scope names name (Some (meaning_of.Module number)) types above is = refl

named_beyond : (high : ℕ) (at : Option ℕ) (names : Names) (name : Text) → TypesUpTo high names → Beyond high at → named_in names at name ≡ None
named_beyond high None names name types beyond = refl
named_beyond high (Some scope) names name types beyond = no_type_there high scope names name _ types beyond refl

-- above the highest scope of a type no name means a type
pub place_beyond : (high scope : ℕ) (names : Names) (n : ScopedName) → TypesUpTo high names → LeadsUp high names → high < scope → place_in names n scope ≡ None
place_beyond high scope names n types leads above = named_beyond high _ names n.last types (scope_at_beyond high names n.path (Some scope) leads above)

-- a look-up outwards may begin at the modules that may hold types
pub outward_from : (inhabited high k : ℕ) (names : Names) (os : List Opened) (n : ScopedName) → TypesUpTo high names → LeadsUp high names → AboveFrom inhabited high os
    → inhabited ≤ k → k ≤ length os → outward names os n k ≡ outward names os n inhabited
outward_from inhabited high zero names os n types leads above from within = let e : zero ≡ inhabited = omega arith in ap (outward names os n) e
outward_from inhabited high (suc k) names os n types leads above from within =
    ⊎_elim (λ here. let e : suc k ≡ inhabited = omega arith in ap (outward names os n) e)
    (λ beyond.
    let none : place_in names n (number_of (slice_get os k)) ≡ None = place_beyond high _ names n types leads (above k (omega arith) (omega arith)) in
    ap (λ p. or_else p (outward names os n k)) none ∙ outward_from inhabited high k names os n types leads above (omega arith) (omega arith))
    (cases_lt k inhabited)
