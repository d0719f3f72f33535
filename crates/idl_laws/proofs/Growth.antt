-- A type and a module that come to count, by what names mean then.
use Rattle.std.proofs.Common.{◌≡◌, ℕ, ◌+◌, ◌≤◌, ◌<◌, Bool, true, false, cond, eqb, List, [], ◌∷◌, ◌++◌, length, Some, None, ◌⊎◌, inl, inr, refl, sym, ap, ◌∙◌, subst, arith}
use Rattle.std.proofs.lemmas.List.{length_push, same_from_push}
use Rattle.std.proofs.lemmas.Bool.{eqb-true, eq-eqb, cases_lt}
use Rattle.std.proofs.lemmas.Option.{same_Some}
use Rattle.std.specs.Prelude.{slice_get}
use Rattle.type_trees.specs.Trees.{Tree}
use Rattle.idl_tokens.specs.Classes.{Text}
use Rattle.idl_tokens.specs.declared.names.scopes.Meaning.{Meaning}
use Rattle.idl_tokens.specs.declared.names.scopes.Meaning.TheVariants as meaning_of
use Rattle.idl_tokens.specs.names.Scopes.{Names, meaning}
use Rattle.idl_types.specs.Names.{scope_at, named_in}
use Rattle.idl_types.specs.State.{Declared}
use Rattle.idl_laws.specs.Printable.{parts}
use Rattle.idl_laws.proofs.Meanings.{Added, meaning_added, meaning_new, scope_kept, found_kept, IsModule, Explains, Known, Leads, leads}

-- ---- a type

explains_more : (ds : Declared) (of : ℕ → List Text) (types numbers : ℕ) (path : List Text) (m : Meaning) → Explains ds of types numbers path m → Explains ds of (types + 1) (numbers + 1) path m
explains_more ds of types numbers path (meaning_of.Type at) e = (omega (arith, e.0), e.1)
explains_more ds of types numbers path (meaning_of.Module n) e = (record { some = e.0.some; known = omega (arith, e.0.known); is = e.0.is }, e.1)

abbrev typed_names : Names → ℕ → Text → ℕ → Names
typed_names names scope last types = names ++ ((scope, last), meaning_of.Type types) ∷ []

type_explained : (ds : Declared) (types : ℕ) (names : Names) (known : Known ds types names) (path : List Text) (into : ℕ) (last : Text) (d : Text × Tree) → scope_at names path (Some 0) ≡ Some into → slice_get ds types ≡ Some d → parts d.0 ≡ path ++ last ∷ [] → (scope : ℕ) (name : Text) (m : Meaning) → meaning scope name (typed_names names into last types) ≡ Some m → (scope ≤ length names + 1) × Explains ds known.of (types + 1) (length names + 1) (known.of scope ++ name ∷ []) m
type_explained ds types names known path into last d leads_to stands named scope name m e = by (meaning_added scope into name last names m (meaning_of.Type types) e)
  where
    here : Leads known.of into (length names) path
    here = leads ds types names known path into leads_to

    own : Explains ds known.of (types + 1) (length names + 1) (known.of into ++ last ∷ []) (meaning_of.Type types)
    own = (omega arith, record { d = d; stands = stands; named = named ∙ ap (λ p. p ++ last ∷ []) (sym here.is) })

    by : (meaning scope name names ≡ Some m) ⊎ Added scope into name last m (meaning_of.Type types) → (scope ≤ length names + 1) × Explains ds known.of (types + 1) (length names + 1) (known.of scope ++ name ∷ []) m
    by (inl old) =
        let before = known.explained scope name m old in
        (omega (arith, before.0), explains_more ds known.of types (length names) (known.of scope ++ name ∷ []) m before.1)
    by (inr new) =
        let within : scope ≤ length names + 1 = omega (arith, new.same_scope, here.known) in
        (within, rw (new.same_scope, new.same_name, ← new.same_meaning) own)

type_found : (ds : Declared) (types : ℕ) (names : Names) (known : Known ds types names) (path : List Text) (into : ℕ) (last : Text) (d : Text × Tree) → scope_at names path (Some 0) ≡ Some into → meaning into last names ≡ None → slice_get ds types ≡ Some d → parts d.0 ≡ path ++ last ∷ [] → (k : ℕ) (e : Text × Tree) (other : List Text) (s : Text) → k < types + 1 → slice_get ds k ≡ Some e → parts e.0 ≡ other ++ s ∷ [] → named_in (typed_names names into last types) (scope_at (typed_names names into last types) other (Some 0)) s ≡ Some k
type_found ds types names known path into last d leads_to new stands named k e other s less at is = by (cases_lt k types)
  where
    own : named_in (typed_names names into last types) (scope_at (typed_names names into last types) path (Some 0)) last ≡ Some types
    own = rw (scope_kept names (((into, last), meaning_of.Type types) ∷ []) path (Some 0) into leads_to, meaning_new into last names (meaning_of.Type types) new) refl

    by : (k < types) ⊎ (types ≤ k) → named_in (typed_names names into last types) (scope_at (typed_names names into last types) other (Some 0)) s ≡ Some k
    by (inl before) = found_kept names (((into, last), meaning_of.Type types) ∷ []) other s k (known.found k e other s before at is)
    by (inr after) =
        let same : k ≡ types = omega arith in
        let one : e ≡ d = same_Some e d (sym at ∙ ap (slice_get ds) same ∙ stands) in
        let ends = same_from_push other path s last (sym is ∙ ap (λ (x : Text × Tree). parts x.0) one ∙ named) in
        rw (ends.0, ends.1, same) own

pub with_known_type : (ds : Declared) (types : ℕ) (names : Names) (known : Known ds types names) (path : List Text) (into : ℕ) (last : Text) (d : Text × Tree) → scope_at names path (Some 0) ≡ Some into → meaning into last names ≡ None → slice_get ds types ≡ Some d → parts d.0 ≡ path ++ last ∷ [] → Known ds (types + 1) (names ++ ((into, last), meaning_of.Type types) ∷ [])
with_known_type ds types names known path into last d leads_to new stands named = record {
  of = known.of;
  outermost = known.outermost;
  explained = λ scope name m e. rw length_push (type_explained ds types names known path into last d leads_to stands named scope name m e);
  found = type_found ds types names known path into last d leads_to new stands named;
}

-- ---- a module

-- the paths of scopes, with that of a new one
abbrev with_path : (ℕ → List Text) → ℕ → List Text → ℕ → List Text
with_path of number path n = cond (eqb n number) path (of n)

path_kept : (of : ℕ → List Text) (number : ℕ) (path : List Text) (n : ℕ) → n < number → with_path of number path n ≡ of n
path_kept of number path n less = by (eqb n number) refl
  where
    by : (t : Bool) → eqb n number ≡ t → cond t path (of n) ≡ of n
    by true e = let same = eqb-true n number e in absurd (omega arith)
    by false e = refl

path_new : (of : ℕ → List Text) (number : ℕ) (path : List Text) → with_path of number path number ≡ path
path_new of number path = rw (eq-eqb number number refl) refl

explains_else : (ds : Declared) (of with_new : ℕ → List Text) (types numbers : ℕ) (path : List Text) (m : Meaning) → ((n : ℕ) → n ≤ numbers → with_new n ≡ of n) → Explains ds of types numbers path m → Explains ds with_new types (numbers + 1) path m
explains_else ds of with_new types numbers path (meaning_of.Type at) same e = e
explains_else ds of with_new types numbers path (meaning_of.Module n) same e = (record { some = e.0.some; known = omega (arith, e.0.known); is = same n e.0.known ∙ e.0.is }, e.1)

abbrev paths_with : (ℕ → List Text) → Names → List Text → ℕ → List Text
paths_with of names path = with_path of (length names + 1) path

abbrev module_names : Names → ℕ → Text → Names
module_names names into new = names ++ ((into, new), meaning_of.Module (length names + 1)) ∷ []

module_explained : (ds : Declared) (types : ℕ) (names : Names) (known : Known ds types names) (path : List Text) (into : ℕ) (new : Text) → scope_at names path (Some 0) ≡ Some into → IsModule ds (path ++ new ∷ []) → (scope : ℕ) (name : Text) (m : Meaning) → meaning scope name (module_names names into new) ≡ Some m → (scope ≤ length names + 1) × Explains ds (paths_with known.of names (path ++ new ∷ [])) types (length names + 1) (paths_with known.of names (path ++ new ∷ []) scope ++ name ∷ []) m
module_explained ds types names known path into new leads_to is_module scope name m e = by (meaning_added scope into name new names m (meaning_of.Module (length names + 1)) e)
  where
    here : Leads known.of into (length names) path
    here = leads ds types names known path into leads_to

    same : (n : ℕ) → n ≤ length names → paths_with known.of names (path ++ new ∷ []) n ≡ known.of n
    same n within = path_kept known.of (length names + 1) (path ++ new ∷ []) n (omega arith)

    into_is : paths_with known.of names (path ++ new ∷ []) into ≡ path
    into_is = same into here.known ∙ here.is

    own : Explains ds (paths_with known.of names (path ++ new ∷ [])) types (length names + 1) (paths_with known.of names (path ++ new ∷ []) into ++ new ∷ []) (meaning_of.Module (length names + 1))
    own =
        let is = path_new known.of (length names + 1) (path ++ new ∷ []) ∙ ap (λ p. p ++ new ∷ []) (sym into_is) in
        (record { some = omega arith; known = omega arith; is = is }, subst (λ p. IsModule ds (p ++ new ∷ [])) (sym into_is) is_module)

    by : (meaning scope name names ≡ Some m) ⊎ Added scope into name new m (meaning_of.Module (length names + 1)) → (scope ≤ length names + 1) × Explains ds (paths_with known.of names (path ++ new ∷ [])) types (length names + 1) (paths_with known.of names (path ++ new ∷ []) scope ++ name ∷ []) m
    by (inl old) =
        let before = known.explained scope name m old in
        (omega (arith, before.0), rw (same scope before.0) (explains_else ds known.of (paths_with known.of names (path ++ new ∷ [])) types (length names) (known.of scope ++ name ∷ []) m same before.1))
    by (inr added) =
        let within : scope ≤ length names + 1 = omega (arith, added.same_scope, here.known) in
        (within, rw (added.same_scope, added.same_name, ← added.same_meaning) own)

pub with_known_module : (ds : Declared) (types : ℕ) (names : Names) (known : Known ds types names) (path : List Text) (into : ℕ) (new : Text) → scope_at names path (Some 0) ≡ Some into → IsModule ds (path ++ new ∷ []) → Known ds types (names ++ ((into, new), meaning_of.Module (length names + 1)) ∷ [])
with_known_module ds types names known path into new leads_to is_module = record {
  of = paths_with known.of names (path ++ new ∷ []);
  outermost = path_kept known.of (length names + 1) (path ++ new ∷ []) 0 (omega arith) ∙ known.outermost;
  explained = λ scope name m e. rw length_push (module_explained ds types names known path into new leads_to is_module scope name m e);
  found = λ k d other s less at is. found_kept names (((into, new), meaning_of.Module (length names + 1)) ∷ []) other s k (known.found k d other s less at is);
}
