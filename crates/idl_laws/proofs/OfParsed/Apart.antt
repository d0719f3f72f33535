-- A name that is new where modules lead is apart from the names that are found.
use Rattle.std.proofs.Common.{◌≡◌, ℕ, suc, Bool, true, false, List, [], ◌∷◌, ◌++◌, Option, Some, None, ◌⊎◌, inl, inr, refl, sym, ap, ◌∙◌, true≢false, append_assoc}
use Rattle.std.proofs.lemmas.Bool.{and_parts}
use Rattle.std.proofs.lemmas.Slice.Eq.{bytes_eq-Decides}
use Rattle.std.proofs.lemmas.Option.{none-some}
use Rattle.std.specs.Prelude.{slice_get}
use Rattle.std.specs.Str.{bytes_eq}
use Rattle.xt_shapes.specs.Lists.{all}
use Rattle.type_trees.specs.Trees.{Tree}
use Rattle.idl_tokens.specs.Classes.{Text}
use Rattle.idl_tokens.specs.declared.names.scopes.Meaning.{Meaning}
use Rattle.idl_tokens.specs.declared.names.scopes.Meaning.TheVariants as meaning_of
use Rattle.idl_tokens.specs.names.Scopes.{Names, meaning}
use Rattle.idl_types.specs.Names.{type_of, module_of, module_in, scope_at, named_in}
use Rattle.idl_types.specs.State.{Declared}
use Rattle.idl_laws.specs.Printable.{parts, begins_with, are_apart, names_apart}

-- an identifier is found as the type at that place, where a path of modules leads
abbrev pub Finds : Names → List Text → Text → ℕ → Type 0
Finds names path last at = named_in names (scope_at names path (Some 0)) last ≡ Some at

-- identifiers that lead to a type
pub record IsFound (names : Names) (ids : List Text) : Type 0 where
  pub path : List Text
  pub last : Text
  pub at : ℕ
  pub are : ids ≡ path ++ last ∷ []
  pub found : Finds names path last at

-- identifiers of which the last one is new where the others lead
pub record IsNew (names : Names) (path : List Text) (last : Text) : Type 0 where
  pub into : ℕ
  pub leads : scope_at names path (Some 0) ≡ Some into
  pub new : meaning into last names ≡ None

-- ---- lists of identifiers

-- what is left behind a beginning
record Rest (p q : List Text) : Type 0 where
  more : List Text
  is : q ≡ p ++ more

rest : (p q : List Text) → begins_with p q ≡ true → Rest p q
rest [] q e = record { more = q; is = refl }
rest (s ∷ ss) [] e = absurd (true≢false (sym e))
rest (s ∷ ss) (n ∷ ns) e =
    let both = and_parts (bytes_eq s n) (begins_with ss ns) e in
    let on = rest ss ns both.1 in
    let same : n ≡ s = sym ((bytes_eq-Decides s n).0 both.0) in
    record { more = on.more; is = ap (λ t. t ∷ ns) same ∙ ap (λ ts. s ∷ ts) on.is }

-- one list has the other and an identifier as its beginning
record Longer (p : List Text) (l : Text) (path : List Text) : Type 0 where
  more : List Text
  is : path ≡ p ++ l ∷ more

-- a list that begins with another one and an identifier, but for its last identifier or as a whole
begins_so : (p : List Text) (l : Text) (more path : List Text) (last : Text) → path ++ last ∷ [] ≡ p ++ l ∷ more → ((p ≡ path) × (l ≡ last)) ⊎ Longer p l path
begins_so [] l more [] last e = inl (refl, (cc))
begins_so [] l more (x ∷ path) last e = inr (record { more = path; is = (cc) })
begins_so (a ∷ []) l more [] last e = cc
begins_so (a ∷ b ∷ p) l more [] last e = cc
begins_so (a ∷ p) l more (x ∷ path) last e = by (begins_so p l more path last (cc))
  where
    same : a ≡ x
    same = cc

    by : ((p ≡ path) × (l ≡ last)) ⊎ Longer p l path → ((a ∷ p ≡ x ∷ path) × (l ≡ last)) ⊎ Longer (a ∷ p) l (x ∷ path)
    by (inl is) = inl (rw (same, is.0) refl, is.1)
    by (inr on) = inr (record { more = on.more; is = rw same (ap (λ ts. x ∷ ts) on.is) })

-- ---- lookups

scope_append : (names : Names) (p q : List Text) (o : Option ℕ) → scope_at names (p ++ q) o ≡ scope_at names q (scope_at names p o)
scope_append names [] q o = refl
scope_append names (s ∷ p) q o = scope_append names p q (module_in names o s)

scope_none : (names : Names) (path : List Text) → scope_at names path None ≡ None
scope_none names [] = refl
scope_none names (s ∷ ss) = scope_none names ss

type_is_none : (m : Option Meaning) (at : ℕ) → type_of m ≡ Some at → module_of m ≡ None
type_is_none None at e = refl
type_is_none (Some (meaning_of.Type k)) at e = refl
type_is_none (Some (meaning_of.Module k)) at e = absurd (none-some at e)

-- what is found as a type is no module
type_no_module : (names : Names) (o : Option ℕ) (s : Text) (at : ℕ) → named_in names o s ≡ Some at → module_in names o s ≡ None
type_no_module names None s at e = refl
type_no_module names (Some k) s at e = type_is_none (meaning k s names) at e

-- no module's path goes on from a type
no_further : (names : Names) (p : List Text) (l : Text) (more : List Text) (at k : ℕ) → Finds names p l at → scope_at names (p ++ l ∷ more) (Some 0) ≡ Some k → ⊥
no_further names p l more at k found leads =
    let none = type_no_module names (scope_at names p (Some 0)) l at found in
    none-some k (sym (scope_none names more) ∙ ap (scope_at names more) (sym none) ∙ sym (scope_append names p (l ∷ more) (Some 0)) ∙ leads)

-- ---- names that are apart

not_same : (names : Names) (p path : List Text) (l last : Text) (at : ℕ) → IsNew names path last → p ≡ path → l ≡ last → Finds names p l at → ⊥
not_same names p path l last at new same_path same_last found =
    none-some at (rw (same_path, same_last, new.leads, new.new) at found)

not_before : (names : Names) (p path : List Text) (l last : Text) (at : ℕ) (more : List Text) → IsNew names path last → Finds names p l at → path ++ last ∷ [] ≡ p ++ l ∷ more → ⊥
not_before names p path l last at more new found is = by (begins_so p l more path last is)
  where
    by : ((p ≡ path) × (l ≡ last)) ⊎ Longer p l path → ⊥
    by (inl same) = not_same names p path l last at new same.0 same.1 found
    by (inr on) = no_further names p l on.more at new.into found (rw on.is at new.leads)

not_behind : (names : Names) (p path : List Text) (l last : Text) (at : ℕ) (more : List Text) → IsNew names path last → Finds names p l at → p ++ l ∷ [] ≡ path ++ last ∷ more → ⊥
not_behind names p path l last at more new found is = by (begins_so path last more p l is)
  where
    by : ((path ≡ p) × (last ≡ l)) ⊎ Longer path last p → ⊥
    by (inl same) = not_same names p path l last at new (sym same.0) (sym same.1) found
    by (inr on) = none-some at (rw (on.is, scope_append names path (last ∷ on.more) (Some 0), new.leads, new.new, scope_none names on.more) at found)

no_beginning : (p q : List Text) → ((more : List Text) → q ≡ p ++ more → ⊥) → begins_with p q ≡ false
no_beginning p q never = by (begins_with p q) refl
  where
    by : (t : Bool) → begins_with p q ≡ t → begins_with p q ≡ false
    by false e = e
    by true e = let r = rest p q e in absurd (never r.more r.is)

none_before : (names : Names) (p path : List Text) (l last : Text) (at : ℕ) → IsNew names path last → Finds names p l at → begins_with (p ++ l ∷ []) (path ++ last ∷ []) ≡ false
none_before names p path l last at new found =
    no_beginning (p ++ l ∷ []) (path ++ last ∷ []) (λ more is. not_before names p path l last at more new found (is ∙ append_assoc p (l ∷ []) more))

none_behind : (names : Names) (p path : List Text) (l last : Text) (at : ℕ) → IsNew names path last → Finds names p l at → begins_with (path ++ last ∷ []) (p ++ l ∷ []) ≡ false
none_behind names p path l last at new found =
    no_beginning (path ++ last ∷ []) (p ++ l ∷ []) (λ more is. not_behind names p path l last at more new found (is ∙ append_assoc path (last ∷ []) more))

pub apart_from : (names : Names) (path : List Text) (last a full : Text) → IsNew names path last → parts full ≡ path ++ last ∷ [] → IsFound names (parts a) → are_apart a full ≡ true
apart_from names path last a full new is f =
    rw (is, f.are, none_before names f.path path f.last last f.at new f.found, none_behind names f.path path f.last last f.at new f.found) refl

-- ---- a list of types with one more

apart_all : (a : Text) (ds : Declared) (d : Text × Tree) → all (λ e. are_apart a e.0) ds ≡ true → are_apart a d.0 ≡ true → all (λ e. are_apart a e.0) (ds ++ d ∷ []) ≡ true
apart_all a [] d before last = rw last refl
apart_all a (e ∷ ds) d before last = let both = and_parts (are_apart a e.0) (all (λ x. are_apart a x.0) ds) before in rw both.0 (apart_all a ds d both.1 last)

pub apart_more : (ds : Declared) (d : Text × Tree) → names_apart ds ≡ true → ((at : ℕ) (e : Text × Tree) → slice_get ds at ≡ Some e → are_apart e.0 d.0 ≡ true) → names_apart (ds ++ d ∷ []) ≡ true
apart_more [] d before each = refl
apart_more (e ∷ ds) d before each =
    let both = and_parts (all (λ x. are_apart e.0 x.0) ds) (names_apart ds) before in
    rw (apart_all e.0 ds d both.0 (each 0 e refl)) (apart_more ds d both.1 (λ at. each (suc at)))
