-- What holds of the state at each place of a text.
use Rattle.std.proofs.Common.{◌≡◌, ℕ, zero, suc, ◌+◌, ◌-◌, ◌≤◌, ◌<◌, Bool, true, ◌&&◌, List, [], ◌∷◌, ◌++◌, length, take, Some, None, ◌⊎◌, inl, inr, refl, ap, ◌∙◌, subst, arith}
use Rattle.std.proofs.lemmas.List.{take_all, take-take, take-append-le, length-take, length_push, map_push}
use Rattle.std.proofs.lemmas.Bool.{and_parts, cases_lt}
use Rattle.std.proofs.lemmas.Option.{none-some, same_Some, slice_get_within}
use Rattle.std.specs.Prelude.{slice_get}
use Rattle.xt_shapes.specs.Lists.{all}
use Rattle.type_trees.specs.Trees.{Tree}
use Rattle.type_rules.specs.Valid.{type_fault}
use Rattle.idl_tokens.specs.Classes.{Text}
use Rattle.idl_tokens.specs.declared.names.scopes.Meaning.TheVariants as meaning_of
use Rattle.idl_tokens.specs.names.Scopes.{Names, meaning, with_name}
use Rattle.idl_types.specs.declared.opened.Opened.{Opened}
use Rattle.idl_types.specs.State.{State, Declared, start, with_type, with_module, without_module}
use Rattle.idl_types.specs.Names.{innermost, full_name, scope_at, scope_in, number_of, with_new_module}
use Rattle.idl_laws.specs.Printable.{parts, has_no_keyword, names_apart, IsDefinition}
use Rattle.idl_laws.proofs.Names.{is_free}
use Rattle.idl_laws.proofs.Meanings.{slice_get-behind, scope_push, scope_kept, found_kept, meaning_new}
use Rattle.idl_laws.proofs.OfParsed.Sound.{Sound, IsDeclared}
use Rattle.idl_laws.proofs.OfParsed.Joined.{names_of, parts_joined, joined_no_keyword, full_is}
use Rattle.idl_laws.proofs.OfParsed.Apart.{IsFound, IsNew, apart_from, apart_more}

-- open modules whose names lead to the innermost scope
pub record AreOpen (names : Names) (opened : List Opened) : Type 0 where
  pub free : all is_free (names_of opened) ≡ true
  pub leads : scope_at names (names_of opened) (Some 0) ≡ Some (innermost opened)

-- the identifiers of each type's name lead to a type
abbrev pub AllFound : Names → Declared → Type 0
AllFound names types = (at : ℕ) (d : Text × Tree) → slice_get types at ≡ Some d → IsFound names (parts d.0)

-- the names of the outermost modules, as many as that
abbrev pub AllOpen : Names → List Opened → Type 0
AllOpen names opened = (k : ℕ) → AreOpen names (take k opened)

pub record Holds (s : State) : Type 0 where
  pub sound : Sound s.types
  pub apart : names_apart s.types ≡ true
  pub found : AllFound s.names s.types
  pub open_modules : AllOpen s.names s.opened

-- ---- the start

none_open : (k : ℕ) → AreOpen [] (take k [])
none_open zero = record { free = refl; leads = refl }
none_open (suc k) = record { free = refl; leads = refl }

pub start_holds : Holds start
start_holds = record {
  sound = λ at full t e. absurd (none-some (full, t) e);
  apart = refl;
  found = λ at d e. absurd (none-some d e);
  open_modules = none_open;
}

-- ---- names that grow

found_still : (names more : Names) (ids : List Text) → IsFound names ids → IsFound (names ++ more) ids
found_still names more ids f = record { path = f.path; last = f.last; at = f.at; are = f.are; found = found_kept names more f.path f.last f.at f.found }

open_still : (names more : Names) (opened : List Opened) → AreOpen names opened → AreOpen (names ++ more) opened
open_still names more opened o = record { free = o.free; leads = scope_kept names more (names_of opened) (Some 0) (innermost opened) o.leads }

-- ---- a type

-- what holds at each place of a list, and of one more at its end
each_more : {A : Type 0} (P : ℕ → A → Type 0) (xs : List A) (x : A) → ((at : ℕ) (y : A) → slice_get xs at ≡ Some y → P at y) → P (length xs) x → (at : ℕ) (y : A) → slice_get (xs ++ x ∷ []) at ≡ Some y → P at y
each_more P [] x each last zero y e = subst (P 0) (same_Some x y e) last
each_more P [] x each last (suc at) y e = absurd (none-some y e)
each_more P (a ∷ xs) x each last zero y e = each 0 y e
each_more P (a ∷ xs) x each last (suc at) y e = each_more (λ k. P (suc k)) xs x (λ k. each (suc k)) last at y e

declared_still : (types more : Declared) (at : ℕ) (full : Text) (t : Tree) → at ≤ length types → IsDeclared types at full t → IsDeclared (types ++ more) at full t
declared_still types more at full t within d = record { valid = d.valid; no_keyword = d.no_keyword; defined = rw (take-append-le at types more within) d.defined }

below : (n k : ℕ) → n < k → n ≤ k
below n k h = omega arith

sound_more : (types : Declared) (d : Text × Tree) → Sound types → IsDeclared types (length types) d.0 d.1 → Sound (types ++ d ∷ [])
sound_more types d sound last at full t =
    each_more (λ k e. IsDeclared (types ++ d ∷ []) k e.0 e.1) types d
    (λ k e is. declared_still types (d ∷ []) k e.0 e.1 (below k (length types) (slice_get_within types k e is)) (sound k e.0 e.1 is))
    (declared_still types (d ∷ []) (length types) d.0 d.1 (omega arith) last) at (full, t)

-- a new name in the innermost module
pub record IsNewType (s : State) (name : Text) (t : Tree) : Type 0 where
  pub free : is_free name ≡ true
  pub new : meaning (innermost s.opened) name s.names ≡ None
  pub valid : type_fault t ≡ None
  pub defined : IsDefinition s.types (full_name s.opened name) t

all_open : (names : Names) (opened : List Opened) → AllOpen names opened → AreOpen names opened
all_open names opened each = subst (AreOpen names) (take_all (length opened) opened (omega arith)) (each (length opened))

full_free : (names : Names) (opened : List Opened) (name : Text) → AreOpen names opened → is_free name ≡ true → (all is_free (names_of opened) && is_free name) ≡ true
full_free names opened name o free = rw (o.free, free) refl

full_parts : (names : Names) (opened : List Opened) (name : Text) → AreOpen names opened → is_free name ≡ true → parts (full_name opened name) ≡ names_of opened ++ name ∷ []
full_parts names opened name o free = ap parts (full_is opened name) ∙ parts_joined (names_of opened) name (full_free names opened name o free)

full_no_keyword : (names : Names) (opened : List Opened) (name : Text) → AreOpen names opened → is_free name ≡ true → has_no_keyword (full_name opened name) ≡ true
full_no_keyword names opened name o free = ap has_no_keyword (full_is opened name) ∙ joined_no_keyword (names_of opened) name (full_free names opened name o free)

is_new : (names : Names) (opened : List Opened) (name : Text) → AreOpen names opened → meaning (innermost opened) name names ≡ None → IsNew names (names_of opened) name
is_new names opened name o new = record { into = innermost opened; leads = o.leads; new = new }

-- the names with a new type's
abbrev with_new_type : Names → ℕ → Text → ℕ → Names
with_new_type names into name at = names ++ ((into, name), meaning_of.Type at) ∷ []

type_found : (names : Names) (path : List Text) (into : ℕ) (name : Text) (at : ℕ) → scope_at names path (Some 0) ≡ Some into → meaning into name names ≡ None → IsFound (with_new_type names into name at) (path ++ name ∷ [])
type_found names path into name at leads new = record {
  path = path;
  last = name;
  at = at;
  are = refl;
  found = rw (scope_kept names (((into, name), meaning_of.Type at) ∷ []) path (Some 0) into leads, meaning_new into name names (meaning_of.Type at) new) refl;
}

added_type : (names : Names) (into : ℕ) (name : Text) (at : ℕ) → meaning into name names ≡ None → with_name into name (meaning_of.Type at) names ≡ with_new_type names into name at
added_type names into name at new = rw new refl

pub type_holds : (s : State) (name : Text) (t : Tree) → Holds s → IsNewType s name t → Holds (with_type (innermost s.opened) name (full_name s.opened name) t s)
type_holds s name t h n = record {
  sound = sound_more s.types (full, t) h.sound declared_here;
  apart = apart_more s.types (full, t) h.apart (λ at e is. apart_from s.names (names_of s.opened) name e.0 full (is_new s.names s.opened name open_here n.new) are (h.found at e is));
  found = rw names_are (each_more (λ at e. IsFound names (parts e.0)) s.types (full, t) (λ at e is. found_still s.names added (parts e.0) (h.found at e is)) own);
  open_modules = λ k. rw names_are (open_still s.names added (take k s.opened) (h.open_modules k));
}
  where
    full : Text
    full = full_name s.opened name

    added : Names
    added = ((innermost s.opened, name), meaning_of.Type (length s.types)) ∷ []

    names : Names
    names = s.names ++ added

    names_are : with_name (innermost s.opened) name (meaning_of.Type (length s.types)) s.names ≡ names
    names_are = added_type s.names (innermost s.opened) name (length s.types) n.new

    open_here : AreOpen s.names s.opened
    open_here = all_open s.names s.opened h.open_modules

    are : parts full ≡ names_of s.opened ++ name ∷ []
    are = full_parts s.names s.opened name open_here n.free

    declared_here : IsDeclared s.types (length s.types) full t
    declared_here = record { valid = n.valid; no_keyword = full_no_keyword s.names s.opened name open_here n.free; defined = rw (take_all (length s.types) s.types (omega arith)) n.defined }

    own : IsFound names (parts full)
    own = rw are (type_found s.names (names_of s.opened) (innermost s.opened) name (length s.types) open_here.leads n.new)

-- ---- modules

innermost_push : (opened : List Opened) (o : Opened) → innermost (opened ++ o ∷ []) ≡ o.number
innermost_push opened o =
    let e : length (opened ++ o ∷ []) ≡ suc (length opened) = omega (arith, length_push opened o) in
    ap (scope_in (opened ++ o ∷ [])) e ∙ ap number_of (slice_get-behind opened [] o)

all_push : (f : Text → Bool) (xs : List Text) (x : Text) → all f xs ≡ true → f x ≡ true → all f (xs ++ x ∷ []) ≡ true
all_push f [] x each last = rw last refl
all_push f (y ∷ xs) x each last = let both = and_parts (f y) (all f xs) each in rw both.0 (all_push f xs x both.1 last)

open_more : (names : Names) (opened : List Opened) (o : Opened) → AreOpen names opened → is_free o.name ≡ true → meaning (innermost opened) o.name names ≡ Some (meaning_of.Module o.number) → AreOpen names (opened ++ o ∷ [])
open_more names opened o before free means = record {
  free = rw (map_push (λ (m : Opened). m.name) opened o) (all_push is_free (names_of opened) o.name before.free free);
  leads = rw (map_push (λ (m : Opened). m.name) opened o, scope_push names (names_of opened) o.name (Some 0), before.leads, means, innermost_push opened o) refl;
}

each_open : (names : Names) (opened : List Opened) (o : Opened) → AllOpen names opened → AreOpen names (opened ++ o ∷ []) → AllOpen names (opened ++ o ∷ [])
each_open names opened o before last k = by (cases_lt (length opened) k)
  where
    by : (length opened < k) ⊎ (k ≤ length opened) → AreOpen names (take k (opened ++ o ∷ []))
    by (inl behind) = rw (take_all k (opened ++ o ∷ []) (omega (arith, length_push opened o))) last
    by (inr within) = rw (take-append-le k opened (o ∷ []) within) (before k)

pub module_holds : (s : State) (number : ℕ) (name : Text) → Holds s → is_free name ≡ true → meaning (innermost s.opened) name s.names ≡ Some (meaning_of.Module number) → Holds (with_module number name s)
module_holds s number name h free means = record {
  sound = h.sound;
  apart = h.apart;
  found = h.found;
  open_modules = each_open s.names s.opened o h.open_modules (open_more s.names s.opened o (all_open s.names s.opened h.open_modules) free means);
}
  where
    o : Opened
    o = record { number = number; name = name }

names_hold : (s : State) (more : Names) → Holds s → Holds (record s { names = s.names ++ more })
names_hold s more h = record {
  sound = h.sound;
  apart = h.apart;
  found = λ at d is. found_still s.names more (parts d.0) (h.found at d is);
  open_modules = λ k. open_still s.names more (take k s.opened) (h.open_modules k);
}

pub new_module_holds : (s : State) (name : Text) → Holds s → is_free name ≡ true → meaning (innermost s.opened) name s.names ≡ None → Holds (with_new_module name s)
new_module_holds s name h free new =
    let number = length s.names + 1 in
    let more = ((innermost s.opened, name), meaning_of.Module number) ∷ [] in
    module_holds (record s { names = s.names ++ more }) number name (names_hold s more h) free (meaning_new (innermost s.opened) name s.names (meaning_of.Module number) new)

-- fewer of the modules
fewer_open : (names : Names) (opened : List Opened) (n : ℕ) → AllOpen names opened → AllOpen names (take n opened)
fewer_open names opened n each k = by (cases_lt n k)
  where
    by : (n < k) ⊎ (k ≤ n) → AreOpen names (take k (take n opened))
    by (inl behind) = rw (take_all k (take n opened) (omega (arith, length-take n opened))) (each n)
    by (inr within) = rw (take-take k n opened within) (each k)

pub closed_holds : (s : State) → Holds s → Holds (without_module s)
closed_holds s h = record { sound = h.sound; apart = h.apart; found = h.found; open_modules = fewer_open s.names s.opened (length s.opened - 1) h.open_modules }
