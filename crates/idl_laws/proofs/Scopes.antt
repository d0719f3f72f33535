-- What names mean while a printed list is read: each type that stands before is found by its full name.
use Rattle.std.proofs.Common.{◌≡◌, ℕ, zero, suc, ◌+◌, ◌-◌, true, false, ◌&&◌, List, [], ◌∷◌, ◌++◌, length, map, Option, Some, None, refl, sym, ap, ◌∙◌, subst, append_assoc, arith}
use Rattle.std.proofs.lemmas.List.{append-nil, length_push, map_push, nil_from_length, length-take-le, length-map}
use Rattle.std.proofs.lemmas.Option.{slice_get_within, none-some, same_Some}
use Rattle.std.specs.Prelude.{slice_get, codes}
use Rattle.xt_shapes.specs.Lists.{all}
use Rattle.type_trees.specs.Trees.{Tree}
use Rattle.idl_tokens.specs.Classes.{Text}
use Rattle.idl_tokens.specs.Tokens.{skip}
use Rattle.idl_tokens.specs.declared.names.scopes.Meaning.{Meaning}
use Rattle.idl_tokens.specs.declared.names.scopes.Meaning.TheVariants as meaning_of
use Rattle.idl_tokens.specs.names.Scopes.{Names, meaning, with_name}
use Rattle.idl_types.specs.declared.opened.Opened.{Opened}
use Rattle.idl_types.specs.State.{State, Declared, start, with_type, with_module, without_module, outer}
use Rattle.idl_types.specs.Names.{innermost, full_name, type_by_name, scope_at, named_in, meant, a_name, with_new_module, scope_in, number_of}
use Rattle.idl_laws.specs.Printable.{Stands, names_apart, parts}
use Rattle.idl_laws.proofs.Fronts.{skip_blank}
use Rattle.idl_laws.proofs.Steps.{Reads}
use Rattle.idl_laws.proofs.Names.{Spelt, joined, openings, endings, EndsName, scoped_read, is_free, free_parts}
use Rattle.idl_laws.proofs.Items.{Runs, runs_none, runs_on}
use Rattle.idl_laws.proofs.Meanings.{slice_get-append, slice_get-behind, scope_push, scope_kept, meaning_new, IsModule, Known, known_none, no_type, is_new}
use Rattle.idl_laws.proofs.Growth.{with_known_type, with_known_module}
use Rattle.idl_laws.proofs.Modules.{opening, new_run, again_run, end_run}

-- each type that is declared is read by its full name
abbrev pub Knows : State → Type 0
Knows s = (full : Text) (t : Tree) → Stands s.types full t → (text rest : Text) → skip text ≡ skip (58 ∷ 58 ∷ full ++ rest) → EndsName rest → Reads (type_by_name s) text t rest

-- all full names of a list
abbrev pub EachSpelt : Declared → Type 0
EachSpelt [] = Unit {0}
EachSpelt (d ∷ ds) = Spelt d.0 × EachSpelt ds

-- the modules of this path are open, and it leads to the innermost scope
pub record IsOpen (names : Names) (path : List Text) (opened : List Opened) : Type 0 where
  pub named : map (λ (o : Opened). o.name) opened ≡ path
  pub leads : scope_at names path (Some 0) ≡ Some (innermost opened)

-- While the list `ds` is read: the types so far are its beginning, and modules of this path are open. Names mean the modules of the list's
-- names, and the types so far.
pub record Within (ds : Declared) (path : List Text) (s : State) : Type 0 where
  pub later : Declared
  pub parts : ds ≡ s.types ++ later
  pub known : Known ds (length s.types) s.names
  pub open_path : IsOpen s.names path s.opened

pub start_within : (ds : Declared) → names_apart ds ≡ true → EachSpelt ds → Within ds [] start
start_within ds apart spelt = record { later = ds; parts = refl; known = known_none ds; open_path = record { named = refl; leads = refl } }

-- ---- a type by its name

spelt_at : (ds : Declared) (k : ℕ) (d : Text × Tree) → EachSpelt ds → slice_get ds k ≡ Some d → Spelt d.0
spelt_at [] k d spelt is = absurd (none-some d is)
spelt_at (e ∷ ds) zero d spelt is = subst (λ (x : Text × Tree). Spelt x.0) (same_Some e d is) spelt.0
spelt_at (e ∷ ds) (suc k) d spelt is = spelt_at ds k d spelt.1 is

meant_is : (s : State) (path : List Text) (last full : Text) (t : Tree) (k : ℕ) → named_in s.names (scope_at s.names path (Some 0)) last ≡ Some k → slice_get s.types k ≡ Some (full, t) → meant s (a_name true path last) ≡ Some t
unfolding meant
meant_is s path last full t k found stands = rw (found, stands) refl

name_read : (s : State) (full : Text) (t : Tree) (n : Spelt full) → meant s (a_name true n.path n.last) ≡ Some t → (text rest : Text) → skip text ≡ skip (58 ∷ 58 ∷ full ++ rest) → EndsName rest → Reads (type_by_name s) text t rest
unfolding type_by_name
name_read s full t n means text rest begins over size = rw (scoped_read n text rest begins over size, means) refl

pub knows : (ds : Declared) (path : List Text) (s : State) → names_apart ds ≡ true → EachSpelt ds → Within ds path s → Knows s
knows ds path s apart spelt within full t stands text rest begins over =
    let k = stands.0 in
    let here : slice_get ds k ≡ Some (full, t) = rw within.parts (slice_get-append s.types within.later k (full, t) stands.1) in
    let n : Spelt full = spelt_at ds k (full, t) spelt here in
    let found = within.known.found k (full, t) n.path n.last (slice_get_within s.types k (full, t) stands.1) here n.parted in
    name_read s full t n (meant_is s n.path n.last full t k found stands.1) text rest begins over

-- ---- modules are opened

-- the modules of the next type's name are opened
pub record Opens (ds : Declared) (path : List Text) (s : State) (text rest : Text) : Type 0 where
  pub new : State
  pub within : Within ds path new
  pub same : new.types ≡ s.types
  pub left : Text
  pub begins : skip left ≡ skip rest
  pub runs : Runs s text new left

innermost_push : (os : List Opened) (o : Opened) → innermost (os ++ o ∷ []) ≡ o.number
innermost_push os o =
    let e : length (os ++ o ∷ []) ≡ suc (length os) = omega (arith, length_push os o) in
    ap (scope_in (os ++ o ∷ [])) e ∙ ap number_of (slice_get-behind os [] o)

-- one more module is open
open_more : (names : Names) (path : List Text) (opened : List Opened) (x : Text) (number : ℕ) → IsOpen names path opened → meaning (innermost opened) x names ≡ Some (meaning_of.Module number) → IsOpen names (path ++ x ∷ []) (opened ++ (record { number = number; name = x }) ∷ [])
open_more names path opened x number before means =
    let o : Opened = record { number = number; name = x } in
    record {
      named = map_push (λ (m : Opened). m.name) opened o ∙ ap (λ p. p ++ x ∷ []) before.named;
      leads = rw (scope_push names path x (Some 0), before.leads, means, innermost_push opened o) refl;
    }

open_kept : (names more : Names) (path : List Text) (opened : List Opened) → IsOpen names path opened → IsOpen (names ++ more) path opened
open_kept names more path opened before = record { named = before.named; leads = scope_kept names more path (Some 0) (innermost opened) before.leads }

again_within : (ds : Declared) (path : List Text) (s : State) (x : Text) (number : ℕ) → Within ds path s → meaning (innermost s.opened) x s.names ≡ Some (meaning_of.Module number) → Within ds (path ++ x ∷ []) (with_module number x s)
again_within ds path s x number within means = record {
  later = within.later;
  parts = within.parts;
  known = within.known;
  open_path = open_more s.names path s.opened x number within.open_path means;
}

new_within : (ds : Declared) (path : List Text) (s : State) (x : Text) → Within ds path s → meaning (innermost s.opened) x s.names ≡ None → IsModule ds (path ++ x ∷ []) → Within ds (path ++ x ∷ []) (with_new_module x s)
new_within ds path s x within new is_module =
    let added = ((innermost s.opened, x), meaning_of.Module (length s.names + 1)) ∷ [] in
    let means = meaning_new (innermost s.opened) x s.names (meaning_of.Module (length s.names + 1)) new in
    record {
      later = within.later;
      parts = within.parts;
      known = with_known_module ds (length s.types) s.names within.known path (innermost s.opened) x within.open_path.leads is_module;
      open_path = open_more (s.names ++ added) path s.opened x (length s.names + 1) (open_kept s.names added path s.opened within.open_path) means;
    }

open_one : (ds : Declared) (path : List Text) (s : State) (x y : Text) (more : List Text) (d : Text × Tree) → names_apart ds ≡ true → Within ds path s → slice_get ds (length s.types) ≡ Some d → parts d.0 ≡ path ++ x ∷ y ∷ more → is_free x ≡ true → (text rest : Text) → skip text ≡ skip (opening x rest) → Opens ds (path ++ x ∷ []) s text rest
open_one ds path s x y more d apart within stands named free text rest begins = by (meaning (innermost s.opened) x s.names) refl
  where
    is_module : IsModule ds (path ++ x ∷ [])
    is_module = record { at = length s.types; d = d; s = y; more = more; stands = stands; named = named ∙ sym (append_assoc path (x ∷ []) (y ∷ more)) }

    by : (o : Option Meaning) → meaning (innermost s.opened) x s.names ≡ o → Opens ds (path ++ x ∷ []) s text rest
    by None h = record {
      new = with_new_module x s;
      within = new_within ds path s x within h is_module;
      same = refl;
      left = 32 ∷ rest;
      begins = skip_blank rest;
      runs = new_run s text x rest begins free h;
    }
    by (Some (meaning_of.Module n)) h = record {
      new = with_module n x s;
      within = again_within ds path s x n within h;
      same = refl;
      left = 32 ∷ rest;
      begins = skip_blank rest;
      runs = again_run s text x rest n begins free h;
    }
    by (Some (meaning_of.Type k)) h =
        absurd (no_type ds (length s.types) s.names within.known path (innermost s.opened) x (y ∷ more) (length s.types) d k apart within.open_path.leads stands (omega arith) named h)

opening_of : (x : Text) (xs : List Text) (rest : Text) → openings (x ∷ xs) ++ rest ≡ opening x (openings xs ++ rest)
opening_of x xs rest = rw (append_assoc (x ++ 32 ∷ 123 ∷ 32 ∷ []) (openings xs) rest, append_assoc x (32 ∷ 123 ∷ 32 ∷ []) (openings xs ++ rest)) refl

open_none : (ds : Declared) (path : List Text) (s : State) → Within ds path s → (text rest : Text) → skip text ≡ skip rest → Opens ds path s text rest
open_none ds path s within text rest begins = record { new = s; within = within; same = refl; left = text; begins = begins; runs = runs_none s text }

opens_on : {ds : Declared} {p q : List Text} {s : State} {text behind rest : Text} (first : Opens ds p s text behind) → Opens ds q first.new first.left rest → Opens ds q s text rest
opens_on first second = record { new = second.new; within = second.within; same = second.same ∙ first.same; left = second.left; begins = second.begins; runs = runs_on first.runs second.runs }

-- the identifiers that are left begin with one
record Begun (names : List Text) : Type 0 where
  first : Text
  others : List Text
  are : names ≡ first ∷ others

begun : (xs : List Text) (last : Text) → Begun (xs ++ last ∷ [])
begun [] last = record { first = last; others = []; are = refl }
begun (x ∷ xs) last = record { first = x; others = xs ++ last ∷ []; are = refl }

open_from : (ds : Declared) (todo path : List Text) (last : Text) (s : State) (d : Text × Tree) → names_apart ds ≡ true → Within ds path s → slice_get ds (length s.types) ≡ Some d → parts d.0 ≡ path ++ (todo ++ last ∷ []) → (all is_free todo && is_free last) ≡ true → (text rest : Text) → skip text ≡ skip (openings todo ++ rest) → Opens ds (path ++ todo) s text rest
open_from ds [] path last s d apart within stands named free text rest begins = rw append-nil (open_none ds path s within text rest begins)
open_from ds (x ∷ xs) path last s d apart within stands named free text rest begins =
    let both = free_parts x xs last free in
    let next = begun xs last in
    let first = open_one ds path s x next.first next.others d apart within stands (named ∙ ap (λ p. path ++ x ∷ p) next.are) both.0 text (openings xs ++ rest) (begins ∙ ap skip (opening_of x xs rest)) in
    let still : slice_get ds (length first.new.types) ≡ Some d = ap (λ (ts : Declared). slice_get ds (length ts)) first.same ∙ stands in
    let second = open_from ds xs (path ++ x ∷ []) last first.new d apart first.within still (named ∙ sym (append_assoc path (x ∷ []) (xs ++ last ∷ []))) both.1 first.left rest first.begins in
    subst (λ p. Opens ds p s text rest) (append_assoc path (x ∷ []) xs) (opens_on first second)

pub modules_open : (ds : Declared) (full : Text) (t : Tree) (later : Declared) (s : State) (n : Spelt full) → names_apart ds ≡ true → EachSpelt ds → Within ds [] s → ds ≡ s.types ++ (full, t) ∷ later → (text rest : Text) → skip text ≡ skip (openings n.path ++ rest) → Opens ds n.path s text rest
modules_open ds full t later s n apart spelt within next text rest begins =
    open_from ds n.path [] n.last s (full, t) apart within (rw next (slice_get-behind s.types later (full, t))) n.parted n.free text rest begins

-- ---- modules are closed

-- what is known is the same, and no module is open
record Closes (s : State) (text rest : Text) : Type 0 where
  new : State
  types : new.types ≡ s.types
  names : new.names ≡ s.names
  none : new.opened ≡ []
  left : Text
  begins : skip left ≡ skip rest
  runs : Runs s text new left

outer_length : (os : List Opened) (n : ℕ) → length os ≡ suc n → length (outer os) ≡ n
outer_length os n e = length-take-le (length os - 1) os (omega arith) ∙ omega arith

close_from : (path : List Text) (s : State) → length s.opened ≡ length path → s.fresh ≡ false → (text rest : Text) → skip text ≡ skip (endings path ++ rest) → Closes s text rest
close_from [] s are old text rest begins = record { new = s; types = refl; names = refl; none = nil_from_length s.opened are; left = text; begins = begins; runs = runs_none s text }
close_from (x ∷ xs) s are old text rest begins =
    let run = end_run s (length xs) text (endings xs ++ rest) begins are old in
    let on = close_from xs (without_module s) (outer_length s.opened (length xs) are) refl (endings xs ++ rest) rest refl in
    record { new = on.new; types = on.types; names = on.names; none = on.none; left = on.left; begins = on.begins; runs = runs_on run on.runs }

as_many : (ds : Declared) (path : List Text) (s : State) → Within ds path s → length s.opened ≡ length path
as_many ds path s within = sym (length-map s.opened (λ (o : Opened). o.name)) ∙ ap (λ (p : List Text). length p) within.open_path.named

pub none_open : (ds : Declared) (s : State) → Within ds [] s → s.opened ≡ []
none_open ds s within = nil_from_length s.opened (as_many ds [] s within)

-- the open modules are closed, where a definition was read in them
pub modules_close : (ds : Declared) (path : List Text) (s : State) → Within ds path s → s.fresh ≡ false → (text rest : Text) → skip text ≡ skip (endings path ++ rest) → Opens ds [] s text rest
modules_close ds path s within fresh text rest begins =
    let c = close_from path s (as_many ds path s within) fresh text rest begins in
    let inside : Within ds [] c.new = record {
      later = within.later;
      parts = within.parts ∙ ap (λ (ts : Declared). ts ++ within.later) (sym c.types);
      known = rw (c.types, c.names) within.known;
      open_path = rw c.none (record { named = refl; leads = refl });
    } in
    record { new = c.new; within = inside; same = c.types; left = c.left; begins = c.begins; runs = c.runs }

-- ---- the next type in its modules

-- inside its modules the next type's name is new
pub name_is_new : (ds : Declared) (full : Text) (t : Tree) (later : Declared) (s : State) (n : Spelt full) → names_apart ds ≡ true → EachSpelt ds → Within ds n.path s → ds ≡ s.types ++ (full, t) ∷ later → meaning (innermost s.opened) n.last s.names ≡ None
name_is_new ds full t later s n apart spelt within next =
    is_new ds (length s.types) s.names within.known n.path (innermost s.opened) n.last (length s.types) (full, t) apart within.open_path.leads (rw next (slice_get-behind s.types later (full, t))) (omega arith) n.parted

full_is : (opened : List Opened) (last : Text) → full_name opened last ≡ joined (map (λ (o : Opened). o.name) opened) last
full_is [] last = refl
full_is (o ∷ os) last = append_assoc o.name (codes "::") (full_name os last) ∙ ap (λ (t : Text). o.name ++ 58 ∷ 58 ∷ t) (full_is os last)

pub full_name_is : (ds : Declared) (path : List Text) (last : Text) (s : State) → Within ds path s → full_name s.opened last ≡ joined path last
full_name_is ds path last s within = full_is s.opened last ∙ ap (λ p. joined p last) within.open_path.named

with_name_new : (scope : ℕ) (name : Text) (m : Meaning) (names : Names) → meaning scope name names ≡ None → with_name scope name m names ≡ names ++ ((scope, name), m) ∷ []
with_name_new scope name m names new = rw new refl

pub type_within : (ds : Declared) (full : Text) (t : Tree) (later : Declared) (s : State) (n : Spelt full) → names_apart ds ≡ true → EachSpelt ds → Within ds n.path s → ds ≡ s.types ++ (full, t) ∷ later → Within ds n.path (with_type (innermost s.opened) n.last full t s)
type_within ds full t later s n apart spelt within next =
    let new = name_is_new ds full t later s n apart spelt within next in
    let stands : slice_get ds (length s.types) ≡ Some (full, t) = rw next (slice_get-behind s.types later (full, t)) in
    let grown = with_name_new (innermost s.opened) n.last (meaning_of.Type (length s.types)) s.names new in
    record {
      later = later;
      parts = next ∙ sym (append_assoc s.types ((full, t) ∷ []) later);
      known = rw (length_push s.types (full, t), grown) (with_known_type ds (length s.types) s.names within.known n.path (innermost s.opened) n.last (full, t) within.open_path.leads new stands n.parted);
      open_path = rw grown (open_kept s.names (((innermost s.opened, n.last), meaning_of.Type (length s.types)) ∷ []) n.path s.opened within.open_path);
    }
