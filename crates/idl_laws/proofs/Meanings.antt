-- What names mean in scopes, where names are added at the end.
use Rattle.std.proofs.Common.{◌≡◌, ℕ, zero, suc, ◌≤◌, ◌<◌, Bool, true, false, not, ◌&&◌, cond, eqb, List, [], ◌∷◌, ◌++◌, length, Option, Some, None, ◌⊎◌, inl, inr, refl, sym, ap, ◌∙◌, subst, true≢false, append_assoc, length-append, arith}
use Rattle.std.proofs.lemmas.List.{append-nil}
use Rattle.std.proofs.lemmas.Bool.{eqb-true, eq-eqb, not-true, and_parts, cases_lt}
use Rattle.std.proofs.lemmas.Slice.Eq.{bytes_eq-Decides}
use Rattle.std.proofs.lemmas.Option.{none-some, same_Some}
use Rattle.std.specs.Prelude.{slice_get}
use Rattle.std.specs.Str.{bytes_eq}
use Rattle.xt_shapes.specs.Lists.{all}
use Rattle.type_trees.specs.Trees.{Tree}
use Rattle.idl_tokens.specs.Classes.{Text}
use Rattle.idl_tokens.specs.declared.names.scopes.Meaning.{Meaning}
use Rattle.idl_tokens.specs.declared.names.scopes.Meaning.TheVariants as meaning_of
use Rattle.idl_tokens.specs.names.Scopes.{Names, meaning}
use Rattle.idl_types.specs.Names.{type_of, module_of, module_in, scope_at, named_in}
use Rattle.idl_types.specs.State.{Declared}
use Rattle.idl_laws.specs.Printable.{parts, begins_with, are_apart, names_apart}

-- ---- equal names

bytes_same : (s t : Text) → bytes_eq s t ≡ true → s ≡ t
bytes_same s t e = (bytes_eq-Decides s t).0 e

bytes_are : (s : Text) → bytes_eq s s ≡ true
bytes_are s = (bytes_eq-Decides s s).1 refl

-- ---- lookups behind a name that is added

kept_by : (t : Bool) (a : Meaning) (o p : Option Meaning) (m : Meaning) → (o ≡ Some m → p ≡ Some m) → cond t (Some a) o ≡ Some m → cond t (Some a) p ≡ Some m
kept_by true a o p m keep e = e
kept_by false a o p m keep e = keep e

pub meaning_kept : (scope : ℕ) (name : Text) (names more : Names) (m : Meaning) → meaning scope name names ≡ Some m → meaning scope name (names ++ more) ≡ Some m
meaning_kept scope name [] more m e = absurd (none-some m e)
meaning_kept scope name (n ∷ ns) more m e = kept_by (eqb scope n.0.0 && bytes_eq name n.0.1) n.1 (meaning scope name ns) (meaning scope name (ns ++ more)) m (meaning_kept scope name ns more m) e

-- what an added name means
pub record Added (scope into : ℕ) (name new : Text) (m n : Meaning) : Type 0 where
  pub same_scope : scope ≡ into
  pub same_name : name ≡ new
  pub same_meaning : n ≡ m

added_by : (t : Bool) (a : Meaning) (o p : Option Meaning) (m : Meaning) (P : Type 0) → (p ≡ Some m → (o ≡ Some m) ⊎ P) → cond t (Some a) p ≡ Some m → (cond t (Some a) o ≡ Some m) ⊎ P
added_by true a o p m P before e = inl e
added_by false a o p m P before e = before e

added_last : (scope into : ℕ) (name new : Text) (m n : Meaning) → cond (eqb scope into && bytes_eq name new) (Some n) None ≡ Some m → Added scope into name new m n
added_last scope into name new m n e = by (eqb scope into && bytes_eq name new) refl e
  where
    by : (t : Bool) → (eqb scope into && bytes_eq name new) ≡ t → cond t (Some n) None ≡ Some m → Added scope into name new m n
    by true h e = let both = and_parts (eqb scope into) (bytes_eq name new) h in record { same_scope = eqb-true scope into both.0; same_name = bytes_same name new both.1; same_meaning = same_Some n m e }
    by false h e = absurd (none-some m e)

pub meaning_added : (scope into : ℕ) (name new : Text) (names : Names) (m n : Meaning) → meaning scope name (names ++ ((into, new), n) ∷ []) ≡ Some m → (meaning scope name names ≡ Some m) ⊎ Added scope into name new m n
meaning_added scope into name new [] m n e = inr (added_last scope into name new m n e)
meaning_added scope into name new (d ∷ ds) m n e =
    added_by (eqb scope d.0.0 && bytes_eq name d.0.1) d.1 (meaning scope name ds) (meaning scope name (ds ++ ((into, new), n) ∷ [])) m (Added scope into name new m n) (meaning_added scope into name new ds m n) e

new_by : (t : Bool) (a : Meaning) (o p : Option Meaning) (n : Meaning) → (o ≡ None → p ≡ Some n) → cond t (Some a) o ≡ None → cond t (Some a) p ≡ Some n
new_by true a o p n new e = absurd (none-some a (sym e))
new_by false a o p n new e = new e

pub meaning_new : (into : ℕ) (new : Text) (names : Names) (n : Meaning) → meaning into new names ≡ None → meaning into new (names ++ ((into, new), n) ∷ []) ≡ Some n
meaning_new into new [] n e = rw (eq-eqb into into refl, bytes_are new) refl
meaning_new into new (d ∷ ds) n e = new_by (eqb into d.0.0 && bytes_eq new d.0.1) d.1 (meaning into new ds) (meaning into new (ds ++ ((into, new), n) ∷ [])) n (meaning_new into new ds n) e

-- ---- scopes by paths

scope_none : (names : Names) (path : List Text) → scope_at names path None ≡ None
scope_none names [] = refl
scope_none names (s ∷ ss) = scope_none names ss

pub scope_push : (names : Names) (path : List Text) (s : Text) (o : Option ℕ) → scope_at names (path ++ s ∷ []) o ≡ module_in names (scope_at names path o) s
scope_push names [] s o = refl
scope_push names (p ∷ ps) s o = scope_push names ps s (module_in names o p)

-- a module that a name means, and what shows it
module_is : (o : Option Meaning) (k : ℕ) → module_of o ≡ Some k → o ≡ Some (meaning_of.Module k)
module_is None k e = absurd (none-some k e)
module_is (Some (meaning_of.Type at)) k e = absurd (none-some k e)
module_is (Some (meaning_of.Module n)) k e = ap (λ j. Some (meaning_of.Module j)) (same_Some n k e)

type_is : (o : Option Meaning) (k : ℕ) → type_of o ≡ Some k → o ≡ Some (meaning_of.Type k)
type_is None k e = absurd (none-some k e)
type_is (Some (meaning_of.Type at)) k e = ap (λ j. Some (meaning_of.Type j)) (same_Some at k e)
type_is (Some (meaning_of.Module n)) k e = absurd (none-some k e)

module_kept : (names more : Names) (o : Option ℕ) (s : Text) (k : ℕ) → module_in names o s ≡ Some k → module_in (names ++ more) o s ≡ Some k
module_kept names more None s k e = absurd (none-some k e)
module_kept names more (Some scope) s k e = rw (meaning_kept scope s names more (meaning_of.Module k) (module_is (meaning scope s names) k e)) refl

pub scope_kept : (names more : Names) (path : List Text) (o : Option ℕ) (k : ℕ) → scope_at names path o ≡ Some k → scope_at (names ++ more) path o ≡ Some k
scope_kept names more [] o k e = e
scope_kept names more (s ∷ ss) o k e = by (module_in names o s) refl (λ m. scope_kept names more ss m k) e
  where
    by : (m : Option ℕ) → module_in names o s ≡ m → ((i : Option ℕ) → scope_at names ss i ≡ Some k → scope_at (names ++ more) ss i ≡ Some k) → scope_at names ss m ≡ Some k → scope_at (names ++ more) ss (module_in (names ++ more) o s) ≡ Some k
    by None h on e = absurd (none-some k (sym (scope_none names ss) ∙ e))
    by (Some j) h on e = rw (module_kept names more o s j h) (on (Some j) e)

named_kept : (names more : Names) (o : Option ℕ) (s : Text) (k : ℕ) → named_in names o s ≡ Some k → named_in (names ++ more) o s ≡ Some k
named_kept names more None s k e = absurd (none-some k e)
named_kept names more (Some scope) s k e = rw (meaning_kept scope s names more (meaning_of.Type k) (type_is (meaning scope s names) k e)) refl

pub found_kept : (names more : Names) (path : List Text) (s : Text) (k : ℕ) → named_in names (scope_at names path (Some 0)) s ≡ Some k → named_in (names ++ more) (scope_at (names ++ more) path (Some 0)) s ≡ Some k
found_kept names more path s k e = by (scope_at names path (Some 0)) refl e
  where
    by : (o : Option ℕ) → scope_at names path (Some 0) ≡ o → named_in names o s ≡ Some k → named_in (names ++ more) (scope_at (names ++ more) path (Some 0)) s ≡ Some k
    by None h e = absurd (none-some k e)
    by (Some j) h e = rw (scope_kept names more path (Some 0) j h) (named_kept names more (Some j) s k e)

-- ---- names that are apart

pub slice_get-append : {A : Type 0} (xs ys : List A) (k : ℕ) (x : A) → slice_get xs k ≡ Some x → slice_get (xs ++ ys) k ≡ Some x
slice_get-append [] ys k x e = absurd (none-some x e)
slice_get-append (a ∷ xs) ys zero x e = e
slice_get-append (a ∷ xs) ys (suc k) x e = slice_get-append xs ys k x e

pub slice_get-behind : {A : Type 0} (xs ys : List A) (y : A) → slice_get (xs ++ y ∷ ys) (length xs) ≡ Some y
slice_get-behind [] ys y = refl
slice_get-behind (x ∷ xs) ys y = slice_get-behind xs ys y

pub begins-append : (p q : List Text) → begins_with p (p ++ q) ≡ true
begins-append [] q = refl
begins-append (s ∷ p) q = rw (bytes_are s, begins-append p q) refl

apart_all : (a : Text) (ds : Declared) (k : ℕ) (d : Text × Tree) → all (λ e. are_apart a e.0) ds ≡ true → slice_get ds k ≡ Some d → are_apart a d.0 ≡ true
apart_all a [] k d all_apart at = absurd (none-some d at)
apart_all a (e ∷ ds) zero d all_apart at = subst (λ (x : Text × Tree). are_apart a x.0 ≡ true) (same_Some e d at) (and_parts (are_apart a e.0) (all (λ x. are_apart a x.0) ds) all_apart).0
apart_all a (e ∷ ds) (suc k) d all_apart at = apart_all a ds k d (and_parts (are_apart a e.0) (all (λ x. are_apart a x.0) ds) all_apart).1 at

are_apart_at : (ds : Declared) (j k : ℕ) (d e : Text × Tree) → names_apart ds ≡ true → slice_get ds j ≡ Some d → slice_get ds k ≡ Some e → j < k → are_apart d.0 e.0 ≡ true
are_apart_at [] j k d e apart at_j at_k less = absurd (none-some d at_j)
are_apart_at (x ∷ ds) zero zero d e apart at_j at_k less = absurd (omega arith)
are_apart_at (x ∷ ds) zero (suc k) d e apart at_j at_k less =
    let all_apart = (and_parts (all (λ y. are_apart x.0 y.0) ds) (names_apart ds) apart).0 in
    subst (λ (y : Text × Tree). are_apart y.0 e.0 ≡ true) (same_Some x d at_j) (apart_all x.0 ds k e all_apart at_k)
are_apart_at (x ∷ ds) (suc j) zero d e apart at_j at_k less = absurd (omega arith)
are_apart_at (x ∷ ds) (suc j) (suc k) d e apart at_j at_k less =
    are_apart_at ds j k d e (and_parts (all (λ y. are_apart x.0 y.0) ds) (names_apart ds) apart).1 at_j at_k (omega arith)

apart_parts : (a b : Text) → are_apart a b ≡ true → (begins_with (parts a) (parts b) ≡ false) × (begins_with (parts b) (parts a) ≡ false)
apart_parts a b e =
    let both = and_parts (not (begins_with (parts a) (parts b))) (not (begins_with (parts b) (parts a))) e in
    (not-true (begins_with (parts a) (parts b)) both.0, not-true (begins_with (parts b) (parts a)) both.1)

-- a name that begins another one is that name
pub begins_same : (ds : Declared) (j k : ℕ) (d e : Text × Tree) (more : List Text) → names_apart ds ≡ true → slice_get ds j ≡ Some d → slice_get ds k ≡ Some e → parts e.0 ≡ parts d.0 ++ more → j ≡ k
begins_same ds j k d e more apart at_j at_k begins = by (cases_lt j k) (cases_lt k j)
  where
    within : begins_with (parts d.0) (parts e.0) ≡ true
    within = rw begins (begins-append (parts d.0) more)

    by : (j < k) ⊎ (k ≤ j) → (k < j) ⊎ (j ≤ k) → j ≡ k
    by (inl less) other = absurd (true≢false (sym within ∙ (apart_parts d.0 e.0 (are_apart_at ds j k d e apart at_j at_k less)).0))
    by (inr above) (inl less) = absurd (true≢false (sym within ∙ (apart_parts e.0 d.0 (are_apart_at ds k j e d apart at_k at_j less)).1))
    by (inr above) (inr below) = omega arith

-- ---- what names mean while the list `ds` is read

-- the type at that place has this name
pub record IsType (ds : Declared) (at : ℕ) (path : List Text) : Type 0 where
  pub d : Text × Tree
  pub stands : slice_get ds at ≡ Some d
  pub named : parts d.0 ≡ path

-- some name of the list stands in this module
pub record IsModule (ds : Declared) (path : List Text) : Type 0 where
  pub at : ℕ
  pub d : Text × Tree
  pub s : Text
  pub more : List Text
  pub stands : slice_get ds at ≡ Some d
  pub named : parts d.0 ≡ path ++ s ∷ more

pub record IsScope (of : ℕ → List Text) (number numbers : ℕ) (path : List Text) : Type 0 where
  pub some : 1 ≤ number
  pub known : number ≤ numbers
  pub is : of number ≡ path

-- what a name of that path means is of the list; scopes have their paths
abbrev pub Explains : Declared → (ℕ → List Text) → ℕ → ℕ → List Text → Meaning → Type 0
Explains ds of types numbers path (meaning_of.Type at) = (at < types) × IsType ds at path
Explains ds of types numbers path (meaning_of.Module number) = IsScope of number numbers path × IsModule ds path

-- The first types of the list, as many as that, are found by their names. Each scope's number has a path.
pub record Known (ds : Declared) (types : ℕ) (names : Names) : Type 0 where
  pub of : ℕ → List Text
  pub outermost : of 0 ≡ []
  pub explained : (scope : ℕ) (name : Text) (m : Meaning) → meaning scope name names ≡ Some m → (scope ≤ length names) × Explains ds of types (length names) (of scope ++ name ∷ []) m
  pub found : (k : ℕ) (d : Text × Tree) (path : List Text) (last : Text) → k < types → slice_get ds k ≡ Some d → parts d.0 ≡ path ++ last ∷ [] → named_in names (scope_at names path (Some 0)) last ≡ Some k

pub known_none : (ds : Declared) → Known ds 0 []
known_none ds = record {
  of = λ n. [];
  outermost = refl;
  explained = λ scope name m e. absurd (none-some m e);
  found = λ k d path last less. absurd (omega arith);
}

-- ---- the scope of a path

pub record Leads (of : ℕ → List Text) (scope numbers : ℕ) (path : List Text) : Type 0 where
  pub is : of scope ≡ path
  pub known : scope ≤ numbers

leads_from : (ds : Declared) (types : ℕ) (names : Names) (known : Known ds types names) (path : List Text) (scope k : ℕ) → scope ≤ length names → scope_at names path (Some scope) ≡ Some k → Leads known.of k (length names) (known.of scope ++ path)
leads_from ds types names known [] scope k within e = let same = same_Some scope k e in record { is = ap known.of (sym same) ∙ sym (append-nil (known.of scope)); known = subst (λ n. n ≤ length names) same within }
leads_from ds types names known (s ∷ ss) scope k within e = by (meaning scope s names) refl (λ n. leads_from ds types names known ss n k) e
  where
    by : (o : Option Meaning) → meaning scope s names ≡ o → ((n : ℕ) → n ≤ length names → scope_at names ss (Some n) ≡ Some k → Leads known.of k (length names) (known.of n ++ ss)) → scope_at names ss (module_of o) ≡ Some k → Leads known.of k (length names) (known.of scope ++ s ∷ ss)
    by None h on e = absurd (none-some k (sym (scope_none names ss) ∙ e))
    by (Some (meaning_of.Type at)) h on e = absurd (none-some k (sym (scope_none names ss) ∙ e))
    by (Some (meaning_of.Module n)) h on e =
        let there = (known.explained scope s (meaning_of.Module n) h).1.0 in
        let leads = on n there.known e in
        record { is = leads.is ∙ ap (λ p. p ++ ss) there.is ∙ append_assoc (known.of scope) (s ∷ []) ss; known = leads.known }

pub leads : (ds : Declared) (types : ℕ) (names : Names) (known : Known ds types names) (path : List Text) (k : ℕ) → scope_at names path (Some 0) ≡ Some k → Leads known.of k (length names) path
leads ds types names known path k e =
    let there = leads_from ds types names known path 0 k (omega arith) e in
    record { is = there.is ∙ ap (λ p. p ++ path) known.outermost; known = there.known }

-- ---- what the names of a later type may mean

-- no module of it, and it itself, is a type before
pub no_type : (ds : Declared) (types : ℕ) (names : Names) (known : Known ds types names) (path : List Text) (scope : ℕ) (s : Text) (more : List Text) (at : ℕ) (d : Text × Tree) (k : ℕ) → names_apart ds ≡ true → scope_at names path (Some 0) ≡ Some scope → slice_get ds at ≡ Some d → types ≤ at → parts d.0 ≡ path ++ s ∷ more → meaning scope s names ≡ Some (meaning_of.Type k) → ⊥
no_type ds types names known path scope s more at d k apart leads_to stands later named means =
    let here = leads ds types names known path scope leads_to in
    let there = (known.explained scope s (meaning_of.Type k) means).1 in
    let begins : parts d.0 ≡ parts there.1.d.0 ++ more =
    named ∙ sym (ap (λ p. p ++ more) (there.1.named ∙ ap (λ p. p ++ s ∷ []) here.is) ∙ append_assoc path (s ∷ []) more) in
    let same : k ≡ at = begins_same ds k at there.1.d d more apart there.1.stands stands begins in
    let less : k < types = there.0 in
    omega arith

longer : (p : List Text) (s : Text) (more : List Text) → p ≡ p ++ s ∷ more → ⊥
longer p s more e = omega (arith, ap length e, length-append p (s ∷ more))

pub no_module : (ds : Declared) (types : ℕ) (names : Names) (known : Known ds types names) (path : List Text) (scope : ℕ) (s : Text) (at : ℕ) (d : Text × Tree) (n : ℕ) → names_apart ds ≡ true → scope_at names path (Some 0) ≡ Some scope → slice_get ds at ≡ Some d → parts d.0 ≡ path ++ s ∷ [] → meaning scope s names ≡ Some (meaning_of.Module n) → ⊥
no_module ds types names known path scope s at d n apart leads_to stands named means =
    let here = leads ds types names known path scope leads_to in
    let there = (known.explained scope s (meaning_of.Module n) means).1.1 in
    let begins : parts there.d.0 ≡ parts d.0 ++ there.s ∷ there.more = there.named ∙ ap (λ p. p ++ there.s ∷ there.more) (ap (λ p. p ++ s ∷ []) here.is ∙ sym named) in
    let same : at ≡ there.at = begins_same ds at there.at d there.d (there.s ∷ there.more) apart stands there.stands begins in
    let one : d ≡ there.d = same_Some d there.d (sym stands ∙ ap (slice_get ds) same ∙ there.stands) in
    longer (parts d.0) there.s there.more (ap (λ (x : Text × Tree). parts x.0) one ∙ begins)

pub is_new : (ds : Declared) (types : ℕ) (names : Names) (known : Known ds types names) (path : List Text) (scope : ℕ) (s : Text) (at : ℕ) (d : Text × Tree) → names_apart ds ≡ true → scope_at names path (Some 0) ≡ Some scope → slice_get ds at ≡ Some d → types ≤ at → parts d.0 ≡ path ++ s ∷ [] → meaning scope s names ≡ None
is_new ds types names known path scope s at d apart leads_to stands later named = by (meaning scope s names) refl
  where
    by : (o : Option Meaning) → meaning scope s names ≡ o → meaning scope s names ≡ None
    by None h = h
    by (Some (meaning_of.Type k)) h = absurd (no_type ds types names known path scope s [] at d k apart leads_to stands later named h)
    by (Some (meaning_of.Module n)) h = absurd (no_module ds types names known path scope s at d n apart leads_to stands named h)
