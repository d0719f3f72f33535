-- The names that are kept of an enumeration's literals lead to the literals.
use Rattle.std.proofs.Common.{◌≡◌, ℕ, suc, ◌+◌, ◌<◌, Bool, true, false, cond, ◌&&◌, ◌==◌, if◌then◌else◌, List, [], ◌∷◌, ◌++◌, length, get_or, take, Option, Some, None, refl, sym, ap, ◌∙◌, arith, length-take}
use Rattle.std.specs.Str.{bytes_eq}
use Rattle.std.proofs.lemmas.List.{take_more}
use Rattle.std.proofs.lemmas.Slice.Eq.{bytes_eq-Decides}
use Rattle.type_trees.specs.declared.types.Name.{Name}
use Rattle.type_trees.specs.declared.types.Name.TheVariants as name_of
use Rattle.type_trees.specs.declared.types.Literal.{Literal}
use Rattle.idl_tokens.specs.declared.names.scopes.Meaning.{Meaning}
use Rattle.idl_tokens.specs.declared.names.scopes.Meaning.TheVariants as meaning_of
use Rattle.idl_tokens.specs.names.Scopes.{Names, meaning, with_absent}
use Rattle.idl_definitions.specs.Unions.{is_named, value_named}
use Rattle.idl_definitions.specs.LiteralNames.{first_named, with_literal, Indexes}

bytes_eq_sym : (s t : List ℕ) → bytes_eq s t ≡ bytes_eq t s
bytes_eq_sym s t = by (bytes_eq s t) (bytes_eq t s) refl refl
  where
    by : (a b : Bool) → bytes_eq s t ≡ a → bytes_eq t s ≡ b → a ≡ b
    by true true e f = refl
    by false false e f = refl
    by true false e f = sym ((bytes_eq-Decides t s).1 (sym ((bytes_eq-Decides s t).0 e))) ∙ f
    by false true e f = sym e ∙ (bytes_eq-Decides s t).1 (sym ((bytes_eq-Decides t s).0 f))

-- the one, or else the other
abbrev or_else : Option Meaning → Option Meaning → Option Meaning
or_else (Some m) other = Some m
or_else None other = other

or_none : (o : Option Meaning) → or_else o None ≡ o
or_none (Some m) = refl
or_none None = refl

meaning_push : (s t : List ℕ) (m : Meaning) (ns : Names) → meaning 0 s (ns ++ ((0, t), m) ∷ []) ≡ or_else (meaning 0 s ns) (if bytes_eq s t then Some m else None)
meaning_push s t m [] = refl
meaning_push s t m (n ∷ ns) = by (0 == n.0.0 && bytes_eq s n.0.1) (meaning_push s t m ns)
  where
    by : (b : Bool) → meaning 0 s (ns ++ ((0, t), m) ∷ []) ≡ or_else (meaning 0 s ns) (if bytes_eq s t then Some m else None)
        → cond b (Some n.1) (meaning 0 s (ns ++ ((0, t), m) ∷ [])) ≡ or_else (cond b (Some n.1) (meaning 0 s ns)) (if bytes_eq s t then Some m else None)
    by true rest = refl
    by false rest = rest

first_push : (s : List ℕ) (at n : ℕ) (ls : List Literal) (l : Literal) → n ≡ at + length ls
    → first_named s at (ls ++ l ∷ []) ≡ or_else (first_named s at ls) (if is_named s l.name then Some (meaning_of.Type n) else None)
first_push s at n [] l e = ap (λ k. if is_named s l.name then Some (meaning_of.Type k) else None) (omega arith)
first_push s at n (x ∷ ls) l e = by (is_named s x.name) (first_push s (at + 1) n ls l (omega arith))
  where
    by : (b : Bool) → first_named s (at + 1) (ls ++ l ∷ []) ≡ or_else (first_named s (at + 1) ls) (if is_named s l.name then Some (meaning_of.Type n) else None)
        → (if b then Some (meaning_of.Type at) else first_named s (at + 1) (ls ++ l ∷ []))
        ≡ or_else (if b then Some (meaning_of.Type at) else first_named s (at + 1) ls) (if is_named s l.name then Some (meaning_of.Type n) else None)
    by true rest = refl
    by false rest = rest

-- a name more is found where no earlier one is the same
declared : (s t : List ℕ) (m : Meaning) (names : Names) (earlier : Option Meaning) → meaning 0 t names ≡ earlier
    → meaning 0 s (with_absent earlier names 0 t m) ≡ or_else (meaning 0 s names) (if bytes_eq t s then Some m else None)
declared s t m names None e = meaning_push s t m names ∙ ap (λ b. or_else (meaning 0 s names) (if b then Some m else None)) (bytes_eq_sym s t)
declared s t m names (Some there) e = by (bytes_eq t s) refl
  where
    by : (b : Bool) → bytes_eq t s ≡ b → meaning 0 s names ≡ or_else (meaning 0 s names) (if b then Some m else None)
    by false is = sym (or_none (meaning 0 s names))
    by true is =
        let found : meaning 0 s names ≡ Some there = ap (λ x. meaning 0 x names) (sym ((bytes_eq-Decides t s).0 is)) ∙ e in
        rw found refl

literal_declared : (s : List ℕ) (at : ℕ) (name : Name) (names : Names)
    → meaning 0 s (with_literal at name names) ≡ or_else (meaning 0 s names) (if is_named s name then Some (meaning_of.Type at) else None)
literal_declared s at (name_of.Full t) names = declared s t (meaning_of.Type at) names (meaning 0 t names) refl
literal_declared s at (name_of.Hashed h) names = sym (or_none (meaning 0 s names))

pub indexes_none : Indexes [] []
indexes_none s = refl

-- with the names of the literals before a place, the name of the one there is added
pub indexes_more : (names : Names) (ls : List Literal) (at : ℕ) (l : Literal) → Indexes names (take at ls) → at < length ls
    → Indexes (with_literal at (get_or ls at l).name names) (take (at + 1) ls)
indexes_more names ls at l so within s =
    let here : Literal = get_or ls at l in
    literal_declared s at here.name names
    ∙ ap (λ o. or_else o (if is_named s here.name then Some (meaning_of.Type at) else None)) (so s)
    ∙ sym (first_push s 0 at (take at ls) here (omega (arith, length-take at ls)))
    ∙ sym (ap (first_named s 0) (take_more ls at l within))

abbrev type_place : Option Meaning → ℕ
type_place (Some (meaning_of.Type p)) = p
type_place (Some (meaning_of.Module m)) = 0
type_place None = 0

-- the place is one of the list's, and has the value
abbrev pub Found : List ℕ → ℕ → ℕ → List Literal → Type 0
Found s at p ls = (k : ℕ) × (p ≡ at + k) × (k < length ls) × ((l : Literal) → value_named s ls ≡ Some (get_or ls k l).value)

found : (s : List ℕ) (at p : ℕ) (ls : List Literal) → first_named s at ls ≡ Some (meaning_of.Type p) → Found s at p ls
found s at p [] e = absurd cc
found s at p (x ∷ ls) e = by (is_named s x.name) e (found s (at + 1) p ls)
  where
    by : (b : Bool) → (if b then Some (meaning_of.Type at) else first_named s (at + 1) ls) ≡ Some (meaning_of.Type p)
        → (first_named s (at + 1) ls ≡ Some (meaning_of.Type p) → Found s (at + 1) p ls)
        → (k : ℕ) × (p ≡ at + k) × (k < suc (length ls)) × ((l : Literal) → (if b then Some x.value else value_named s ls) ≡ Some (get_or (x ∷ ls) k l).value)
    by true e rest = let same : at ≡ p = ap type_place e in (0, omega arith, omega arith, λ l. refl)
    by false e rest = let there = rest e in (suc there.0, omega arith, omega arith, there.3)

not_found : (s : List ℕ) (at : ℕ) (ls : List Literal) → first_named s at ls ≡ None → value_named s ls ≡ None
not_found s at [] e = refl
not_found s at (x ∷ ls) e = by (is_named s x.name) e (not_found s (at + 1) ls)
  where
    by : (b : Bool) → (if b then Some (meaning_of.Type at) else first_named s (at + 1) ls) ≡ None → (first_named s (at + 1) ls ≡ None → value_named s ls ≡ None)
        → (if b then Some x.value else value_named s ls) ≡ None
    by true e rest = absurd cc
    by false e rest = rest e

no_module : (s : List ℕ) (at m : ℕ) (ls : List Literal) → first_named s at ls ≡ Some (meaning_of.Module m) → ⊥
no_module s at m [] e = cc
no_module s at m (x ∷ ls) e = by (is_named s x.name) e (no_module s (at + 1) m ls)
  where
    by : (b : Bool) → (if b then Some (meaning_of.Type at) else first_named s (at + 1) ls) ≡ Some (meaning_of.Module m)
        → (first_named s (at + 1) ls ≡ Some (meaning_of.Module m) → ⊥) → ⊥
    by true e rest = cc
    by false e rest = rest e

-- what a name means tells the literal's value

pub at_none : (s : List ℕ) (ls : List Literal) (names : Names) → Indexes names ls → meaning 0 s names ≡ None → value_named s ls ≡ None
at_none s ls names so e = not_found s 0 ls (sym (so s) ∙ e)

pub never_module : (s : List ℕ) (ls : List Literal) (names : Names) (m : ℕ) → Indexes names ls → meaning 0 s names ≡ Some (meaning_of.Module m) → ⊥
never_module s ls names m so e = no_module s 0 m ls (sym (so s) ∙ e)

pub within : (s : List ℕ) (ls : List Literal) (names : Names) (p : ℕ) → Indexes names ls → meaning 0 s names ≡ Some (meaning_of.Type p) → p < length ls
within s ls names p so e = let there = found s 0 p ls (sym (so s) ∙ e) in omega (arith, there.1, there.2)

pub value_there : (s : List ℕ) (ls : List Literal) (names : Names) (p : ℕ) (l : Literal) → Indexes names ls → meaning 0 s names ≡ Some (meaning_of.Type p)
    → value_named s ls ≡ Some (get_or ls p l).value
value_there s ls names p l so e =
    let there = found s 0 p ls (sym (so s) ∙ e) in
    let place : there.0 ≡ p = omega (arith, there.1) in
    there.3 l ∙ ap (λ k. Some (get_or ls k l).value) place
