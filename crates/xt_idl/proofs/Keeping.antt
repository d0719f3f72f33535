-- What is kept of declared types, and of one type more.
use Rattle.std.proofs.Common.{◌≡◌, refl, sym, ap, ◌∙◌, ℕ, zero, suc, ◌+◌, ◌<◌, ◌≤◌, Bool, true, false, ◌&&◌, List, [], ◌∷◌, ◌++◌, map, length, take, Option, Some, None, slice_get, arith, subst, length-append, nat_lt, nat_le, tests, get_or, slice_index_or, Result, Ok, Err, OnOk}
use Rattle.std.proofs.lemmas.List.{map_push, map-append, take_more}
use Rattle.std.proofs.lemmas.Option.{same_Some}
use Rattle.idl_tokens.specs.Classes.{Text}
use Rattle.type_trees.specs.Trees.{MemberHead, Tree}
use Rattle.idl_types.specs.State.{Declared}
use Rattle.idl_types.specs.declared.declarations.UsedMember.{UsedMember}
use Rattle.idl_types.specs.declared.declarations.Declaration.{Declaration}
use Rattle.idl_types.specs.declared.declarations.Definition.{Definition}
use Rattle.idl_types.specs.declared.declarations.StructDefinition.{StructDefinition}
use Rattle.idl_types.specs.declared.declarations.Definition.TheVariants as definition_of
use Rattle.idl_types.specs.Uses.{tree_or, tree_at}
use Rattle.idl_types.specs.Definitions.{ListedMembers, listed, member_whole, defined, declared, members_on, members_before}
use Rattle.idl_types.specs.Kept.{all_valid}
use Rattle.idl_types.proofs.DeclaredAt.{declared_at, nothing_at, below}
use Rattle.idl_definitions.proofs.MakeSteps.{listed_back}
use Rattle.xt_idl.specs.declared.known.Kept.{Kept}
use Rattle.xt_idl.specs.declared.measures.Measure.{Measure}
use Rattle.xt_idl.specs.declared.numbers.NumberSets.{NumberSets}
use Rattle.xt_idl.specs.Kept.{IsKept}
use Rattle.xt_idl.specs.Measures.{measured}
use Rattle.xt_idl.specs.Numbers.{MemberNumbers, own_numbers, numbers_of, numbers_in, numbers_own, defined_own, lacks, Holds, HoldAll}
use Rattle.xt_idl.proofs.Outlined.{behind, valid_taken}
use Rattle.xt_idl.proofs.Numbering.{lacks_append}

-- ---- the own members of a definition

pub own_listed : (ts : Declared) (own : List UsedMember) → numbers_in (map (member_whole ts) own) ≡ map own_numbers own
own_listed ts [] = refl
own_listed ts (m ∷ own) = ap (λ rest. own_numbers m ∷ rest) (own_listed ts own)

pub own_is : (ts : Declared) (name : Text) (d : Definition) → all_valid ts ≡ true → numbers_own (defined ts name d) ≡ defined_own d
own_is ts name (definition_of.Struct s) valid =
    ap (λ ms. numbers_in (listed ms)) (behind ts s.base (map (member_whole ts) s.members) valid) ∙ ap numbers_in (listed_back (map (member_whole ts) s.members)) ∙ own_listed ts s.members
own_is ts name (definition_of.Enum e) valid = refl
own_is ts name (definition_of.Mask m) valid = refl
own_is ts name (definition_of.Union u) valid = refl
own_is ts name (definition_of.Alias used) valid = refl

-- ---- sets

first_kept : {A : Type 0} (xs : List A) (x : A) (at : ℕ) → at < length xs → slice_get (xs ++ x ∷ []) at ≡ slice_get xs at
first_kept [] x at within = absurd (omega (arith, within))
first_kept (y ∷ xs) x zero within = refl
first_kept (y ∷ xs) x (suc at) within = first_kept xs x at (omega (arith, within))

last_there : {A : Type 0} (xs : List A) (x : A) → slice_get (xs ++ x ∷ []) (length xs) ≡ Some x
last_there [] x = refl
last_there (y ∷ xs) x = last_there xs x

hold_more : (ts : Declared) (ss : List NumberSets) (t : Text × Tree) (s : NumberSets) → HoldAll ts ss → Holds (numbers_own t.1) s → HoldAll (ts ++ t ∷ []) (ss ++ s ∷ [])
hold_more ts ss t s held one = (
  omega (arith, held.0, length-append ss (s ∷ []), length-append ts (t ∷ [])),
  λ at x e. by at x e (nat_lt at (length ss)) refl,
)
  where
    below_by : (a c : ℕ) → nat_lt a c ≡ true → a < c
    below_by a c h = grind (arith, tests)

    over_by : (a c : ℕ) → nat_lt a c ≡ false → c ≤ a
    over_by a c h = grind (arith, tests)

    by : (at : ℕ) (x : NumberSets) → slice_get (ss ++ s ∷ []) at ≡ Some x → (b : Bool) → nat_lt at (length ss) ≡ b → Holds (numbers_own (tree_at (ts ++ t ∷ []) at)) x
    by at x e true lower =
        let within : at < length ss = below_by at (length ss) lower in
        let there : slice_get ss at ≡ Some x = sym (first_kept ss s at within) ∙ e in
        let same : tree_at (ts ++ t ∷ []) at ≡ tree_at ts at = ap tree_or (first_kept ts t at (omega (arith, within, held.0))) in
        subst (λ y. Holds (numbers_own y) x) (sym same) (held.1 at x there)
    by at x e false higher =
        let over : length ss ≤ at = over_by at (length ss) higher in
        let here : at ≡ length ss = omega (arith, over, below (ss ++ s ∷ []) at x e, length-append ss (s ∷ [])) in
        let as_types : at ≡ length ts = omega (arith, here, held.0) in
        let same : s ≡ x = same_Some s x (sym (last_there ss s) ∙ ap (slice_get (ss ++ s ∷ [])) (sym here) ∙ e) in
        let last : tree_at (ts ++ t ∷ []) at ≡ t.1 = ap (tree_at (ts ++ t ∷ [])) as_types ∙ ap tree_or (last_there ts t) in
        subst (λ y. Holds (numbers_own y) x) (sym last) (subst (λ (y : NumberSets). Holds (numbers_own t.1) y) same one)

-- what a place of a list holds
pub there : {A : Type 0} (xs : List A) (at : ℕ) (d : A) → at < length xs → slice_get xs at ≡ Some (slice_index_or xs at d)
there [] at d within = absurd (omega (arith, within))
there (x ∷ xs) zero d within = refl
there (x ∷ xs) (suc at) d within = there xs at d (omega (arith, within))

-- one own member more
pub own_more : (own : List UsedMember) (i : ℕ) (m : UsedMember) (n : MemberNumbers) → i < length own → m ≡ get_or own i m → n ≡ own_numbers m → map own_numbers (take (i + 1) own) ≡ map own_numbers (take i own) ++ n ∷ []
own_more own i m n within is same =
    ap (map own_numbers) (rw (take_more own i m within, ← is) refl) ∙ map_push own_numbers (take i own) m ∙ ap (λ (x : MemberNumbers). map own_numbers (take i own) ++ x ∷ []) (sym same)

-- ---- one type more

pub kept_more : (ts : Declared) (name : Text) (d : Definition) (old new : Kept) (measure : Measure) (sets : NumberSets) → all_valid ts ≡ true → IsKept ts old → measure ≡ measured (defined ts name d) → Holds (defined_own d) sets
    → new.measures ≡ old.measures ++ measure ∷ [] → new.numbers ≡ old.numbers ++ sets ∷ [] → IsKept (ts ++ (name, defined ts name d) ∷ []) new
kept_more ts name d old new measure sets valid kept measures_it holds measures numbers = (
  measures ∙ ap (λ ms. ms ++ measure ∷ []) kept.0 ∙ ap (λ m. map (λ (x : Text × Tree). measured x.1) ts ++ m ∷ []) measures_it ∙ sym (map_push (λ (x : Text × Tree). measured x.1) ts (name, defined ts name d)),
  subst (λ (ss : List NumberSets). HoldAll (ts ++ (name, defined ts name d) ∷ []) ss) (sym numbers) (hold_more ts old.numbers (name, defined ts name d) sets kept.1 (subst (λ ns. Holds ns sets) (sym (own_is ts name d valid)) holds)),
)

-- where nothing is declared, what is kept stays
pub still_kept : {A E : Type 0} (r : Result A E) (ts more : Declared) (kept : Kept) → OnOk r (more ≡ ts) → IsKept ts kept → OnOk r (IsKept more kept)
still_kept (Ok u) ts more kept same held = subst (λ (l : Declared). IsKept l kept) (sym same) held
still_kept (Err e) ts more kept same held = tt

-- ---- the types before a place

get_taken : {A : Type 0} (xs : List A) (n at : ℕ) → at < n → slice_get (take n xs) at ≡ slice_get xs at
get_taken xs zero at within = absurd (omega (arith, within))
get_taken [] (suc n) at within = refl
get_taken (x ∷ xs) (suc n) zero within = refl
get_taken (x ∷ xs) (suc n) (suc at) within = get_taken xs n at (omega (arith, within))

none_taken : {A : Type 0} (xs : List A) (n at : ℕ) → n ≤ at → slice_get (take n xs) at ≡ None
none_taken [] zero at over = refl
none_taken (x ∷ xs) zero at over = refl
none_taken [] (suc n) at over = refl
none_taken (x ∷ xs) (suc n) zero over = absurd (omega (arith, over))
none_taken (x ∷ xs) (suc n) (suc at) over = none_taken xs n at (omega (arith, over))

taken_twice : {A : Type 0} (xs : List A) (n more : ℕ) → n ≤ more → take n (take more xs) ≡ take n xs
taken_twice [] zero more within = refl
taken_twice [] (suc n) zero within = refl
taken_twice [] (suc n) (suc more) within = refl
taken_twice (x ∷ xs) zero zero within = refl
taken_twice (x ∷ xs) zero (suc more) within = refl
taken_twice (x ∷ xs) (suc n) zero within = absurd (omega (arith, within))
taken_twice (x ∷ xs) (suc n) (suc more) within = ap (λ rest. x ∷ rest) (taken_twice xs n more (omega (arith, within)))

pub before_same : (ds : List Declaration) (at place : ℕ) → place < at → tree_at (declared (take at ds)) place ≡ tree_at (declared ds) place
before_same ds at place within = by (slice_get ds place) refl
  where
    by : (o : Option Declaration) → slice_get ds place ≡ o → tree_at (declared (take at ds)) place ≡ tree_at (declared ds) place
    by None e = nothing_at (take at ds) place (get_taken ds at place within ∙ e) ∙ sym (nothing_at ds place e)
    by (Some d) e =
        declared_at (take at ds) place d (get_taken ds at place within ∙ e) ∙ ap (λ (l : List Declaration). defined (declared l) d.name d.definition) (taken_twice ds place at (omega (arith, within))) ∙ sym (declared_at ds place d e)

pub at_most : (a b : ℕ) → a ≤ b → nat_le a b ≡ true
at_most a b h = grind (arith, tests)

pub before_none : (ds : List Declaration) (at place : ℕ) → at ≤ place → tree_at (declared (take at ds)) place ≡ tree_or None
before_none ds at place over = nothing_at (take at ds) place (none_taken ds at place over)

-- ---- the numbers of all members of a structure

all_listed : (ts : Declared) (before : ListedMembers) (own : List UsedMember) → numbers_in (before ++ map (member_whole ts) own) ≡ numbers_in before ++ map own_numbers own
all_listed ts before own = map-append (λ (m : MemberHead × Tree). numbers_of m.0) before (map (member_whole ts) own) ∙ ap (λ l. numbers_in before ++ l) (own_listed ts own)

both_ways : (a b : Bool) → (a && b) ≡ (b && a)
both_ways true true = refl
both_ways true false = refl
both_ways false true = refl
both_ways false false = refl

pub structure_lacks : (ds : List Declaration) (at : ℕ) (name : Text) (s : StructDefinition) (n : MemberNumbers) → all_valid (declared ds) ≡ true → tree_at (declared ds) at ≡ defined (declared (take at ds)) name (definition_of.Struct s)
    → lacks n (numbers_in (members_on (tree_at (declared ds) at))) ≡ (lacks n (numbers_own (tree_at (declared ds) at)) && lacks n (numbers_in (members_before (declared (take at ds)) s.base)))
structure_lacks ds at name s n valid is =
    let ts = declared (take at ds) in
    let before = members_before ts s.base in
    let own = map own_numbers s.members in
    let all : numbers_in (members_on (tree_at (declared ds) at)) ≡ numbers_in before ++ own =
    ap (λ t. numbers_in (members_on t)) is ∙ ap numbers_in (listed_back (before ++ map (member_whole ts) s.members)) ∙ all_listed ts before s.members in
    let alone : numbers_own (tree_at (declared ds) at) ≡ own = ap numbers_own is ∙ own_is ts name (definition_of.Struct s) (valid_taken ds at valid) in
    ap (lacks n) all ∙ lacks_append n (numbers_in before) own ∙ both_ways (lacks n (numbers_in before)) (lacks n own) ∙ ap (λ l. lacks n l && lacks n (numbers_in before)) (sym alone)
