-- What a give does to the octets under an identifier.
use Rattle.std.proofs.Common.{◌≡◌, ◌≢◌, ℕ, Bool, true, false, cond, List, [], ◌∷◌, ◌++◌, Option, refl, sym, ap, ◌∙◌, inl, inr, ◌⊎◌}
use Rattle.std.specs.Prelude.{None, Some}
use Rattle.std.specs.Str.{bytes_eq}
use Rattle.std.proofs.Common.{subst, suc, drop, length, ◌<◌, get_or}
use Rattle.std.proofs.Math.Seq.{drop-cons}
use mathlib.Core.Bool.{true≢false}
use Rattle.std.proofs.lemmas.Slice.Eq.{bytes_eq-Decides}
use Rattle.type_trees.specs.declared.types.HashId.{HashId}
use Rattle.type_trees.specs.Ids.{same_id}
use Rattle.type_trees.proofs.SameIds.{same_id_tells, same_id_itself}
use Rattle.type_lookup.specs.declared.messages.messages.Fetched.{Fetched}
use Rattle.type_mirror.specs.declared.pairs.pair.Pair.{Pair}
use Rattle.type_mirror.specs.declared.pairs.pair.Give.{Give}
use Rattle.type_mirror.specs.declared.pairs.pair.Gave.TheVariants.{Known, Clash}
use Rattle.type_mirror.specs.declared.pairs.pair.Side.{Side}
use Rattle.type_mirror.specs.declared.pairs.pair.Side.TheVariants.{A, B}
use Rattle.type_mirror.specs.pairs.Pairs.{object_at, objects_of, taken, gave, after_from, after, answer_from, ends, Clashes, Differs, Agrees, IsGiven, AllGiven, first_of, union_at}

-- ---- one more object

some_some : {x y : List ℕ} → Some x ≡ Some y → x ≡ y
some_some {x} {y} e = ap (λ (o : Option (List ℕ)). get x o) e
  where
    get : List ℕ → Option (List ℕ) → List ℕ
    get d None = d
    get d (Some z) = z

cond_keeps : (b : Bool) (o : List ℕ) (q more r : Option (List ℕ)) → cond b (Some o) q ≡ r → (q ≡ r → more ≡ r) → cond b (Some o) more ≡ r
cond_keeps true o q more r e f = e
cond_keeps false o q more r e f = f e

at_more : (j : HashId) (y : Fetched) (xs : List Fetched) (x : List ℕ) → object_at j xs ≡ Some x → object_at j (xs ++ y ∷ []) ≡ Some x
at_more j y [] x e = absurd (cc e)
at_more j y (o ∷ xs) x e = cond_keeps (same_id j o.id) o.octets (object_at j xs) (object_at j (xs ++ y ∷ [])) (Some x) e (at_more j y xs x)

cond_none : (b : Bool) (o : List ℕ) (q more r : Option (List ℕ)) → cond b (Some o) q ≡ None → (q ≡ None → more ≡ r) → cond b (Some o) more ≡ r
cond_none true o q more r e f = absurd (cc e)
cond_none false o q more r e f = f e

at_new : (j : HashId) (y : Fetched) (xs : List Fetched) → object_at j xs ≡ None → object_at j (xs ++ y ∷ []) ≡ cond (same_id j y.id) (Some y.octets) None
at_new j y [] e = refl
at_new j y (o ∷ xs) e = cond_none (same_id j o.id) o.octets (object_at j xs) (object_at j (xs ++ y ∷ [])) (cond (same_id j y.id) (Some y.octets) None) e (at_new j y xs)

cond_true : {X : Type 0} (b : Bool) (p q : X) → b ≡ true → cond b p q ≡ p
cond_true b p q e = ap (λ (c : Bool). cond c p q) e

cond_false : {X : Type 0} (b : Bool) (p q : X) → b ≡ false → cond b p q ≡ q
cond_false b p q e = ap (λ (c : Bool). cond c p q) e

-- what stands under an identifier behind one more object stood there, or is the object's
at_back : (j i : HashId) (octets x : List ℕ) (xs giver : List Fetched) (o : Option (List ℕ)) → object_at j xs ≡ o → object_at i giver ≡ Some octets
    → object_at j (xs ++ record { id = i; octets = octets } ∷ []) ≡ Some x → (object_at j xs ≡ Some x) ⊎ (object_at j giver ≡ Some x)
at_back j i octets x xs giver (Some z) e g h = inl (e ∙ sym (at_more j (record { id = i; octets = octets }) xs z e) ∙ h)
at_back j i octets x xs giver None e g h = let new = sym (at_new j (record { id = i; octets = octets }) xs e) ∙ h in elim (same_id_tells j i) [
  | inl t ↦ inr (ap (λ (k : HashId). object_at k giver) t.1 ∙ g ∙ sym (cond_true (same_id j i) (Some octets) None t.0) ∙ new)
  | inr t ↦ absurd (cc (sym (cond_false (same_id j i) (Some octets) None t.0) ∙ new))
]

-- ---- what is taken

taken_keeps : (i j : HashId) (src dst : Option (List ℕ)) (xs : List Fetched) (x : List ℕ) → object_at j xs ≡ Some x → object_at j (taken i src dst xs) ≡ Some x
taken_keeps i j None dst xs x e = e
taken_keeps i j (Some o) None xs x e = at_more j (record { id = i; octets = o }) xs x e
taken_keeps i j (Some o) (Some t) xs x e = e

taken_back : (i j : HashId) (src dst : Option (List ℕ)) (xs giver : List Fetched) (x : List ℕ) → object_at i giver ≡ src → object_at j (taken i src dst xs) ≡ Some x → (object_at j xs ≡ Some x) ⊎ (object_at j giver ≡ Some x)
taken_back i j None dst xs giver x g h = inl h
taken_back i j (Some o) None xs giver x g h = at_back j i o x xs giver (object_at j xs) refl g h
taken_back i j (Some o) (Some t) xs giver x g h = inl h

-- what is given is there, where the other side has none, or the same
taken_there : (i : HashId) (dst : Option (List ℕ)) (xs : List Fetched) (x : List ℕ) → object_at i xs ≡ dst → ((y : List ℕ) → dst ≡ Some y → x ≡ y) → object_at i (taken i (Some x) dst xs) ≡ Some x
taken_there i None xs x e same = at_new i (record { id = i; octets = x }) xs e ∙ cond_true (same_id i i) (Some x) None (same_id_itself i)
taken_there i (Some t) xs x e same = e ∙ ap (λ (o : List ℕ). Some o) (sym (same t refl))

-- ---- the two sides behind a give

pub kept : (s f : Side) (i j : HashId) (p : Pair) (x : List ℕ) → object_at j (objects_of s p) ≡ Some x → object_at j (objects_of s (after_from f i p)) ≡ Some x
kept A A i j p x e = e
kept A B i j p x e = taken_keeps i j (object_at i p.b) (object_at i p.a) p.a x e
kept B A i j p x e = taken_keeps i j (object_at i p.a) (object_at i p.b) p.b x e
kept B B i j p x e = e

swapped : {X Y : Type 0} → X ⊎ Y → Y ⊎ X
swapped (inl x) = inr x
swapped (inr y) = inl y

pub came : (s f : Side) (i j : HashId) (p : Pair) (x : List ℕ) → object_at j (objects_of s (after_from f i p)) ≡ Some x → (object_at j p.a ≡ Some x) ⊎ (object_at j p.b ≡ Some x)
came A A i j p x e = inl e
came A B i j p x e = taken_back i j (object_at i p.b) (object_at i p.a) p.a p.b x refl e
came B A i j p x e = swapped (taken_back i j (object_at i p.a) (object_at i p.b) p.b p.a x refl e)
came B B i j p x e = inr e

-- ---- keeps

pub keeps : (p : Pair) (gs : List Give) (s : Side) (j : HashId) (x : List ℕ) → object_at j (objects_of s p) ≡ Some x → object_at j (objects_of s (ends p gs)) ≡ Some x
keeps p [] s j x e = e
keeps p (g ∷ gs) s j x e = keeps (after p g) gs s j x (kept s g.from g.id j p x e)

pub all_came : (p : Pair) (gs : List Give) (s : Side) (j : HashId) (x : List ℕ) → object_at j (objects_of s (ends p gs)) ≡ Some x → (object_at j p.a ≡ Some x) ⊎ (object_at j p.b ≡ Some x)
all_came p [] A j x e = inl e
all_came p [] B j x e = inr e
all_came p (g ∷ gs) s j x e = elim (all_came (after p g) gs s j x e) [ inl l ↦ came A g.from g.id j p x l | inr r ↦ came B g.from g.id j p x r ]

-- ---- clashes

same_octets : (o : Option (List ℕ)) (x y : List ℕ) → o ≡ Some x → o ≡ Some y → x ≡ y
same_octets o x y e f = some_some (sym e ∙ f)

differs_by : (p : Pair) (f : Side) (i j : HashId) (x y : List ℕ) → object_at j (after_from f i p).a ≡ Some x → object_at j (after_from f i p).b ≡ Some y → x ≢ y
    → (object_at j p.a ≡ Some x) ⊎ (object_at j p.b ≡ Some x) → (object_at j p.a ≡ Some y) ⊎ (object_at j p.b ≡ Some y) → Differs p j
differs_by p f i j x y ea eb ne (inl xa) (inr yb) = record { octets = x; others = y; in_a = xa; in_b = yb; differ = ne }
differs_by p f i j x y ea eb ne (inl xa) (inl ya) = absurd (ne (same_octets (object_at j p.a) x y xa ya))
differs_by p f i j x y ea eb ne (inr xb) (inr yb) = absurd (ne (same_octets (object_at j p.b) x y xb yb))
differs_by p f i j x y ea eb ne (inr xb) (inl ya) = absurd (ne (same_octets (object_at j (after_from f i p).b) x y (kept B f i j p x xb) eb))

differs_back : (p : Pair) (f : Side) (i j : HashId) → Differs (after_from f i p) j → Differs p j
differs_back p f i j d = differs_by p f i j d.octets d.others d.in_a d.in_b d.differ (came A f i j p d.octets d.in_a) (came B f i j p d.others d.in_b)

eq_or : (b : Bool) (x t : List ℕ) → bytes_eq t x ≡ b → cond b Known Clash ≡ Clash → b ≡ false
eq_or true x t e h = absurd (cc h)
eq_or false x t e h = refl

eq_self : (x y : List ℕ) → bytes_eq y x ≡ false → x ≢ y
eq_self x y e w = absurd (true≢false (sym ((bytes_eq-Decides y x).1 (sym w)) ∙ e))

differ_of : (src dst : Option (List ℕ)) → gave src dst ≡ Clash → (x : List ℕ) × (y : List ℕ) × (src ≡ Some x) × (dst ≡ Some y) × (x ≢ y)
differ_of None dst e = absurd (cc e)
differ_of (Some x) None e = absurd (cc e)
differ_of (Some x) (Some y) e = (x, y, refl, refl, eq_self x y (eq_or (bytes_eq y x) x y refl e))

differs_here : (f : Side) (i : HashId) (p : Pair) → answer_from f i p ≡ Clash → Differs p i
differs_here A i p e = let d = differ_of (object_at i p.a) (object_at i p.b) e in record { octets = d.0; others = d.1; in_a = d.2; in_b = d.3; differ = d.4 }
differs_here B i p e = let d = differ_of (object_at i p.b) (object_at i p.a) e in record { octets = d.1; others = d.0; in_a = d.3; in_b = d.2; differ = λ w. d.4 (sym w) }

pub clashes : (p : Pair) (gs : List Give) (j : HashId) → Clashes p gs j → Differs p j
clashes p [] j e = absurd e
clashes p (g ∷ gs) j (inl h) = subst (λ (k : HashId). Differs p k) h.0 (differs_here g.from g.id p h.1)
clashes p (g ∷ gs) j (inr h) = differs_back p g.from g.id j (clashes (after p g) gs j h)

-- ---- the union

abbrev other : Side → Side
other A = B
other B = A

agree_by : (p : Pair) → Agrees p → (j : HashId) (x y : List ℕ) → (object_at j p.a ≡ Some x) ⊎ (object_at j p.b ≡ Some x) → (object_at j p.a ≡ Some y) ⊎ (object_at j p.b ≡ Some y) → x ≡ y
agree_by p ok j x y (inl xa) (inl ya) = same_octets (object_at j p.a) x y xa ya
agree_by p ok j x y (inl xa) (inr yb) = ok j x y xa yb
agree_by p ok j x y (inr xb) (inl ya) = sym (ok j y x ya xb)
agree_by p ok j x y (inr xb) (inr yb) = same_octets (object_at j p.b) x y xb yb

agrees_after : (p : Pair) (f : Side) (i : HashId) → Agrees p → Agrees (after_from f i p)
agrees_after p f i ok = λ j x y ea eb. agree_by p ok j x y (came A f i j p x ea) (came B f i j p y eb)

-- what a side gives is there on the other
given_now : (s : Side) (i : HashId) (p : Pair) (x : List ℕ) → Agrees p → object_at i (objects_of s p) ≡ Some x → object_at i (objects_of (other s) (after_from s i p)) ≡ Some x
given_now A i p x ok e = ap (λ (o : Option (List ℕ)). object_at i (taken i o (object_at i p.b) p.b)) e ∙ taken_there i (object_at i p.b) p.b x refl (λ y h. ok i x y e h)
given_now B i p x ok e = ap (λ (o : Option (List ℕ)). object_at i (taken i o (object_at i p.a) p.a)) e ∙ taken_there i (object_at i p.a) p.a x refl (λ y h. sym (ok i y x h e))

given : (p : Pair) (gs : List Give) → Agrees p → (s : Side) (j : HashId) (x : List ℕ) → object_at j (objects_of s p) ≡ Some x → IsGiven s j gs → object_at j (objects_of (other s) (ends p gs)) ≡ Some x
given p [] ok s j x e g = absurd g
given p (g ∷ gs) ok s j x e (inl h) = keeps (after p g) gs (other s) j x (subst (λ (w : Give). object_at j (objects_of (other s) (after p w)) ≡ Some x) (sym h) (given_now s j p x ok e))
given p (g ∷ gs) ok s j x e (inr h) = given (after p g) gs (agrees_after p g.from g.id ok) s j x (kept s g.from g.id j p x e) h

a_end : (p : Pair) (gs : List Give) → Agrees p → AllGiven p gs → (s : Side) (j : HashId) (x : List ℕ) → object_at j p.a ≡ Some x → object_at j (objects_of s (ends p gs)) ≡ Some x
a_end p gs ok all A j x e = keeps p gs A j x e
a_end p gs ok all B j x e = given p gs ok A j x e (all A j x e)

b_end : (p : Pair) (gs : List Give) → Agrees p → AllGiven p gs → (s : Side) (j : HashId) (x : List ℕ) → object_at j p.b ≡ Some x → object_at j (objects_of s (ends p gs)) ≡ Some x
b_end p gs ok all A j x e = given p gs ok B j x e (all B j x e)
b_end p gs ok all B j x e = keeps p gs B j x e

none_end : (p : Pair) (gs : List Give) (s : Side) (j : HashId) (o : Option (List ℕ)) → object_at j p.a ≡ None → object_at j p.b ≡ None → object_at j (objects_of s (ends p gs)) ≡ o → o ≡ None
none_end p gs s j None a b e = refl
none_end p gs s j (Some x) a b e = elim (all_came p gs s j x e) [ inl l ↦ absurd (cc (sym a ∙ l)) | inr r ↦ absurd (cc (sym b ∙ r)) ]

union_by : (p : Pair) (gs : List Give) → Agrees p → AllGiven p gs → (s : Side) (j : HashId) (oa ob : Option (List ℕ)) → object_at j p.a ≡ oa → object_at j p.b ≡ ob → object_at j (objects_of s (ends p gs)) ≡ first_of oa ob
union_by p gs ok all s j (Some x) ob a b = a_end p gs ok all s j x a
union_by p gs ok all s j None (Some y) a b = b_end p gs ok all s j y b
union_by p gs ok all s j None None a b = none_end p gs s j (object_at j (objects_of s (ends p gs))) a b refl

pub union : (p : Pair) (gs : List Give) → Agrees p → AllGiven p gs → (s : Side) (j : HashId) → object_at j (objects_of s (ends p gs)) ≡ union_at p j
union p gs ok all s j = union_by p gs ok all s j (object_at j p.a) (object_at j p.b) refl refl

-- ---- the search

-- the first one with the identifier is not among the objects before
pub found_first : (j : HashId) (o : Fetched) (xs : List Fetched) (b : Bool) → same_id j o.id ≡ b → b ≡ true → object_at j (o ∷ xs) ≡ Some o.octets
found_first j o xs b e t = cond_true (same_id j o.id) (Some o.octets) (object_at j xs) (e ∙ t)

pub found_later : (j : HashId) (o : Fetched) (xs : List Fetched) → o.id ≢ j → object_at j (o ∷ xs) ≡ object_at j xs
found_later j o xs ne = elim (same_id_tells j o.id) [ inl t ↦ absurd (ne (sym t.1)) | inr t ↦ cond_false (same_id j o.id) (Some o.octets) (object_at j xs) t.0 ]

pub found_here : (j : HashId) (o : Fetched) (xs : List Fetched) → o.id ≡ j → object_at j (o ∷ xs) ≡ Some o.octets
found_here j o xs e = elim (same_id_tells j o.id) [ inl t ↦ cond_true (same_id j o.id) (Some o.octets) (object_at j xs) t.0 | inr t ↦ absurd (t.1 (sym e)) ]

-- ---- items

pub next_item : {X : Type 0} (l : List X) (j k : ℕ) (d : X) → j < length l → k ≡ suc j → drop j l ≡ get_or l j d ∷ drop k l
next_item l j k d lt e = drop-cons l j d lt ∙ ap (λ n. get_or l j d ∷ drop n l) (sym e)

pub same_here : (j : HashId) (o : Fetched) (xs all : List Fetched) → same_id o.id j ≡ true → all ≡ o ∷ xs → object_at j all ≡ Some o.octets
same_here j o xs all h e = ap (object_at j) e ∙ elim (same_id_tells o.id j) [ inl t ↦ found_here j o xs t.1 | inr t ↦ absurd (true≢false (sym h ∙ t.0)) ]

pub same_later : (j : HashId) (o : Fetched) (xs all : List Fetched) → same_id o.id j ≡ false → all ≡ o ∷ xs → object_at j all ≡ object_at j xs
same_later j o xs all h e = ap (object_at j) e ∙ elim (same_id_tells o.id j) [ inl t ↦ absurd (true≢false (sym t.0 ∙ h)) | inr t ↦ found_later j o xs t.1 ]

-- the items from a place on, where this is the item there
pub item_next : (l : List Fetched) (j k : ℕ) (d o : Fetched) → o ≡ get_or l j d → j < length l → k ≡ suc j → drop j l ≡ o ∷ drop k l
item_next l j k d o is lt e = next_item l j k d lt e ∙ ap (λ (x : Fetched). x ∷ drop k l) (sym is)
