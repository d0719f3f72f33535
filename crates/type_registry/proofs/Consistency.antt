-- What two findings of one registry say of one cell is the same.
use Rattle.std.proofs.Common.{◌≡◌, ℕ, zero, suc, ◌+◌, ◌<◌, ◌≤◌, ◌/◌, ◌%◌, List, [], ◌∷◌, ◌++◌, length, Option, inl, inr, refl, sym, ap, subst, ◌∙◌, arith, map}
use Rattle.std.specs.Prelude.{Some, slice_get}
use Rattle.std.proofs.lemmas.List.{map-append, length-map}
use Rattle.std.proofs.str.Laws.{order}
use Rattle.type_trees.specs.declared.types.HashId.{HashId}
use Rattle.cell_core.specs.Probes.{place, probe_at, IsProbed}
use Rattle.type_registry.specs.notes.Facts.{Has, AgreeOn}
use Rattle.type_registry.specs.Held.{Held, held, IsNamed}
use Rattle.type_registry.specs.Walked.{MetNext, Walk, IsPath}
use Rattle.type_registry.specs.Found.{Found, held_of, found_of, shown_by, Consistent, IsFinding}
use Rattle.type_registry.specs.Passed.{Occupied, occupied_of, IsFull}
use Rattle.type_registry.proofs.Trails.{AtStep, walked_at, stranger_at, told_whole}

pub held_same : (h : Held) (id : HashId) → h.id ≡ id → held id h.octets ≡ h
held_same h id e = λ i. record { id = sym e i; octets = h.octets }

-- the cells that a finding shows are those that its walk and its end told
pub shown_is : (name : List ℕ → List ℕ) (w : Walk) (h : Held) (ls : List (ℕ × List ℕ)) (cs : List (ℕ × Held)) → h.id ≡ w.id → MetNext name w h ls cs → shown_by (found_of w h) ≡ map held_of (w.cells ++ cs)
shown_is name w h ls cs e m =
    ap (λ x. map held_of w.cells ++ x ∷ []) (held_same h w.id e) ∙ sym (map-append held_of w.cells ((m.1, h) ∷ [])) ∙ ap (λ ys. map held_of (w.cells ++ ys)) (sym m.3)

pub mention_at : (name : List ℕ → List ℕ) (w : Walk) (h : Held) (ls : List (ℕ × List ℕ)) (cs : List (ℕ × Held)) → h.id ≡ w.id → IsPath name w → MetNext name w h ls cs
    → (i : ℕ) (x : Held) → slice_get (shown_by (found_of w h)) i ≡ Some x → AtStep name w.registry w.id (w.levels ++ ls) (w.cells ++ cs) i x
mention_at name w h ls cs e p m i x g = let same : i ≡ 0 + i = omega arith in
    walked_at name w.registry w.id 0 (w.levels ++ ls) (w.cells ++ cs) i i x same (told_whole name w h ls cs p m) (subst (λ (hs : List Held). slice_get hs i ≡ Some x) (shown_is name w h ls cs e m) g)

some_same : {X : Type 0} (o : Option X) (x y : X) → o ≡ Some x → o ≡ Some y → x ≡ y
some_same o x y e f = cc

-- two probes of one cell met the same
pub one_said : (name : List ℕ → List ℕ) (registry other : List ℕ) (id jd : HashId) (ls ms : List (ℕ × List ℕ)) (cs ds : List (ℕ × Held)) (i j : ℕ) (x y : Held)
    → registry ≡ other → AgreeOn ls ms → AgreeOn cs ds → place id i ≡ place jd j → AtStep name registry id ls cs i x → AtStep name other jd ms ds j y → x ≡ y
one_said name registry other id jd ls ms cs ds i j x y same al ac e a b =
    let level : i / 8 ≡ j / 8 = ap (λ p. p.0) e in let cell : probe_at id.hash (i / 8) (i % 8) ≡ probe_at jd.hash (j / 8) (j % 8) = ap (λ p. p.1) e in
    let ln : a.0.0 ≡ b.0.0 = some_same (slice_get other (j / 8)) a.0.0 b.0.0 (subst (λ (n : ℕ). slice_get other n ≡ Some a.0.0) level (subst (λ (hs : List ℕ). slice_get hs (i / 8) ≡ Some a.0.0) same a.4.0)) b.4.0 in
    let lv : a.0.1 ≡ b.0.1 = al b.0.0 a.0.1 b.0.1 (subst (λ (n : ℕ). Has ls (n, a.0.1)) ln a.2) b.2 in
    let cn : a.1.0 ≡ b.1.0 = some_same (slice_get b.0.1 (probe_at jd.hash (j / 8) (j % 8))) a.1.0 b.1.0
    (subst (λ (n : ℕ). slice_get b.0.1 n ≡ Some a.1.0) cell (subst (λ (ns : List ℕ). slice_get ns (probe_at id.hash (i / 8) (i % 8)) ≡ Some a.1.0) lv a.4.1)) b.4.1 in
    sym a.5 ∙ ac b.1.0 a.1.1 b.1.1 (subst (λ (n : ℕ). Has cs (n, a.1.1)) cn a.3) b.3 ∙ b.5

pub all_consistent : (name : List ℕ → List ℕ) (v w : Walk) (x y : Held) (ls ms : List (ℕ × List ℕ)) (cs ds : List (ℕ × Held)) → x.id ≡ v.id → y.id ≡ w.id → IsPath name v → IsPath name w → MetNext name v x ls cs → MetNext name w y ms ds
    → v.registry ≡ w.registry → AgreeOn (v.levels ++ ls) (w.levels ++ ms) → AgreeOn (v.cells ++ cs) (w.cells ++ ds) → Consistent (found_of v x) (found_of w y)
all_consistent name v w x y ls ms cs ds ex ey p q m n registry al ac place s t a b =
    one_said name v.registry w.registry v.id w.id (v.levels ++ ls) (w.levels ++ ms) (v.cells ++ cs) (w.cells ++ ds) a.0 b.0 s t registry al ac (a.2 ∙ sym b.2)
    (mention_at name v x ls cs ex p m a.0 s a.1) (mention_at name w y ms ds ey q n b.0 t b.1)

-- ---- a finding by itself
pub get_last : {X : Type 0} (xs : List X) (x : X) (n : ℕ) → n ≡ length xs → slice_get (xs ++ x ∷ []) n ≡ Some x
get_last [] x n e = rw e refl
get_last (y ∷ xs) x zero e = absurd (omega arith)
get_last (y ∷ xs) x (suc n) e = let k : n ≡ length xs = omega arith in get_last xs x n k

pub get_early : {X : Type 0} (xs ys : List X) (n : ℕ) → n < length xs → (x : X) × (slice_get xs n ≡ Some x) × (slice_get (xs ++ ys) n ≡ Some x)
get_early [] ys n l = absurd (omega arith)
get_early (x ∷ xs) ys zero l = (x, refl, refl)
get_early (x ∷ xs) ys (suc n) l = let k : n < length xs = omega arith in get_early xs ys n k

pub finding_is : (name : List ℕ → List ℕ) (w : Walk) (h : Held) (ls : List (ℕ × List ℕ)) (cs : List (ℕ × Held)) → w.count < 64 → h.id ≡ w.id → MetNext name w h ls cs → IsPath name w → IsFinding name (found_of w h)
finding_is name w h ls cs few e m p = record {
  within = let n : length (map held_of w.cells) ≡ length w.cells = length-map w.cells held_of in omega (arith, n, p.counted, few);
  shown = λ i x g. let a = mention_at name w h ls cs e p m i x g in
      (subst (IsNamed name) a.5 a.4.2, subst (λ (y : Held). IsProbed y.id (i / 8) (probe_at w.id.hash (i / 8) (i % 8))) a.5 a.4.3);
  strangers = λ i x g. stranger_at name w.registry w.id w.cells i x p.strange g;
}

-- where one trail is shorter, its finding's cell is a stranger's in the other
shorter : (name : List ℕ → List ℕ) (a b : Found) → Consistent a b → a.id ≡ b.id → IsFinding name b → length a.trail < length b.trail → ⊥
shorter name a b s e fb l = let n : ℕ = length a.trail in let other = get_early b.trail (held b.id b.octets ∷ []) n l in
    let same : held a.id a.octets ≡ other.0 = s (place a.id n) (held a.id a.octets) other.0 (n, get_last a.trail (held a.id a.octets) n refl, refl) (n, other.2, ap (λ id. place id n) (sym e)) in
    fb.strangers n other.0 other.1 (ap (λ h. h.id) (sym same) ∙ e)

pub same_octets : (name : List ℕ → List ℕ) (a b : Found) → Consistent a b → IsFinding name a → IsFinding name b → a.id ≡ b.id → a.octets ≡ b.octets
same_octets name a b s fa fb e = elim (order (length a.trail) (length b.trail)) [
  | inl l ↦ absurd (shorter name a b s e fb l)
  | inr k ↦ elim (order (length b.trail) (length a.trail)) [
    | inl l ↦ absurd (shorter name b a (λ p x y m n. sym (s p y x n m)) (sym e) fa l)
    | inr j ↦ let n : length a.trail ≡ length b.trail = omega arith in
        ap (λ h. h.octets) (s (place a.id (length a.trail)) (held a.id a.octets) (held b.id b.octets) (length a.trail, get_last a.trail (held a.id a.octets) (length a.trail) refl, refl) (length a.trail, get_last b.trail (held b.id b.octets) (length a.trail) n, ap (λ id. place id (length a.trail)) (sym e)))
  ]
]

pub put_together : {X : Type 0} (t x y : List X) {x' y' : List X} → t ≡ x ++ y → x ≡ x' → y ≡ y' → t ≡ x' ++ y'
put_together t x y e f g = e ∙ (λ i. f i ++ g i)

pub agree_told : {X : Type 0} (s t : List (ℕ × X)) {s' t' : List (ℕ × X)} → s ≡ s' → t ≡ t' → AgreeOn s t → AgreeOn s' t'
agree_told {X} s t {s'} {t'} e f a = subst (λ (u : List (ℕ × X)). AgreeOn u t') e (subst (λ (u : List (ℕ × X)). AgreeOn s u) f a)

pub consistent_views : (a b a' b' : Found) → a ≡ a' → b ≡ b' → Consistent a b → Consistent a' b'
consistent_views a b a' b' e f s = subst (λ (u : Found). Consistent u b') e (subst (λ (u : Found). Consistent a u) f s)

pub octets_views : (a b a' b' : Found) → a ≡ a' → b ≡ b' → (a.id ≡ b.id → a.octets ≡ b.octets) → a'.id ≡ b'.id → a'.octets ≡ b'.octets
octets_views a b a' b' e f = let P : Found → Found → Type 0 = λ u v. u.id ≡ v.id → u.octets ≡ v.octets in λ s. subst (λ (u : Found). P u b') e (subst (λ (u : Found). P a u) f s)

-- a path past 64 strangers
pub full_is : (name : List ℕ → List ℕ) (w : Walk) → IsPath name w → 64 ≤ w.count → IsFull name (occupied_of w)
full_is name w p l = record {
  whole = let n : length (map held_of w.cells) ≡ length w.cells = length-map w.cells held_of in omega (arith, n, p.counted, p.few, l);
  shown = λ i x g. let same : i ≡ 0 + i = omega arith in let a = walked_at name w.registry w.id 0 w.levels w.cells i i x same p.walked g in
      (subst (IsNamed name) a.5 a.4.2, subst (λ (y : Held). IsProbed y.id (i / 8) (probe_at w.id.hash (i / 8) (i % 8))) a.5 a.4.3);
  strangers = λ i x g. stranger_at name w.registry w.id w.cells i x p.strange g;
}

pub same_lists : {X : Type 0} (xs ys : List X) → length xs ≡ length ys → ((i : ℕ) (x y : X) → slice_get xs i ≡ Some x → slice_get ys i ≡ Some y → x ≡ y) → xs ≡ ys
same_lists [] [] e s = refl
same_lists [] (y ∷ ys) e s = absurd (omega arith)
same_lists (x ∷ xs) [] e s = absurd (omega arith)
same_lists (x ∷ xs) (y ∷ ys) e s = let n : length xs ≡ length ys = omega arith in let first : x ≡ y = s 0 x y refl refl in let rest : xs ≡ ys = same_lists xs ys n (λ k. s (suc k)) in λ i. first i ∷ rest i

-- two paths of one identifier past 64 strangers met the same
pub same_trails : (name : List ℕ → List ℕ) (v w : Walk) → IsPath name v → IsPath name w → 64 ≤ v.count → 64 ≤ w.count → AgreeOn v.levels w.levels → AgreeOn v.cells w.cells → v.registry ≡ w.registry → v.id ≡ w.id → map held_of v.cells ≡ map held_of w.cells
same_trails name v w p q l m al ac registry id =
    let n : length (map held_of v.cells) ≡ length v.cells = length-map v.cells held_of in
    let o : length (map held_of w.cells) ≡ length w.cells = length-map w.cells held_of in
    let same : length (map held_of v.cells) ≡ length (map held_of w.cells) = omega (arith, n, o, p.counted, p.few, q.counted, q.few, l, m) in
    same_lists (map held_of v.cells) (map held_of w.cells) same (λ i x y g h. let k : i ≡ 0 + i = omega arith in
    one_said name v.registry w.registry v.id w.id v.levels w.levels v.cells w.cells i i x y registry al ac (ap (λ j. place j i) id)
    (walked_at name v.registry v.id 0 v.levels v.cells i i x k p.walked g) (walked_at name w.registry w.id 0 w.levels w.cells i i y k q.walked h))

-- the same of what callers see of them
pub trails_views : (a b a' b' : Occupied) → a ≡ a' → b ≡ b' → (a.registry ≡ b.registry → a.id ≡ b.id → a.held ≡ b.held) → a'.registry ≡ b'.registry → a'.id ≡ b'.id → a'.held ≡ b'.held
trails_views a b a' b' e f = let P : Occupied → Occupied → Type 0 = λ u v. u.registry ≡ v.registry → u.id ≡ v.id → u.held ≡ v.held in λ s. subst (λ (u : Occupied). P u b') e (subst (λ (u : Occupied). P a u) f s)

pub settled_full : (name : List ℕ → List ℕ) (w : Walk) (t : Occupied) (registry : List ℕ) (id : HashId) → IsPath name w → 64 ≤ w.count → t ≡ occupied_of w → w.registry ≡ registry → w.id ≡ id → (t.registry ≡ registry) × (t.id ≡ id) × IsFull name t
settled_full name w t registry id p l e h i = (ap (λ u. u.registry) e ∙ h, ap (λ u. u.id) e ∙ i, subst (IsFull name) (sym e) (full_is name w p l))
