-- Parts that are read one after another, gathered as they come.
use Rattle.std.proofs.Common.{◌≡◌, refl, sym, ap, ◌∙◌, ℕ, suc, List, [], ◌∷◌, Ok, Err}
use Rattle.xt_shapes.specs.declared.leaves.Try.{Try}
use Rattle.xt_shapes.specs.Vals.{Val}
use Rattle.xcdr_model.specs.Reading.{Spot, Reading, ◌>>=◌, each_at}
use Rattle.xcdr_model.specs.Projection.{Part, whole_items, whole_entries}
use Rattle.xcdr_model.specs.Xcdr2Reading.{done}
use Rattle.try_construct.specs.Gathering.{none_yet}
use Rattle.try_construct.specs.Items.{items_then}
use Rattle.try_construct.specs.Entries.{entries_then}
use Rattle.try_construct.proofs.GatherSteps.{items_whole, entries_whole}

pub bind_bind : {A B C : Type 0} (r : Reading A) (f : A × Spot → Reading B) (h : B × Spot → Reading C) → ((r >>= f) >>= h) ≡ (r >>= λ x. f x >>= h)
unfolding ◌>>=◌
bind_bind (Ok x) f h = refl
bind_bind (Err e) f h = refl

pub bind_ok : {A B : Type 0} (x : A × Spot) (f : A × Spot → Reading B) → (Ok x >>= f) ≡ f x
unfolding ◌>>=◌
bind_ok x f = refl

pub each_bind : {A B : Type 0} (r : Reading A) (f h : A × Spot → Reading B) → ((x : A × Spot) → f x ≡ h x) → (r >>= f) ≡ (r >>= h)
unfolding ◌>>=◌
each_bind (Ok x) f h same = same x
each_bind (Err e) f h same = refl

abbrev and_first : {P : Type 0} → P → List P × Spot → Reading (List P)
and_first x xs = Ok (x ∷ xs.0, xs.1)

abbrev finish : {G P : Type 0} → (G → List P → Part) → G → List P × Spot → Reading Part
finish fin g xs = Ok (fin g xs.0, xs.1)

-- n parts more, behind those that were gathered; `fin` makes the whole of both
unfoldable pub rest_parts : {G P : Type 0} → (G → List P → Part) → G → ℕ → (Spot → Reading P) → Spot → Reading Part
rest_parts fin g n f s = each_at n f s >>= finish fin g

one_part : {G P : Type 0} (fin : G → List P → Part) (add : G → P → G) (g : G) (x : P) (r : Reading (List P)) → ((xs : List P) → fin g (x ∷ xs) ≡ fin (add g x) xs) → ((r >>= and_first x) >>= finish fin g) ≡ (r >>= finish fin (add g x))
unfolding ◌>>=◌
one_part fin add g x (Ok xs) law = ap (λ (p : Part). Ok (p, xs.1)) (law xs.0)
one_part fin add g x (Err e) law = refl

pub next_part : {G P : Type 0} (fin : G → List P → Part) (add : G → P → G) (g : G) (n : ℕ) (f : Spot → Reading P) (s : Spot) → ((h : G) (x : P) (xs : List P) → fin h (x ∷ xs) ≡ fin (add h x) xs)
    → rest_parts fin g (suc n) f s ≡ (f s >>= λ x. rest_parts fin (add g x.0) n f x.1)
unfolding rest_parts each_at
next_part fin add g n f s law =
    bind_bind (f s) (λ x. each_at n f x.1 >>= and_first x.0) (finish fin g)
    ∙ each_bind (f s) (λ x. (each_at n f x.1 >>= and_first x.0) >>= finish fin g) (λ x. each_at n f x.1 >>= finish fin (add g x.0)) (λ x. one_part fin add g x.0 (each_at n f x.1) (law g x.0))

pub no_part : {G P : Type 0} (fin : G → List P → Part) (g : G) (f : Spot → Reading P) (s : Spot) → rest_parts fin g 0 f s ≡ Ok (fin g [], s)
unfolding rest_parts each_at ◌>>=◌
no_part fin g f s = refl

done_same : {P : Type 0} (h k : List P → Part) (r : Reading (List P)) → ((xs : List P) → h xs ≡ k xs) → done h r ≡ done k r
unfolding ◌>>=◌
done_same h k (Ok x) same = ap (λ p. Ok (p, x.1)) (same x.0)
done_same h k (Err e) same = refl

pub items_start : (bound : ℕ) (tc : Try) (d : Val) (n : ℕ) (f : Spot → Reading Part) (s : Spot) → done (whole_items bound tc d) (each_at n f s) ≡ rest_parts (items_then bound tc d) none_yet n f s
unfolding rest_parts
items_start bound tc d n f s = done_same (whole_items bound tc d) (items_then bound tc d none_yet) (each_at n f s) (λ xs. sym (items_whole bound tc d xs))

pub entries_start : (bound : ℕ) (kc : Try) (kd : Val) (vc : Try) (vd : Val) (n : ℕ) (f : Spot → Reading (Part × Part)) (s : Spot) → done (whole_entries bound kc kd vc vd) (each_at n f s) ≡ rest_parts (entries_then bound kc kd vc vd) none_yet n f s
unfolding rest_parts
entries_start bound kc kd vc vd n f s = done_same (whole_entries bound kc kd vc vd) (entries_then bound kc kd vc vd none_yet) (each_at n f s) (λ xs. sym (entries_whole bound kc kd vc vd xs))
