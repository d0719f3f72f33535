-- Readings of which one ends with every value that the other ends with.
use Rattle.std.proofs.Common.{◌≡◌, refl, Option, Some, None, option_map, option_and_then, Ok, Err, Bool, true, false, cond, sym, ap, ◌∙◌}
use Rattle.xt_shapes.specs.declared.leaves.Step.{Step}
use Rattle.json_values.specs.declared.faults.JsonRule.{JsonRule}
use Rattle.json_values.specs.Steps.{Reading, here, beneath, and_then, mapped_to}

-- where the first ends with a value, so does the second
abbrev pub Onward : {A : Type 0} → Reading A → Reading A → Type 0
Onward {A = A} r q = (v : A) → r ≡ Ok v → q ≡ Ok v

-- ---- what an option or a reading with a value comes from

pub and_then_some : {A B : Type 0} (f : A → Option B) (o : Option A) (b : B) → option_and_then f o ≡ Some b → (a : A) × (o ≡ Some a) × (f a ≡ Some b)
and_then_some f None b h = absurd cc
and_then_some f (Some a) b h = (a, refl, h)

pub map_some : {A B : Type 0} (f : A → B) (o : Option A) (b : B) → option_map f o ≡ Some b → (a : A) × (o ≡ Some a) × (b ≡ f a)
map_some f None b h = absurd cc
map_some f (Some a) b h = (a, refl, cc)

and_then_ok : {A B : Type 0} (f : A → Reading B) (r : Reading A) (b : B) → and_then r f ≡ Ok b → (a : A) × (r ≡ Ok a) × (f a ≡ Ok b)
and_then_ok f (Ok a) b h = (a, refl, h)
and_then_ok f (Err e) b h = absurd cc

mapped_ok : {A B : Type 0} (f : A → B) (r : Reading A) (b : B) → mapped_to f r ≡ Ok b → (a : A) × (r ≡ Ok a) × (b ≡ f a)
mapped_ok f (Ok a) b h = (a, refl, cc)
mapped_ok f (Err e) b h = absurd cc

pub beneath_ok : {A : Type 0} (step : Step) (r : Reading A) (a : A) → beneath step r ≡ Ok a → r ≡ Ok a
beneath_ok step (Ok x) a h = h
beneath_ok step (Err e) a h = absurd cc

-- ---- steps of readings

pub onward_beneath : {A : Type 0} (step : Step) (r q : Reading A) → Onward r q → Onward (beneath step r) (beneath step q)
onward_beneath step r q k v h = ap (beneath step) (k v (beneath_ok step r v h))

pub onward_mapped : {A B : Type 0} (f : A → B) (r q : Reading A) → Onward r q → Onward (mapped_to f r) (mapped_to f q)
onward_mapped f r q k v h =
    let m = mapped_ok f r v h in
    ap (mapped_to f) (k m.0 m.1) ∙ ap Ok (sym m.2)

pub onward_next : {A B : Type 0} (r q : Reading A) (f g : A → Reading B) → Onward r q → ((x : A) → r ≡ Ok x → Onward (f x) (g x)) → Onward (and_then r f) (and_then q g)
onward_next r q f g k more v h =
    let m = and_then_ok f r v h in
    ap (λ x. and_then x g) (k m.0 m.1) ∙ more m.0 m.1 v m.2

unless_at : {A : Type 0} (c : Bool) (rule : JsonRule) (r q : Reading A) → Onward r q → Onward (cond c (here rule) r) (cond c (here rule) q)
unless_at true rule r q k v h = absurd cc
unless_at false rule r q k v h = k v h

pub onward_unless : {A : Type 0} (b c : Bool) (rule : JsonRule) (r q : Reading A) → c ≡ b → Onward r q → Onward (cond b (here rule) r) (cond c (here rule) q)
onward_unless b c rule r q same k v h = rw same (unless_at b rule r q k v h)
