-- What holds of the value of a reading that has one.
use Rattle.std.proofs.Common.{◌≡◌, refl, Bool, true, false, cond, Ok, Err, subst}
use Rattle.std.specs.Bool.{⊤}
use Rattle.xt_shapes.specs.declared.leaves.Step.{Step}
use Rattle.json_values.specs.declared.faults.JsonRule.{JsonRule}
use Rattle.json_values.specs.Steps.{Reading, here, beneath, and_then, mapped_to}

abbrev pub Yields : {A : Type 0} → (A → Type 0) → Reading A → Type 0
Yields P (Ok x) = P x
Yields P (Err e) = ⊤

pub unless : {A : Type 0} (P : A → Type 0) (b : Bool) (rule : JsonRule) (r : Reading A) → (b ≡ false → Yields P r) → Yields P (cond b (here rule) r)
unless P true rule r h = tt
unless P false rule r h = h refl

pub provided : {A : Type 0} (P : A → Type 0) (b : Bool) (rule : JsonRule) (r : Reading A) → (b ≡ true → Yields P r) → Yields P (cond b r (here rule))
provided P true rule r h = h refl
provided P false rule r h = tt

pub either : {A : Type 0} (P : A → Type 0) (b : Bool) (r s : Reading A) → (b ≡ true → Yields P r) → (b ≡ false → Yields P s) → Yields P (cond b r s)
either P true r s hr hs = hr refl
either P false r s hr hs = hs refl

pub below : {A : Type 0} (P : A → Type 0) (step : Step) (r : Reading A) → Yields P r → Yields P (beneath step r)
below P step (Ok x) h = h
below P step (Err e) h = tt

pub next : {A B : Type 0} (P : A → Type 0) (Q : B → Type 0) (r : Reading A) (f : A → Reading B) → Yields P r → ((x : A) → P x → Yields Q (f x)) → Yields Q (and_then r f)
next P Q (Ok x) f h g = g x h
next P Q (Err e) f h g = tt

pub mapped : {A B : Type 0} (P : A → Type 0) (Q : B → Type 0) (f : A → B) (r : Reading A) → Yields P r → ((x : A) → P x → Q (f x)) → Yields Q (mapped_to f r)
mapped P Q f (Ok x) h g = g x h
mapped P Q f (Err e) h g = tt

pub weaker : {A : Type 0} (P Q : A → Type 0) (r : Reading A) → Yields P r → ((x : A) → P x → Q x) → Yields Q r
weaker P Q (Ok x) h g = g x h
weaker P Q (Err e) h g = tt

pub yielded : {A : Type 0} (P : A → Type 0) (r : Reading A) (x : A) → Yields P r → r ≡ Ok x → P x
yielded P (Ok y) x h e = let same : y ≡ x = cc in subst P same h
yielded P (Err f) x h e = absurd cc
