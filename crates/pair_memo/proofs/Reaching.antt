-- What is gathered is reached.
use Rattle.std.proofs.Common.{◌≡◌, ℕ, ◌+◌, ◌<◌, Bool, true, false, cond, ◌||◌, List, [], ◌∷◌, ◌++◌, length, get_or, drop, Option, Some, None, refl, sym, ap, subst, ◌∙◌}
use Rattle.std.specs.Prelude.{All, IfOk, IfSome, Result, Ok, Err, slice_get}
use Rattle.std.specs.List.{list_any}
use Rattle.std.proofs.lemmas.Bool.{false≢true}
use Rattle.std.proofs.lemmas.List.Elements.{All-nil, All-cons, All-head, All-tail, All-push}
use Rattle.type_trees.specs.contracts.types.HashIdPartialEq.TheImpl as keys
use Rattle.type_trees.specs.declared.types.HashId.{HashId}
use Rattle.type_trees.specs.Ids.{same_id}
use Rattle.object_formats.specs.Objects.{Object}
use Rattle.type_trees.proofs.SameIds.{same_is, same_id_itself}
use Rattle.type_object.specs.Pools.{Texts, object_at}
use Rattle.type_object.specs.References.{is_among, in_order, once, references, note, noted}
use Rattle.object_walks.specs.Laws.{IsClosed, HasReached, IsReached}

pub among_keys : (id : HashId) (ids : List HashId) → list_any (keys.eq-value.it id) ids ≡ is_among id ids
among_keys id [] = refl
among_keys id (i ∷ ids) = ap (λ b. same_id id i || b) (among_keys id ids)

-- what is among some has what each of them has
among_by : (P : HashId → Type 0) (id i : HashId) (rest b : Bool) → same_id id i ≡ b → P i → (rest ≡ true → P id) → (b || rest) ≡ true → P id
among_by P id i rest true is h more e = subst (λ (x : HashId). P x) (sym (same_is id i is)) h
among_by P id i rest false is h more e = more e

pub of_among : (P : HashId → Type 0) (id : HashId) (ids : List HashId) → All P ids → is_among id ids ≡ true → P id
of_among P id [] h e = absurd (false≢true e)
of_among P id (i ∷ ids) h e = among_by P id i (is_among id ids) (same_id id i) refl (All-head P i ids h) (λ f. of_among P id ids (All-tail P i ids h) f) e

once_by : (P : HashId → Type 0) (h : HashId) (kept more : List HashId) (b : Bool) → P h → All P kept → All P more → All P (cond b kept (h ∷ more))
once_by P h kept more true p k m = k
once_by P h kept more false p k m = All-cons P h more p m

all_once : (P : HashId → Type 0) (before hs : List HashId) → All P hs → All P (once before hs)
all_once P before [] h = All-nil P
all_once P before (x ∷ hs) h =
    let rest = All-tail P x hs h in
    once_by P x (once before hs) (once (before ++ x ∷ []) hs) (is_among x before) (All-head P x hs h) (all_once P before hs rest) (all_once P (before ++ x ∷ []) hs rest)

all_references : (P : HashId → Type 0) (x : Object) → All P (in_order x) → All P (references x)
unfolding references
all_references P x h = all_once P [] (in_order x) h

note_by : (P : HashId → Type 0) (seen : List HashId) (h : HashId) (b : Bool) → All P seen → P h → All P (cond b seen (seen ++ h ∷ []))
note_by P seen h true s p = s
note_by P seen h false s p = All-push P seen h s p

all_noted : (P : HashId → Type 0) (seen hs : List HashId) → All P seen → All P hs → All P (noted seen hs)
all_noted P seen [] s h = s
all_noted P seen (x ∷ hs) s h = all_noted P (note seen x) hs (note_by P seen x (is_among x seen) s (All-head P x hs h)) (All-tail P x hs h)

module _ (pool : Texts) (asked : HashId) where
  pub itself_reached : IsReached pool asked asked
  itself_reached ids h = h.itself

  -- what is in the object of one that is reached is reached
  all_reached : (id : HashId) (x : Object) → IsReached pool asked id → object_at id pool ≡ Some x → (ids : List HashId) → HasReached pool asked ids → All (λ i. is_among i ids ≡ true) (in_order x)
  all_reached id x r e ids h = h.closed id x (r ids h) e

  pub parts_reached : (id : HashId) (x : Object) → IsReached pool asked id → object_at id pool ≡ Some x → All (λ i. IsReached pool asked i) (references x)
  parts_reached id x r e = all_references (λ i. IsReached pool asked i) x (λ k d lt ids h. all_reached id x r e ids h k d lt)

  pub added : {E : Type 0} (answer : Result (Unit {0}) E) (id : HashId) (x : Object) (old new parts : List HashId) → Some x ≡ object_at id pool → parts ≡ references x → IfOk answer (λ u. new ≡ noted old parts)
      → All (λ i. IsReached pool asked i) old → IsReached pool asked id → IfOk answer (λ u. All (λ i. IsReached pool asked i) new)
  added (Ok u) id x old new parts e is n h r =
      subst (λ (l : List HashId). All (λ i. IsReached pool asked i) l) (sym (n ∙ ap (noted old) is)) (all_noted (λ i. IsReached pool asked i) old (references x) h (parts_reached id x r (sym e)))
  added (Err f) id x old new parts e is n h r = tt
